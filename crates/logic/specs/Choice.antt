-- A choice by a small number. Assumes nothing.
use Rattle.std.specs.Prelude.{ℕ, zero, suc}

-- one of four, by a direction or by a turn
abbrev pub four {ℓ} : {A : Type ℓ} → ℕ → A → A → A → A → A
four zero a b c d = a
four (suc zero) a b c d = b
four (suc (suc zero)) a b c d = c
four (suc (suc (suc t))) a b c d = d
