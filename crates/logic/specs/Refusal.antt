-- Refusal numbers and their order (01 "Refusal numbers"). 0 is no refusal. Assumes nothing.
use Rattle.std.specs.Prelude.{ℕ, zero, suc, Bool, true, false}

-- this number where the test says so
abbrev pub refuse : Bool → ℕ → ℕ
refuse true r = r
refuse false r = 0

-- "Order where several apply": the first refusal that is one
infixr 20 ◌otherwise◌
unfoldable pub ◌otherwise◌ : ℕ → ℕ → ℕ
zero otherwise q = q
suc r otherwise q = suc r

-- "Other answers are 0": the value where nothing is refused, else the zero that stands for it
unfoldable pub given {ℓ} : {A : Type ℓ} → ℕ → A → A → A
given zero x none = x
given (suc r) x none = none
