-- What is answered for numbers that may be no cell: the refusal, or the code. Assumes nothing.
use Rattle.std.specs.Prelude.{◌≡◌, refl, ℕ, zero, suc, Err, Ok}
use Rattle.std.proofs.Common.{sym, ap, ◌∙◌}
use Rattle.code.specs.Code.{coded}

refusal : (r code : ℕ) → (r ≡ 0 → ⊥) → Err r ≡ coded r code
unfolding coded
refusal zero code h = absurd (h refl)
refusal (suc r) code h = refl

-- a refusal is handed on
pub refused : {r s : ℕ} (code : ℕ) → r ≡ s → (r ≡ 0 → ⊥) → Err r ≡ coded s code
refused {r} code e h = refusal r code h ∙ ap (λ (x : ℕ). coded x code) e

-- with none, the code
pub answered : {r s x code : ℕ} → r ≡ s → r ≡ 0 → x ≡ code → Ok x ≡ coded s code
unfolding coded
answered {code = code} e z h = ap Ok h ∙ ap (λ (x : ℕ). coded x code) (sym z ∙ e)
