-- What the answer of a cell says, and how a refusal is handed on. Assumes nothing.
use Rattle.std.specs.Prelude.{◌≡◌, refl, ℕ, zero, suc, Err, Ok, Result}
use Rattle.std.proofs.Common.{sym, ap, ◌∙◌, arith}
use Rattle.logic.specs.Refusal.{◌otherwise◌}
use Rattle.logic.specs.Laws.Refusal.{stops, passes}
use Rattle.cell.specs.declared.Cell.{Cell}
use Rattle.cell.specs.Cell.{found}

pub found_at : (r : ℕ) (c x : Cell) → Ok x ≡ found r c → (r ≡ 0) × (x ≡ c)
unfolding found
found_at zero c x e = (refl, cc)
found_at (suc r) c x e = let k : ◌≡◌ {A = ℕ} 0 1 = cc in absurd (omega arith)

pub found-refused : (r : ℕ) (c : Cell) (q : ℕ) → Err q ≡ found r c → (q ≡ r) × (r ≡ 0 → ⊥)
unfolding found
found-refused zero c q e = let k : ◌≡◌ {A = ℕ} 0 1 = cc in absurd (omega arith)
found-refused (suc r) c q e = (cc, λ z. omega arith)

refusal : (r : ℕ) (c : Cell) → (r ≡ 0 → ⊥) → Err r ≡ found r c
unfolding found
refusal zero c h = absurd (h refl)
refusal (suc r) c h = refl

-- a refusal is handed on
pub refused : {r s : ℕ} (q : ℕ) (c : Cell) → r ≡ s → (r ≡ 0 → ⊥) → Err r ≡ found (s otherwise q) c
refused {r} q c e h = refusal r c h ∙ ap (λ (x : ℕ). found x c) (sym (stops r q h) ∙ ap (λ (x : ℕ). x otherwise q) e)

-- with none, what comes next decides
pub then : {r s : ℕ} (q : ℕ) (c : Cell) {x : Result Cell ℕ} → r ≡ s → r ≡ 0 → x ≡ found q c → x ≡ found (s otherwise q) c
then q c e z h = h ∙ ap (λ (x : ℕ). found x c) (sym (passes q (sym e ∙ z)))
