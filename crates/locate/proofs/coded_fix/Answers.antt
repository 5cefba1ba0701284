-- `locate::coded_fix` meets its contract: the refusal, or the code. Assumes nothing.
use Rattle.std.specs.Prelude.{Err, Ok}
use mathlib.Core.Path.{◌≡◌, refl, sym, ap, ap₂, ◌∙◌}
use Prim.Native.Nat.{ℕ, zero, suc}
use lib.IntN.{ℤ}
use Rattle.cell.specs.declared.Cell.{Cell}
use Rattle.cell.specs.declared.Arrangement.{Arrangement}
use Rattle.cell.specs.Cell.{found}
use Rattle.code.specs.Code.{code_of, found_code}
use Rattle.signed.specs.Laws.Sign.{back}
use Rattle.locate.specs.Fix.{fix_cell, fix_refusal}
use Rattle.locate.proofs.Laws.Fix.{fix-passes}
use Rattle.locate.proofs.coded_fix.Goals as goal
use Rattle.locate.proofs.coded_fix.Goals.{After-fix_refusal-refusal}

handed-on : (a : Arrangement) (r : ℕ) (c : Cell) → (r ≡ 0 → ⊥) → Err r ≡ found_code a (found r c)
unfolding found
handed-on a zero c h = absurd (h refl)
handed-on a (suc r) c h = refl

answered : (a : Arrangement) (r : ℕ) (c : Cell) → r ≡ 0 → Ok (code_of a c) ≡ found_code a (found r c)
unfolding found
answered a r c e = ap (λ (x : ℕ). found_code a (found x c)) (sym e)

-- the refusal of the fix itself
refusal_is :
    (c : After-fix_refusal-refusal) →
    let a = c.args in
    c.fix_refusal-refusal.result ≡ fix_refusal a.arrangement a.resolution a.longitude a.z
refusal_is c =
    let s = c in
    c.fix_refusal-refusal.ensures ∙ ap₂ (fix_refusal s.args.arrangement s.args.resolution) (back s.ranges.longitude) (back s.ranges.z)

pub returns-then-refusal-ne0 : goal.returns-then-refusal-ne0
returns-then-refusal-ne0 c =
    let r = c in
    let a = r.args in
    let x = fix_cell a.arrangement a.resolution a.longitude a.z in
    handed-on a.arrangement r.fix_refusal-refusal.result x c.if-refusal-ne0.true ∙ ap (λ (q : ℕ). found_code a.arrangement (found q x)) (refusal_is (goal.at.returns-then-refusal-ne0 c).After-fix_refusal-refusal)

pub fix_code-requires : goal.fix_code-requires
fix_code-requires c =
    let p = fix-passes _ _ _ _ (sym c.fix_refusal-refusal.ensures ∙ c.if-refusal-ne0.false) in
    record { arrangement = p.0; resolution_bound = p.1; z_value = p.2 }

pub returns : goal.returns
returns c =
    let r = c in
    let s = r in
    let a = s.args in
    ap Ok (c.fix_code.ensures ∙ ap₂ (λ (L z : ℤ). code_of a.arrangement (fix_cell a.arrangement a.resolution L z)) (back s.ranges.longitude) (back s.ranges.z))
    ∙ answered a.arrangement _ (fix_cell a.arrangement a.resolution a.longitude a.z) (sym (refusal_is (goal.at.returns c).After-fix_refusal-refusal) ∙ c.if-refusal-ne0.false)
