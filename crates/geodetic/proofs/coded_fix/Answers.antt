-- `geodetic::coded_fix` meets its contract: it is the fix with z. Assumes nothing.
use mathlib.Core.Path.{◌≡◌, refl, ap, ap₂, ◌∙◌}
use Prim.Native.Nat.{ℕ, zero, suc}
use lib.IntN.{ℤ}
use Rattle.cell.specs.declared.Cell.{Cell}
use Rattle.cell.specs.Cell.{found}
use Rattle.code.specs.Code.{found_code}
use Rattle.signed.specs.Laws.Sign.{back, back_as}
use Rattle.locate.specs.Fix.{fix_cell, fix_refusal}
use Rattle.geodetic.specs.GeodeticFix.{z_for}
use Rattle.geodetic.proofs.Laws.GeodeticFix.{by-z}
use Rattle.geodetic.proofs.coded_fix.Goals as goal

-- with a refusal the cell does not matter
no_cell : (r : ℕ) (c d : Cell) → (r ≡ 0 → ⊥) → found r c ≡ found r d
unfolding found
no_cell zero c d n = absurd (n refl)
no_cell (suc r) c d n = refl

pub returns : goal.returns
returns c =
    let y = c in
    let s = y in
    let a = s.args in
    let z = back_as y.z_of-z.type_inv y.z_of-z.ensures ∙ ap (λ (x : ℤ). z_for x a.eccentricity) (back s.ranges.sine) in
    c.coded_fix.ensures
    ∙ ap₂ (λ (L z : ℤ). found_code a.arrangement (found (fix_refusal a.arrangement a.resolution L z) (fix_cell a.arrangement a.resolution L z))) (back s.ranges.longitude) z
    ∙ ap (found_code a.arrangement) (by-z found no_cell a.arrangement a.resolution a.longitude a.sine a.eccentricity)
