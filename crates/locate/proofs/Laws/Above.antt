-- A fix of the belt lies above the belt's bottom. It rests on `belt-ends`, and stands beside the file of the ranges, which edits change. Assumes nothing.
use Rattle.std.specs.Prelude.{◌≡◌, true, ℤ, pos, neg_ℤ}
use Rattle.std.proofs.Common.{◌∙◌}
use Rattle.std.specs.Int.Signed.{le_z}
use Rattle.logic.specs.Laws.Bools.{and_left}
use Rattle.locate.specs.Fix.{is_belt}
use Rattle.locate.specs.Internal.RangeLaws.{belt-ends}

pub above-bottom : (z : ℤ) → is_belt z ≡ true → le_z (neg_ℤ (pos 666666666666666666)) z ≡ true
above-bottom z t = and_left _ _ (belt-ends z ∙ t)
