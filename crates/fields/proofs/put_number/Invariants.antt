-- `fields::put_number` meets its contract: with the bytes that are still to be put, the bytes are the whole. Assumes nothing.
use mathlib.Core.Path.{◌≡◌}
use lib.ListN.{length}
use lib.Seq.{sets}
use Rattle.ternary.specs.Digits.{digits}
use Rattle.fields.proofs.put_number.Given as goal

abbrev pub invariant-loop-left : goal.invariant-loop-left
invariant-loop-left l = (length l.bytes ≡ length l.initial.bytes) × (sets l.bytes l.at (digits 256 l.left l.rest) ≡ sets l.initial.bytes l.at (digits 256 l.width l.x))
