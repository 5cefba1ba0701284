-- `listing::put_codes` meets its contract: the codes put so far, and those of what is left, are the text's. Assumes nothing.
use Prim.Native.Nat.{◌-◌, ◌≤◌}
use lib.ListN.{length}
use Rattle.listing.specs.List.{codes_of}
use Rattle.listing.proofs.Facts.{Lists}
use Rattle.listing.proofs.put_codes.Given as goal

abbrev pub invariant-loop-i : goal.invariant-loop-i
invariant-loop-i l = (length (codes_of l.text) ≤ length l.initial.codes) × Lists l.text l.initial.codes l.codes l.count l.i l.spot

abbrev pub decreases-loop-i : goal.decreases-loop-i
decreases-loop-i l = length l.text - l.i
