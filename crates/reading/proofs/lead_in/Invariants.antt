-- `reading::lead_in` meets its contract: what is still to be compared is tied to the whole. Assumes nothing.
use mathlib.Core.Path.{◌≡◌}
use lib.ListN.{length}
use Rattle.reading.proofs.Head as st
use Rattle.reading.proofs.lead_in.Given as goal

abbrev pub invariant-loop-i : goal.invariant-loop-i
invariant-loop-i l = (length l.least ≡ length l.greatest) × st.Inv l.least l.greatest l.text l.i
