-- `Cell::neighbour` meets its contract: the step across an edge or inside the face. Assumes nothing.
use mathlib.Core.Path.{sym, ◌∙◌}
use Prim.Native.Nat.{◌-◌}
use Rattle.cell.proofs.Internal.Seams.{step-across, step-within}
use Rattle.cell.proofs.Cell.neighbour.Goals as goal

pub returns-then-leaves : goal.returns-then-leaves
returns-then-leaves c = c.across_edge.ensures ∙ sym (step-across _ _ _ (sym c.leaves.ensures ∙ c.if-leaves.true))

pub returns : goal.returns
returns c = c.within_face.ensures ∙ sym (step-within _ _ _ (sym c.leaves.ensures ∙ c.if-leaves.false))
