-- `write_names` is safe: n and s are at most 3. Assumes nothing.
use mathlib.Core.Path.{sym, ◌∙◌}
use Rattle.cell.proofs.Laws.Cell.{is-arrangement}
use Rattle.coverage.proofs.write_names.Goals as goal

pub write_depth-requires : goal.write_depth-requires
write_depth-requires c = is-arrangement (sym c.refusal-refusal.ensures ∙ c.if-refusal-ne0.false)
