-- `walk::past_node` meets its contract. Assumes nothing.
use mathlib.Core.Path.{sym, ◌∙◌}
use Rattle.walk.proofs.Past.{at-whole, at-list}
use Rattle.walk.proofs.past_node.Goals as goal

pub returns-then-whole_at : goal.returns-then-whole_at
returns-then-whole_at c = let a = c.args in at-whole a.text.now a.i (sym c.whole_at.ensures ∙ c.if-whole_at.true)

pub returns : goal.returns
returns c =
    let a = c.args in
    c.past_list.ensures ∙ at-list a.text.now a.i (sym c.whole_at.ensures ∙ c.if-whole_at.false)
