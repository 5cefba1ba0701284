-- `summary::count_cells` meets its contract: what was counted and what is left make up the text's counters. Assumes nothing.
use mathlib.Core.Path.{sym, ◌∙◌}
use Rattle.walk.specs.Laws.Walk.{goes-here}
use Rattle.summary.proofs.Filling.{counts_start, counts_past, cell_room, counts-more, counts_end}
use Rattle.summary.proofs.count_cells.Goals as goal

pub loop-i-init : goal.loop-i-init
loop-i-init c = let s = c in counts_start s.args.text.now s.requires.0 s.requires.1

pub after-spot-requires : goal.after-spot-requires
after-spot-requires c =
    let l = c.loop-i.invariant in (l.walks.fits, goes-here l.walks c.loop-i-test.true)

pub loop-i-preserved-then-not-whole : goal.loop-i-preserved-then-not-whole
loop-i-preserved-then-not-whole c =
    let b = c in
    counts_past b.loop-i.invariant b.loop-i-test.true c.after-spot.ensures (sym c.whole_at-whole.ensures ∙ c.if-not-whole.true)

pub count_cell-requires : goal.count_cell-requires
count_cell-requires c =
    let b = c in
    cell_room b.loop-i.invariant b.loop-i-test.true c.after-spot.ensures (sym c.whole_at-whole.ensures ∙ c.if-not-whole.false)

pub loop-i-preserved : goal.loop-i-preserved
loop-i-preserved c =
    let b = c in
    counts-more b.loop-i.invariant b.loop-i-test.true c.after-spot.ensures
    (sym c.whole_at-whole.ensures ∙ c.if-not-whole.false) c.count_cell.ensures

pub returns : goal.returns
returns c = counts_end c.loop-i.invariant c.loop-i-test.false
