-- `sheet::next_whole` meets its contract. Assumes nothing.
use mathlib.Core.Path.{sym, ◌∙◌}
use Rattle.walk.specs.Laws.Walk.{goes-here, walked}
use Rattle.sheet.proofs.Steps.{next-whole, next-other}
use Rattle.sheet.proofs.next_whole.Goals as goal

pub after-here-requires : goal.after-here-requires
after-here-requires c =
    let l = c.loop-i in
    (l.invariant.1.fits, goes-here l.invariant.1 c.loop-i-test.true)

pub returns-then-whole : goal.returns-then-whole
returns-then-whole c =
    let b = c in
    let l = b.loop-i in
    next-whole l.invariant.1 b.loop-i-test.true l.invariant.0 c.after-here.ensures (sym c.whole_at-whole.ensures ∙ c.if-whole.true)

pub loop-i-preserved : goal.loop-i-preserved
loop-i-preserved c =
    let b = c in
    let l = b.loop-i in
    next-other l.invariant.1 b.loop-i-test.true l.invariant.0 c.after-here.ensures (sym c.whole_at-whole.ensures ∙ c.if-whole.false)

pub returns : goal.returns
returns c = let l = c.loop-i in l.invariant.0 ∙ walked _ l.i l.here c.loop-i-test.false
