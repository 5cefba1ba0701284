-- `adding::whole_from` meets its contract. Assumes nothing.
use Rattle.adding.proofs.Picks.{whole-full, whole-cut}
use Rattle.adding.proofs.whole_from.Goals as goal

pub returns-then-wholes-after-eq9 : goal.returns-then-wholes-after-eq9
returns-then-wholes-after-eq9 c = whole-full _ _ _ _ _ c.run_at-after.ensures.0 c.if-wholes-after-eq9.true

pub returns : goal.returns
returns c = whole-cut _ _ _ _ _ c.run_at-after.ensures.0 c.if-wholes-after-eq9.false
