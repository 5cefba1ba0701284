-- `adding::put_from` meets its contract. Assumes nothing.
use Rattle.adding.proofs.Picks.{put-more, put_full, put_last}
use Rattle.adding.proofs.put_from.Goals as goal

pub returns-then-k-count : goal.returns-then-k-count
returns-then-k-count c = put-more _ _ _ _ _ c.if-k-count.true

pub returns-then-wholes-after-eq9 : goal.returns-then-wholes-after-eq9
returns-then-wholes-after-eq9 c = put_full _ _ _ _ _ _ c.if-k-count.false c.run_at-after.ensures.0 c.if-wholes-after-eq9.true

pub returns : goal.returns
returns c = put_last _ _ _ _ _ _ c.if-k-count.false c.run_at-after.ensures.0 c.if-wholes-after-eq9.false
