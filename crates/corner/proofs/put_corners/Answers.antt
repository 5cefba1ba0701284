-- `corner::put_corners` meets its contract: the codes of the corners passed stand in front. Assumes nothing.
use Rattle.corner.proofs.Fill.{filled-start, filled-held, filled-room, filled_on, filled-end}
use Rattle.corner.proofs.put_corners.Goals as goal

pub loop-direction-init : goal.loop-direction-init
loop-direction-init c = let s = c in filled-start s.args.arrangement s.args.cell s.args.codes.now s.requires.cell_in_bounds

pub put_corner-count-requires : goal.put_corner-count-requires
put_corner-count-requires c =
    let s = c in
    let f = c.loop-direction.invariant in
    let h = c.loop-direction-test.true in
    record { arrangement = s.requires.arrangement; cell = s.requires.cell; direction_bound = h; held = filled-held f h; codes_in_bounds = filled-room f h }

pub loop-direction-preserved : goal.loop-direction-preserved
loop-direction-preserved c =
    let l = c in
    let e = c.put_corner-count.ensures in
    filled_on l.loop-direction.invariant l.loop-direction-test.true e.value e.codes_after

pub returns : goal.returns
returns c = filled-end c.loop-direction.invariant c.loop-direction-test.false
