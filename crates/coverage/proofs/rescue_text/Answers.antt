-- `rescue_text` meets its contract: what rescuing puts stands in front of its rooms. Assumes nothing.
use Rattle.coverage.proofs.Rescued.{room-done, room-refused}
use borrow.Author.Rules.{rules}
use Rattle.coverage.proofs.rescue_text.Goals as goal

pub overflow_mul-result : goal.overflow_mul-result
overflow_mul-result c =
    let d = c in
    let s = d in
    let f = (room-done s.requires.in_bounds s.requires.in_bounds_2 d.rescue.ensures c.in-Ok.is).list-fits in
    let g = s.well_formed in
    search rules

pub returns-in-Ok : goal.returns-in-Ok
returns-in-Ok c =
    let d = c in
    let s = d in
    room-done s.requires.in_bounds s.requires.in_bounds_2 d.rescue.ensures c.in-Ok.is

pub returns-in-Err : goal.returns-in-Err
returns-in-Err c =
    let d = c in
    let s = d in
    room-refused s.requires.in_bounds s.requires.in_bounds_2 d.rescue.ensures c.in-Err.is
