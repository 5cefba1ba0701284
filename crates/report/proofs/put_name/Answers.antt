-- `put_name` meets its contract: a cell's name has room. Assumes nothing.
use Rattle.report.proofs.Laws.Names.{bytes-short}
use Rattle.report.proofs.Facts.{named-length, named_none, name-put}
use native.Mathlib.Omega.{arith}
use Rattle.report.proofs.put_name.Goals as goal

pub returns-in-Ok : goal.returns-in-Ok
returns-in-Ok c =
    let a = c.args in
    let start = c in
    let f = c.code_name.ensures in
    let l = named-length a.code a.room.now start.requires c.in-Ok.is f.value in record { value = l; upper_bound = omega (arith, l, bytes-short a.code); room_after = name-put a.code a.room.now start.requires f.name_after }

pub returns-in-Err : goal.returns-in-Err
returns-in-Err c =
    let start = c in
    let a = start.args in
    let f = c.code_name.ensures in
    let l = named_none a.code a.room.now start.requires c.in-Err.is f.value in record { value = l; upper_bound = omega arith; room_after = name-put a.code a.room.now start.requires f.name_after }
