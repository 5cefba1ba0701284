-- `sheet::put_record` meets its contract. Assumes nothing.
use Rattle.sheet.proofs.Bytes.{put_five}
use Rattle.sheet.proofs.put_record.Goals as goal

pub returns : goal.returns
returns c =
    let d = c in
    let e = d in
    let f = e in
    let g = f in
    let a = g.args in
    put_five a.buffer.now a.at a.wanted g.put_number.ensures f.put_number-2.ensures e.put_number-3.ensures d.put_number-4.ensures
    c.put_number-5.ensures
