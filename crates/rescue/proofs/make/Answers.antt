-- `make` meets its contract: nothing is refused. Assumes nothing.
use Rattle.rescue.proofs.Internal.Give.{make-sure, make-taken}
use Rattle.rescue.proofs.make.Goals as goal

pub put_text-requires : goal.put_text-requires
put_text-requires c =
    let s = c in
    let m = make-sure s.args.arrangement s.args.cells.now s.args.made.now s.requires in
    (tt, m.0, m.1, m.2)

pub returns : goal.returns
returns c =
    let w = c.put_text.ensures in
    let s = c in
    (w.value, make-taken s.args.arrangement s.args.cells.now s.args.made.now s.requires w.value w.text_after)
