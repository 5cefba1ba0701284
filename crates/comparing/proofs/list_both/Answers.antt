-- `comparing::list_both` meets its contract: nothing is stored before the rooms are tested. Assumes nothing.
use native.Mathlib.Omega.{arith}
use Rattle.comparing.proofs.Answers.{room-short, ties, all_listed}
use Rattle.comparing.proofs.list_both.Goals as goal

pub returns-then-is_short : goal.returns-then-is_short
returns-then-is_short c =
    let m = c in
    let p = m.requires in
    room-short p.0 p.1 p.2 m.measure_texts-found.ensures c.is_short.ensures c.if-is_short.true

pub listings-requires : goal.listings-requires
listings-requires c =
    let m = c in
    let p = m.requires in
    let t = ties p.0 p.1 p.2 m.measure_texts-found.ensures in
    (omega (arith, t.0), omega (arith, t.1))

pub returns : goal.returns
returns c =
    let l = c in
    let o = l in
    let m = o in
    let p = m.requires in
    all_listed p.0 p.1 p.2 m.measure_texts-found.ensures o.is_short.ensures o.if-is_short.false l.list_texts.ensures c.listings.ensures
