-- `print_compared` meets its contract: the codes of each listing stand in front of the codes that were lent. Assumes nothing.
use native.Mathlib.Omega.{arith}
use mathlib.Core.Path.{sym}
use lib.Seq.{length-take-le}
use Rattle.comparing.proofs.Laws.Answer.{listings-given, refusal-given}
use Rattle.compare.proofs.Laws.{listings-written, number-written}
use Rattle.compare.proofs.print_compared.Goals as goal

pub slice_bounds-print_three-end : goal.slice_bounds-print_three-end
slice_bounds-print_three-end c = (listings-given c.compare.ensures c.in-Ok.is).1.firsts.fit

pub slice_bounds-print_three-end-in-Ok : goal.slice_bounds-print_three-end-in-Ok
slice_bounds-print_three-end-in-Ok c =
    sym (length-take-le _ _ (listings-given c.compare.ensures c.in-Ok.is).1.firsts.fit)

pub slice_bounds-print_three-end-in-Ok-2 : goal.slice_bounds-print_three-end-in-Ok-2
slice_bounds-print_three-end-in-Ok-2 c =
    let c10 = c in
    (listings-given c10.compare.ensures c.in-Ok.is).1.seconds.fit

pub slice_bounds-print_three-end-in-Ok-3 : goal.slice_bounds-print_three-end-in-Ok-3
slice_bounds-print_three-end-in-Ok-3 c =
    let c3 = c in
    let c11 = c3 in
    sym (length-take-le _ _ (listings-given c11.compare.ensures c3.in-Ok.is).1.seconds.fit)

pub slice_bounds-print_three-end-in-Ok-4 : goal.slice_bounds-print_three-end-in-Ok-4
slice_bounds-print_three-end-in-Ok-4 c =
    let c3 = c in
    let c11 = c3 in
    (listings-given c11.compare.ensures c3.in-Ok.is).1.boths.fit

pub slice_bounds-print_three-end-in-Ok-5 : goal.slice_bounds-print_three-end-in-Ok-5
slice_bounds-print_three-end-in-Ok-5 c =
    let c4 = c in
    let c12 = c4 in
    sym (length-take-le _ _ (listings-given c12.compare.ensures c4.in-Ok.is).1.boths.fit)

pub returns-in-Ok : goal.returns-in-Ok
returns-in-Ok c =
    let c6 = c in
    let c14 = c6 in
    let c22 = c14 in
    let c34 = c22 in
    let a = c34.args in
    let k = c22.compare in
    listings-written a.first.now a.second.now (listings-given k.ensures c14.in-Ok.is) c6.print_three.ensures

pub returns-in-Err : goal.returns-in-Err
returns-in-Err c =
    let c4 = c in
    let c7 = c4 in
    let c15 = c7 in
    let c27 = c15 in
    let s = c27 in
    let w = c4.put_line-end in
    let k = c15.compare in
    number-written s.args.first.now s.args.second.now s.args.two.now s.args.three.now _
    (refusal-given k.ensures c7.in-Err.is) w.ensures.put (omega (arith, w.ensures.upper_bound, s.requires.0))
