-- `answer_all` meets its contract: each turn answers the line that it was handed. Assumes nothing.
use mathlib.Core.Path.{refl}
use Prim.Native.Nat.{◌≤◌}
use lib.ListN.{length, take}
use native.Mathlib.Omega.{arith}
use borrow.Author.Rules.{rules}
use Rattle.console.specs.Input.{unread}
use Rattle.name_fixes.proofs.Laws.{line-answered, last-answered, last-waits}
use Rattle.name_fixes.proofs.answer_all.Goals as goal

pub loop-preserved : goal.loop-preserved
loop-preserved c =
    let l = c.loop in
    let n = c.next_line in
    let g = c.in-Line.ensures in
    let roomy : 43 ≤ length n.new.room = omega (arith, n.auto.room, l.invariant.4, c.requires.0) in
    let v = line-answered c.args.setting n.new.room roomy l.out _ _ c.in-Line.length l.invariant.6 _ c.in-Some.ensures (unread l.bytes l.from l.end) _ c.in-Some.count _ _ g refl in (
      g.6,
      g.7,
      v.1,
      search rules,
      search rules,
      search rules,
      v.0,
      λ z. absurd (omega (arith, z, v.2)),
    )

pub returns-in-Last-clause-last_waits : goal.returns-in-Last-clause-last_waits
returns-in-Last-clause-last_waits c =
    let l = c.loop in
    let r = c.answer_line-in-Last in
    last-waits c.args.setting (take c.in-Last.length c.next_line.new.room) l.waiting l.out _ r.new.out r.result r.ensures

pub returns-in-Last-clause-all_answered : goal.returns-in-Last-clause-all_answered
returns-in-Last-clause-all_answered c =
    let l = c.loop in
    let n = c.next_line in
    let r = c.answer_line-in-Last in
    let roomy : 43 ≤ length n.new.room = omega (arith, n.auto.room, l.invariant.4, c.requires.0) in
    last-answered c.args.setting n.new.room roomy l.out r.new.out l.waiting c.in-Last.length l.invariant.6 r.result r.ensures (unread l.bytes l.from l.end) n.new.bytes
    c.in-Last.ensures
