-- `record_all` meets its contract: each turn records the line that it was handed. Assumes nothing.
use mathlib.Core.Path.{sym, ap, ◌∙◌, subst}
use Prim.Native.Nat.{ℕ, ◌≤◌}
use lib.ListN.{length, take}
use native.Mathlib.Omega.{arith}
use Rattle.lines.specs.Fold.{OfEnded}
use Rattle.adding.specs.InMind.{InMind}
use Rattle.flight.specs.declared.Recording.{Recording}
use Rattle.flight.specs.Recording.{Records, counted, with_line, started}
use Rattle.flight.proofs.Laws.Recording.{line-once}
use Rattle.console.specs.Input.{unread}
use Rattle.record.specs.Recorded.{flown_of}
use Rattle.record.proofs.Laws.{line-recorded, last-recorded, kept-flown, kept-recording, kept-count, checkpointed}
use Rattle.record.proofs.record_all.Goals as goal

pub loop-number-preserved : goal.loop-number-preserved
loop-number-preserved c =
    let l = c.loop-number in
    let a = c.args in
    let n = c.next_line in
    let g = c.in-Line.ensures in
    let d = c.record_line-with_line in
    let q = d.ensures in
    let k = checkpointed _ c.checkpoint-flight.ensures in
    let line = take c.in-Line.length n.new.room in
    let roomy : 43 ≤ length n.new.room = omega (arith, n.auto.room, l.invariant.4, c.requires.0) in
    let e = q.result_after ∙ ap (λ (size : ℕ). with_line a.setting size (flown_of l.text l.flight) line) l.invariant.5 in
    let v = line-recorded a.setting n.new.room roomy _ c.in-Line.length _ _ l.invariant.7 e (unread l.bytes l.from l.end) _ _ _ g in (
      g.6,
      g.7,
      subst (Records d.new.text) (sym (kept-recording k)) q.records.0,
      omega (arith, n.auto.bytes, l.invariant.3),
      omega (arith, n.auto.room, l.invariant.4),
      omega (arith, d.auto.text, l.invariant.5),
      omega (arith, kept-count k, ap counted q.result_after, line-once a.setting (length l.text) (flown_of l.text l.flight) line, l.invariant.6),
      subst (OfEnded (with_line a.setting (length a.text.now)) (started a.setting)) (sym (kept-flown k d.new.text)) v,
      omega (arith, d.auto.waits, l.invariant.8),
      omega (arith, d.auto.near, l.invariant.9),
      subst (λ (m : Recording). InMind (take m.length d.new.text) d.new.near) (sym (kept-recording k)) q.records.1,
    )

pub returns-in-Last-clause-of_bytes : goal.returns-in-Last-clause-of_bytes
returns-in-Last-clause-of_bytes c =
    let l = c.loop-number in
    let a = c.args in
    let n = c.next_line in
    let line = take c.in-Last.length n.new.room in
    let roomy : 43 ≤ length n.new.room = omega (arith, n.auto.room, l.invariant.4, c.requires.0) in
    let e = c.record_line.ensures.result_after ∙ ap (λ (size : ℕ). with_line a.setting size (flown_of l.text l.flight) line) l.invariant.5 in
    last-recorded a.setting n.new.room roomy _ c.in-Last.length _ _ l.invariant.7 e (unread l.bytes l.from l.end) n.new.bytes c.in-Last.ensures
