-- `say_changes` meets its contract: each turn puts the line of one change behind those that wait. Assumes nothing.
use mathlib.Core.Path.{◌≡◌}
use Prim.Native.Nat.{◌≤◌}
use lib.ListN.{length}
use Rattle.coverage.proofs.Said.{line-fits, waiting-next, waiting-all}
use native.Mathlib.Omega.{arith}
use borrow.Author.Rules.{rules}
use Rattle.coverage.proofs.say_changes.Goals as goal

pub loop-i-preserved : goal.loop-i-preserved
loop-i-preserved c =
    let list = c.args.list.now in
    let l = c.loop-i in
    let t = c.loop-i-test.true in
    let m = c.line_room-at in
    let p = c.put_change-end in
    let same : length p.new.out ≡ length l.lines = search rules in
    let room = line-fits (omega (arith, l.invariant.2)) l.invariant.1 m.ensures in
    let within : p.result ≤ length l.lines = omega (arith, p.ensures.upper_bound, room) in (
      omega (arith, t),
      omega (arith, within, same),
      search rules,
      λ a e. waiting-next a list e t l.invariant.1 within same m.ensures p.ensures.put p.ensures.upper_bound (l.invariant.3 a e),
    )

pub returns : goal.returns
returns c =
    let list = c.args.list.now in
    let l = c.loop-i in
    record { of = λ a e. waiting-all a list e c.loop-i-test.false l.invariant.0 l.invariant.1 (l.invariant.3 a e) }
