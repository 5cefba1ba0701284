-- `mark` meets its contract: the numbers put so far, and those of what is left, are the body's. Assumes nothing.
use borrow.Author.Rules.{rules}
use Prim.Native.Nat.{◌-◌}
use Rattle.walk.specs.Laws.Walk.{goes-here}
use Rattle.rescue.proofs.Internal.Marking.{on, marking-open, marking-shut, marking-name, marking-end}
use Rattle.rescue.proofs.mark.Goals as goal

pub after-spot-requires : goal.after-spot-requires
after-spot-requires c = let m = c.loop-i.invariant.5 in (m.walks.fits, goes-here m.walks c.loop-i-test.true)

pub loop-i-preserved-then-b-eq40 : goal.loop-i-preserved-then-b-eq40
loop-i-preserved-then-b-eq40 c =
    let a = c in
    let l = a.loop-i.invariant in
    (l.0, l.1, (search rules), l.3, l.4, marking-open l.5 a.loop-i-test.true c.after-spot.ensures c.if-b-eq40.true c.shut_at.ensures)

pub loop-i-preserved-then-b-eq41 : goal.loop-i-preserved-then-b-eq41
loop-i-preserved-then-b-eq41 c =
    let a = c in
    let l = a.loop-i.invariant in
    (l.0, l.1, (search rules), l.3, l.4, marking-shut l.5 a.loop-i-test.true c.after-spot.ensures c.if-b-eq41.true)

pub code_as-code-requires : goal.code_as-code-requires
code_as-code-requires c =
    let a = c in
    let l = a.loop-i.invariant in
    let f = (on l.5 a.loop-i-test.true c.after-spot.ensures).fits in
    record { arrangement = a.requires.walks.2; resolution_bound = (f.fine, f.small) }

pub loop-i-preserved : goal.loop-i-preserved
loop-i-preserved c =
    let n = c in
    let f = n in
    let w = f in
    let b = w in
    let l = b.loop-i.invariant in (
      l.0,
      l.1,
      (search rules),
      (search rules),
      (search rules),
      marking-name l.5 b.loop-i-test.true b.after-spot.ensures b.if-b-eq40.false w.if-b-eq41.false
          w.code_as-code.ensures w.whole_at-whole.ensures f.first_kind-first.ensures n.fourth_kind-fourth.ensures (search rules) (search rules)
          c.late.ensures c.mask.ensures,
    )

pub returns : goal.returns
returns c = marking-end c.loop-i.invariant.5 c.loop-i-test.false
