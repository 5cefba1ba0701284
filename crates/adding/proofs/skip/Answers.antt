-- `adding::skip` meets its contract. Assumes nothing.
use mathlib.Core.Path.{sym, ◌∙◌}
use lib.ListN.{drop}
use Rattle.walk.specs.Laws.Past.{node-some}
use Rattle.adding.proofs.Skips.{skips-whole, skips-list, skips-end, skips-shut, skips-from}
use native.Mathlib.Omega.{arith}
use Rattle.adding.proofs.skip.Goals as goal

pub returns-then-b-eq41 : goal.returns-then-b-eq41
returns-then-b-eq41 c = let v = c.loop-i.invariant in record { few = v.most; is = skips-shut v c.if-b-eq41.true }

pub returns-then-byte-b : goal.returns-then-byte-b
returns-then-byte-b c = let v = c.loop-i.invariant in record { few = v.most; is = skips-from v c.if-byte-b.true }

pub loop-i-preserved-then-whole_at : goal.loop-i-preserved-then-whole_at
loop-i-preserved-then-whole_at c =
    skips-whole c.loop-i.invariant c.loop-i-test.true c.if-b-eq41.false
    (omega (arith, c.if-byte-b.false)) (sym c.whole_at.ensures ∙ c.if-whole_at.true)

pub loop-i-smaller : goal.loop-i-smaller
loop-i-smaller c =
    omega (
      arith,
      c.past_node-i.ensures,
      node-some (drop c.loop-i.i c.args.text.now),
    )

pub loop-i-preserved : goal.loop-i-preserved
loop-i-preserved c =
    rw c.past_node-i.ensures
    (skips-list c.loop-i.invariant c.loop-i-test.true
    c.if-b-eq41.false
    (omega (arith, c.if-byte-b.false)) (sym c.whole_at.ensures ∙ c.if-whole_at.false))

pub returns : goal.returns
returns c = let v = c.loop-i.invariant in record { few = v.most; is = skips-end v c.loop-i-test.false }
