-- `adding::reach` meets its contract. Assumes nothing.
use mathlib.Core.Path.{refl, sym, ◌∙◌}
use Rattle.adding.proofs.Finds.{eqb_yes, stands-inside}
use Rattle.adding.proofs.Ways.{reach-byte, reach-down}
use native.Mathlib.Omega.{arith}
use Rattle.adding.proofs.reach.Goals as goal

pub stands_at-requires : goal.stands_at-requires
stands_at-requires c = reach-byte c.loop-k.invariant refl

pub whole_at-requires : goal.whole_at-requires
whole_at-requires c =
    let l = c in
    stands-inside l.args.text.now c.skip-skipped.result.place _ (reach-byte l.loop-k.invariant refl)
    (eqb_yes c.stands_at.ensures (c.if-not-stands_at.false))

pub overflow_add-at : goal.overflow_add-at
overflow_add-at c =
    let s = c in
    omega (
      arith,
      s.requires.0,
      stands-inside s.args.text.now c.skip-skipped.result.place _ (reach-byte c.loop-k.invariant refl)
          (eqb_yes c.stands_at.ensures (c.if-not-stands_at.false)),
    )

pub loop-k-preserved : goal.loop-k-preserved
loop-k-preserved c =
    reach-down c.loop-k.invariant refl c.skip-skipped.ensures
    (eqb_yes c.stands_at.ensures (c.if-not-stands_at.false)) (sym c.whole_at.ensures ∙ c.if-whole_at.false)
    c.loop-k-test.true
