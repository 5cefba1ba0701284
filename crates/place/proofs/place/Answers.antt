-- `place` meets its contract: what the scan has still to go over is tied to the whole. Assumes nothing.
use mathlib.Core.Path.{◌≡◌, sym, ◌∙◌}
use mathlib.Core.Bool.{true}
use native.Mathlib.Omega.{arith}
use lib.ListN.{get_or}
use borrow.Author.Tests.{not-true, not-false}
use Rattle.place.specs.Internal.Stack.{may_open, may_shut, may_stand}
use Rattle.place.proofs.Steps.{open-named, open-deeper, shut-inside, stand-from}
use Rattle.place.proofs.Laws.{at-end, stop-open, stop-shut, stop-stand, go-open, go-shut, go-stand}
use Rattle.place.proofs.place.Goals as goal
use Rattle.place.proofs.place.Goals.{Else-not-may_open, Else-not-may_shut, Else-not-may_stand}

-- what was asked may come
opened :
    (c : Else-not-may_open) →
    let v = c.loop-i in
    let a = c.args in
    may_open a.level a.depth v.k (get_or v.lo v.k 0) v.named ≡ true
opened c = sym c.may_open.ensures ∙ not-false c.may_open.result c.if-not-may_open.false-raw

shut : (c : Else-not-may_shut) → let v = c.loop-i in may_shut v.k (get_or v.lo v.k 0) (get_or v.whole v.k 0) ≡ true
shut c = sym c.may_shut.ensures ∙ not-false c.may_shut.result c.if-not-may_shut.false-raw

stood :
    (c : Else-not-may_stand) →
    let v = c.loop-i in
    let a = c.args in
    may_stand a.level a.depth v.k (get_or v.lo v.k 0) (get_or v.whole v.k 0) (get_or a.text.now v.i 0) ≡ true
stood c = sym c.may_stand.ensures ∙ not-false c.may_stand.result c.if-not-may_stand.false-raw

pub overflow_sub-whole : goal.overflow_sub-whole
overflow_sub-whole c = c.loop-i.invariant.one (open-named _ _ _ _ _ (opened (goal.at.overflow_sub-whole c).Else-not-may_open))

pub bounds-lo-k-then-b-eq40 : goal.bounds-lo-k-then-b-eq40
bounds-lo-k-then-b-eq40 c = omega (arith, open-deeper _ _ _ _ _ (opened (goal.at.bounds-lo-k-then-b-eq40 c).Else-not-may_open))

pub bounds-whole-k-then-b-eq40-2 : goal.bounds-whole-k-then-b-eq40-2
bounds-whole-k-then-b-eq40-2 c = omega (arith, open-deeper _ _ _ _ _ (opened (goal.at.bounds-whole-k-then-b-eq40-2 c).Else-not-may_open))

pub loop-i-preserved-then-b-eq40 : goal.loop-i-preserved-then-b-eq40
loop-i-preserved-then-b-eq40 c = go-open c.loop-i.invariant (omega arith) (omega arith) c.if-b-eq40.true (opened (goal.at.loop-i-preserved-then-b-eq40 c).Else-not-may_open)

pub overflow_sub-k : goal.overflow_sub-k
overflow_sub-k c = omega (arith, shut-inside _ _ _ (shut (goal.at.overflow_sub-k c).Else-not-may_shut))

pub loop-i-preserved-then-b-eq41 : goal.loop-i-preserved-then-b-eq41
loop-i-preserved-then-b-eq41 c = go-shut c.loop-i.invariant (omega arith) c.if-b-eq41.true (shut (goal.at.loop-i-preserved-then-b-eq41 c).Else-not-may_shut)

pub number_of-requires : goal.number_of-requires
number_of-requires c = omega (arith, stand-from _ _ _ _ _ _ (stood (goal.at.number_of-requires c).Else-not-may_stand))

pub loop-i-preserved : goal.loop-i-preserved
loop-i-preserved c =
    go-stand c.loop-i.invariant (omega arith) (omega arith) c.if-b-eq40.false
    c.if-b-eq41.false (stood (goal.at.loop-i-preserved c).Else-not-may_stand) c.number_of.ensures

pub returns : goal.returns
returns c = omega (arith, at-end c.loop-i.invariant (omega arith))

pub returns-then-not-may_open : goal.returns-then-not-may_open
returns-then-not-may_open c =
    stop-open c.loop-i.invariant (omega arith) c.if-b-eq40.true
    (sym c.may_open.ensures ∙ not-true c.may_open.result c.if-not-may_open.true-raw)

pub returns-then-not-may_shut : goal.returns-then-not-may_shut
returns-then-not-may_shut c =
    stop-shut c.loop-i.invariant (omega arith) c.if-b-eq41.true
    (sym c.may_shut.ensures ∙ not-true c.may_shut.result c.if-not-may_shut.true-raw)

pub returns-then-not-may_stand : goal.returns-then-not-may_stand
returns-then-not-may_stand c =
    stop-stand c.loop-i.invariant (omega arith) c.if-b-eq40.false c.if-b-eq41.false
    (sym c.may_stand.ensures ∙ not-true c.may_stand.result c.if-not-may_stand.true-raw)
