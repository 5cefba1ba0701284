-- Assumes nothing.
use native.Mathlib.Omega.{arith}
use mathlib.Core.Path.{sym, ◌∙◌}
use Rattle.loose.specs.Internal.Stop.{tied_on, tied-stop, tied-end, open-on, open-unnamed, open-deep, shut-on, shut_none, name-on, name-not}
use Rattle.loose.proofs.stop_of.Goals as goal

pub loop-i-preserved-then-b-eq40 : goal.loop-i-preserved-then-b-eq40
loop-i-preserved-then-b-eq40 c =
    let a = c in
    tied_on a.loop-i.invariant (omega arith) (omega arith) (open-on _ _ _ c.if-b-eq40.true (c.if-not-named.false) c.if-lists-ge15.false)

pub loop-i-preserved-then-b-eq41 : goal.loop-i-preserved-then-b-eq41
loop-i-preserved-then-b-eq41 c =
    let a = c in
    let l = a.loop-i.invariant in
    tied_on l (omega arith) (omega (arith, l.most)) (shut-on _ _ _ c.if-b-eq40.false c.if-b-eq41.true c.if-lists-eq0.false)

pub loop-i-preserved : goal.loop-i-preserved
loop-i-preserved c =
    let a = c in
    let l = a.loop-i.invariant in
    tied_on l (omega arith) l.most
    (name-on _ _ _ c.if-b-eq40.false c.if-b-eq41.false (sym c.is_name.ensures ∙ c.if-not-is_name.false))

pub returns : goal.returns
returns c =
    let t = tied-end c.loop-i.invariant (omega arith) in
    (omega (arith, t.0), t.1)

pub returns-then-not-named : goal.returns-then-not-named
returns-then-not-named c = tied-stop c.loop-i.invariant (omega arith) (open-unnamed _ _ _ c.if-b-eq40.true (c.if-not-named.true))

pub returns-then-lists-ge15 : goal.returns-then-lists-ge15
returns-then-lists-ge15 c =
    let a = c in
    tied-stop a.loop-i.invariant (omega arith) (open-deep _ _ _ c.if-b-eq40.true (c.if-not-named.false) c.if-lists-ge15.true)

pub returns-then-lists-eq0 : goal.returns-then-lists-eq0
returns-then-lists-eq0 c =
    let a = c in
    tied-stop a.loop-i.invariant (omega arith) (shut_none _ _ _ c.if-b-eq40.false c.if-b-eq41.true c.if-lists-eq0.true)

pub returns-then-not-is_name : goal.returns-then-not-is_name
returns-then-not-is_name c =
    let a = c in
    tied-stop a.loop-i.invariant (omega arith)
    (name-not _ _ _ c.if-b-eq40.false c.if-b-eq41.false (sym c.is_name.ensures ∙ c.if-not-is_name.true))
