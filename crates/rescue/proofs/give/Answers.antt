-- `give` meets its contract: both rooms are tested before the text and the changes are put. Assumes nothing.
use native.Mathlib.Omega.{arith}
use mathlib.Core.Path.{sym, subst}
use Rattle.rescue.specs.Internal.Give.{Gives}
use Rattle.rescue.proofs.Internal.Give.{gives-no-text, gives-no-list, gives_both}
use Rattle.rescue.proofs.Internal.Joint.{flat-room}
use Rattle.rescue.proofs.give.Goals as goal

pub returns-then-out-made : goal.returns-then-out-made
returns-then-out-made c =
    let a = c.args in
    subst (Gives a.made.now a.marks.now a.out.now a.out.now a.list.now a.list.now) (sym c.refused.ensures)
    (gives-no-text c.count-changes.ensures.0 (omega (arith, c.if-out-made.true)))

pub returns-then-list-changes : goal.returns-then-list-changes
returns-then-list-changes c =
    let a = c.args in
    subst (Gives a.made.now a.marks.now a.out.now a.out.now a.list.now a.list.now) (sym c.refused-then-list-changes.ensures)
    (gives-no-list c.count-changes.ensures.0 (omega (arith, c.if-out-made.false)) (omega (arith, c.if-list-changes.true)))

pub write-requires : goal.write-requires
write-requires c =
    let f = c in
    let n = f in
    (n.requires, flat-room _ _ _ n.count-changes.ensures.0 (omega (arith, f.if-list-changes.false)))

pub returns : goal.returns
returns c =
    let p = c in
    let f = p in
    let n = f in
    gives_both n.count-changes.ensures.0 (omega (arith, f.if-out-made.false)) (omega (arith, f.if-list-changes.false)) p.copy.ensures c.write.ensures
