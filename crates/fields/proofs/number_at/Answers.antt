-- `fields::number_at` meets its contract: at each turn the bytes gone over are right, and the numbers that begin so are known. Assumes nothing.
use native.Mathlib.Omega.{arith}
use Rattle.fields.proofs.Laws.{gone-none, no_byte, too-high, too-low, right, all_right}
use Rattle.fields.proofs.number_at.Goals as goal

pub loop-place-init : goal.loop-place-init
loop-place-init c = let a = c.args in gone-none a.bytes.now a.at a.width a.least a.most c.power-unit.result c.power-unit.ensures

pub returns-then-place-bytes : goal.returns-then-place-bytes
returns-then-place-bytes c = no_byte c.loop-place.invariant (omega arith) c.if-place-bytes.true

pub returns-then-from-most : goal.returns-then-from-most
returns-then-from-most c =
    too-high c.loop-place.invariant (omega arith) c.if-place-bytes.false
    c.wide.ensures c.if-from-most.true

pub returns-then-from-unit : goal.returns-then-from-unit
returns-then-from-unit c =
    too-low c.loop-place.invariant (omega arith) c.if-place-bytes.false
    c.wide.ensures c.if-from-most.false c.if-from-unit.true

pub loop-place-preserved : goal.loop-place-preserved
loop-place-preserved c =
    let l = c.loop-place in
    right l.invariant (omega arith) c.if-place-bytes.false c.wide.ensures
    (omega (arith, c.wide.ensures, c.shared_slice_known-in-loop-place-1.given l.place)) c.if-from-most.false c.if-from-unit.false

pub returns : goal.returns
returns c = let i = c.loop-place.invariant in all_right i (omega arith)
