-- `writing::whole_until` meets its contract: the codes up to the place i cover the cell up to the position. Assumes nothing.
use native.Mathlib.Omega.{arith}
use mathlib.Core.Path.{sym, ◌∙◌}
use Rattle.code.proofs.Laws.Inside.{size_small}
use Rattle.writing.specs.Internal.Measure.{next_cell}
use Rattle.writing.specs.Internal.MeasureLaws.{code-at}
use Rattle.writing.proofs.WholeSteps as ws
use Rattle.writing.proofs.whole_until.Goals as goal

pub returns-then-size-lt9 : goal.returns-then-size-lt9
returns-then-size-lt9 c = ws.finest (omega arith) c.if-size-lt9.true

pub returns-then-size_in-size : goal.returns-then-size_in-size
returns-then-size_in-size c = ws.same (omega arith) (sym c.size_in.ensures ∙ c.if-size_in-size.true)

pub start_in-requires : goal.start_in-requires
start_in-requires c =
    let s = c in
    code-at s.args.codes.now c.loop-i.i s.requires.0 (omega arith)

pub returns-then-position-start_in : goal.returns-then-position-start_in
returns-then-position-start_in c =
    let l = c in
    ws.gap (omega arith) l.if-size-lt9.false l.loop-i.invariant (omega arith) (rw c.start_in.ensures at c.if-position-start_in.true)

pub overflow_add-position : goal.overflow_add-position
overflow_add-position c =
    let l = c in
    let s = l in
    omega (arith, l.loop-i.invariant.left, c.size_in-position.ensures, size_small (next_cell s.args.codes.now l.loop-i.i))

pub returns-then-end-position : goal.returns-then-end-position
returns-then-end-position c =
    let l = c in
    ws.reached (omega arith) l.if-size-lt9.false l.loop-i.invariant (omega arith) (omega (arith, c.start_in.ensures, c.if-position-start_in.false))
    c.size_in-position.ensures c.if-end-position.true

pub loop-i-preserved : goal.loop-i-preserved
loop-i-preserved c =
    let l = c in
    ws.goes_on (omega arith) l.if-size-lt9.false l.loop-i.invariant (omega arith) c.size_in-position.ensures c.if-end-position.false

pub returns : goal.returns
returns c = ws.ended (omega arith) c.if-size-lt9.false c.loop-i.invariant (omega arith)
