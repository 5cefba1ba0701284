-- `sheet::compare_part` meets its contract: before each byte that a record starts with, those before it are ours. Assumes nothing.
use mathlib.Core.Path.{◌≡◌, refl, sym, ap, subst, ◌∙◌}
use borrow.Author.Tests.{lt-ltb, le-ltb}
use Rattle.cell.specs.Cell.{IsArrangement}
use Rattle.code.specs.Code.{is_code}
use Rattle.reading.proofs.Laws.TextReading.{text-arranged}
use Rattle.sheet.proofs.Laws.Stands.{code_there, record_there, Comes, few}
use Rattle.sheet.proofs.Beside.{came, ended, its-code, its-record, over-stop, at-end, none-there, another, over-on}
use borrow.Author.Rules.{rules}
use Rattle.sheet.proofs.compare_part.Goals as goal
use Rattle.sheet.proofs.compare_part.Goals.{After-code_as, After-record_of-wanted, In-Some}

-- a whole cell comes next
here :
    (c : In-Some) →
    let b = c in
    Comes b.args.text.now b.loop-i.records c.in-Some.behind c.in-Some.here
here c = came c.loop-i.invariant.stands c.next_whole.ensures c.in-Some.is

-- its code was made
coded :
    (c : After-code_as) →
    c.code_as.result ≡ code_there c.args.text.now c.in-Some.here
coded c = its-code _ c.in-Some.here c.code_as.ensures c.requires.0

-- its record was made
its :
    (c : After-record_of-wanted) →
    c.record_of-wanted.result
    ≡ record_there c.args.text.now c.in-Some.here
its c = its-record _ c.in-Some.here c.record_of-wanted.ensures (coded (goal.at.After-record_of-wanted c).After-code_as)

pub returns-in_default : goal.returns-in_default
returns-in_default c =
    let l = c.loop-i in
    over-stop l.invariant c.args.standing refl
    (none-there l.invariant (ended l.invariant.stands c.next_whole.ensures c.in_default.is))
    (sym (lt-ltb l.i _ c.loop-i-test.true))

pub code_as-requires : goal.code_as-requires
code_as-requires c =
    let f = (here (goal.at.code_as-requires c).In-Some).on.walks.fits in
    let s = c in
    record { arrangement = subst IsArrangement (sym s.requires.0) (text-arranged s.args.text.now c.loop-i.invariant.stands.text); resolution_bound = (f.fine, f.small) }

pub record_of-wanted-requires : goal.record_of-wanted-requires
record_of-wanted-requires c = ap is_code (coded (goal.at.record_of-wanted-requires c).After-code_as) ∙ (here (goal.at.record_of-wanted-requires c).In-Some).code

pub returns-then-not-has_record : goal.returns-then-not-has_record
returns-then-not-has_record c =
    let r = c in
    let b = r in
    let l = b.loop-i in
    over-stop l.invariant b.args.standing refl
    (another l.invariant (here (goal.at.returns-then-not-has_record c).In-Some) (its (goal.at.returns-then-not-has_record c).After-record_of-wanted) c.has_record.ensures (c.if-not-has_record.true))
    (sym (lt-ltb l.i _ b.loop-i-test.true))

pub overflow_add-records : goal.overflow_add-records
overflow_add-records c =
    let b = c in
    let m = (here (goal.at.overflow_add-records c).In-Some).more in
    let f = few b.args.text.now b.loop-i.invariant.stands.text in
    search rules

pub loop-i-preserved : goal.loop-i-preserved
loop-i-preserved c =
    let r = c in
    over-on r.loop-i.invariant (here (goal.at.loop-i-preserved c).In-Some) (its (goal.at.loop-i-preserved c).After-record_of-wanted) c.has_record.ensures
    (c.if-not-has_record.false)

pub returns : goal.returns
returns c =
    let l = c.loop-i in
    over-stop l.invariant c.args.standing refl (at-end l.invariant c.loop-i-test.false) (sym (le-ltb l.i _ c.loop-i-test.false))
