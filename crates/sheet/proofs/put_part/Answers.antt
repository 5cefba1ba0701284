-- `sheet::put_part` meets its contract: before each record the part so far, and what is still to be put, are the records that have room. Assumes nothing.
use mathlib.Core.Path.{◌≡◌, refl, sym, ap, subst, ◌∙◌}
use Rattle.cell.specs.Cell.{IsArrangement}
use Rattle.code.specs.Code.{is_code}
use Rattle.reading.proofs.Laws.TextReading.{text-arranged}
use Rattle.sheet.proofs.Laws.Stands.{code_there, record_there, Comes, few}
use Rattle.sheet.proofs.Beside.{came, ended, its-code, its-record, puts-end, none_more, no_room, puts-on}
use native.Mathlib.Omega.{arith}
use borrow.Author.Rules.{rules}
use Rattle.sheet.proofs.put_part.Goals as goal
use Rattle.sheet.proofs.put_part.Goals.{After-code_as, After-record_of-wanted, In-Some}

-- a whole cell comes next
here :
    (c : In-Some) →
    let b = c in
    Comes b.args.text.now b.loop-buffer.records c.in-Some.behind c.in-Some.here
here c = came c.loop-buffer.invariant.stands c.next_whole.ensures c.in-Some.is

-- its code was made
coded :
    (c : After-code_as) →
    c.code_as.result ≡ code_there c.args.text.now c.in-Some.here
coded c = its-code _ c.in-Some.here c.code_as.ensures c.requires.0

-- its record was made
its :
    (c : After-record_of-wanted) →
    c.record_of-wanted.result
    ≡ record_there c.args.text.now c.in-Some.here
its c = its-record _ c.in-Some.here c.record_of-wanted.ensures (coded (goal.at.After-record_of-wanted c).After-code_as)

pub returns-in_default : goal.returns-in_default
returns-in_default c =
    let l = c.loop-buffer in
    puts-end l.invariant c.args.standing refl
    (none_more l.invariant (ended l.invariant.stands c.next_whole.ensures c.in_default.is))

pub code_as-requires : goal.code_as-requires
code_as-requires c =
    let f = (here (goal.at.code_as-requires c).In-Some).on.walks.fits in
    let s = c in
    record { arrangement = subst IsArrangement (sym s.requires.0) (text-arranged s.args.text.now c.loop-buffer.invariant.stands.text); resolution_bound = (f.fine, f.small) }

pub record_of-wanted-requires : goal.record_of-wanted-requires
record_of-wanted-requires c = ap is_code (coded (goal.at.record_of-wanted-requires c).After-code_as) ∙ (here (goal.at.record_of-wanted-requires c).In-Some).code

pub overflow_add-records : goal.overflow_add-records
overflow_add-records c =
    let l = c in
    let m = (here (goal.at.overflow_add-records c).In-Some).more in
    let f = few l.args.text.now l.loop-buffer.invariant.stands.text in
    search rules

pub loop-buffer-preserved : goal.loop-buffer-preserved
loop-buffer-preserved c =
    let r = c in
    let b = r in
    puts-on b.loop-buffer.invariant b.loop-buffer-test.true (here (goal.at.loop-buffer-preserved c).In-Some) (its (goal.at.loop-buffer-preserved c).After-record_of-wanted) c.put_record.ensures

pub returns : goal.returns
returns c =
    let l = c.loop-buffer in
    puts-end l.invariant c.args.standing refl (no_room l.invariant (omega (arith, c.loop-buffer-test.false)))
