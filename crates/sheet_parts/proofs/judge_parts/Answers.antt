-- `sheet_parts::judge_parts` meets its contract: before each part whole records of ours lie behind. Assumes nothing.
use mathlib.Core.Path.{◌≡◌, refl, sym, subst, ◌∙◌}
use Prim.Native.Nat.{ℕ, ◌%◌, ◌≤◌, ◌<◌}
use lib.ListN.{length}
use Rattle.console.proofs.Laws.Input.{count_fits}
use Rattle.sheet.specs.Sheet.{records_of}
use Rattle.sheet.specs.Parts.{StandsAt}
use Rattle.sheet.proofs.Laws.Stands.{stands-start}
use Rattle.sheet_parts.proofs.Read.{Reads, reads-start, unreadable, stops-wrong, stops_end, reads_on, reads_more}
use native.Mathlib.Omega.{arith}
use borrow.Author.Rules.{rules}
use Rattle.sheet_parts.proofs.judge_parts.Goals as goal
use Rattle.sheet_parts.proofs.judge_parts.Goals.{After-slice_known-in-loop-count-1, Else-count-part, In-Some}

-- the room is as long as it was lent
lent :
    (c : After-slice_known-in-loop-count-1) →
    length c.read_all.new.buf ≡ length c.args.part.now
lent c =
    let l = c.loop-count in
    let same : length c.read_all.new.buf ≡ length l.part = search rules in
    same ∙ l.invariant.0

-- so many bytes were read
fits : (c : In-Some) → c.in-Some.count ≤ length c.read_all.new.buf
fits c = count_fits _ _ c.read_all.ensures c.in-Some.is

-- the part filled its room
full :
    (c : Else-count-part) →
    let g = c in
    let k = g in
    let l = k in
    let t = l.args.text.now in
    Reads t g.go_over-standing.result × (l.loop-count.standing.records < g.go_over-standing.result.records) × (g.go_over-standing.result.records ≤ length (records_of t))
full c =
    let g = c in
    let k = g in
    let l = k in
    let s = l in
    let room = k.read_all.new.buf in
    let e = lent (goal.at.Else-count-part c).After-slice_known-in-loop-count-1 in
    let m = subst (λ (n : ℕ). n % 40 ≡ 0) (sym e) s.requires.part_nonzero.1 in
    let w = l.loop-count.invariant.1 in
    let h = reads_more room _ w (fits (goal.at.Else-count-part c).In-Some) g.go_over-standing.ensures c.if-count-part.false m c.if-standing.false (omega (arith, s.requires.part_nonzero.0, e)) in
    (reads_on room _ w (fits (goal.at.Else-count-part c).In-Some) g.go_over-standing.ensures c.if-count-part.false m c.if-standing.false, h.0, h.1)

pub loop-count-init : goal.loop-count-init
loop-count-init c =
    let s = c in
    (refl, subst (Reads s.args.text.now) (sym c.start-standing.ensures) (reads-start s.args.text.now s.requires.text_value.0 s.requires.text_value.2))

pub told-requires : goal.told-requires
told-requires c =
    let s = c in
    subst (StandsAt s.args.text.now) (sym c.start.ensures) (stands-start s.args.text.now s.requires.text_value.0 s.requires.text_value.2)

pub returns-in_default : goal.returns-in_default
returns-in_default c =
    let k = c in
    let s = k in
    unreadable s.args.text.now k.read_all.new.buf s.requires.text_value.0 s.requires.text_value.2 (omega (arith, s.requires.part_nonzero.0, lent (goal.at.returns-in_default c).After-slice_known-in-loop-count-1)) c.start.ensures
    c.told.ensures

pub returns-then-standing : goal.returns-then-standing
returns-then-standing c =
    let g = c in
    let k = g in
    let l = k in
    let s = l in
    let room = k.read_all.new.buf in
    let m = subst (λ (n : ℕ). n % 40 ≡ 0) (sym (lent (goal.at.returns-then-standing c).After-slice_known-in-loop-count-1)) s.requires.part_nonzero.1 in
    stops-wrong room _ l.loop-count.invariant.1 (fits (goal.at.returns-then-standing c).In-Some) g.go_over-standing.ensures m c.if-standing.true c.told-then-standing.ensures

pub returns-then-count-part : goal.returns-then-count-part
returns-then-count-part c =
    let g = c in
    let k = g in
    let l = k in
    stops_end _ _ l.loop-count.invariant.1 (fits (goal.at.returns-then-count-part c).In-Some) g.go_over-standing.ensures c.if-count-part.true c.told-then-count-part.ensures

pub loop-count-smaller : goal.loop-count-smaller
loop-count-smaller c = let h = full (goal.at.loop-count-smaller c).Else-count-part in omega (arith, h.1, h.2)

pub loop-count-preserved : goal.loop-count-preserved
loop-count-preserved c = (lent (goal.at.loop-count-preserved c).After-slice_known-in-loop-count-1, (full (goal.at.loop-count-preserved c).Else-count-part).0)
