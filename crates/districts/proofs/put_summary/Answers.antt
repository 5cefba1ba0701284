-- `districts::put_summary` meets its contract: the lines are those of the text's counters. Assumes nothing.
use mathlib.Core.Path.{◌≡◌, sym, ap, subst, ◌∙◌}
use Prim.Native.Nat.{ℕ}
use Rattle.cell.specs.Cell.{IsArrangement}
use Rattle.reading.specs.TextReading.{text_arrangement}
use Rattle.reading.proofs.Laws.TextReading.{text-arranged}
use Rattle.reader.specs.Check.{text_refusal, place_with}
use Rattle.reader.specs.Laws.Answer.{text-read}
use Rattle.summary.specs.Summary.{zeros}
use Rattle.summary.proofs.Laws.Answer.{kept-text, refused-text, refused-place}
use Rattle.districts.proofs.Lines.{put_as, text-counters, lines-kept, lines-refused}
use native.Mathlib.Omega.{arith}
use Rattle.districts.proofs.put_summary.Goals as goal
use Rattle.districts.proofs.put_summary.Goals.{In-Ok}

-- the text was read
read-in :
    (c : In-Ok) →
    let t = c.args.text.now in
    (text_refusal t ≡ 0) × (c.in-Ok.arrangement ≡ text_arrangement t)
read-in c = kept-text _ (sym c.in-Ok.is ∙ c.summarize.ensures.value)

pub put_districts-requires : goal.put_districts-requires
put_districts-requires c =
    let t = c.args.text.now in
    let r = read-in (goal.at.put_districts-requires c).In-Ok in record { arrangement = subst IsArrangement (sym r.1) (text-arranged t (text-read t r.0)); at_most_full = text-counters t zeros c.summarize.ensures.counters_after r.0; in_bounds = omega (arith, c.requires) }

pub returns-in-Ok : goal.returns-in-Ok
returns-in-Ok c =
    let d = c.put_districts.ensures in
    let t = c.args.text.now in
    let r = read-in (goal.at.returns-in-Ok c).In-Ok in record { put = put_as (lines-kept t zeros c.summarize.ensures.counters_after r.0) d.put; refusal_value = (sym r.0, sym (ap (λ (q : ℕ). place_with q t) r.0), d.upper_bound) }

pub returns-in-Err : goal.returns-in-Err
returns-in-Err c =
    let q = c.refused.ensures in
    let t = c.args.text.now in
    let s = sym c.in-Err.is ∙ c.summarize.ensures.value in
    let u = refused-text t s in record { put = put_as (lines-refused t u.0 u.1) q.put; refusal_value = (q.refusal_value.0 ∙ sym u.0, q.refusal_value.1 ∙ refused-place t s, omega (arith, q.refusal_value.2)) }
