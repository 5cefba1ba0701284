-- `list_text` meets its contract: the codes listed have their room, and all their names are written. Assumes nothing.
use mathlib.Core.Path.{ap}
use Prim.Native.Nat.{◌≤◌}
use lib.ListN.{length}
use Rattle.report.specs.Lines.{number_line}
use Rattle.report.proofs.Laws.Put.{put-length}
use Rattle.listing.proofs.Laws.Listed.{listed-fits}
use Rattle.coverage.proofs.Laws.{list_written, list-refused, waits-fit}
use Rattle.std.proofs.lemmas.Grind.{common_steps}
use native.Mathlib.Omega.{arith}
use Rattle.coverage.proofs.list_text.Goals as goal
use Rattle.coverage.proofs.list_text.Goals.{In-Ok}

count : (c : In-Ok) → c.in-Ok.count ≤ length c.args.codes.now
count c =
    let a = c.args in
    listed-fits a.text.now a.codes.now c.list.ensures.value _ c.in-Ok.is

pub slice_bounds-put_all_names-end : goal.slice_bounds-put_all_names-end
slice_bounds-put_all_names-end c = let l = c.list in omega (arith, count (goal.at.slice_bounds-put_all_names-end c).In-Ok)

pub slice_bounds-put_all_names-end-in-Ok : goal.slice_bounds-put_all_names-end-in-Ok
slice_bounds-put_all_names-end-in-Ok c = let h = count (goal.at.slice_bounds-put_all_names-end-in-Ok c).In-Ok in grind (arith, common_steps, h)

pub returns-in-Ok : goal.returns-in-Ok
returns-in-Ok c =
    let a = c.args in
    let l = c.list in
    let p = c.put_all_names in
    let w = c.waiting.ensures in
    record {
      list_written = list_written a.text.now a.codes.now l.ensures.value _ l.new.codes p.new.out p.result _ c.in-Ok.is l.ensures.codes_after p.ensures w;
      end_in_bounds = omega (arith, w, waits-fit _ p.new.out p.result p.ensures);
    }

pub returns-in-Err : goal.returns-in-Err
returns-in-Err c =
    let a = c.args in
    let p = c.put_line in
    let fits : p.result ≤ length a.out.now = omega (arith, c.requires, p.ensures.upper_bound) in
    let same = put-length 0 (number_line c.in-Err.field-0.refusal) a.out.now (omega (arith, p.ensures.put.ends)) in
    record {
      list_written = list-refused a.text.now a.codes.now c.list.ensures.value _ _ {later = p.new.out} c.in-Err.is p.ensures.put fits;
      end_in_bounds = omega (arith, same, ap length p.ensures.put.is);
    }
