-- `report::put_history` meets its contract: what is put so far, and the last revisions, are all lines. Assumes nothing.
use Rattle.report.proofs.Revisions.{listing_none, listing-more, listing-end}
use native.Mathlib.Omega.{arith}
use Rattle.report.proofs.put_history.Goals as goal

pub loop-left-init : goal.loop-left-init
loop-left-init c =
    let a = c.args in
    let k = c.kept_number-left.ensures in
    listing_none a.history a.out.now c.kept_number-left.result k.value k.upper_bound.0 k.upper_bound.1 c.requires

pub loop-left-preserved : goal.loop-left-preserved
loop-left-preserved c =
    let l = c.loop-left in
    let p = c.put_revision-end in
    let a = c.args in
    listing-more a.history a.out.now l.out p.new.out l.left l.end p.result l.invariant
    (omega arith) p.ensures.put p.ensures.upper_bound p.auto.out

pub returns : goal.returns
returns c =
    let i = c.loop-left.invariant in
    let r = i.room in record { put = listing-end i (omega arith); upper_bound = omega arith }
