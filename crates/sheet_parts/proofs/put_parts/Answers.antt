-- `sheet_parts::put_parts` meets its contract: each turn prints what waits and puts the next records. Assumes nothing.
use mathlib.Core.Path.{◌≡◌, refl, sym, ap, subst, ◌∙◌}
use Prim.Native.Nat.{◌≤◌, ◌<◌}
use lib.ListN.{length}
use Rattle.sheet.specs.declared.Standing.{Standing}
use Rattle.sheet.specs.Sheet.{records_of}
use Rattle.sheet.specs.Parts.{StandsAt}
use Rattle.sheet.proofs.Laws.Stands.{stands-start, length-records}
use Rattle.sheet_parts.proofs.Written.{Waits, waits_start, put_some, put-within, put-fits, waits-on, waits_end}
use native.Mathlib.Omega.{arith}
use borrow.Author.Rules.{rules}
use Rattle.sheet_parts.proofs.put_parts.Goals as goal
use Rattle.sheet_parts.proofs.put_parts.Goals.{After-struct_known-in-loop-standing-2-1}

-- records are left, and the buffer has room for one
left :
    (c : After-struct_known-in-loop-standing-2-1) →
    let b = c in
    (b.loop-standing.standing.records < length (records_of b.args.text.now)) × (40 ≤ length b.loop-standing.out)
left c =
    let i = c in
    let b = i in
    let s = b in
    (omega (arith, i.loop-standing-test.true, s.requires.text_value.3, length-records s.args.text.now), omega (arith, b.loop-standing.invariant.3, s.requires.in_bounds))

-- what was put has room, and the room is as long as it was
room :
    (c : After-struct_known-in-loop-standing-2-1) →
    let p = c.put_part-next in
    length p.new.buffer ≡ length c.loop-standing.out
room c = search rules

pub loop-standing-init : goal.loop-standing-init
loop-standing-init c =
    let s = c in
    let t = s.args.text.now in
    let e = sym c.start-standing.ensures in
    let n = ap (λ (x : Standing). x.records) c.start-standing.ensures in (
      subst (StandsAt t) e (stands-start t s.requires.text_value.0 s.requires.text_value.2),
      omega (arith, n),
      omega arith,
      refl,
      subst (λ (x : Standing). Waits t s.args.out.now x.records 0) e (waits_start t s.args.out.now),
    )

pub loop-standing-smaller : goal.loop-standing-smaller
loop-standing-smaller c =
    let k = c in
    let h = left (goal.at.loop-standing-smaller c).After-struct_known-in-loop-standing-2-1 in
    omega (arith, put_some k.put_part-next.ensures h.0 h.1, h.0)

pub loop-standing-preserved : goal.loop-standing-preserved
loop-standing-preserved c =
    let k = c in
    let h = left (goal.at.loop-standing-preserved c).After-struct_known-in-loop-standing-2-1 in
    let p = k.put_part-next in
    let l = k.loop-standing in
    let n = c.bytes_of-end.ensures in (
      p.ensures.stands,
      put-within p.ensures h.0 h.1,
      omega (arith, put-fits p.ensures h.0 h.1, room (goal.at.loop-standing-preserved c).After-struct_known-in-loop-standing-2-1, n),
      room (goal.at.loop-standing-preserved c).After-struct_known-in-loop-standing-2-1 ∙ l.invariant.3,
      subst (Waits _ p.new.buffer p.result.records) (sym n) (waits-on p.ensures h.0 h.1 (room (goal.at.loop-standing-preserved c).After-struct_known-in-loop-standing-2-1) l.invariant.4),
    )

pub returns : goal.returns
returns c =
    let l = c in
    let s = l in
    waits_end (omega (arith, c.loop-standing-test.false, l.loop-standing.invariant.1, s.requires.text_value.3, length-records s.args.text.now)) l.loop-standing.invariant.2 l.loop-standing.invariant.4
