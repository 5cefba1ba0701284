-- `listing::put_codes` meets its contract: the codes put so far, and those of what is left, are the text's. Assumes nothing.
use mathlib.Core.Path.{◌≡◌, sym, ap, subst, ◌∙◌}
use mathlib.Core.Bool.{true}
use Prim.Native.Nat.{◌+◌, ◌-◌, ◌<◌}
use lib.Dec.{eqb}
use lib.ListN.{length, drop, get_or}
use Rattle.cell.specs.declared.Arrangement.{Arrangement}
use Rattle.cell.specs.Cell.{IsArrangement}
use Rattle.reading.proofs.Laws.TextReading.{text-arranged}
use Rattle.walk.specs.Walk.{after, goes_on, whole_at}
use Rattle.walk.specs.Laws.Walk.{goes-here}
use Rattle.listing.proofs.Laws.List.{spot_code}
use Rattle.listing.proofs.Facts.{Lists, lists-start, on, lists-past, has_room, lists-put, lists-end, opened, open-not-whole}
use Rattle.listing.proofs.put_codes.Goals as goal
use Rattle.listing.proofs.put_codes.Goals.{After-code_as, After-opens_at, Then-opens_at}

-- where a whole cell stands, and its code was made
stands :
    (c : After-code_as) →
    whole_at (drop c.loop-i.i c.args.text.now) ≡ true
stands c = sym c.whole_at-whole.ensures ∙ c.if-whole.true

room : (c : After-code_as) → let l = c.loop-i in l.count < length l.codes
room c =
    let b = c in
    let l = b.loop-i in
    has_room l.invariant.1 b.loop-i-test.true c.after-spot.ensures (stands c) l.invariant.0

-- past a byte that is no whole cell's
past :
    (c : After-opens_at) →
    let l = c.loop-i in
    let s = c in
    Lists s.args.text.now s.args.codes.now l.codes l.count (l.i + 1) c.after-spot.result
past c =
    let b = c in
    let l = b.loop-i in
    lists-past l.invariant.1 b.loop-i-test.true c.after-spot.ensures (sym c.whole_at-whole.ensures ∙ c.if-whole.false)

-- at a `(` behind it
opening :
    (c : Then-opens_at) →
    eqb (get_or c.args.text.now
    (c.loop-i.i + 1) 0) 40 ≡ true
opening c = sym c.opens_at.ensures ∙ c.if-opens_at.true

pub loop-i-init : goal.loop-i-init
loop-i-init c = let p = c.requires in (p.3, lists-start c.args.text.now _ p.0 p.2)

pub after-spot-requires : goal.after-spot-requires
after-spot-requires c = let l = c.loop-i.invariant.1 in (l.walks.fits, goes-here l.walks c.loop-i-test.true)

pub code_as-requires : goal.code_as-requires
code_as-requires c =
    let b = c in
    let l = b.loop-i in
    let f = (on l.invariant.1 b.loop-i-test.true c.after-spot.ensures).fits in
    let p = b.requires in
    record { arrangement = subst IsArrangement (sym p.1) (text-arranged _ p.0); resolution_bound = (f.fine, f.small) }

pub bounds-codes-count : goal.bounds-codes-count
bounds-codes-count c = room (goal.at.bounds-codes-count c).After-code_as

pub loop-i-preserved-then-whole : goal.loop-i-preserved-then-whole
loop-i-preserved-then-whole c =
    let b = c in
    let l = b.loop-i in
    let spot = c.after-spot in
    let made = c.code_as.ensures ∙ ap (λ (a : Arrangement). spot_code a spot.result) b.requires.1 in
    (l.invariant.0, lists-put l.invariant.1 b.loop-i-test.true spot.ensures (stands (goal.at.loop-i-preserved-then-whole c).After-code_as) _ made (room (goal.at.loop-i-preserved-then-whole c).After-code_as))

pub after-spot-requires-then-opens_at : goal.after-spot-requires-then-opens_at
after-spot-requires-then-opens_at c =
    let p = past (goal.at.after-spot-requires-then-opens_at c).After-opens_at in
    let s = c in
    let l = c.loop-i in
    let o = opened s.args.text.now (l.i + 1) (opening (goal.at.after-spot-requires-then-opens_at c).Then-opens_at) in
    (p.walks.fits, ap (goes_on c.after-spot.result) (sym o.1) ∙ goes-here p.walks o.0)

pub loop-i-preserved-then-opens_at : goal.loop-i-preserved-then-opens_at
loop-i-preserved-then-opens_at c =
    let b = c in
    let s = b in
    let l = b.loop-i in
    let p = past (goal.at.loop-i-preserved-then-opens_at c).After-opens_at in
    let o = opened s.args.text.now (l.i + 1) (opening (goal.at.loop-i-preserved-then-opens_at c).Then-opens_at) in
    let on = c.after-spot-then-opens_at.ensures ∙ ap (after b.after-spot.result) (sym o.1) in
    (l.invariant.0, lists-past p o.0 on (open-not-whole s.args.text.now (l.i + 1) o.0 o.1))

pub loop-i-preserved : goal.loop-i-preserved
loop-i-preserved c = (c.loop-i.invariant.0, past (goal.at.loop-i-preserved c).After-opens_at)

pub returns : goal.returns
returns c = lists-end c.loop-i.invariant.1 c.loop-i-test.false
