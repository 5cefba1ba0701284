-- `put_wholes` meets its contract: the codes put so far, and those of what is left, are the text's. Assumes nothing.
use mathlib.Core.Path.{◌≡◌, sym, ◌∙◌}
use mathlib.Core.Bool.{true}
use Prim.Native.Nat.{◌<◌}
use lib.ListN.{length, drop}
use Rattle.walk.specs.Walk.{whole_at}
use Rattle.walk.specs.Laws.Walk.{goes-here}
use Rattle.proper.proofs.Internal.Wholes.{lists-start, on, lists-past, has_room, lists-put, lists-end}
use Rattle.proper.proofs.put_wholes.Goals as goal
use Rattle.proper.proofs.put_wholes.Goals.{After-code_as}

-- where a whole cell stands, and its code was made
stands : (c : After-code_as) →
    whole_at (drop c.loop-i.i c.args.text.now) ≡ true
stands c = sym c.whole_at-whole.ensures ∙ c.if-not-whole.false

room : (c : After-code_as) → let l = c.loop-i in l.count < length l.codes
room c =
    let b = c in
    let l = b.loop-i in
    has_room l.invariant.1 b.loop-i-test.true c.after-spot.ensures (stands c) l.invariant.0

pub loop-i-init : goal.loop-i-init
loop-i-init c = (c.requires.2, lists-start _ c.args.text.now _ c.requires.0 c.requires.1)

pub after-spot-requires : goal.after-spot-requires
after-spot-requires c = let l = c.loop-i.invariant.1 in (l.walks.fits, goes-here l.walks c.loop-i-test.true)

pub loop-i-preserved-then-not-whole : goal.loop-i-preserved-then-not-whole
loop-i-preserved-then-not-whole c =
    let b = c in
    let l = b.loop-i in
    (l.invariant.0, lists-past l.invariant.1 b.loop-i-test.true c.after-spot.ensures (sym c.whole_at-whole.ensures ∙ c.if-not-whole.true))

pub code_as-requires : goal.code_as-requires
code_as-requires c =
    let b = c in
    let l = b.loop-i in
    let f = (on l.invariant.1 b.loop-i-test.true c.after-spot.ensures).fits in
    record { arrangement = b.requires.3; resolution_bound = (f.fine, f.small) }

pub bounds-codes-count : goal.bounds-codes-count
bounds-codes-count c = room (goal.at.bounds-codes-count c).After-code_as

pub loop-i-preserved : goal.loop-i-preserved
loop-i-preserved c =
    let b = c in
    let l = b.loop-i in
    (l.invariant.0, lists-put l.invariant.1 b.loop-i-test.true c.after-spot.ensures (stands (goal.at.loop-i-preserved c).After-code_as) _ c.code_as.ensures (room (goal.at.loop-i-preserved c).After-code_as))

pub returns : goal.returns
returns c = let r = lists-end c.loop-i.invariant.1 c.loop-i-test.false in record { value = r.0; codes_after = r.1 }
