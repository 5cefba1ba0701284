-- `adding::put_in` meets its contract. Assumes nothing.
use mathlib.Core.Path.{◌≡◌}
use Prim.Native.Nat.{◌+◌, ◌-◌, ◌*◌}
use lib.ListN.{length, take, drop}
use Rattle.adding.specs.declared.Edit.TheVariants.{Put}
use Rattle.adding.specs.Internal.Edit.{nested, edited}
use Rattle.adding.proofs.Moves.{nested-length, opened-long}
use Rattle.adding.proofs.Becoming.{put-long, becomes-13, becomes-8, becomes-put}
use native.Mathlib.Omega.{arith}
use Rattle.adding.proofs.put_in.Goals as goal
use Rattle.adding.proofs.put_in.Goals.{Start}

-- the bytes that go in
gap_is : (c : Start) → length (nested (drop c.args.k c.args.name.now)) ≡ 3 * (length c.args.name.now - c.args.k) - 2
gap_is c = omega (arith, nested-length c.args.name.now c.args.k c.requires.4)

long : (c : Start) → length (edited c.args.name.now (take c.args.end c.args.text.now) (Put c.args.at c.args.k)) ≡ c.args.end +
    (3 * (length c.args.name.now - c.args.k) - 2)
long c = put-long c.args.name.now c.args.text.now c.args.end c.requires.0 c.requires.1 c.args.at c.args.k (3 * (length c.args.name.now - c.args.k) - 2)
    c.requires.3 (gap_is c)

pub returns-then-end-gap-gt-LONGEST : goal.returns-then-end-gap-gt-LONGEST
returns-then-end-gap-gt-LONGEST c = becomes-13 _ _ c.refused.ensures (omega (arith, long (goal.at.returns-then-end-gap-gt-LONGEST c).Start, c.if-end-gap-gt-LONGEST.true))

pub returns-then-end-gap : goal.returns-then-end-gap
returns-then-end-gap c = let s = c in
    becomes-8 _ _ c.refused-then-end-gap.ensures (omega (arith, long (goal.at.returns-then-end-gap c).Start, c.if-end-gap-gt-LONGEST.false)) (omega (arith, long (goal.at.returns-then-end-gap c).Start, c.if-end-gap.true))

pub put_nested-requires : goal.put_nested-requires
put_nested-requires c =
    let s = c in (
      s.requires.4,
      omega (
        arith,
        gap_is (goal.at.put_nested-requires c).Start,
        s.requires.3,
        c.if-end-gap.false,
        opened-long s.args.text.now s.args.at s.args.end
            (3 * (length s.args.name.now - s.args.k) - 2) s.requires.3 (omega (arith, c.if-end-gap.false))
            c.open_gap.ensures,
      ),
    )

pub returns : goal.returns
returns c =
    let s = c in
    becomes-put s.args.name.now s.args.text.now s.args.end s.requires.0 s.requires.1 s.args.at s.args.k (3 * (length s.args.name.now - s.args.k) - 2) s.requires.3 (gap_is (goal.at.returns c).Start)
    (omega (arith, c.if-end-gap-gt-LONGEST.false))
    (omega (arith, c.if-end-gap.false)) c.open_gap.ensures
    c.put_nested.ensures.text_after
