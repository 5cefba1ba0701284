-- `root::finest` meets its contract: the floor is the lower end's whole part or the next. Assumes nothing.
use mathlib.Core.Path.{◌≡◌, sym, ap, ◌∙◌}
use Prim.Native.Nat.{ℕ, ◌+◌, ◌*◌, ◌/◌, ◌<◌}
use native.Mathlib.Nat.{le_refl}
use native.Mathlib.Omega.{arith}
use lib.Dec.{lit<}
use Rattle.root.specs.Floor.{at_most, root_floor, axis_of}
use Rattle.root.specs.Internal.Bracket.{low_part}
use Rattle.root.specs.Laws.Floor.{floor-below}
use Rattle.root.specs.Internal.Between.{Given, low, low_fits, low-lt, size_fits, roomy, upper, lower}
use Rattle.root.proofs.finest.Goals as goal
use Rattle.root.proofs.finest.Goals.{After-part_of-part, After-reaches, Start}

-- what is known at the entry
given : (s : Start) → Given 14348907 s.args.radicand s.args.root s.args.p
given s =
    record {
      positive = lit< tt;
      small = le_refl 14348907;
      height = s.requires.0;
      size = s.requires.1;
      under = s.requires.2;
      over = s.requires.3;
    }

-- the floor is what the contract asks
done : (s : Start) → {w : ℕ} → w ≡ root_floor 14348907 s.args.radicand (axis_of s.args.p) → (w ≡ root_floor 14348907 s.args.radicand (axis_of s.args.p)) × (w < 14348907)
done s e = (e, rw e (floor-below 14348907 s.args.radicand (axis_of s.args.p) (lit< tt) (size_fits (given s)) s.requires.0))

-- the lower end, parted
abbrev start : (c : After-part_of-part) → Start
start c = c.before.before

abbrev whole : (c : After-part_of-part) → ℕ
whole c = c.part_of-part.result.whole

abbrev rest : (c : After-part_of-part) → ℕ
rest c = c.part_of-part.result.rest

parts : (c : After-part_of-part) → (whole c) * 1800000000000000000 + (rest c) ≡ 14348907 * low_part (start c).args.p.minus (start c).args.p.size (start c).args.root
parts c = c.part_of-part.ensures.rest_value ∙ ap (λ (x : ℕ). 14348907 * x) c.low_end.ensures

low-is : (c : After-part_of-part) → (whole c) + (rest c) / 1800000000000000000 ≡ low (given (start c))
low-is c = let e = (parts c) in omega arith

-- what the exact test says of the next
abbrev tested : (c : After-reaches) → After-part_of-part
tested c = c.before.before

said : (c : After-reaches) → at_most 14348907 (start (tested c)).args.radicand (axis_of (start (tested c)).args.p) (whole (tested c) + rest (tested c) / 1800000000000000000 + 1) ≡ c.reaches.result
said c = sym c.reaches.ensures

pub part_of-part-requires : goal.part_of-part-requires
part_of-part-requires c = rw c.low_end.ensures (low_fits (given (goal.at.part_of-part-requires c).Start))

pub returns-then-rest-size-lt-UNITS : goal.returns-then-rest-size-lt-UNITS
returns-then-rest-size-lt-UNITS c =
    let q = (goal.at.returns-then-rest-size-lt-UNITS c).After-part_of-part in
    done (start q) (roomy (given (start q)) (whole q) (rest q) (parts q) c.if-rest-size-lt-UNITS.true)

pub reaches-requires : goal.reaches-requires
reaches-requires c =
    let q = (goal.at.reaches-requires c).After-part_of-part in
    (le_refl 14348907, (start q).requires.1, omega (arith, low-is q, low-lt (given (start q))))

pub returns-then-reaches : goal.returns-then-reaches
returns-then-reaches c =
    let r = (goal.at.returns-then-reaches c).After-reaches in
    let q = tested r in
    done (start q) (upper (given (start q)) (low-is q) (said r ∙ c.if-reaches.true))

pub returns-else-reaches : goal.returns-else-reaches
returns-else-reaches c =
    let r = (goal.at.returns-else-reaches c).After-reaches in
    let q = tested r in
    done (start q) (lower (given (start q)) (low-is q) (said r ∙ c.if-reaches.false))
