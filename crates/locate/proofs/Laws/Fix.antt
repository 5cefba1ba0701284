-- What 01 "From a fix to a cell" says of the cell of a fix, for every arrangement and every resolution. Assumes nothing.
use Rattle.std.specs.Prelude.{◌≡◌, refl, ◌↔◌, Bool, true, false, ◌&&◌, not, ℕ, zero, suc, ◌+◌, ◌-◌, ◌*◌, ◌/◌, ◌%◌, ◌^◌, ◌≤◌, ◌<◌, T, ℤ, pos, negsuc, neg_ℤ, nat_abs}
use Rattle.std.proofs.Common.{sym, ◌∙◌, lt_of_not-le, pow-suc, mul-zero, mul-pos, mul_assoc, mul_comm, mul_left_comm, div-one, arith, lit<, ltb-false, le-ltb}
use Rattle.std.proofs.Math.Path.{ap}
use Rattle.std.proofs.Math.Bool.{cond}
use Rattle.std.proofs.Math.Decide.{dec_le}
use Rattle.std.proofs.Math.Nat.{div-div-eq-div-mul}
use Rattle.std.proofs.Math.Arith.{digits_div}
use Rattle.std.specs.Int.Signed.{le_z, lt_z}
use Rattle.logic.specs.Refusal.{refuse}
use Rattle.logic.specs.Laws.Bools.{by_cond, clash}
use Rattle.logic.specs.Laws.Refusal.{passes, both, allowed}
use Rattle.ternary.proofs.Laws.Powers.{next_power, power_pos}
use Rattle.cell.specs.declared.Cell.{Cell}
use Rattle.cell.specs.declared.Arrangement.{Arrangement}
use Rattle.cell.specs.Cell.{IsCell, IsArrangement}
use Rattle.cell.proofs.Laws.Cell.{is-arrangement, arrangement-is}
use Rattle.cell.specs.Hierarchy.{parent_of}
use Rattle.cell.specs.Neighbour.{turn_of}
use Rattle.root.specs.Floor.{square, at_most, root_floor}
use Rattle.root.specs.Laws.Square.{plus-under, plus-not, minus_is, minus-over}
use Rattle.root.specs.Laws.Floor.{floor-one, floor-below, floor-third'}
use Rattle.locate.specs.Fix.{Agree, CapPoint, quarter, InRange, in_range, is_belt, east_of, offset_of, height_of, start_north}
use Rattle.locate.specs.Fix.{start_south, turned_north, turned_south, belt_cell, cap_cell, north_cell, south_cell, fix_cell, fix_refusal}
use Rattle.locate.proofs.Laws.Part.{part-lt, part-third}
use Rattle.locate.specs.Internal.RangeLaws.{east-small, height-small}
use Rattle.locate.proofs.Laws.Bottom.{offset-small}
use Rattle.locate.proofs.Laws.Turn.{Spanned, opposite-le, north-within, south-within, start-north, start-south}

-- ---- the three places

module _ (a : Arrangement) (k : ℕ) (L z : ℤ) where
  abbrev in_north : Cell
  in_north = north_cell a.north k (east_of L) (height_of z)

  abbrev in_south : Cell
  in_south = south_cell a.south k (east_of L) (height_of z)

  pub fix-belt : is_belt z ≡ true → fix_cell a k L z ≡ belt_cell k (east_of L) (offset_of z)
  unfolding fix_cell
  fix-belt e = ap (λ (t : Bool). cond t (belt_cell k (east_of L) (offset_of z)) (cond (lt_z z (pos 0)) in_south in_north)) e

  outside-belt : is_belt z ≡ false → fix_cell a k L z ≡ cond (lt_z z (pos 0)) in_south in_north
  unfolding fix_cell
  outside-belt e = ap (λ (t : Bool). cond t (belt_cell k (east_of L) (offset_of z)) (cond (lt_z z (pos 0)) in_south in_north)) e

  pub fix-south : is_belt z ≡ false → lt_z z (pos 0) ≡ true → fix_cell a k L z ≡ in_south
  fix-south e f = outside-belt e ∙ ap (λ (t : Bool). cond t in_south in_north) f

  pub fix-north : is_belt z ≡ false → lt_z z (pos 0) ≡ false → fix_cell a k L z ≡ in_north
  fix-north e f = outside-belt e ∙ ap (λ (t : Bool). cond t in_south in_north) f

-- ---- the belt's bottom edge (02, W-213)

-- The rule's row is past the last one on that edge only: there "it falls on the bottom edge"
pub held-only : (k n : ℕ) → n ≤ 4 * 10 ^ 18 → 3 ^ k ≤ 3 ^ k * n / (4 * 10 ^ 18) → n ≡ 4 * 10 ^ 18
held-only k n h l = go (dec_le (4 * 10 ^ 18) n)
  where
    go : Dec (4 * 10 ^ 18 ≤ n) → n ≡ 4 * 10 ^ 18
    go (yes e) = omega arith
    go (no e) = absurd (omega (arith, part-lt (3 ^ k) n (4 * 10 ^ 18) (lt_of_not-le e) (power_pos k)))

module _ (a : Arrangement) (k : ℕ) (L z : ℤ) (e : is_belt z ≡ true) where
  -- a fix's row is the rule's, with "no such step there"
  pub belt-row : (fix_cell a k L z).row ≡ 3 ^ k * offset_of z / (4 * 10 ^ 18)
  unfolding belt_cell
  belt-row = ap (λ (c : Cell). c.row) (fix-belt a k L z e)

  -- and it is a row: "the case never occurs for a fix"
  pub belt-row-below : (fix_cell a k L z).row < 3 ^ k
  belt-row-below = rw belt-row (part-lt (3 ^ k) (offset_of z) (4 * 10 ^ 18) (offset-small z e) (power_pos k))

-- ---- the caps

-- the points that the caps' floors are taken of
north-point : (n east : ℕ) → Spanned quarter (turned_north (turn_of (east / quarter) n) (start_north (east % quarter)))
north-point n east = north-within (turn_of (east / quarter) n) (start_north (east % quarter)) (start-north (east % quarter) (omega arith))

south-point : (s east : ℕ) → Spanned quarter (turned_south (turn_of (east / quarter) s) (start_south (east % quarter)))
south-point s east = south-within (turn_of (east / quarter) s) (start_south (east % quarter)) (start-south (east % quarter) (omega arith))

-- ---- the answer is a cell

pub belt-is-cell : (k east offset : ℕ) → k ≤ 15 → east < 3600000000 → offset < 4 * 10 ^ 18 → IsCell (belt_cell k east offset)
unfolding belt_cell
belt-is-cell k east offset h l o =
    record {
      fine = h;
      faced = omega arith;
      rowed = part-lt (3 ^ k) offset (4 * 10 ^ 18) o (power_pos k);
      columned = rw mul_comm (part-lt (3 ^ k) (east % quarter) quarter (omega arith) (power_pos k));
    }

pub cap-is-cell : (face k t : ℕ) (x : CapPoint) → face ≤ 5 → k ≤ 15 → t < 10 ^ 18 → Spanned quarter x → IsCell (cap_cell face k t x)
unfolding cap_cell
cap-is-cell face k t x f h l w =
    record {
      fine = h;
      faced = f;
      rowed = floor-below (3 ^ k) t (neg_ℤ x.1) (power_pos k) (opposite-le x.1 w.second) l;
      columned = floor-below (3 ^ k) t x.0 (power_pos k) w.first l;
    }

pub fix-is-cell : {a : Arrangement} {k : ℕ} (L z : ℤ) → IsArrangement a → k ≤ 15 → in_range L z ≡ true → IsCell (fix_cell a k L z)
unfolding fix_cell
fix-is-cell {a} {k} L z v h r =
    by_cond IsCell (is_belt z)
    (λ e. belt-is-cell k (east_of L) (offset_of z) h (east-small L) (offset-small z e))
    (λ e.
    by_cond IsCell (lt_z z (pos 0))
    (λ f. cap-is-cell 5 k (height_of z) _ (omega arith) h (height-small z e) (south-point a.south (east_of L)))
    (λ f. cap-is-cell 0 k (height_of z) _ (omega arith) h (height-small z e) (north-point a.north (east_of L))))

-- where nothing is refused
pub fix-passes : (a : Arrangement) (k : ℕ) (L z : ℤ) → fix_refusal a k L z ≡ 0 → IsArrangement a × (k ≤ 15) × (in_range L z ≡ true)
unfolding fix_refusal
fix-passes a k L z e =
    let p = both _ _ e in
    let q = both _ _ p.1 in
    (is-arrangement p.0, ltb-false 15 k (allowed 1 _ q.0), in-range (in_range L z) (allowed 5 _ q.1))
  where
    in-range : (t : Bool) → not t ≡ false → t ≡ true
    in-range true e = refl
    in-range false e = sym e

pub fix-allowed : (a : Arrangement) (k : ℕ) (L z : ℤ) → fix_refusal a k L z ≡ 0 → IsArrangement a × IsCell (fix_cell a k L z)
fix-allowed a k L z e = let p = fix-passes a k L z e in (p.0, fix-is-cell L z p.0 p.1 p.2)

-- ---- the antimeridian: "this one longitude is read as -1,800,000,000, with the same cell" (02, W-201)

pub antimeridian : (a : Arrangement) (k : ℕ) (z : ℤ) → fix_cell a k (pos 1800000000) z ≡ fix_cell a k (neg_ℤ (pos 1800000000)) z
unfolding fix_cell east_of
antimeridian a k z = refl

-- and it is refused nothing that -1,800,000,000 is not: no "gap in the track"
pub antimeridian-taken : (a : Arrangement) (k : ℕ) (z : ℤ) → fix_refusal a k (pos 1800000000) z ≡ fix_refusal a k (neg_ℤ (pos 1800000000)) z
unfolding fix_refusal in_range
antimeridian-taken a k z = refl

-- ---- 6 is given exactly for a longitude or a z out of range, where nothing before it is refused

tested : (t : Bool) → T t → t ≡ true
tested true h = refl
tested false h = absurd h

pub within-range : {L z : ℤ} → InRange L z → in_range L z ≡ true
unfolding in_range
within-range {L} {z} w =
    rw (
      tested (le_z (neg_ℤ (pos 1800000000)) L) w.west.le,
      tested (le_z L (pos 1800000000)) w.east.le,
      tested (le_z (neg_ℤ (pos (10 ^ 18))) z) w.low.le,
      tested (le_z z (pos (10 ^ 18))) w.high.le,
    )

four-tests : (p q r s : Bool) → ((p && q) && (r && s)) ≡ true → T p × T q × T r × T s
four-tests false q r s e = clash (sym e)
four-tests true false r s e = clash (sym e)
four-tests true true false s e = clash (sym e)
four-tests true true true false e = clash (sym e)
four-tests true true true true e = (tt, tt, tt, tt)

pub range-holds : {L z : ℤ} → in_range L z ≡ true → InRange L z
unfolding in_range
range-holds {L} {z} e =
    let f = four-tests (le_z (neg_ℤ (pos 1800000000)) L) (le_z L (pos 1800000000)) (le_z (neg_ℤ (pos (10 ^ 18))) z) (le_z z (pos (10 ^ 18))) e in
    record { west = record { le = f.0 }; east = record { le = f.1 }; low = record { le = f.2 }; high = record { le = f.3 } }

pub six-exactly : {a : Arrangement} {k : ℕ} (L z : ℤ) → IsArrangement a → k ≤ 15 → (fix_refusal a k L z ≡ 6) ↔ (InRange L z → ⊥)
unfolding fix_refusal
six-exactly {a} {k} L z v h =
    let e : fix_refusal a k L z ≡ refuse (not (in_range L z)) 6 = passes _ (arrangement-is v) ∙ passes _ (ap (λ (t : Bool). refuse t 2) (le-ltb 15 k h)) in (
      (λ s w. one_way (in_range L z) (sym e ∙ s) (within-range w)),
      (λ n. e ∙ other_way (in_range L z) (λ w. n (range-holds w))),
    )
  where
    one_way : (t : Bool) → refuse (not t) 6 ≡ 6 → t ≡ true → ⊥
    one_way true s w = omega arith
    one_way false s w = clash (sym w)

    other_way : (t : Bool) → (t ≡ true → ⊥) → refuse (not t) 6 ≡ 6
    other_way true n = absurd (n refl)
    other_way false n = refl

-- "1,800,000,001 is still refused", and so is the next number past each other end
pub past-the-ends :
    {a : Arrangement} {k : ℕ} (L z : ℤ) → IsArrangement a → k ≤ 15 →
    (fix_refusal a k (pos 1800000001) z ≡ 6) × (fix_refusal a k (neg_ℤ (pos 1800000001)) z ≡ 6)
    × (fix_refusal a k L (pos 1000000000000000001) ≡ 6) × (fix_refusal a k L (neg_ℤ (pos 1000000000000000001)) ≡ 6)
past-the-ends L z v h = (
  (six-exactly _ z v h).1 (λ w. w.east.le),
  (six-exactly _ z v h).1 (λ w. w.west.le),
  (six-exactly L _ v h).1 (λ w. w.high.le),
  (six-exactly L _ v h).1 (λ w. w.low.le),
)

-- ---- the resolutions agree: the cell one resolution coarser is the parent

third-power : (k n d : ℕ) → 3 ^ (k + 1) * n / d / 3 ≡ 3 ^ k * n / d
third-power k n d =
    let e : 3 ^ (k + 1) * n ≡ 3 * (3 ^ k * n) = ap (λ (x : ℕ). x * n) (next_power k) ∙ simp (mul_assoc, mul_comm, mul_left_comm) in
    ap (λ (x : ℕ). x / d / 3) e ∙ part-third (3 ^ k * n) d

belt-parent : (k east offset : ℕ) → parent_of (belt_cell (k + 1) east offset) ≡ belt_cell k east offset
unfolding parent_of belt_cell
belt-parent k east offset =
    let a = east % quarter in
    let j : k + 1 - 1 ≡ k = omega arith in
    let r = third-power k offset (4 * 10 ^ 18) in
    let c : a * 3 ^ (k + 1) / quarter / 3 ≡ a * 3 ^ k / quarter =
    ap (λ (x : ℕ). x / quarter / 3) (mul_comm a (3 ^ (k + 1))) ∙ third-power k a quarter ∙ ap (λ (x : ℕ). x / quarter) (mul_comm (3 ^ k) a) in
    λ i. record { face = 1 + east / quarter; resolution = j i; row = r i; column = c i }

cap-parent : (face k t : ℕ) (x : CapPoint) → t < 10 ^ 18 → Spanned quarter x → parent_of (cap_cell face (k + 1) t x) ≡ cap_cell face k t x
unfolding parent_of cap_cell
cap-parent face k t x h w =
    let j : k + 1 - 1 ≡ k = omega arith in
    let p = next_power k in
    λ i. record {
      face = face;
      resolution = j i;
      row = (ap (λ (m : ℕ). root_floor m t (neg_ℤ x.1) / 3) p ∙ floor-third' (3 ^ k) t (neg_ℤ x.1) (power_pos k) (opposite-le x.1 w.second) h) i;
      column = (ap (λ (m : ℕ). root_floor m t x.0 / 3) p ∙ floor-third' (3 ^ k) t x.0 (power_pos k) w.first h) i;
    }

pub parent-agrees : (a : Arrangement) (k : ℕ) (L z : ℤ) → parent_of (fix_cell a (k + 1) L z) ≡ fix_cell a k L z
unfolding north_cell south_cell
parent-agrees a k L z = go (is_belt z) (lt_z z (pos 0)) refl refl
  where
    go : (s t : Bool) → is_belt z ≡ s → lt_z z (pos 0) ≡ t → parent_of (fix_cell a (k + 1) L z) ≡ fix_cell a k L z
    go true t e f = ap parent_of (fix-belt a (k + 1) L z e) ∙ belt-parent k (east_of L) (offset_of z) ∙ sym (fix-belt a k L z e)
    go false true e f =
        ap parent_of (fix-south a (k + 1) L z e f)
        ∙ cap-parent 5 k (height_of z) _ (height-small z e) (south-point a.south (east_of L))
        ∙ sym (fix-south a k L z e f)
    go false false e f =
        ap parent_of (fix-north a (k + 1) L z e f)
        ∙ cap-parent 0 k (height_of z) _ (height-small z e) (north-point a.north (east_of L))
        ∙ sym (fix-north a k L z e f)

one-digit : (n j : ℕ) → n / 3 ^ (j + 1) ≡ n / 3 / 3 ^ j
one-digit n j = ap (λ (x : ℕ). n / x) (next_power j ∙ mul_comm (3 ^ j) 3) ∙ sym (div-div-eq-div-mul n 3 (3 ^ j))

pub resolutions-agree : (a : Arrangement) (k j : ℕ) (L z : ℤ) → Agree (fix_cell a k L z) (fix_cell a (k + j) L z) j
unfolding parent_of
resolutions-agree a k zero L z =
    let e : k + 0 ≡ k = omega arith in
    let f = ap (λ (x : ℕ). fix_cell a x L z) e in
    record { face = ap (λ (x : Cell). x.face) f; row = div-one _ ∙ ap (λ (x : Cell). x.row) f; column = div-one _ ∙ ap (λ (x : Cell). x.column) f }
resolutions-agree a k (suc j) L z =
    let e : k + suc j ≡ k + j + 1 = omega arith in
    let f = ap (λ (x : ℕ). parent_of (fix_cell a x L z)) e ∙ parent-agrees a (k + j) L z in
    let d : suc j ≡ j + 1 = omega arith in
    let r = resolutions-agree a k j L z in
    let x = fix_cell a (k + suc j) L z in
    record {
      face = ap (λ (y : Cell). y.face) f ∙ r.face;
      row = ap (λ (i : ℕ). x.row / 3 ^ i) d ∙ one-digit x.row j ∙ ap (λ (y : Cell). y.row / 3 ^ j) f ∙ r.row;
      column = ap (λ (i : ℕ). x.column / 3 ^ i) d ∙ one-digit x.column j ∙ ap (λ (y : Cell). y.column / 3 ^ j) f ∙ r.column;
    }

-- ---- "At a pole every longitude gives the same cell": the middle one

-- 3^k is odd
half : (k : ℕ) → 2 * (3 ^ k / 2) + 1 ≡ 3 ^ k
half zero = refl
half (suc k) =
    let q : ℕ = 3 ^ k / 2 in
    let h : 2 * q + 1 ≡ 3 ^ k = half k in
    let p : 3 ^ suc k ≡ 3 ^ k * 3 = pow-suc 3 k in
    let e : 3 ^ suc k ≡ (3 * q + 1) * 2 + 1 = omega arith in
    let d : 3 ^ suc k / 2 ≡ 3 * q + 1 = ap (λ (x : ℕ). x / 2) e ∙ digits_div (3 * q + 1) (lit< tt) in
    omega arith

-- with no height, each floor is the middle
level : (m w : ℕ) (p : ℤ) → 2 * w + 1 ≡ m → root_floor m 0 p ≡ w
unfolding at_most
level m w (pos g) e =
    floor-one (omega arith)
    (record {
      below = plus-under m 0 g w (omega arith);
      above = plus-not m 0 g (w + 1) (omega arith) (rw (mul-zero (square (m * g))) (mul-pos (omega arith) (omega arith)));
    })
level m w (negsuc g) e =
    floor-one (omega arith)
    (record {
      below = minus_is m 0 (suc g) w (omega arith) (omega (arith, mul-zero (square (m * suc g))));
      above = minus-over m 0 (suc g) (w + 1) (omega arith);
    })

-- the middle cell of a cap
unfoldable pub middle_cell : (face k : ℕ) → Cell
middle_cell face k = record { face = face; resolution = k; row = 3 ^ k / 2; column = 3 ^ k / 2 }

middle : (face k : ℕ) (x : CapPoint) → cap_cell face k 0 x ≡ middle_cell face k
unfolding cap_cell middle_cell
middle face k x =
    λ i. record { face = face; resolution = k; row = level (3 ^ k) (3 ^ k / 2) (neg_ℤ x.1) (half k) i; column = level (3 ^ k) (3 ^ k / 2) x.0 (half k) i }

pub pole-north : (a : Arrangement) (k : ℕ) (L : ℤ) → fix_cell a k L (pos (10 ^ 18)) ≡ middle_cell 0 k
unfolding north_cell height_of is_belt
pole-north a k L = fix-north a k L (pos (10 ^ 18)) refl refl ∙ middle 0 k (turned_north (turn_of (east_of L / quarter) a.north) (start_north (east_of L % quarter)))

pub pole-south : (a : Arrangement) (k : ℕ) (L : ℤ) → fix_cell a k L (neg_ℤ (pos (10 ^ 18))) ≡ middle_cell 5 k
unfolding south_cell height_of is_belt
pole-south a k L = fix-south a k L (neg_ℤ (pos (10 ^ 18))) refl refl ∙ middle 5 k (turned_south (turn_of (east_of L / quarter) a.south) (start_south (east_of L % quarter)))

pub pole : (a : Arrangement) (k : ℕ) (L L' z : ℤ) → nat_abs z ≡ 10 ^ 18 → fix_cell a k L z ≡ fix_cell a k L' z
pole a k L L' (pos n) e =
    let at : (x : ℤ) → fix_cell a k x (pos n) ≡ middle_cell 0 k = λ x. ap (λ (y : ℕ). fix_cell a k x (pos y)) e ∙ pole-north a k x in
    at L ∙ sym (at L')
pole a k L L' (negsuc n) e =
    let f : n ≡ 999999999999999999 = omega arith in
    let at : (x : ℤ) → fix_cell a k x (negsuc n) ≡ middle_cell 5 k = λ x. ap (λ (y : ℕ). fix_cell a k x (negsuc y)) f ∙ pole-south a k x in
    at L ∙ sym (at L')
