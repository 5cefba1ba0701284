-- The floored ground nucleus of a cell of a cap names the cell again, at every resolution at once. Assumes nothing.
use Rattle.std.specs.Prelude.{◌≡◌, refl, Bool, true, false, ℕ, suc, ◌+◌, ◌-◌, ◌*◌, ◌/◌, ◌%◌, ◌≤◌, ◌<◌, ℤ, pos, neg_ℤ, nat_abs}
use Rattle.std.proofs.Common.{sym, ap, ap₂, ◌∙◌, subst, le_of_lt, lt_of_le_of_lt, mul_comm, mul_left_comm, suc-mul, mul-pos, mul-le-mul, mul-le-mul_left, mul-le-mul_right, arith}
use Rattle.std.proofs.Math.Nat.{mul-sub, le_of_mul-le-mul_left, lt_of_mul-lt-mul_left}
use Rattle.std.proofs.Math.Arith.{digits_div, digits_mod}
use Rattle.std.proofs.Math.IntN.{sub_ℕ}
use Rattle.std.specs.Int.Signed.{lt_z}
use Rattle.ternary.proofs.Laws.Powers.{power_le}
use Rattle.signed.specs.Laws.Sign.{sub-neg}
use Rattle.cell.specs.declared.Cell.{Cell}
use Rattle.cell.specs.declared.Arrangement.{Arrangement}
use Rattle.cell.specs.Cell.{IsCell}
use Rattle.cell.specs.Neighbour.{rows, turn_of}
use Rattle.cell.proofs.Laws.Turns.{turn-of-face}
use Rattle.locate.specs.Fix.{CapPoint, quarter, in_range, east_of, is_belt, height_of, start_north, start_south, turned_north, cap_cell, north_cell, south_cell, fix_cell}
use Rattle.locate.proofs.Laws.Fix.{fix-north, fix-south, middle_cell, pole-north, pole-south}
use Rattle.nucleus.specs.Nucleus.{floor_z, cap_longitude, north_z, south_z}
use Rattle.nucleus.specs.Internal.Caps.{cap_face, first_in, cap_z, sided, seen, row_seen, pole_of, rise}
use Rattle.nucleus.specs.Internal.MirrorLaws.{sided-size, sided-sign, start_seen, middle-back}
use Rattle.nucleus.specs.Internal.FlooredLaws.{floor-size, floor-sided}
use Rattle.nucleus.specs.Internal.RuleLaws.{in-range, east-back, outside-is}
use Rattle.nucleus.specs.Internal.BeltLaws.{Names}
use Rattle.nucleus.specs.Internal.Triangle.{middle, IsStart}
use Rattle.nucleus.specs.Internal.NearLaws.{Nears, near-neg, near-turned, near-seen, hit, along-lt, near-along, near-half}

-- ---- the height: |z| is w, and 3 (10^18 - w) is near 10^18 h h / (m m)

triple : (b m : ℕ) → b ≤ 14348907 * m → 0 < m → 3 * b < 1000000000000000000 * m
triple b m r s = omega arith

-- apart, since `omega` stops at numbers of more than 38 digits
fits : (a b m x : ℕ) → x ≤ 1000000000000000000 * a + 3 * b → a + m ≤ b → b ≤ 14348907 * m → 0 < m → x < b * 1000000000000000000
fits a b m x p q r s =
    let c : 1000000000000000000 * (a + m) ≤ 1000000000000000000 * b = mul-le-mul_left 1000000000000000000 q in
    let d : 3 * b < 1000000000000000000 * m = triple b m r s in
    lt_of_le_of_lt p (omega arith)

pub room : (m h : ℕ) → h < m → h * h + m ≤ m * m
room m h hh =
    let a : h * h ≤ h * m = mul-le-mul_left h (le_of_lt hh) in
    let b : suc h * m ≤ m * m = mul-le-mul_right m hh in
    let c : suc h * m ≡ h * m + m = suc-mul h m in
    omega arith

square-pos : (m h : ℕ) → h < m → 0 < m * m
square-pos m h hh = let a : 0 < m = omega arith in mul-pos a a

square-small : (m h : ℕ) → m ≤ 14348907 → 0 < h → 3 * (m * m) ≤ 1000000000000000000 * (h * h)
square-small m h hm h0 =
    let a : m * m ≤ 14348907 * 14348907 = mul-le-mul hm hm in
    let b : 0 < h * h = mul-pos h0 h0 in
    omega arith

-- z by sign and size
pub z-is : (south : Bool) (m h : ℕ) → h < m → floor_z (sided south (pos (rise m h))) (3 * (m * m)) ≡ cap_z south m h
unfolding north_z south_z
z-is south m h hh =
    let r = room m h hh in
    floor-sided south (rise m h) (1000000000000000000 * (3 * (m * m))) (1000000000000000000 * (h * h)) (3 * (m * m)) (omega arith)

-- what is wanted of |z|
record Tall (m h w : ℕ) : Type 0 where
  within : w ≤ 1000000000000000000
  outside : 2000000000000000000 < 3 * w
  low : 1000000000000000000 * (h * h) ≤ m * m * (3 * (1000000000000000000 - w)) + 3 * (m * m)
  high : m * m * (3 * (1000000000000000000 - w)) ≤ 1000000000000000000 * (h * h) + 3 * (m * m)

tall :
    (m h w : ℕ) → m ≤ 14348907 → 0 < h → h < m → rise m h ≤ w * (3 * (m * m)) + 3 * (m * m) → w * (3 * (m * m)) ≤ rise m h + 3 * (m * m) → Tall m h w
tall m h w hm h0 hh lo hi =
    let r = room m h hh in
    let s = square-small m h hm h0 in
    let p = square-pos m h hh in
    let t : ℕ = 3 * (1000000000000000000 - w) in
    let x : w * (3 * (m * m)) ≡ 3 * (m * m * w) = omega (arith, mul_left_comm w 3 (m * m), mul_comm w (m * m)) in
    let l : w ≤ 1000000000000000000 = le_of_mul-le-mul_left {m = w} {n = 1000000000000000000} {k = m * m} (omega arith) p in
    let e : m * m * t ≡ 3 * (m * m * 1000000000000000000 - m * m * w) =
    mul_left_comm (m * m) 3 (1000000000000000000 - w) ∙ ap (λ (x : ℕ). 3 * x) (mul-sub (m * m) 1000000000000000000 w)
    in
    let k : m * m * w ≤ m * m * 1000000000000000000 = mul-le-mul_left (m * m) l in
    let b : 1000000000000000000 * (h * h) ≤ m * m * t + 3 * (m * m) = omega arith in
    let u : m * m * t ≤ 1000000000000000000 * (h * h) + 3 * (m * m) = omega arith in
    let f : t < 1000000000000000000 = lt_of_mul-lt-mul_left (m * m) (fits (h * h) (m * m) m (m * m * t) u r (mul-le-mul_right m hm) (omega arith)) in
    record { within = l; outside = omega arith; low = b; high = u }

-- |z| of a cap, floored
tall-z : (south : Bool) (m h : ℕ) → m ≤ 14348907 → 0 < h → h < m → (w : ℕ) × (cap_z south m h ≡ sided south (pos w)) × Tall m h w
tall-z south m h hm h0 hh =
    let r = room m h hh in
    let f = floor-size south (rise m h) (3 * (m * m)) (omega arith) (omega arith) in
    (f.0, sym (z-is south m h hh) ∙ f.1, tall m h f.0 hm h0 hh f.2 f.3)

-- ---- the cell again

-- the column and the row, from a point near the middle
cap-cell :
    {c : Cell} (w h : ℕ) (x y : CapPoint) → IsCell c → h < rows c → Tall (rows c) h w → Nears h x y →
    y ≡ middle (rows c) (2 * c.column + 1) (2 * c.row + 1) → cap_cell c.face c.resolution (3 * (1000000000000000000 - w)) x ≡ c
unfolding cap_cell
cap-cell {c} w h x y v hh t n e =
    let m : ℕ = rows c in
    let at = hit m h (3 * (1000000000000000000 - w)) (power_le {j = 15} v.fine) hh t.low t.high in
    λ i.
    record {
      face = c.face;
      resolution = c.resolution;
      row = at (neg_ℤ x.1) (neg_ℤ y.1) c.row (near-neg n.1) (ap (λ (z : CapPoint). neg_ℤ z.1) e ∙ sub-neg m (2 * c.row + 1)) i;
      column = at x.0 y.0 c.column n.0 (ap (λ (z : CapPoint). z.0) e) i;
    }

-- the rule of either cap, seen in the north
fix-cap :
    (south : Bool) (a : Arrangement) (k : ℕ) (L z : ℤ) → is_belt z ≡ false → lt_z z (pos 0) ≡ south →
    let east = east_of L in
    fix_cell a k L z ≡ cap_cell (cap_face south) k (height_of z) (seen south (turned_north (turn_of (east / quarter) (first_in south a)) (start_north (east % quarter))))
unfolding north_cell south_cell start_north start_south
fix-cap true a k L z e f =
    fix-south a k L z e f
    ∙ ap (cap_cell 5 k (height_of z)) (start_seen true (turn_of (east_of L / quarter) a.south) (sub_ℕ (2 * (east_of L % quarter)) quarter) quarter)
fix-cap false a k L z e f = fix-north a k L z e f

pub cap-again :
    (south : Bool) (a : Arrangement) {c : Cell} (r h e : ℕ) → first_in south a ≤ 3 → IsCell c → c.face ≡ cap_face south →
    IsStart (rows c) (2 * c.column + 1) (row_seen south (rows c) (2 * c.row + 1)) r h e →
    Names a c (cap_longitude (first_in south a) r h e) (cap_z south (rows c) h)
unfolding cap_longitude height_of start_north
cap-again south a {c} r h e hn v hf s =
    let m : ℕ = rows c in
    let k : ℕ = c.resolution in
    let n : ℕ = first_in south a in
    let f : ℕ = (n + r) % 4 in
    let d : ℕ = 450000000 * e / h in
    let dl : d < quarter = along-lt h e s.tall s.within in
    let x : ℕ = f * quarter + d in
    let t = tall-z south m h (power_le {j = 15} v.fine) s.tall s.low in
    let w : ℕ = t.0 in
    let z : ℤ = sided south (pos w) in
    let size : nat_abs z ≡ w = sided-size south (pos w) in
    let out = t.2.outside in
    let y : CapPoint = (sub_ℕ e h, neg_ℤ (pos h)) in
    let q = near-turned h r (start_north d) y (near-along h e s.tall s.within, near-half h true) in
    let i = v.rowed in
    subst (λ (u : ℤ). Names a c (sub_ℕ x 1800000000) u) (sym t.1) (
      in-range x z (omega arith) (omega (arith, t.2.within)),
      fix-cap south a k (sub_ℕ x 1800000000) z (outside-is z (omega arith)) (sided-sign south w (omega arith)).0
          ∙ ap₂ (λ (l y : ℕ). cap_cell (cap_face south) k (3 * (1000000000000000000 - l)) (seen south (turned_north (turn_of (y / quarter) n) (start_north (y % quarter))))) size
          (east-back x (omega arith))
          ∙ ap₂ (λ (j y : ℕ). cap_cell (cap_face south) k (3 * (1000000000000000000 - w)) (seen south (turned_north j (start_north y))))
          (ap (λ (y : ℕ). turn_of y n) (digits_div f dl) ∙ turn-of-face n r hn s.few) (digits_mod f dl)
          ∙ ap (λ (y : ℕ). cap_cell y k (3 * (1000000000000000000 - w)) (seen south (turned_north r (start_north d)))) (sym hf)
          ∙ cap-cell w h (seen south (turned_north r (start_north d))) (seen south (turned_north r y)) v s.low t.2 (near-seen south (turned_north r (start_north d)) (turned_north r y) q)
          (ap (seen south) s.point ∙ middle-back south m (2 * c.column + 1) (2 * c.row + 1) (omega arith)),
    )

-- ---- the poles

middle-same : {c : Cell} → 2 * c.row + 1 ≡ rows c → 2 * c.column + 1 ≡ rows c → middle_cell c.face c.resolution ≡ c
unfolding middle_cell
middle-same {c} p q =
    let i : rows c / 2 ≡ c.row = omega arith in
    let j : rows c / 2 ≡ c.column = omega arith in
    λ x. record { face = c.face; resolution = c.resolution; row = i x; column = j x }

pole-cell :
    (south : Bool) (a : Arrangement) (k : ℕ) →
    (in_range (pole_of south).longitude (pole_of south).z ≡ true) × (fix_cell a k (pole_of south).longitude (pole_of south).z ≡ middle_cell (cap_face south) k)
unfolding in_range
pole-cell true a k = (refl, pole-south a k (neg_ℤ (pos 1800000000)))
pole-cell false a k = (refl, pole-north a k (neg_ℤ (pos 1800000000)))

pub pole-again :
    (south : Bool) (a : Arrangement) {c : Cell} → c.face ≡ cap_face south → 2 * c.row + 1 ≡ rows c → 2 * c.column + 1 ≡ rows c →
    Names a c (pole_of south).longitude (pole_of south).z
pole-again south a {c} f p q =
    let w = pole-cell south a c.resolution in
    (w.0, w.1 ∙ ap (λ (y : ℕ). middle_cell y c.resolution) (sym f) ∙ middle-same p q)
