-- The rules, taken over fractions, send the computing form's fractions to the middle of the cell. Assumes nothing.
use Rattle.std.specs.Prelude.{◌≡◌, refl, Bool, ℕ, zero, suc, ◌+◌, ◌-◌, ◌*◌, ◌/◌, ◌%◌, ◌^◌, ◌≤◌, ◌<◌, ℤ, pos, neg_ℤ, nat_abs, ◌+ℤ◌, ◌-ℤ◌, ◌*ℤ◌}
use Rattle.std.proofs.Common.{sym, ap, ◌∙◌, mul-add, mul_assoc, mul_comm, mul_left_comm, mul-zero, arith}
use Rattle.std.proofs.Math.Nat.{mul-add-div_right}
use Rattle.std.proofs.Math.Arith.{digits_lt, digits_div, digits_mod}
use Rattle.std.proofs.Math.IntN.{sub_ℕ, zero-*ℤ}
use Rattle.ternary.proofs.Laws.Powers.{power_pos}
use Rattle.signed.specs.Laws.Sign.{pos-sub, sub_same, sub-size, sub-neg}
use Rattle.signed.specs.Laws.Times.{sub-times, times-neg, pos-more, pos-less}
use Rattle.cell.specs.declared.Cell.{Cell}
use Rattle.cell.specs.Cell.{IsCell}
use Rattle.cell.specs.Neighbour.{belt, rows, turn_of}
use Rattle.cell.proofs.Laws.Turns.{turn-of-face}
use Rattle.locate.specs.Fix.{CapPoint, quarter, turned_north}
use Rattle.nucleus.specs.Nucleus.{quotient, remainder, SentToBelt, SentToCap, north_point}
use Rattle.nucleus.specs.Internal.Caps.{cap_point, Beyond, sided, row_seen, rise, times}
use Rattle.nucleus.specs.Internal.MirrorLaws.{sided-size, sided-sign, multiples-seen, point-seen, middle-back}
use Rattle.nucleus.specs.Internal.Triangle.{middle, IsStart}
use Rattle.nucleus.specs.Internal.CapLaws.{room}

-- ---- a longitude in face b, x/d units from its western edge

module _ (b d x : ℕ) (l : x < d * quarter) where
  abbrev pub east : ℕ
  east = b * (d * quarter) + x

  pub quotient_is : quotient east d ≡ b
  quotient_is = digits_div b l

  pub remainder_is : remainder east d ≡ x
  remainder_is = digits_mod b l

  pub east-lt : b < 4 → east < 4 * (d * quarter)
  east-lt h = digits_lt h l

  pub east-floored : 0 < d → east / d ≡ b * quarter + x / d
  east-floored d0 =
      let e : b * (d * quarter) ≡ b * quarter * d = ap (λ (y : ℕ). b * y) (mul_comm d quarter) ∙ sym (mul_assoc b quarter d) in
      ap (λ (y : ℕ). (y + x) / d) e ∙ mul-add-div_right d0 (b * quarter) x

-- ---- the belt: d = m, z = 2 x 10^18 (m - (2i + 1)) / (3m)

-- the two sides of the row's equation for z = (p - q) / w
pub row-sides :
    (m i w p q : ℕ) →
    (2 * m * (2000000000000000000 * w + 3 * q) ≡ 2 * (w * (2000000000000000000 * m) + 3 * m * q)) ×
    (4000000000000000000 * w * i + 2 * m * (3 * p) ≡ 2 * (3 * m * p + w * (2000000000000000000 * i)))
row-sides m i w p q =
    let a : 2 * m * (3 * q) ≡ 2 * (3 * m * q) = omega (arith, mul_assoc 2 m (3 * q), mul_left_comm m 3 q, mul_assoc 3 m q) in
    let b : 2 * m * (3 * p) ≡ 2 * (3 * m * p) = omega (arith, mul_assoc 2 m (3 * p), mul_left_comm m 3 p, mul_assoc 3 m p) in
    let c : 2 * m * (2000000000000000000 * w) ≡ 2 * (w * (2000000000000000000 * m)) = simp (mul_assoc, mul_comm, mul_left_comm) in
    let d : 4000000000000000000 * w * i ≡ 2 * (w * (2000000000000000000 * i)) =
    omega (arith, mul_assoc 4000000000000000000 w i, mul_left_comm w 2000000000000000000 i)
    in
    (omega (arith, mul-add (2 * m) (2000000000000000000 * w) (3 * q)), omega arith)

module _ {c : Cell} (b : ℕ) (v : IsCell c) (hb : b < 4) (hf : c.face ≡ belt b) where
  abbrev belt_east : ℕ
  belt_east = b * (rows c * quarter) + 450000000 * (2 * c.column + 1)

  abbrev belt_rise : ℤ
  belt_rise = sub_ℕ (2000000000000000000 * rows c) (2000000000000000000 * (2 * c.row + 1))

  pub sent-belt : SentToBelt c belt_east (rows c) belt_rise (3 * rows c)
  sent-belt =
      let m : ℕ = rows c in
      let i : ℕ = 2 * c.row + 1 in
      let j : ℕ = 2 * c.column + 1 in
      let ri = v.rowed in
      let rj = v.columned in
      let l : 450000000 * j < m * quarter = omega arith in
      let p : ℕ = 2000000000000000000 * m in
      let q : ℕ = 2000000000000000000 * i in
      let x : ℕ = 2 * 10 ^ 18 * (3 * m) in
      record {
        face = ap belt (quotient_is b m (450000000 * j) l) ∙ sym hf;
        near = omega (arith, sub-size p q);
        column = ap (λ (y : ℕ). 2 * (y * m)) (remainder_is b m (450000000 * j) l) ∙ omega (arith, mul_assoc 450000000 j m, mul_comm m quarter, mul_assoc quarter m j, mul_comm j m);
        row =
            ap (λ (y : ℤ). pos (2 * m) *ℤ y) (ap (λ (y : ℤ). pos x -ℤ y) (sub-times 3 p q) ∙ pos-less x (3 * p) (3 * q))
            ∙ sub-times (2 * m) (x + 3 * q) (3 * p)
            ∙ sub_same (2 * m * (x + 3 * q)) (2 * m * (3 * p)) (4 * 10 ^ 18 * (3 * m) * i) 0 (omega (arith, row-sides m i (3 * m) p q))
            ∙ sym (pos-sub (4 * 10 ^ 18 * (3 * m) * i));
      }

-- ---- the caps: d = h, and |z| = 10^18 (3 m m - h h) / (3 m m)

-- m (1/2 + p) = j + 1/2, times the denominators
side-is : (m k a : ℕ) (z : ℤ) → z ≡ pos k *ℤ sub_ℕ a m → pos (m * k) +ℤ z ≡ pos (a * k)
side-is m k a z e =
    ap (λ (y : ℤ). pos (m * k) +ℤ y) (e ∙ sub-times k a m)
    ∙ pos-more (m * k) (k * a) (k * m)
    ∙ sub_same (m * k + k * a) (k * m) (a * k) 0 (omega (arith, mul_comm m k, mul_comm a k))
    ∙ sym (pos-sub (a * k))

height-even : (m h : ℕ) → h * h * (1000000000000000000 * (3 * (m * m))) ≡ 3 * (1000000000000000000 * (h * h)) * (m * m)
height-even m h = simp (mul_assoc, mul_comm, mul_left_comm)

sent-middle :
    {c : Cell} (h : ℕ) (x : CapPoint) (u : ℤ) → h < rows c →
    times (rows c * h) x ≡ times (h * quarter * rows c) (middle (rows c) (2 * c.column + 1) (2 * c.row + 1)) →
    nat_abs u ≡ rise (rows c) h → SentToCap c x h u (3 * (rows c * rows c)) h (rows c)
sent-middle {c} h x u hh at size =
    let m : ℕ = rows c in
    let i : ℕ = 2 * c.row + 1 in
    let k : ℕ = h * quarter * m in
    let r = room m h hh in
    record {
      positive = power_pos c.resolution;
      far = omega arith;
      within = omega arith;
      height = height-even m h ∙ ap (λ (y : ℕ). 3 * y * (m * m)) (omega arith);
      column = side-is m k (2 * c.column + 1) (pos (m * h) *ℤ x.0) (ap (λ (y : CapPoint). y.0) at);
      row =
          side-is m k i (neg_ℤ (pos (m * h) *ℤ x.1))
          (ap (λ (y : CapPoint). neg_ℤ y.1) at ∙ times-neg k (sub_ℕ m i) ∙ ap (λ (y : ℤ). pos k *ℤ y) (sub-neg m i));
    }

-- a start at a = 450,000,000 e / h
abbrev pub cap_east : (n r h e : ℕ) → ℕ
cap_east n r h e = (n + r) % 4 * (h * quarter) + 450000000 * e

-- a start so many times
pub times-start : (k h e r : ℕ) → times k (turned_north r (sub_ℕ e h, neg_ℤ (pos h))) ≡ turned_north r (sub_ℕ (k * e) (k * h), neg_ℤ (pos (k * h)))
unfolding turned_north
times-start k h e r =
    sym (times-turned r (sub_ℕ e h, neg_ℤ (pos h))) ∙ ap (turned_north r) (λ i. (sub-times k e h i, sym (times-neg k (pos h)) i))
  where
    times-turned : (r : ℕ) (x : CapPoint) → turned_north r (times k x) ≡ times k (turned_north r x)
    times-turned zero x = refl
    times-turned (suc r) x = ap (turned_north r) (λ i. (times-neg k x.1 i, pos k *ℤ x.0)) ∙ times-turned r (neg_ℤ x.1, x.0)

point-is :
    (m n r h e : ℕ) → n ≤ 3 → r < 4 → 450000000 * e < h * quarter →
    times (m * h) (north_point n (cap_east n r h e) h) ≡ times (h * quarter * m) (turned_north r (sub_ℕ e h, neg_ℤ (pos h)))
unfolding north_point
point-is m n r h e hn hr l =
    let q = quotient_is ((n + r) % 4) h (450000000 * e) l in
    let x = remainder_is ((n + r) % 4) h (450000000 * e) l in
    let t = ap (λ (y : ℕ). turn_of y n) q ∙ turn-of-face n r hn hr in
    let s = ap (λ (y : ℕ). sub_ℕ (2 * y) (h * quarter)) x ∙ sub_same (2 * (450000000 * e)) (h * quarter) (quarter * e) (h * quarter) (omega arith) in
    let u : m * h * (quarter * e) ≡ h * quarter * m * e = simp (mul_assoc, mul_comm, mul_left_comm) in
    let v : m * h * (h * quarter) ≡ h * quarter * m * h = simp (mul_assoc, mul_comm, mul_left_comm) in
    (λ i. times (m * h) (turned_north (t i) (s i, neg_ℤ (pos (h * quarter)))))
    ∙ times-start (m * h) (h * quarter) (quarter * e) r
    ∙ (λ i. turned_north r (sub_ℕ (u i) (v i), neg_ℤ (pos (v i))))
    ∙ sym (times-start (h * quarter * m) h e r)

pub sent-cap :
    (south : Bool) {c : Cell} (n r h e : ℕ) → IsCell c → n ≤ 3 → IsStart (rows c) (2 * c.column + 1) (row_seen south (rows c) (2 * c.row + 1)) r h e →
    let u = sided south (pos (rise (rows c) h)) in Beyond south u × SentToCap c (cap_point south n (cap_east n r h e) h) h u (3 * (rows c * rows c)) h (rows c)
sent-cap south {c} n r h e v hn s =
    let m : ℕ = rows c in
    let a : ℕ = 2 * c.column + 1 in
    let b : ℕ = 2 * c.row + 1 in
    let x : ℕ = cap_east n r h e in
    let k : ℕ = h * quarter * m in
    let g = room m h s.low in
    let w = s.within in
    let i = v.rowed in (
      (sided-sign south (rise m h) (omega arith)).1,
      sent-middle h (cap_point south n x h) (sided south (pos (rise m h))) s.low
          (ap (times (m * h)) (point-seen south n x h)
          ∙ multiples-seen south (m * h) k (north_point n x h) (middle m a (row_seen south m b)) (point-is m n r h e hn s.few (omega arith) ∙ ap (times k) s.point)
          ∙ ap (times k) (middle-back south m a b (omega arith)))
          (sided-size south (pos (rise m h))),
    )

-- ---- the poles: h = 0, at any longitude

pub nothing : (m : ℕ) (y : ℤ) → pos (m * 0) *ℤ y ≡ pos 0
nothing m y = ap (λ (k : ℕ). pos k *ℤ y) (mul-zero m) ∙ zero-*ℤ y

pub sent-pole :
    (c : Cell) (x : CapPoint) (u : ℤ) → nat_abs u ≡ 1000000000000000000 → 2 * c.row + 1 ≡ rows c → 2 * c.column + 1 ≡ rows c →
    SentToCap c x 1 u 1 0 1
sent-pole c x u at i j =
    let m : ℕ = rows c in
    record {
      positive = omega arith;
      far = omega arith;
      within = omega arith;
      height = ap (λ (y : ℕ). 3 * (1000000000000000000 - y) * 1) (sym at);
      column = ap (λ (y : ℤ). pos (m * quarter) +ℤ y) (nothing m x.0) ∙ ap pos (omega arith);
      row = ap (λ (y : ℤ). pos (m * quarter) -ℤ y) (nothing m x.1) ∙ ap pos (omega arith);
    }
