-- Fractions that the rules send to the middle of a cell are those of the computing form, but for the longitude at a pole. Assumes nothing.
use Rattle.std.specs.Prelude.{◌≡◌, Bool, ℤ, pos, neg_ℤ, ◌+ℤ◌, ◌-ℤ◌, ◌*ℤ◌}
use Rattle.std.proofs.Math.Path.{sym, ap}
use Rattle.std.proofs.Common.{ap₂, ◌∙◌, mul_assoc, mul_comm, mul_left_comm, mul-add, add-mul, div-add-mod', mod-lt, div-lt_iff_lt-mul}
use Rattle.std.proofs.Math.Bool.{true, false}
use Rattle.std.proofs.Math.Logic.{⊎_elim}
use Prim.Native.Nat.{ℕ, ◌+◌, ◌-◌, ◌*◌, ◌%◌, ◌≤◌, ◌<◌}
use Rattle.std.proofs.Math.Nat.{zero-mul, mul-pos, eq_of_mul-eq-mul_left}
use native.Mathlib.Omega.{arith}
use Rattle.std.proofs.Math.IntN.{nat_abs, sub_ℕ, neg_ℤ-neg_ℤ}
use Rattle.logic.specs.Laws.Order.{lt-or}
use Rattle.ternary.proofs.Laws.Powers.{power_pos}
use Rattle.signed.specs.Laws.Sign.{pos-sub, sub_same, sub-neg}
use Rattle.signed.specs.Laws.Times.{sub-cross, sub-times, times-neg, pos-more, pos-less, a-difference}
use Rattle.cell.specs.declared.Cell.{Cell}
use Rattle.cell.specs.Neighbour.{belt, rows, turn_of}
use Rattle.cell.proofs.Laws.Turns.{face-of-turn}
use Rattle.locate.specs.Fix.{CapPoint, quarter}
use Rattle.nucleus.specs.Nucleus.{quotient, remainder, SentToBelt, SentToCap, north_point}
use Rattle.nucleus.specs.Internal.Caps.{cap_point, Beyond, sided, row_seen, rise, times}
use Rattle.nucleus.specs.Internal.MirrorLaws.{sided-fraction, multiples-seen, point-back, middle-seen}
use Rattle.nucleus.specs.Internal.Triangle.{middle, IsStart}
use Rattle.nucleus.specs.Internal.CapLaws.{room}
use Rattle.nucleus.specs.Internal.SentLaws.{cap_east, row-sides}
use Rattle.nucleus.specs.Internal.OneStartLaws.{centre-flat, one-start}
use Rattle.nucleus.specs.Internal.FractionLaws.{Known}

-- ---- what SentToCap says of the point

across : (m k s a : ℕ) (x : ℤ) → pos (m * k) +ℤ pos s *ℤ x ≡ pos (a * k) → pos s *ℤ x ≡ pos k *ℤ sub_ℕ a m
across m k s a x e =
    let w = a-difference (pos s *ℤ x) in
    let p : ℕ = w.0 in
    let q : ℕ = w.1 in
    let f = sub-cross (m * k + p) q (a * k) 0 (sym (pos-more (m * k) p q) ∙ ap (λ (z : ℤ). pos (m * k) +ℤ z) (sym w.2) ∙ e ∙ pos-sub (a * k)) in
    w.2 ∙ sub_same p q (k * a) (k * m) (omega (arith, mul_comm m k, mul_comm a k)) ∙ sym (sub-times k a m)

point-is :
    {c : Cell} {x : CapPoint} {d : ℕ} {u : ℤ} {v g f : ℕ} → SentToCap c x d u v g f →
    times (rows c * g) x ≡ times (d * quarter * f) (middle (rows c) (2 * c.column + 1) (2 * c.row + 1))
point-is {c} {x} {d} {u} {v} {g} {f} s =
    let m : ℕ = rows c in
    let k : ℕ = d * quarter * f in
    let b : ℕ = 2 * c.row + 1 in
    let p = across m k (m * g) (2 * c.column + 1) x.0 s.column in
    let q = across m k (m * g) b (neg_ℤ x.1) (ap (λ (z : ℤ). pos (m * k) +ℤ z) (sym (times-neg (m * g) x.1)) ∙ s.row) in
    let r : pos (m * g) *ℤ x.1 ≡ pos k *ℤ sub_ℕ m b =
    ap (λ (z : ℤ). pos (m * g) *ℤ z) (sym (neg_ℤ-neg_ℤ x.1))
    ∙ sym (times-neg (m * g) (neg_ℤ x.1))
    ∙ ap neg_ℤ q
    ∙ times-neg k (sub_ℕ b m)
    ∙ ap (λ (z : ℤ). pos k *ℤ z) (sub-neg b m)
    in
    λ i. (p i, r i)

-- ---- the fractions

-- the longitude: E / d is the computing form's
east-one :
    (n r h e E d : ℕ) → n ≤ 3 → 0 < d → E < 4 * (d * quarter) → turn_of (quotient E d) n ≡ r → 2 * remainder E d * h ≡ d * quarter * e →
    E * h ≡ cap_east n r h e * d
east-one n r h e E d hn d0 l t a =
    let q : ℕ = quotient E d in
    let x : ℕ = remainder E d in
    let s : q * (d * quarter) + x ≡ E = div-add-mod' E (d * quarter) in
    let k : q < 4 = (div-lt_iff_lt-mul {k = d * quarter} {x = E} {y = 4} (omega arith)).1 l in
    let f : (n + r) % 4 ≡ q = ap (λ (y : ℕ). (n + y) % 4) (sym t) ∙ face-of-turn n q hn k in
    let u : q * (d * quarter) * h ≡ q * (h * quarter) * d = simp (mul_assoc, mul_comm, mul_left_comm) in
    let v : (q * (d * quarter) + x) * h ≡ q * (d * quarter) * h + x * h = add-mul (q * (d * quarter)) x h in
    let w : (q * (h * quarter) + 450000000 * e) * d ≡ q * (h * quarter) * d + 450000000 * e * d = add-mul (q * (h * quarter)) (450000000 * e) d in
    let b : (q * (d * quarter) + x) * h ≡ (q * (h * quarter) + 450000000 * e) * d =
    omega (arith, mul_assoc 2 x h, mul_assoc 450000000 e d, mul_comm d quarter, mul_assoc quarter d e, mul_comm d e)
    in
    ap (λ (y : ℕ). y * h) (sym s) ∙ b ∙ ap (λ (y : ℕ). (y * (h * quarter) + 450000000 * e) * d) (sym f)

-- |z|: from the height
size-one : (m h g f w z y : ℕ) → 0 < f → m * g ≡ f * h → w + z ≡ y → g * g * y ≡ 3 * z * (f * f) → 3 * (m * m) * w + h * h * y ≡ 3 * (m * m) * y
size-one m h g f w z y f0 e s k =
    let a : f * f * (h * h * y) ≡ f * h * (f * h) * y = simp (mul_assoc, mul_comm, mul_left_comm) in
    let b : m * g * (m * g) * y ≡ m * m * (g * g * y) = simp (mul_assoc, mul_comm, mul_left_comm) in
    let c : m * m * (3 * z * (f * f)) ≡ f * f * (3 * (m * m) * z) = simp (mul_assoc, mul_comm, mul_left_comm) in
    let d : h * h * y ≡ 3 * (m * m) * z =
    eq_of_mul-eq-mul_left (f * f) (mul-pos f0 f0) (h * h * y) (3 * (m * m) * z)
    (a ∙ ap (λ (x : ℕ). x * x * y) (sym e) ∙ b ∙ ap (λ (x : ℕ). m * m * x) k ∙ c)
    in
    ap (λ (x : ℕ). 3 * (m * m) * w + x) d ∙ sym (mul-add (3 * (m * m)) w z) ∙ ap (λ (x : ℕ). 3 * (m * m) * x) s

-- ---- the belt

pub known-belt :
    {c : Cell} {e d : ℕ} {u : ℤ} {w : ℕ} (b : ℕ) → c.face ≡ belt b → SentToBelt c e d u w →
    Known (b * (rows c * quarter) + 450000000 * (2 * c.column + 1)) (rows c) (sub_ℕ (2000000000000000000 * rows c) (2000000000000000000 * (2 * c.row + 1))) (3 * rows c) e d u w
known-belt {c} {e} {d} {u} {w} b f s =
    let m : ℕ = rows c in
    let i : ℕ = 2 * c.row + 1 in
    let j : ℕ = 2 * c.column + 1 in
    let x : ℕ = remainder e d in
    let k : quotient e d ≡ b = omega (arith, s.face) in
    let t : b * (d * quarter) + x ≡ e = ap (λ (y : ℕ). y * (d * quarter) + x) (sym k) ∙ div-add-mod' e (d * quarter) in
    let g : b * (d * quarter) * m ≡ b * (m * quarter) * d = simp (mul_assoc, mul_comm, mul_left_comm) in
    let h : x * m ≡ 450000000 * j * d = omega (arith, s.column, mul_assoc 450000000 j d, mul_comm d quarter, mul_assoc quarter d j, mul_comm d j) in
    let o = a-difference u in
    let p : ℕ = o.0 in
    let q : ℕ = o.1 in
    let y : ℕ = 2000000000000000000 * w in
    let r : pos (2 * m) *ℤ (pos y -ℤ pos 3 *ℤ u) ≡ sub_ℕ (2 * m * (y + 3 * q)) (2 * m * (3 * p)) =
    ap (λ (z : ℤ). pos (2 * m) *ℤ (pos y -ℤ pos 3 *ℤ z)) o.2
    ∙ ap (λ (z : ℤ). pos (2 * m) *ℤ (pos y -ℤ z)) (sub-times 3 p q)
    ∙ ap (λ (z : ℤ). pos (2 * m) *ℤ z) (pos-less y (3 * p) (3 * q))
    ∙ sub-times (2 * m) (y + 3 * q) (3 * p)
    in
    let n = sub-cross (2 * m * (y + 3 * q)) (2 * m * (3 * p)) (4000000000000000000 * w * i) 0 (sym r ∙ s.row ∙ pos-sub (4000000000000000000 * w * i)) in
    record {
      east =
          ap (λ (z : ℕ). z * m) (sym t)
          ∙ add-mul (b * (d * quarter)) x m
          ∙ ap₂ ◌+◌ g h
          ∙ sym (add-mul (b * (m * quarter)) (450000000 * j) d);
      rise =
          ap (λ (z : ℤ). pos (3 * m) *ℤ z) o.2
          ∙ sub-times (3 * m) p q
          ∙ sub_same (3 * m * p) (3 * m * q) (w * (2000000000000000000 * m)) (w * (2000000000000000000 * i)) (omega (arith, n, row-sides m i w p q))
          ∙ sym (sub-times w (2000000000000000000 * m) (2000000000000000000 * i));
    }

-- ---- the caps

-- the size of z's fraction
sizes :
    (m h w v : ℕ) → h < m → 3 * (m * m) * w + h * h * (1000000000000000000 * v) ≡ 3 * (m * m) * (1000000000000000000 * v) →
    3 * (m * m) * w ≡ v * rise m h
sizes m h w v l e =
    let r = room m h l in
    let s = mul-add v (rise m h) (1000000000000000000 * (h * h)) in
    let p : v * (rise m h + 1000000000000000000 * (h * h)) ≡ v * (1000000000000000000 * (3 * (m * m))) = ap (λ (x : ℕ). v * x) (omega arith) in
    let a : v * (1000000000000000000 * (h * h)) ≡ h * h * (1000000000000000000 * v) = simp (mul_assoc, mul_comm, mul_left_comm) in
    let b : v * (1000000000000000000 * (3 * (m * m))) ≡ 3 * (m * m) * (1000000000000000000 * v) = simp (mul_assoc, mul_comm, mul_left_comm) in
    omega arith

module _ (south : Bool) {c : Cell} {u : ℤ} {d v g f : ℕ} (n e : ℕ) (d0 : 0 < d) (i : c.row < rows c) (s : SentToCap c (cap_point south n e d) d u v g f) where
  abbrev m : ℕ
  m = rows c

  abbrev a : ℕ
  a = 2 * c.column + 1

  abbrev b : ℕ
  b = row_seen south m (2 * c.row + 1)

  -- the point, seen in the north
  north-is : times (m * g) (north_point n e d) ≡ times (d * quarter * f) (middle m a b)
  north-is =
      ap (times (m * g)) (sym (point-back south n e d))
      ∙ multiples-seen south (m * g) (d * quarter * f) (cap_point south n e d) (middle m a (2 * c.row + 1)) (point-is s)
      ∙ ap (times (d * quarter * f)) (middle-seen south m a (2 * c.row + 1) (omega arith))

  pub known-cap :
      (r h o : ℕ) → n ≤ 3 → e < 4 * (d * quarter) → Beyond south u → IsStart m a b r h o →
      Known (cap_east n r h o) h (sided south (pos (rise m h))) (3 * (m * m)) e d u v
  unfolding north_point
  known-cap r h o hn l p w =
      let y : ℕ = 1000000000000000000 * v in
      let k = one-start m a b d g f (remainder e d) (turn_of (quotient e d) n) (power_pos c.resolution) d0 s.positive (omega arith) north-is r h o (mod-lt e (omega arith)) w in
      let z = size-one m h g f (nat_abs u) (y - nat_abs u) y s.positive k.1 (omega (arith, s.within)) s.height in
      record {
        east = east-one n r h o e d hn d0 l k.0 k.2;
        rise = sided-fraction south (3 * (m * m)) v (rise m h) u p (sizes m h (nat_abs u) v w.low z);
      }

  -- at a pole |z| is 10^18
  pub flat-cap : a ≡ m → 2 * c.row + 1 ≡ m → nat_abs u ≡ 1000000000000000000 * v
  unfolding north_point
  flat-cap p q =
      let y : ℕ = 1000000000000000000 * v in
      let at : b ≡ m = centre-row south in
      let z = centre-flat m a b d g f (remainder e d) (turn_of (quotient e d) n) (power_pos c.resolution) d0 s.positive (omega arith) north-is p at in
      let w : 3 * (y - nat_abs u) * (f * f) ≡ 0 = sym s.height ∙ ap (λ (k : ℕ). k * k * y) z ∙ zero-mul y in
      ⊎_elim
      (λ p. absurd (omega (arith, mul-pos {m = 3 * (y - nat_abs u)} {n = f * f} (omega arith) (mul-pos s.positive s.positive))))
      (λ p. omega (arith, s.within))
      (lt-or 0 (y - nat_abs u))
    where
      centre-row : (t : Bool) → row_seen t m (2 * c.row + 1) ≡ m
      centre-row true = omega arith
      centre-row false = q
