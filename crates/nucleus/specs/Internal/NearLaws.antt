-- Flooring moves a cap's nucleus by less than half a cell, so that the floors over the root are the cell's column and row. Assumes nothing.
use Rattle.std.specs.Prelude.{◌≡◌, refl, Bool, true, false, not, ℕ, zero, suc, ◌+◌, ◌-◌, ◌*◌, ◌/◌, ◌≤◌, ◌<◌, ℤ, pos, neg_ℤ}
use Rattle.std.proofs.Common.{sym, ap, ◌∙◌, subst, ⊎_elim, le_of_lt, le_refl, mul_assoc, mul_comm, mul_left_comm, mul-add, add-mul, mul-le-mul, mul-le-mul_left, mul-le-mul_right, add_assoc, div-lt_iff_lt-mul, le-div_iff_mul-le, arith}
use Rattle.std.proofs.Math.IntN.{sub_ℕ, neg_ℤ-neg_ℤ}
use Rattle.logic.specs.Laws.Order.{lt-or}
use Rattle.signed.specs.Sign.{with_sign}
use Rattle.signed.specs.Laws.Sign.{pos-sub, neg-sub, sub-neg, sub_at}
use Rattle.signed.specs.Laws.Times.{sub-cross}
use Rattle.division.specs.Laws.Division.{low, high}
use Rattle.root.specs.Floor.{square, root_floor}
use Rattle.root.specs.Laws.Square.{square_le, square-mul, plus-under, plus-square, plus-not, minus_is, minus-over, minus-not}
use Rattle.root.specs.Laws.Floor.{plus-exact, minus-exact}
use Rattle.locate.specs.Fix.{CapPoint, quarter, turned_north}
use Rattle.nucleus.specs.Internal.Caps.{seen}

-- a square of a product, sorted
regroup : (m g t : ℕ) → square (m * g) * t ≡ square g * (m * m * t)
regroup m g t = simp (mul_assoc, mul_comm, mul_left_comm)

spread : (a d : ℕ) → (a + d) * (a + d) ≡ a * a + (a * d + (a * d + d * d))
spread a d = simp (mul-add, add-mul, mul_comm, add_assoc)

-- a slack of a number is a slack of its square
grow : (a d : ℕ) → a * a + d * d ≤ (a + d) * (a + d)
grow a d = omega (arith, spread a d)

-- ---- The slack. h is below m, and t stands for 10^18 h h / (m m), to within 3; g / 900,000,000 stands for v / h, to within 2 / 900,000,000.

module _ (m h t g v : ℕ) (hm : m ≤ 14348907) (hh : h < m) (hg : g ≤ quarter)
    (t-low : 1000000000000000000 * (h * h) ≤ m * m * t + 3 * (m * m)) (t-high : m * m * t ≤ 1000000000000000000 * (h * h) + 3 * (m * m))
    (g-low : quarter * v ≤ g * h + 2 * h) (g-high : g * h ≤ quarter * v + 2 * h) where
  scaled : (x : ℕ) → square (900000000000000000 * x) ≡ 1000000000000000000 * square (quarter * x)
  scaled x = ap square (mul_assoc 1000000000 quarter x) ∙ square-mul 1000000000 (quarter * x)

  -- m m g g t is 10^18 g g h h, to within 3 g g m m
  spans :
      (1000000000000000000 * square (g * h) ≤ square (m * g) * t + 3 * (square g * (m * m))) ×
      (square (m * g) * t ≤ 1000000000000000000 * square (g * h) + 3 * (square g * (m * m))) × (square g * (m * m) ≤ quarter * quarter * (14348907 * 14348907))
  spans =
      let b : square g * (1000000000000000000 * (h * h)) ≤ square g * (m * m * t + 3 * (m * m)) = mul-le-mul_left (square g) t-low in
      let c : square g * (m * m * t) ≤ square g * (1000000000000000000 * (h * h) + 3 * (m * m)) = mul-le-mul_left (square g) t-high in
      let d = mul-add (square g) (m * m * t) (3 * (m * m)) in
      let n = mul-add (square g) (1000000000000000000 * (h * h)) (3 * (m * m)) in
      let e = mul_left_comm (square g) 1000000000000000000 (h * h) in
      let f = mul_left_comm (square g) 3 (m * m) in
      let k : square (g * h) ≡ square g * (h * h) = square-mul g h in
      let o = regroup m g t in
      (omega arith, omega arith, mul-le-mul (mul-le-mul hg hg) (mul-le-mul hm hm))

  -- 9 x 10^17 (v - 1) is below m g √t, and 9 x 10^17 (v + 1) is above it
  below : 0 < v → square (900000000000000000 * (v - 1)) < square (m * g) * t
  below v0 =
      let a : square (quarter * (v - 1) + 871302188) ≤ square (g * h) = square_le (omega arith) in
      omega (arith, spans, grow (quarter * (v - 1)) 871302188, scaled (v - 1))

  above : square (m * g) * t < square (900000000000000000 * (v + 1))
  above =
      let a : square (g * h + 871302188) ≤ square (quarter * (v + 1)) = square_le (omega arith) in
      omega (arith, spans, grow (g * h) 871302188, scaled (v + 1))

  v-small : v ≤ h
  v-small = let k : g * h ≤ quarter * h = mul-le-mul_right h hg in omega arith

  -- the floor on either side of the centre
  hit-plus : (w : ℕ) → 2 * w + 1 ≡ m + v → root_floor m t (pos g) ≡ w
  hit-plus w e =
      let s = v-small in
      plus-exact m t g w (omega arith)
      (⊎_elim
      (λ p. plus-square m t g w (subst (λ (x : ℕ). square (900000000000000000 * x) ≤ square (m * g) * t) (omega arith) (le_of_lt (below p))))
      (λ p. plus-under m t g w (omega arith))
      (lt-or 0 v))
      (plus-not m t g (w + 1) (omega arith) (subst (λ (x : ℕ). square (m * g) * t < square (900000000000000000 * x)) (omega arith) above))

  hit-minus : 0 < g → (w : ℕ) → 2 * w + 1 + v ≡ m → root_floor m t (neg_ℤ (pos g)) ≡ w
  hit-minus g0 w e =
      minus-exact m t g w g0 (omega arith)
      (minus_is m t g w (omega arith) (subst (λ (x : ℕ). square (m * g) * t ≤ square (900000000000000000 * x)) (omega arith) (le_of_lt above)))
      (⊎_elim
      (λ p. minus-not m t g (w + 1) (subst (λ (x : ℕ). square (900000000000000000 * x) < square (m * g) * t) (omega arith) (below p)))
      (λ p. minus-over m t g (w + 1) (omega arith))
      (lt-or 0 v))

-- ---- a number x near 900,000,000 y / h, with the sign of both

pub record Near (h : ℕ) (x y : ℤ) : Type 0 where
  pub minus : Bool
  pub g : ℕ
  pub v : ℕ
  pub x-is : x ≡ with_sign minus g
  pub y-is : y ≡ with_sign minus v
  pub small : g ≤ quarter
  pub low : quarter * v ≤ g * h + 2 * h
  pub high : g * h ≤ quarter * v + 2 * h

opposite : (b : Bool) (g : ℕ) → neg_ℤ (with_sign b g) ≡ with_sign (not b) g
opposite false g = refl
opposite true g = neg_ℤ-neg_ℤ (pos g)

pub near-neg : {h : ℕ} {x y : ℤ} → Near h x y → Near h (neg_ℤ x) (neg_ℤ y)
near-neg n =
    record {
      minus = not n.minus;
      g = n.g;
      v = n.v;
      x-is = ap neg_ℤ n.x-is ∙ opposite n.minus n.g;
      y-is = ap neg_ℤ n.y-is ∙ opposite n.minus n.v;
      small = n.small;
      low = n.low;
      high = n.high;
    }

-- turning, and the mirror, keep what is near near
abbrev pub Nears : ℕ → CapPoint → CapPoint → Type 0
Nears h a b = Near h a.0 b.0 × Near h a.1 b.1

pub near-turned : (h r : ℕ) (a b : CapPoint) → Nears h a b → Nears h (turned_north r a) (turned_north r b)
unfolding turned_north
near-turned h zero a b n = n
near-turned h (suc r) a b n = near-turned h r (neg_ℤ a.1, a.0) (neg_ℤ b.1, b.0) (near-neg n.1, n.0)

pub near-seen : (south : Bool) {h : ℕ} (a b : CapPoint) → Nears h a b → Nears h (seen south a) (seen south b)
near-seen true a b n = (n.0, near-neg n.1)
near-seen false a b n = n

-- the row or column w whose middle lies (2w + 1 - m) / 2m from the centre
module _ (m h t : ℕ) (hm : m ≤ 14348907) (hh : h < m)
    (t-low : 1000000000000000000 * (h * h) ≤ m * m * t + 3 * (m * m)) (t-high : m * m * t ≤ 1000000000000000000 * (h * h) + 3 * (m * m)) where
  hit-signed : (b : Bool) (g v w : ℕ) → g ≤ quarter → quarter * v ≤ g * h + 2 * h → g * h ≤ quarter * v + 2 * h → with_sign b v ≡ sub_ℕ (2 * w + 1) m → root_floor m t
      (with_sign b g) ≡ w
  hit-signed false g v w s l u e =
      let f = sub-cross v 0 (2 * w + 1) m (sym (pos-sub v) ∙ e) in
      hit-plus m h t g v hm hh s t-low t-high l u w (omega arith)
  hit-signed true zero v w s l u e =
      let f = sub-cross 0 v (2 * w + 1) m (sym (neg-sub v) ∙ e) in
      hit-plus m h t 0 v hm hh s t-low t-high l u w (omega arith)
  hit-signed true (suc g) v w s l u e =
      let f = sub-cross 0 v (2 * w + 1) m (sym (neg-sub v) ∙ e) in
      hit-minus m h t (suc g) v hm hh s t-low t-high l u (omega arith) w (omega arith)

  pub hit : (x y : ℤ) (w : ℕ) → Near h x y → y ≡ sub_ℕ (2 * w + 1) m → root_floor m t x ≡ w
  hit x y w n e =
      ap (root_floor m t) n.x-is
      ∙ hit-signed n.minus n.g n.v w n.small n.low n.high (sym n.y-is ∙ e)

-- ---- the two numbers of a start

-- two differences that are not negative
near-above :
    (h p q s t : ℕ) →
    (q ≤ p) × (t ≤ s) × (p ≤ q + quarter) × (quarter * s + q * h ≤ p * h + quarter * t + 2 * h) × (p * h + quarter * t ≤ quarter * s + q * h + 2 * h) →
    Near h (sub_ℕ p q) (sub_ℕ s t)
near-above h p q s t (u, v, w, l, k) =
    let e : (p - q + q) * h ≡ (p - q) * h + q * h = add-mul (p - q) q h in
    let f : (p - q + q) * h ≡ p * h = ap (λ (x : ℕ). x * h) (omega arith) in
    record { minus = false; g = p - q; v = s - t; x-is = sub_at p q u; y-is = sub_at s t v; small = omega arith; low = omega arith; high = omega arith }

-- the longitude, a = 450,000,000 e / h, floored
module _ (h e : ℕ) (h0 : 0 < h) (he : e < 2 * h) where
  abbrev along : ℕ
  along = 450000000 * e / h

  pub along-lt : along < quarter
  along-lt = (div-lt_iff_lt-mul {k = h} {x = 450000000 * e} {y = quarter} h0).1 (omega arith)

  east-side : h ≤ e → 450000000 ≤ along
  east-side l = (le-div_iff_mul-le {k = h} {x = 450000000} {y = 450000000 * e} h0).1 (omega arith)

  west-side : e < h → along < 450000000
  west-side l = (div-lt_iff_lt-mul {k = h} {x = 450000000 * e} {y = 450000000} h0).1 (omega arith)

  pub near-along : Near h (sub_ℕ (2 * along) quarter) (sub_ℕ e h)
  near-along =
      let a = low (450000000 * e) h in
      let b = high (450000000 * e) h h0 in
      let f : 2 * along * h ≡ 2 * (along * h) = mul_assoc 2 along h in
      let k = along-lt in
      ⊎_elim
      (λ l.
      let w = west-side l in
      let n = near-neg (near-above h quarter (2 * along) h e (omega arith)) in
      subst (λ (y : ℤ). Near h (sub_ℕ (2 * along) quarter) y) (sub-neg h e) (subst (λ (x : ℤ). Near h x (neg_ℤ (sub_ℕ h e))) (sub-neg quarter (2 * along)) n))
      (λ l. let w = east-side l in near-above h (2 * along) quarter e h (omega arith))
      (lt-or e h)

-- the other number stands for the height itself
pub near-half : (h : ℕ) (b : Bool) → Near h (with_sign b quarter) (with_sign b h)
near-half h b =
    record { minus = b; g = quarter; v = h; x-is = refl; y-is = refl; small = le_refl quarter; low = omega arith; high = omega arith }
