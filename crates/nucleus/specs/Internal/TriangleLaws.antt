-- Each cell of a cap but the middle one has its middle in one of four triangles: how often its start was turned, the start's height and the place
-- along it. With a = 2j + 1 and b = 2i + 1 the middle is (a - m, m - b), and four comparisons of a with b and of a + b with 2m decide. Assumes nothing.
use Rattle.std.specs.Prelude.{◌≡◌, Bool, false, ◌&&◌, cond, ◌⊎◌, ℕ, ◌+◌, ◌-◌, ◌*◌, ◌≤◌, ◌<◌, ℤ, leb, ltb}
use Rattle.std.proofs.Math.Path.{refl, ap}
use Rattle.std.proofs.Common.{sym, ap₂, ◌∙◌, inl, inr, ⊎_elim, arith, le-leb, lt-ltb, le-ltb}
use Rattle.std.proofs.Math.Bool.{true}
use Rattle.std.proofs.Math.IntN.{sub_ℕ, neg_ℤ-neg_ℤ}
use Rattle.std.specs.Int.Signed.{lt_z}
use Rattle.std.proofs.lemmas.Bool.{lt-leb}
use Rattle.logic.specs.Laws.Order.{lt-or, three_ways}
use Rattle.signed.specs.Laws.Sign.{neg-sub, sub_same, sub-neg, sub-le, sub-lt}
use Rattle.locate.specs.Fix.{turned_north, turned_south}
use Rattle.nucleus.specs.Nucleus.{starts_north, turns_north}
use Rattle.nucleus.specs.Internal.Triangle.{middle, OffCentre, IsStart}
use Rattle.nucleus.specs.Internal.MirrorLaws.{turned-forth}

-- ---- a start's triangle, for differences of whole numbers

starts_is : (p q s t : ℕ) → starts_north (sub_ℕ p q, sub_ℕ s t) ≡ (leb (s + q) (p + t) && ltb (p + s) (t + q))
unfolding starts_north
starts_is p q s t = ap₂ ◌&&◌ (sub-le s t p q) (ap (λ (v : ℤ). lt_z (sub_ℕ p q) v) (sub-neg s t) ∙ sub-lt p q t s)

starts-yes : (p q s t : ℕ) → s + q ≤ p + t → p + s < t + q → starts_north (sub_ℕ p q, sub_ℕ s t) ≡ true
starts-yes p q s t h l = starts_is p q s t ∙ rw (le-leb (s + q) (p + t) h, lt-ltb (p + s) (t + q) l)

starts-low : (p q s t : ℕ) → p + t < s + q → starts_north (sub_ℕ p q, sub_ℕ s t) ≡ false
starts-low p q s t h = starts_is p q s t ∙ rw (lt-leb (s + q) (p + t) h)

starts-high : (p q s t : ℕ) → t + q ≤ p + s → starts_north (sub_ℕ p q, sub_ℕ s t) ≡ false
starts-high p q s t h = starts_is p q s t ∙ no (leb (s + q) (p + t)) (le-ltb (p + s) (t + q) h)
  where
    no : (x : Bool) {y : Bool} → y ≡ false → (x && y) ≡ false
    no true e = e
    no false e = refl

-- ---- the middle, turned back

module _ (m a b : ℕ) where
  once : turned_south 1 (middle m a b) ≡ (sub_ℕ m b, sub_ℕ m a)
  unfolding turned_south
  once = λ i. (sub_ℕ m b, sub-neg a m i)

  twice : turned_south 2 (middle m a b) ≡ (sub_ℕ m a, sub_ℕ b m)
  unfolding turned_south
  twice = λ i. (sub-neg a m i, sub-neg m b i)

  thrice : turned_south 3 (middle m a b) ≡ (sub_ℕ b m, sub_ℕ a m)
  unfolding turned_south
  thrice = λ i. (sub-neg m b i, neg_ℤ-neg_ℤ (sub_ℕ a m) i)

  -- the first turn that reaches a start's triangle
  turns_at :
      (p q r : Bool) → starts_north (middle m a b) ≡ p → starts_north (sub_ℕ m b, sub_ℕ m a) ≡ q → starts_north (sub_ℕ m a, sub_ℕ b m) ≡ r →
      turns_north (middle m a b) ≡ cond p 0 (cond q 1 (cond r 2 3))
  unfolding turns_north turned_south
  turns_at p q r e f g = rw (e, ap starts_north once ∙ f, ap starts_north twice ∙ g)

-- ---- the start of a middle that is not the centre

-- from the triangle's inequalities for the middle turned back, (p - q, s - t)
start-at :
    {m a b : ℕ} (r p q s t e : ℕ) → r < 4 → turned_south r (middle m a b) ≡ (sub_ℕ p q, sub_ℕ s t) → turns_north (middle m a b) ≡ r → OffCentre m a b →
    (s < t) × (t < s + m) × (p + s < t + q) × (e + q + s ≡ p + t) → IsStart m a b r (t - s) e
start-at {m} {a} {b} r p q s t e few back turns apart (l, k, n, o) =
    record {
      apart = apart;
      few = few;
      tall = omega arith;
      low = omega arith;
      within = omega arith;
      turns = turns;
      point =
          ap (turned_north r) (λ i. (sub_same e (t - s) p q (omega arith) i, (neg-sub (t - s) ∙ sub_same 0 (t - s) s t (omega arith)) i))
          ∙ ap (turned_north r) (sym back)
          ∙ turned-forth r (middle m a b);
    }

-- on the seam of turns 2 and 3, which ends at the centre
pub before-centre : (m a b : ℕ) → a + b ≤ 2 * m → a ≡ b → OffCentre m a b → a + b < 2 * m
before-centre m a b h e n = ⊎_elim (λ l. l) (λ l. absurd (n (omega arith) (omega arith))) (lt-or (a + b) (2 * m))

module _ (m a b : ℕ) (ha : 0 < a) (la : a < 2 * m) (hb : 0 < b) (lb : b < 2 * m) where
  pub start-0 : 2 * m ≤ a + b → a < b → IsStart m a b 0 (b - m) (a + b - 2 * m)
  unfolding turned_south
  start-0 h l =
      start-at 0 a m m b (a + b - 2 * m) (omega arith) refl
      (turns_at m a b true _ _ (starts-yes a m m b (omega arith) (omega arith)) refl refl) (λ x y. omega arith) (omega arith)

  pub start-1 : 2 * m < a + b → b ≤ a → IsStart m a b 1 (a - m) (a - b)
  start-1 h l =
      start-at 1 m b m a (a - b) (omega arith) (once m a b)
      (turns_at m a b false true _ (starts-high a m m b (omega arith)) (starts-yes m b m a (omega arith) (omega arith)) refl) (λ x y. omega arith) (omega arith)

  pub start-2 : a + b ≤ 2 * m → b < a → IsStart m a b 2 (m - b) (2 * m - (a + b))
  start-2 h l =
      start-at 2 m a b m (2 * m - (a + b)) (omega arith) (twice m a b)
      (turns_at m a b false false true (starts-high a m m b (omega arith)) (starts-high m b m a (omega arith)) (starts-yes m a b m (omega arith) (omega arith)))
      (λ x y. omega arith) (omega arith)

  pub start-3 : a + b < 2 * m → a ≤ b → IsStart m a b 3 (m - a) (b - a)
  start-3 h l =
      start-at 3 b m a m (b - a) (omega arith) (thrice m a b)
      (turns_at m a b false false false (starts-low a m m b (omega arith)) (starts-high m b m a (omega arith)) (starts-high m a b m (omega arith)))
      (λ x y. omega arith) (omega arith)

  -- one of the four holds
  pub start : OffCentre m a b → (r : ℕ) × (h : ℕ) × (e : ℕ) × IsStart m a b r h e
  start n =
      ⊎_elim
      (λ l.
      ⊎_elim (λ s. (3, m - a, b - a, start-3 s (omega arith))) (λ s. (0, b - m, a + b - 2 * m, start-0 s l))
      (lt-or (a + b) (2 * m)))
      (λ l.
      ⊎_elim (λ s. (1, a - m, a - b, start-1 s l))
      (λ s. ⊎_elim (λ t. (2, m - b, 2 * m - (a + b), start-2 s t)) (λ t. (3, m - a, b - a, start-3 (before-centre m a b s (omega arith) n) (omega arith))) (lt-or b a))
      (lt-or (2 * m) (a + b)))
      (lt-or a b)

-- the centre, or not
pub centre-or : (m a b : ℕ) → ((a ≡ m) × (b ≡ m)) ⊎ OffCentre m a b
centre-or m a b = go (three_ways a m) (three_ways b m)
  where
    go : (a < m) ⊎ ((a ≡ m) ⊎ (m < a)) → (b < m) ⊎ ((b ≡ m) ⊎ (m < b)) → ((a ≡ m) × (b ≡ m)) ⊎ OffCentre m a b
    go (inr (inl p)) (inr (inl q)) = inl (p, q)
    go (inl p) q = inr (λ x y. omega arith)
    go (inr (inr p)) q = inr (λ x y. omega arith)
    go (inr (inl p)) (inl q) = inr (λ x y. omega arith)
    go (inr (inl p)) (inr (inr q)) = inr (λ x y. omega arith)
