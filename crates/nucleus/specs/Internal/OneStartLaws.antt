-- A start, turned, lies in one triangle only; so the rules send one start to the middle of a cap's cell. Assumes nothing.
use Rattle.std.specs.Prelude.{◌≡◌, ℕ, ◌+◌, ◌*◌, ◌<◌, pos, neg_ℤ, ◌*ℤ◌}
use Rattle.std.proofs.Math.Path.{sym}
use Rattle.std.proofs.Common.{ap, ◌∙◌, ⊎_elim, mul_assoc, mul_comm, mul_left_comm, mul-pos, arith}
use Rattle.std.proofs.Math.Nat.{mul-lt-mul_of_pos_left, eq_of_mul-eq-mul_left, eq_of_mul-eq-mul_right}
use Rattle.std.proofs.Math.IntN.{sub_ℕ, neg_ℤ-neg_ℤ}
use Rattle.logic.specs.Laws.Order.{lt-or}
use Rattle.logic.specs.Choice.{four}
use Rattle.signed.specs.Laws.Sign.{pos-sub, neg-sub, sub_same, sub-neg}
use Rattle.signed.specs.Laws.Times.{sub-cross, sub-times}
use Rattle.cell.proofs.Laws.Turns.{four-cases}
use Rattle.locate.specs.Fix.{CapPoint, quarter, turned_north}
use Rattle.nucleus.specs.Internal.Triangle.{middle, IsStart}
use Rattle.nucleus.specs.Internal.Caps.{times}
use Rattle.nucleus.specs.Internal.SentLaws.{times-start, nothing}

-- ---- a start, turned, lies in one triangle only

placed :
    (h e r : ℕ) → r < 4 →
    turned_north r (sub_ℕ e h, neg_ℤ (pos h)) ≡ (sub_ℕ (four r e h h 0) (four r h 0 e h), sub_ℕ (four r 0 e h h) (four r h h 0 e))
unfolding turned_north
placed h e r l =
    four-cases
    (λ (r : ℕ). turned_north r (sub_ℕ e h, neg_ℤ (pos h)) ≡ (sub_ℕ (four r e h h 0) (four r h 0 e h), sub_ℕ (four r 0 e h h) (four r h h 0 e)))
    (λ i. (sub_ℕ e h, neg-sub h i))
    (λ i. (up i, sub_ℕ e h))
    (λ i. (sub-neg e h i, up i))
    (λ i. ((ap neg_ℤ (neg_ℤ-neg_ℤ (pos h)) ∙ neg-sub h) i, sub-neg e h i))
    r l
  where
    up : neg_ℤ (neg_ℤ (pos h)) ≡ sub_ℕ h 0
    up = neg_ℤ-neg_ℤ (pos h) ∙ pos-sub h

-- two such points that are equal
module _ (h e h' e' : ℕ) (h0 : 0 < h) (le : e < 2 * h) (l0 : 0 < h') (le' : e' < 2 * h') where
  Same : ℕ → ℕ → Type 0
  Same r s =
      (four r e h h 0 + four s h' 0 e' h' ≡ four s e' h' h' 0 + four r h 0 e h) →
      (four r 0 e h h + four s h' h' 0 e' ≡ four s 0 e' h' h' + four r h h 0 e) → (r ≡ s) × (h ≡ h') × (e ≡ e')

  same : (r s : ℕ) → r < 4 → s < 4 → Same r s
  unfolding Same
  same r s hr hs =
      four-cases (λ (r : ℕ). Same r s)
      (four-cases (λ (s : ℕ). Same 0 s) (λ p q. omega arith) (λ p q. omega arith) (λ p q. omega arith) (λ p q. omega arith) s hs)
      (four-cases (λ (s : ℕ). Same 1 s) (λ p q. omega arith) (λ p q. omega arith) (λ p q. omega arith) (λ p q. omega arith) s hs)
      (four-cases (λ (s : ℕ). Same 2 s) (λ p q. omega arith) (λ p q. omega arith) (λ p q. omega arith) (λ p q. omega arith) s hs)
      (four-cases (λ (s : ℕ). Same 3 s) (λ p q. omega arith) (λ p q. omega arith) (λ p q. omega arith) (λ p q. omega arith) s hs)
      r hr

  starts-once : (r s : ℕ) → r < 4 → s < 4 → turned_north r (sub_ℕ e h, neg_ℤ (pos h)) ≡ turned_north s (sub_ℕ e' h', neg_ℤ (pos h')) → (r ≡ s) × (h ≡ h') × (e ≡ e')
  unfolding Same
  starts-once r s hr hs x =
      let y = sym (placed h e r hr) ∙ x ∙ placed h' e' s hs in
      same r s hr hs (sub-cross _ _ _ _ (ap (λ (z : CapPoint). z.0) y)) (sub-cross _ _ _ _ (ap (λ (z : CapPoint). z.1) y))

-- at the centre a start has no height
no-height : (h e r : ℕ) → r < 4 → turned_north r (sub_ℕ e h, neg_ℤ (pos h)) ≡ (pos 0, pos 0) → h ≡ 0
no-height h e r l x =
    let y = sym (placed h e r l) ∙ x in
    four-cases (λ (r : ℕ). (four r e h h 0 + 0 ≡ 0 + four r h 0 e h) → (four r 0 e h h + 0 ≡ 0 + four r h h 0 e) → h ≡ 0)
    (λ p q. omega arith) (λ p q. omega arith) (λ p q. omega arith) (λ p q. omega arith) r l
    (sub-cross (four r e h h 0) (four r h 0 e h) 0 0 (ap (λ (z : CapPoint). z.0) y)) (sub-cross (four r 0 e h h) (four r h h 0 e) 0 0 (ap (λ (z : CapPoint). z.1) y))

-- ---- a cap: the start (2x - dQ, -dQ), turned t times and taken g/f times, against the middle of a cell

module _ (m a b d g f x t : ℕ) (m0 : 0 < m) (d0 : 0 < d) (f0 : 0 < f) (ht : t < 4)
    (sent : times (m * g) (turned_north t (sub_ℕ (2 * x) (d * quarter), neg_ℤ (pos (d * quarter)))) ≡ times (d * quarter * f) (middle m a b)) where
  began : turned_north t (sub_ℕ (m * g * (2 * x)) (m * g * (d * quarter)), neg_ℤ (pos (m * g * (d * quarter)))) ≡ times (d * quarter * f) (middle m a b)
  began = sym (times-start (m * g) (d * quarter) (2 * x) t) ∙ sent

  deep : 0 < d * quarter
  deep = omega arith

  -- at the centre g is 0
  pub centre-flat : a ≡ m → b ≡ m → g ≡ 0
  centre-flat p q =
      let k : ℕ = d * quarter * f in
      let v : k * a ≡ k * m = ap (λ (y : ℕ). k * y) p in
      let w : k * b ≡ k * m = ap (λ (y : ℕ). k * y) q in
      let first : pos k *ℤ sub_ℕ a m ≡ pos 0 = sub-times k a m ∙ sub_same (k * a) (k * m) 0 0 (omega arith) in
      let second : pos k *ℤ sub_ℕ m b ≡ pos 0 = sub-times k m b ∙ sub_same (k * m) (k * b) 0 0 (omega arith) in
      let e : times k (middle m a b) ≡ (pos 0, pos 0) = λ i. (first i, second i) in
      let z = no-height (m * g * (d * quarter)) (m * g * (2 * x)) t ht (began ∙ e) in
      ⊎_elim (λ l. absurd (omega (arith, mul-pos (mul-pos m0 l) deep))) (λ l. omega arith) (lt-or 0 g)

  -- elsewhere there is one turn, one height and one place along it
  module _ (r h e : ℕ) (l : x < d * quarter) (s : IsStart m a b r h e) where
    abbrev scale : ℕ
    scale = d * quarter * f

    scale-pos : 0 < scale * h
    scale-pos = mul-pos (mul-pos deep f0) s.tall

    ended : times scale (middle m a b) ≡ turned_north r (sub_ℕ (scale * e) (scale * h), neg_ℤ (pos (scale * h)))
    ended = ap (times scale) (sym s.point) ∙ times-start scale h e r

    rises : 0 < g
    rises =
        ⊎_elim (λ p. p)
        (λ p.
        let z : g ≡ 0 = omega arith in
        let y : CapPoint = turned_north t (sub_ℕ (2 * x) (d * quarter), neg_ℤ (pos (d * quarter))) in
        let w : times (m * g) y ≡ (pos 0, pos 0) = ap (λ (n : ℕ). times (m * n) y) z ∙ (λ i. (nothing m y.0 i, nothing m y.1 i)) in
        let n = no-height (scale * h) (scale * e) r s.few (sym ended ∙ sym sent ∙ w) in
        absurd (omega (arith, scale-pos)))
        (lt-or 0 g)

    -- one turn, m g = f h, and 2 x h = dQ e
    pub one-start : (t ≡ r) × (m * g ≡ f * h) × (2 * x * h ≡ d * quarter * e)
    one-start =
        let p : 0 < m * g = mul-pos m0 rises in
        let q : m * g * (2 * x) < 2 * (m * g * (d * quarter)) = omega (arith, mul_left_comm (m * g) 2 x, mul-lt-mul_of_pos_left l p) in
        let w : scale * e < 2 * (scale * h) = omega (arith, mul_left_comm scale 2 h, mul-lt-mul_of_pos_left s.within (mul-pos deep f0)) in
        let k = starts-once (m * g * (d * quarter)) (m * g * (2 * x)) (scale * h) (scale * e) (mul-pos p deep) q scale-pos w t r ht s.few (began ∙ ended) in
        let u : d * quarter * f * h ≡ f * h * (d * quarter) = simp (mul_assoc, mul_comm, mul_left_comm) in
        let tall : m * g ≡ f * h = eq_of_mul-eq-mul_right (d * quarter) deep (m * g) (f * h) (k.1 ∙ u) in
        let y : f * (2 * x * h) ≡ f * h * (2 * x) = simp (mul_assoc, mul_comm, mul_left_comm) in
        let z : d * quarter * f * e ≡ f * (d * quarter * e) = simp (mul_assoc, mul_comm, mul_left_comm) in
        (k.0, tall, eq_of_mul-eq-mul_left f f0 (2 * x * h) (d * quarter * e) (y ∙ ap (λ (y : ℕ). y * (2 * x)) (sym tall) ∙ k.2 ∙ z))
