-- Fractions that are equal to one fraction are equal. Assumes nothing.
use Rattle.std.specs.Prelude.{◌≡◌, ℕ, ◌+◌, ◌*◌, ◌<◌, ℤ, pos, ◌*ℤ◌}
use Rattle.std.proofs.Common.{sym, ap, ◌∙◌, mul_left_comm, mul_right_comm, mul-add, arith}
use Rattle.std.proofs.Math.Nat.{eq_of_mul-eq-mul_left, eq_of_mul-eq-mul_right}
use Rattle.std.proofs.Math.IntN.{sub_ℕ}
use Rattle.signed.specs.Laws.Sign.{sub_same}
use Rattle.signed.specs.Laws.Times.{sub-cross, sub-times, a-difference}

-- e/d is E/D, and u/v is U/K
pub record Known (E D : ℕ) (U : ℤ) (K e d : ℕ) (u : ℤ) (v : ℕ) : Type 0 where
  pub east : e * D ≡ E * d
  pub rise : pos K *ℤ u ≡ pos v *ℤ U

pub east-same : (E D e d e' d' : ℕ) → 0 < D → e * D ≡ E * d → e' * D ≡ E * d' → e * d' ≡ e' * d
east-same E D e d e' d' D0 p q =
    eq_of_mul-eq-mul_right D D0 (e * d') (e' * d)
    (mul_right_comm e d' D ∙ ap (λ (x : ℕ). x * d') p ∙ mul_right_comm E d d' ∙ ap (λ (x : ℕ). x * d) (sym q) ∙ mul_right_comm e' D d)

crossed : (K v v' p q p' q' P R : ℕ) → K * p + v * R ≡ v * P + K * q → K * p' + v' * R ≡ v' * P + K * q' → K * (v' * p + v * q') ≡ K * (v * p' + v' * q)
crossed K v v' p q p' q' P R s t =
    let a : v' * (K * p + v * R) ≡ v' * (v * P + K * q) = ap (λ (x : ℕ). v' * x) s in
    let b : v * (K * p' + v' * R) ≡ v * (v' * P + K * q') = ap (λ (x : ℕ). v * x) t in
    omega (
      arith,
      mul-add v' (K * p) (v * R),
      mul-add v' (v * P) (K * q),
      mul-add v (K * p') (v' * R),
      mul-add v (v' * P) (K * q'),
      mul-add K (v' * p) (v * q'),
      mul-add K (v * p') (v' * q),
      mul_left_comm v' K p,
      mul_left_comm v' v R,
      mul_left_comm v' v P,
      mul_left_comm v' K q,
      mul_left_comm v K p',
      mul_left_comm v K q',
    )

pub rise-same : (U : ℤ) (K : ℕ) (u : ℤ) (v : ℕ) (u' : ℤ) (v' : ℕ) → 0 < K → pos K *ℤ u ≡ pos v *ℤ U → pos K *ℤ u' ≡ pos v' *ℤ U → pos v' *ℤ u ≡
    pos v *ℤ u'
rise-same U K u v u' v' K0 x x' = go (a-difference U) (a-difference u) (a-difference u')
  where
    lines : (P R p q w : ℕ) (y : ℤ) → U ≡ sub_ℕ P R → y ≡ sub_ℕ p q → pos K *ℤ y ≡ pos w *ℤ U → K * p + w * R ≡ w * P + K * q
    lines P R p q w y e f z =
        sub-cross (K * p) (K * q) (w * P) (w * R)
        (sym (sub-times K p q) ∙ ap (λ (t : ℤ). pos K *ℤ t) (sym f) ∙ z ∙ ap (λ (t : ℤ). pos w *ℤ t) e ∙ sub-times w P R)

    go : (a : ℕ) × (b : ℕ) × (U ≡ sub_ℕ a b) → (a : ℕ) × (b : ℕ) × (u ≡ sub_ℕ a b) → (a : ℕ) × (b : ℕ) × (u' ≡ sub_ℕ a b) → pos v' *ℤ u ≡ pos v *ℤ u'
    go (P, R, e) (p, q, f) (p', q', g) =
        let c : v' * p + v * q' ≡ v * p' + v' * q =
        eq_of_mul-eq-mul_left K K0 (v' * p + v * q') (v * p' + v' * q)
        (crossed K v v' p q p' q' P R (lines P R p q v u e f x) (lines P R p' q' v' u' e g x'))
        in
        ap (λ (z : ℤ). pos v' *ℤ z) f
        ∙ sub-times v' p q
        ∙ sub_same (v' * p) (v' * q) (v * p') (v * q') c
        ∙ sym (sub-times v p' q')
        ∙ ap (λ (z : ℤ). pos v *ℤ z) (sym g)
