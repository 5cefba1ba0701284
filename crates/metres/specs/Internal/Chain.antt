-- `Near` at equal fractions, and two roundings one after the other. Assumes nothing.
use Rattle.std.specs.Prelude.{◌≡◌, ℕ, ◌+◌, ◌*◌, ◌^◌, ◌≤◌, ◌<◌}
use Rattle.std.proofs.Common.{sym, ap, ◌∙◌, le_trans, le_of_eq, mul_comm, mul_assoc, mul_left_comm, mul_right_comm, add-mul, mul-le-mul_right, le_of_mul-le-mul_right, arith}
use Rattle.metres.specs.Metres.{Near}

-- the near fraction g / L, written m / D
pub near-as : {t a c g L m D : ℕ} → 0 < L → m * L ≡ g * D → Near t a c g L → Near t a c m D
near-as {t} {a} {c} {g} {L} {m} {D} P e n =
    let e' : m * c * t * L ≡ g * c * t * D = simp (mul_assoc, mul_comm, mul_left_comm) (simp (mul_assoc, mul_comm, mul_left_comm) at (ap (λ (z : ℕ). z * (c * t)) e)) in
    let u : g * c * t * D ≤ a * L * (t + 1) * D = mul-le-mul_right D n.above in
    let v : a * L * (t + 1) * D ≡ a * D * (t + 1) * L = simp (mul_assoc, mul_comm, mul_left_comm) in
    let w : a * L * t * D ≤ (g * c * t + a * L) * D = mul-le-mul_right D n.below in
    let x : (g * c * t + a * L) * D ≡ g * c * t * D + a * L * D = add-mul (g * c * t) (a * L) D in
    let y : (m * c * t + a * D) * L ≡ m * c * t * L + a * D * L = add-mul (m * c * t) (a * D) L in
    let z : a * L * D ≡ a * D * L = mul_right_comm a L D in
    let s : a * L * t * D ≡ a * D * t * L = simp (mul_assoc, mul_comm, mul_left_comm) in
    record { above = le_of_mul-le-mul_right (omega arith) P; below = le_of_mul-le-mul_right (omega arith) P }

-- the exact fraction a / c, written a' / c'
pub near_of : {t a c a' c' b d : ℕ} → 0 < c → a * c' ≡ a' * c → Near t a c b d → Near t a' c' b d
near_of {t} {a} {c} {a'} {c'} {b} {d} P e n =
    let k : a * d * (t + 1) * c' ≡ a' * d * (t + 1) * c = simp (mul_assoc, mul_comm, mul_left_comm) (simp (mul_assoc, mul_comm, mul_left_comm) at (ap (λ (z : ℕ). z * (d * (t + 1))) e)) in
    let u : b * c * t * c' ≤ a * d * (t + 1) * c' = mul-le-mul_right c' n.above in
    let v : b * c * t * c' ≡ b * c' * t * c = simp (mul_assoc, mul_comm, mul_left_comm) in
    let w : a * d * t * c' ≤ (b * c * t + a * d) * c' = mul-le-mul_right c' n.below in
    let x : (b * c * t + a * d) * c' ≡ b * c * t * c' + a * d * c' = add-mul (b * c * t) (a * d) c' in
    let y : (b * c' * t + a' * d) * c ≡ b * c' * t * c + a' * d * c = add-mul (b * c' * t) (a' * d) c in
    let z : a * d * c' ≡ a' * d * c = mul_right_comm a d c' ∙ ap (λ (q : ℕ). q * d) e ∙ mul_right_comm a' c d in
    let s : a * d * t * c' ≡ a' * d * t * c = simp (mul_assoc, mul_comm, mul_left_comm) (simp (mul_assoc, mul_comm, mul_left_comm) at (ap (λ (q : ℕ). q * (d * t)) e)) in
    record { above = le_of_mul-le-mul_right (omega arith) P; below = le_of_mul-le-mul_right (omega arith) P }

up2 : (Z X Y : ℕ) → Z * 2 ^ 53 ≤ X * (2 ^ 53 + 1) → X * 2 ^ 53 ≤ Y * (2 ^ 53 + 1) → Z * 2 ^ 51 ≤ Y * (2 ^ 51 + 1)
up2 Z X Y h k = omega arith

twice : (X Y : ℕ) → X * 2 ^ 53 ≤ Y * (2 ^ 53 + 1) → X ≤ Y * 2
twice X Y h = omega arith

down2 : (Z X Y : ℕ) → X ≤ Y * 2 → X * 2 ^ 53 ≤ Z * 2 ^ 53 + X → Y * 2 ^ 53 ≤ X * 2 ^ 53 + Y → Y * 2 ^ 51 ≤ Z * 2 ^ 51 + Y
down2 Z X Y l h k =
    let m : Y * 2 ^ 53 ≤ Z * 2 ^ 53 + Y * 3 = through (Y * 2 ^ 53) (X * 2 ^ 53) (Z * 2 ^ 53) X Y l h k in
    last Z Y m
  where
    through : (y x z X Y : ℕ) → X ≤ Y * 2 → x ≤ z + X → y ≤ x + Y → y ≤ z + Y * 3
    through y x z X Y l h k = omega arith

    last : (Z Y : ℕ) → Y * 2 ^ 53 ≤ Z * 2 ^ 53 + Y * 3 → Y * 2 ^ 51 ≤ Z * 2 ^ 51 + Y
    last Z Y m = omega arith

-- two roundings: b / d is near a / c, and e / f is near b / (d * M), so e / f is near a / (c * M), within four times as much
pub chain : {a c b d e f : ℕ} (M : ℕ) → 0 < d → Near (2 ^ 53) a c b d → Near (2 ^ 53) b (d * M) e f → Near (2 ^ 51) a (c * M) e f
chain {a} {c} {b} {d} {e} {f} M P n q =
    let Z = e * (c * M) * d in
    let X = b * c * f in
    let Y = a * f * d in
    let zu : Z * 2 ^ 53 ≤ X * (2 ^ 53 + 1) = le_trans (le_of_eq (simp (mul_assoc, mul_comm, mul_left_comm)))
    (le_trans (mul-le-mul_right c q.above) (le_of_eq (simp (mul_assoc, mul_comm, mul_left_comm)))) in
    let xu : X * 2 ^ 53 ≤ Y * (2 ^ 53 + 1) = le_trans (le_of_eq (simp (mul_assoc, mul_comm, mul_left_comm)))
    (le_trans (mul-le-mul_right f n.above) (le_of_eq (simp (mul_assoc, mul_comm, mul_left_comm)))) in
    let zd : X * 2 ^ 53 ≤ Z * 2 ^ 53 + X =
    le_trans (le_of_eq (simp (mul_assoc, mul_comm, mul_left_comm)))
    (le_trans (mul-le-mul_right c q.below) (le_of_eq (add-mul (e * (d * M) * 2 ^ 53) (b * f) c ∙ simp (mul_assoc, mul_comm, mul_left_comm)))) in
    let xd : Y * 2 ^ 53 ≤ X * 2 ^ 53 + Y =
    le_trans (le_of_eq (simp (mul_assoc, mul_comm, mul_left_comm)))
    (le_trans (mul-le-mul_right f n.below) (le_of_eq (add-mul (b * c * 2 ^ 53) (a * d) f ∙ simp (mul_assoc, mul_comm, mul_left_comm)))) in
    let U : Z * 2 ^ 51 ≤ Y * (2 ^ 51 + 1) = up2 Z X Y zu xu in
    let D : Y * 2 ^ 51 ≤ Z * 2 ^ 51 + Y = down2 Z X Y (twice X Y xu) zd xd in
    record {
      above = le_of_mul-le-mul_right (le_trans (le_of_eq (simp (mul_assoc, mul_comm, mul_left_comm))) (le_trans U (le_of_eq (simp (mul_assoc, mul_comm, mul_left_comm))))) P;
      below =
          le_of_mul-le-mul_right
          (le_trans (le_of_eq (simp (mul_assoc, mul_comm, mul_left_comm))) (le_trans D (le_of_eq (sym (add-mul (e * (c * M) * 2 ^ 51) (a * f) d ∙ simp (mul_assoc, mul_comm, mul_left_comm)))))) P;
    }
