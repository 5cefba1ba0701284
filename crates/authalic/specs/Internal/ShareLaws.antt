-- 2^64 w / b as it is computed. (W - a) (W + a) = W^2 - a^2, so that with each step y b is nearer to w W. Assumes nothing.
use Rattle.std.specs.Prelude.{◌≡◌, ℕ, ◌+◌, ◌-◌, ◌*◌, ◌^◌, ◌≤◌, ◌<◌}
use Rattle.std.proofs.Common.{ap, mul-le-mul_left, mul-le-mul_right, le_of_mul-le-mul_right, arith, lit<}
use Rattle.wide.specs.High.{high_word}
use Rattle.wide.specs.Laws.High.{high-under, high-over, high-most}
use Rattle.authalic.specs.Computed.{grown, share_word}

-- y b is at most w v, and less by at most d W
pub record Shares (W b w v y d : ℕ) : Type 0 where
  pub under : y * b ≤ w * v
  pub over : w * v ≤ y * b + d * W

-- One step, from v = W - a to u = W - c. Here t is y a / W and c is a^2 / W, each cut to a whole number and less by at most 1
module _ (W b w y a v t c u d : ℕ) (W0 : 0 < W) (va : v + a ≡ W) (uc : u + c ≡ W) (tl : t * W ≤ y * a) (th : y * a ≤ (t + 1) * W) (cl : c * W ≤ a * a) (ch : a * a ≤ (c + 1) * W) where
  -- v (W + a) = W^2 - a^2
  squares-under : v * (W + a) ≤ u * W
  squares-under =
      let p : (v + a) * W ≡ W * W = ap (λ (z : ℕ). z * W) va in
      let q : (v + a) * a ≡ W * a = ap (λ (z : ℕ). z * a) va in
      let r : (u + c) * W ≡ W * W = ap (λ (z : ℕ). z * W) uc in
      omega arith

  squares-over : u * W ≤ v * (W + a) + W
  squares-over =
      let p : (v + a) * W ≡ W * W = ap (λ (z : ℕ). z * W) va in
      let q : (v + a) * a ≡ W * a = ap (λ (z : ℕ). z * a) va in
      let r : (u + c) * W ≡ W * W = ap (λ (z : ℕ). z * W) uc in
      omega arith

  step-under : y * b ≤ w * v → (y + t) * b ≤ w * u
  step-under h =
      let p : (y + t) * W ≤ y * (W + a) = omega arith in
      let q : (y + t) * W * b ≤ y * (W + a) * b = mul-le-mul_right b p in
      let r : y * b * (W + a) ≤ w * v * (W + a) = mul-le-mul_right (W + a) h in
      let s : w * (v * (W + a)) ≤ w * (u * W) = mul-le-mul_left w squares-under in
      le_of_mul-le-mul_right {m = (y + t) * b} {n = w * u} {k = W} (omega arith) W0

  step-over : b ≤ W → w ≤ W → d * a ≤ W → w * v ≤ y * b + d * W → w * u ≤ (y + t) * b + (d + 3) * W
  step-over hb hw hd h =
      let p : y * (W + a) ≤ (y + t + 1) * W = omega arith in
      let q : y * (W + a) * b ≤ (y + t + 1) * W * b = mul-le-mul_right b p in
      let r : w * v * (W + a) ≤ (y * b + d * W) * (W + a) = mul-le-mul_right (W + a) h in
      let s : w * (u * W) ≤ w * (v * (W + a) + W) = mul-le-mul_left w squares-over in
      let x : b * W ≤ W * W = mul-le-mul_right W hb in
      let z : w * W ≤ W * W = mul-le-mul_right W hw in
      let o : d * a * W ≤ W * W = mul-le-mul_right W hd in
      le_of_mul-le-mul_right {m = w * u} {n = (y + t) * b + (d + 3) * W} {k = W} (omega arith) W0

  pub step-shares : b ≤ W → w ≤ W → d * a ≤ W → Shares W b w v y d → Shares W b w u (y + t) (d + 3)
  step-shares hb hw hd p = record { under = step-under p.under; over = step-over hb hw hd p.over }

-- what is left of a is small enough
finish : (W b w y c u : ℕ) → u + c ≡ W → c ≤ 107 → w ≤ W → Shares W b w u y 9 → Shares W b w W y 116
finish W b w y c u uc hc hw p =
    let e : w * (u + c) ≡ w * W = ap (λ (z : ℕ). w * z) uc in
    let l : y * b ≤ w * u = p.under in
    let h : w * u ≤ y * b + 9 * W = p.over in
    let m : w * c ≤ w * 107 = mul-le-mul_left w hc in
    record { under = omega arith; over = omega arith }

pub share-near : (w b : ℕ) → 18320000000000000000 ≤ b → b ≤ 2 ^ 64 → w ≤ 2 ^ 64 → Shares (2 ^ 64) b w (2 ^ 64) (share_word w b) 116
unfolding share_word grown
share-near w b bl bh hw =
    let a : ℕ = 2 ^ 64 - b in
    let c : ℕ = high_word a a in
    let e : ℕ = high_word c c in
    let f : ℕ = high_word e e in
    let a0 : a ≤ 127000000000000000 = omega arith in
    let c0 : c ≤ 900000000000000 = high-most 127000000000000000 127000000000000000 900000000000000 a0 a0 (lit< tt) in
    let e0 : e ≤ 44000000000 = high-most 900000000000000 900000000000000 44000000000 c0 c0 (lit< tt) in
    let f0 : f ≤ 107 = high-most 44000000000 44000000000 107 e0 e0 (lit< tt) in
    let y : ℕ = w + high_word w a in
    let z : ℕ = y + high_word y c in
    let s0 : Shares (2 ^ 64) b w b w 0 = record { under = omega arith; over = omega arith } in
    let s1 : Shares (2 ^ 64) b w (2 ^ 64 - c) y 3 =
    step-shares (2 ^ 64) b w w a b (high_word w a) c (2 ^ 64 - c) 0 (lit< tt) (omega arith) (omega arith) (high-under w a) (high-over w a) (high-under a a) (high-over a a) bh hw (omega arith) s0 in
    let s2 : Shares (2 ^ 64) b w (2 ^ 64 - e) z 6 =
    step-shares (2 ^ 64) b w y c (2 ^ 64 - c) (high_word y c) e (2 ^ 64 - e) 3 (lit< tt) (omega arith) (omega arith)
    (high-under y c) (high-over y c) (high-under c c) (high-over c c) bh hw (omega arith) s1 in
    let s3 : Shares (2 ^ 64) b w (2 ^ 64 - f) (z + high_word z e) 9 =
    step-shares (2 ^ 64) b w z e (2 ^ 64 - e) (high_word z e) f (2 ^ 64 - f) 6 (lit< tt) (omega arith) (omega arith)
    (high-under z e) (high-over z e) (high-under e e) (high-over e e) bh hw (omega arith) s2 in
    finish (2 ^ 64) b w (z + high_word z e) f (2 ^ 64 - f) (omega arith) f0 hw s3
