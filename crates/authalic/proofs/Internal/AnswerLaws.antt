-- The answer for a sine from 0 to 10^18: within 5/6 of the exact quotient, never above the sine, exact at 0 and at 10^18, the sine itself on a
-- sphere, and rising. Assumes nothing.
use Rattle.std.specs.Prelude.{◌≡◌}
use Rattle.std.proofs.Math.Path.{refl}
use Rattle.std.proofs.Common.{sym, ap, ◌∙◌, subst, le_trans, le_of_eq, le_refl, add-mul, sub-le, mul-zero, mul-le-mul, mul-le-mul_left, mul-le-mul_right, le_of_mul-le-mul_right, arith, lit<, lit≤}
use Prim.Native.Nat.{ℕ, zero, suc, ◌+◌, ◌-◌, ◌*◌, ◌/◌, ◌^◌, ◌≤◌, ◌<◌}
use Rattle.std.proofs.Math.Nat.{sub_self, le_of_mul-le-mul_left}
use Rattle.std.proofs.Math.Arith.{le-zero}
use Rattle.wide.specs.High.{high_word}
use Rattle.wide.specs.Laws.High.{high-under, high-over, high-most}
use Rattle.authalic.specs.Computed.{eccentricity_word, point_word, series_word, grown, share_word, less_word, sine_word}
use Rattle.authalic.specs.Internal.Approximation.{Approximates}
use Rattle.authalic.specs.Internal.PointLaws.{point-near, point-small, point-rise}
use Rattle.authalic.specs.Internal.SeriesLaws.{exact, series-near, series-least, series-most, series-rise}
use Rattle.authalic.specs.Internal.ShareLaws.{Shares, share-near}

-- ---- how much less than s the answer is

-- c is s d / b within 1141/2048
record Less (s d b c : ℕ) : Type 0 where
  over : 2048 * (c * b) ≤ 2048 * (s * d) + 1024 * b
  under : 2048 * (s * d) ≤ 2048 * (c * b) + 1141 * b

-- from 2048 s d / W, cut, and that over b, cut, to the nearest
rounded : (W s d b w y : ℕ) → 117 * W ≤ 118 * b → w * W ≤ 2048 * (s * d) → 2048 * (s * d) ≤ (w + 1) * W → Shares W b w W y 116 → Less s d b ((y + 1024) / 2048)
rounded W s d b w y h l m p =
    let c : ℕ = (y + 1024) / 2048 in
    let f : y * b ≤ w * W = p.under in
    let g : w * W ≤ y * b + 116 * W = p.over in
    let x : 2048 * c * b ≤ (y + 1024) * b = mul-le-mul_right b (omega arith) in
    let z : y * b ≤ (2048 * c + 1023) * b = mul-le-mul_right b (omega arith) in
    record { over = omega arith; under = omega arith }

scaled : (s d : ℕ) → 16 * s * (128 * d) ≡ 2048 * (s * d)
scaled s d = omega arith

-- the greatest that is shared out
pub product_small : (s d : ℕ) → s ≤ 10 ^ 18 → d ≤ 124000000000000000 → high_word (16 * s) (128 * d) ≤ 14000000000000000000
product_small s d h k = high-most 16000000000000000000 15872000000000000000 14000000000000000000 (omega arith) (omega arith) (lit< tt)

less-near : (s a b : ℕ) → s ≤ 10 ^ 18 → 18320000000000000000 ≤ a → a ≤ b → b ≤ 18444000000000000000 → Less s (b - a) b (less_word s a b)
unfolding less_word
less-near s a b hs al ab bh =
    let d : ℕ = b - a in
    let w : ℕ = high_word (16 * s) (128 * d) in
    let w0 : w ≤ 14000000000000000000 = product_small s d hs (omega arith) in
    rounded (2 ^ 64) s d b w (share_word w b) (omega arith)
    (le_trans (high-under (16 * s) (128 * d)) (le_of_eq (scaled s d))) (le_trans (le_of_eq (sym (scaled s d))) (high-over (16 * s) (128 * d)))
    (share-near w b (omega arith) (omega arith) (omega arith))

-- it is not more than s
less-small : (s d b c : ℕ) → 0 < b → 128 * d ≤ b → Less s d b c → c ≤ s
less-small s d b c b0 h p =
    let o : 2048 * (c * b) ≤ 2048 * (s * d) + 1024 * b = p.over in
    let m : s * (128 * d) ≤ s * b = mul-le-mul_left s h in
    let q : 128 * c ≤ s + 64 = le_of_mul-le-mul_right {m = 128 * c} {n = s + 64} {k = b} (omega arith) b0 in
    omega arith

-- and nothing at the pole
less_none : (s b c : ℕ) → 0 < b → Less s (b - b) b c → c ≡ 0
less_none s b c b0 p =
    let o : 2048 * (c * b) ≤ 2048 * (s * (b - b)) + 1024 * b = p.over in
    let e : s * (b - b) ≡ 0 = ap (λ (z : ℕ). s * z) (sub_self b) ∙ mul-zero s in
    let h : 2 * c ≤ 1 = le_of_mul-le-mul_right {m = 2 * c} {n = 1} {k = b} (omega arith) b0 in
    omega arith

-- ---- the quotient of two values

-- a and b stand for the values H / Q and I / Q of the series
module _ (M Q s a b z H I : ℕ) (M0 : 0 < M) (f : Approximates M a 5 H Q) (g : Approximates M b 5 I Q) where
  quotient-over : 6 * (z * b + 5 * z) ≤ 6 * (s * a) + 5 * b → 6 * (z * I) ≤ 6 * (s * H) + 5 * I
  quotient-over u =
      let x : z * (M * I) ≤ z * ((b + 5) * Q) = mul-le-mul_left z g.over in
      let y : 6 * (z * b + 5 * z) * Q ≤ (6 * (s * a) + 5 * b) * Q = mul-le-mul_right Q u in
      let w : s * (a * Q) ≤ s * (M * H) = mul-le-mul_left s f.under in
      let v : b * Q ≤ M * I = g.under in
      le_of_mul-le-mul_left {m = 6 * (z * I)} {n = 6 * (s * H) + 5 * I} {k = M} (omega arith) M0

  quotient-under : 6 * (s * a + 5 * s) ≤ 6 * (z * b) + 5 * b → 6 * (s * H) ≤ 6 * (z * I) + 5 * I
  quotient-under u =
      let x : s * (M * H) ≤ s * ((a + 5) * Q) = mul-le-mul_left s f.over in
      let y : 6 * (s * a + 5 * s) * Q ≤ (6 * (z * b) + 5 * b) * Q = mul-le-mul_right Q u in
      let w : z * (b * Q) ≤ z * (M * I) = mul-le-mul_left z g.under in
      let v : b * Q ≤ M * I = g.under in
      le_of_mul-le-mul_left {m = 6 * (s * H)} {n = 6 * (z * I) + 5 * I} {k = M} (omega arith) M0

-- z = s - c is within 5/6 of s H / I: 1141/2048 for what c lacks, and 5/18.32 for what the two values lack
quotient :
    (M Q s a b c H I : ℕ) → 0 < M → c ≤ s → a ≤ b → 30720 * s ≤ 1697 * b → Less s (b - a) b c → Approximates M a 5 H Q → Approximates M b 5 I Q →
    (6 * ((s - c) * I) ≤ 6 * (s * H) + 5 * I) × (6 * (s * H) ≤ 6 * ((s - c) * I) + 5 * I)
quotient M Q s a b c H I M0 cs ab hs p f g =
    let d : ℕ = b - a in
    let z : ℕ = s - c in
    let sb : s * (a + d) ≡ s * b = ap (λ (x : ℕ). s * x) (omega arith) in
    let zb : (z + c) * b ≡ s * b = ap (λ (x : ℕ). x * b) (omega arith) in
    let po : 2048 * (c * b) ≤ 2048 * (s * d) + 1024 * b = p.over in
    let pu : 2048 * (s * d) ≤ 2048 * (c * b) + 1141 * b = p.under in
    let zs : z ≤ s = omega arith in
    (quotient-over M Q s a b z H I M0 f g (omega arith), quotient-under M Q s a b z H I M0 f g (omega arith))

-- ---- the values

-- of the series, above at s and below at 10^18
abbrev value_word : (E s : ℕ) → ℕ
value_word E s = series_word (point_word s (eccentricity_word E))

-- the exact one
abbrev value : (E s : ℕ) → ℕ
value E s = exact (10 ^ 48) (E * (s * s)) 0 9

module _ (E s : ℕ) (hE : E ≤ 10 ^ 10) (hs : s ≤ 10 ^ 18) where
  pub point-hundredth : 100 * point_word s (eccentricity_word E) ≤ 2 ^ 64
  point-hundredth =
      point-small (2 ^ 64) (point_word s (eccentricity_word E)) (E * (s * s)) (10 ^ 48) (lit< tt) (mul-le-mul_left 100 (mul-le-mul hE (mul-le-mul hs hs))) (point-near E s hE hs)

  value-near : Approximates 18320000000000000000 (value_word E s) 5 (value E s) (14549535 * (10 ^ 48) ^ 9)
  unfolding series_word
  value-near = series-near (point_word s (eccentricity_word E)) point-hundredth (E * (s * s)) (10 ^ 48) (point-near E s hE hs) 9 0 refl

  pub value-least : 18320000000000000000 ≤ value_word E s
  value-least = series-least (point_word s (eccentricity_word E)) point-hundredth

  pub value-most : value_word E s ≤ 18444000000000000000
  value-most = series-most (point_word s (eccentricity_word E)) point-hundredth

  pub value-rise : value_word E s ≤ value_word E (10 ^ 18)
  unfolding series_word
  value-rise = series-rise (point-rise s (10 ^ 18) (eccentricity_word E) hs) 9 0

-- ---- the answer

module _ (E s : ℕ) (hE : E ≤ 10 ^ 10) (hs : s ≤ 10 ^ 18) where
  answer-less : Less s (value_word E (10 ^ 18) - value_word E s) (value_word E (10 ^ 18)) (less_word s (value_word E s) (value_word E (10 ^ 18)))
  answer-less =
      less-near s (value_word E s) (value_word E (10 ^ 18)) hs (value-least E s hE hs) (value-rise E s hE hs) (value-most E (10 ^ 18) hE (le_refl (10 ^ 18)))

  pub answer-fits : less_word s (value_word E s) (value_word E (10 ^ 18)) ≤ s
  answer-fits =
      let a : ℕ = value_word E s in
      let b : ℕ = value_word E (10 ^ 18) in
      let al : 18320000000000000000 ≤ a = value-least E s hE hs in
      let bl : a ≤ b = value-rise E s hE hs in
      let bh : b ≤ 18444000000000000000 = value-most E (10 ^ 18) hE (le_refl (10 ^ 18)) in
      less-small s (b - a) b (less_word s a b) (omega arith) (omega arith) answer-less

  pub sine-near :
      (6 * (sine_word E s * value E (10 ^ 18)) ≤ 6 * (s * value E s) + 5 * value E (10 ^ 18))
      × (6 * (s * value E s) ≤ 6 * (sine_word E s * value E (10 ^ 18)) + 5 * value E (10 ^ 18))
  unfolding sine_word
  sine-near =
      let a : ℕ = value_word E s in
      let b : ℕ = value_word E (10 ^ 18) in
      let al : 18320000000000000000 ≤ a = value-least E s hE hs in
      let ab : a ≤ b = value-rise E s hE hs in
      quotient 18320000000000000000 (14549535 * (10 ^ 48) ^ 9) s a b (less_word s a b) (value E s) (value E (10 ^ 18)) (lit< tt) answer-fits ab (omega arith) answer-less
      (value-near E s hE hs) (value-near E (10 ^ 18) hE (le_refl (10 ^ 18)))

pub sine-small : (E s : ℕ) → sine_word E s ≤ s
unfolding sine_word
sine-small E s = sub-le s _

pub sine-zero : (E : ℕ) → sine_word E 0 ≡ 0
sine-zero E = le-zero (sine-small E 0)

pub sine-pole : (E : ℕ) → E ≤ 10 ^ 10 → sine_word E (10 ^ 18) ≡ 10 ^ 18
unfolding sine_word
sine-pole E hE =
    let b : ℕ = value_word E (10 ^ 18) in
    let bl : 18320000000000000000 ≤ b = value-least E (10 ^ 18) hE (le_refl (10 ^ 18)) in
    let c : less_word (10 ^ 18) b b ≡ 0 = less_none (10 ^ 18) b (less_word (10 ^ 18) b b) (omega arith) (answer-less E (10 ^ 18) hE (le_refl (10 ^ 18))) in
    ap (λ (z : ℕ). 10 ^ 18 - z) c

-- on a sphere above and below are the same too
sphere-point : (s : ℕ) → point_word s (eccentricity_word 0) ≡ 0
unfolding point_word eccentricity_word high_word
sphere-point s = ap (λ (z : ℕ). z / 2 ^ 64) (mul-zero _)

pub sine-sphere : (s : ℕ) → s ≤ 10 ^ 18 → sine_word 0 s ≡ s
unfolding sine_word
sine-sphere s hs =
    let b : ℕ = value_word 0 (10 ^ 18) in
    let e : value_word 0 s ≡ b = ap series_word (sphere-point s ∙ sym (sphere-point (10 ^ 18))) in
    let bl : 18320000000000000000 ≤ b = value-least 0 (10 ^ 18) (lit≤ tt) (le_refl (10 ^ 18)) in
    let p : Less s (b - b) b (less_word s b b) = subst (λ (a : ℕ). Less s (b - a) b (less_word s a b)) e (answer-less 0 s (lit≤ tt) hs) in
    let c : less_word s b b ≡ 0 = less_none s b (less_word s b b) (omega arith) p in
    let n : s - 0 ≡ s = omega arith in
    ap (λ (a : ℕ). s - less_word s a b) e ∙ ap (λ (z : ℕ). s - z) c ∙ n

-- ---- it rises: with the next sine the amount taken off is at most 1 more

-- one product of `share_word`
grown-next : (x y d a : ℕ) → 100 * a ≤ 2 ^ 64 → d ≤ 100 → x ≤ y + d → grown x a ≤ grown y a + (d + 1)
unfolding grown high_word
grown-next x y d a h k l =
    let p : x * a ≤ (y + d) * a = mul-le-mul_right a l in
    let q : (y + d) * a ≡ y * a + d * a = add-mul y d a in
    let r : d * a ≤ 100 * a = mul-le-mul_right a k in
    omega arith

share-next : (v w b : ℕ) → 18320000000000000000 ≤ b → b ≤ 2 ^ 64 → v ≤ w + 14 → share_word v b ≤ share_word w b + 17
unfolding share_word
share-next v w b bl bh h =
    let a : ℕ = 2 ^ 64 - b in
    let c : ℕ = high_word a a in
    let e : ℕ = high_word c c in
    let a0 : a ≤ 127000000000000000 = omega arith in
    let c0 : c ≤ 900000000000000 = high-most 127000000000000000 127000000000000000 900000000000000 a0 a0 (lit< tt) in
    let e0 : e ≤ 44000000000 = high-most 900000000000000 900000000000000 44000000000 c0 c0 (lit< tt) in
    grown-next (grown (grown v a) c) (grown (grown w a) c) 16 e (omega arith) (lit≤ tt)
    (grown-next (grown v a) (grown w a) 15 c (omega arith) (lit≤ tt) (grown-next v w 14 a (omega arith) (lit≤ tt) h))

product-next : (s c d : ℕ) → c ≤ d → d ≤ 124000000000000000 → high_word (16 * (s + 1)) (128 * c) ≤ high_word (16 * s) (128 * d) + 14
unfolding high_word
product-next s c d h k =
    let p : (s + 1) * c ≤ (s + 1) * d = mul-le-mul_left (s + 1) h in
    let q : (s + 1) * d ≡ s * d + d = omega arith in
    let x : 16 * (s + 1) * (128 * c) ≡ 2048 * ((s + 1) * c) = omega arith in
    let y : 16 * s * (128 * d) ≡ 2048 * (s * d) = scaled s d in
    omega arith

less-next : (s a b c : ℕ) → 18320000000000000000 ≤ a → a ≤ c → c ≤ b → b ≤ 18444000000000000000 → less_word (s + 1) c b ≤ less_word s a b + 1
unfolding less_word
less-next s a b c al ac cb bh =
    let v : ℕ = high_word (16 * (s + 1)) (128 * (b - c)) in
    let w : ℕ = high_word (16 * s) (128 * (b - a)) in
    let l : share_word v b ≤ share_word w b + 17 = share-next v w b (omega arith) (omega arith) (product-next s (b - c) (b - a) (omega arith) (omega arith)) in
    omega arith

sine-next : (E s : ℕ) → E ≤ 10 ^ 10 → s + 1 ≤ 10 ^ 18 → sine_word E s ≤ sine_word E (s + 1)
unfolding sine_word series_word
sine-next E s hE hs =
    let a : ℕ = value_word E s in
    let c : ℕ = value_word E (s + 1) in
    let b : ℕ = value_word E (10 ^ 18) in
    let k : s ≤ 10 ^ 18 = omega arith in
    let ac : a ≤ c = series-rise (point-rise s (s + 1) (eccentricity_word E) (omega arith)) 9 0 in
    let l : less_word (s + 1) c b ≤ less_word s a b + 1 =
    less-next s a b c (value-least E s hE k) ac (value-rise E (s + 1) hE hs) (value-most E (10 ^ 18) hE (le_refl (10 ^ 18))) in
    omega arith

pub sine-rises : (E s n : ℕ) → E ≤ 10 ^ 10 → s + n ≤ 10 ^ 18 → sine_word E s ≤ sine_word E (s + n)
sine-rises E s zero hE h = le_of_eq (ap (sine_word E) (omega arith))
sine-rises E s (suc n) hE h =
    let e : s + n + 1 ≡ s + suc n = omega arith in
    le_trans (sine-rises E s n hE (omega arith)) (le_trans (sine-next E (s + n) hE (omega arith)) (le_of_eq (ap (sine_word E) e)))
