-- A whole number times a side, divided by 28697814, each step rounded once, is near the exact quotient. Assumes nothing.
use Rattle.std.specs.Prelude.{◌≡◌, refl, Bool, true, false, ℕ, zero, suc, ◌+◌, ◌*◌, ◌/◌, ◌^◌, ◌≤◌, ◌<◌, T, ℤ, pos, negsuc, nat_abs, Float}
use Rattle.std.proofs.Common.{sym, ap, ◌∙◌, subst, le_trans, le_of_eq, lt_of_le_of_lt, mul_comm, mul_assoc, mul_left_comm, mul_right_comm, mul-one, one-mul, zero-mul, mul-le-mul_right, mul-le-mul_left, le_of_mul-le-mul_right, mul-pos, mul-le-mul, le-mul_of_pos_right, arith, lit<, lit≤, pow_pos}
use Rattle.std.specs.Float.{nan, inf, fin, Format, binary64}
use Rattle.std.specs.Float.Ieee.{prec, low, up, down, size, unlike, round, mul, div, of_int, le}
use Rattle.std.specs.Float.Ieee.Fits.{round_is, down_pos}
use Rattle.std.specs.Float.Ieee.Exact.{HasValue, units_val}
use Rattle.std.specs.Float.Ieee.Back.{round_whole}
use Rattle.std.specs.Float.Ieee.Order.{drop, kept}
use Rattle.std.specs.Float.Ieee.Scale.{grid, overflow, normal_of_fraction, round_same}
use Rattle.std.specs.Float.Ieee.Positive.{num, den, den_pos, positive, between, le→cross}
use Rattle.metres.specs.Metres.{Near, NearExact}
use Rattle.metres.specs.Internal.Rounding.{grid-near}
use Rattle.metres.specs.Internal.Chain.{near-as, near_of, chain}

-- r is finite, has the sign s, and is within one part in 2 ^ 53 of a / c
pub record Close (s : Bool) (a c : ℕ) (r : Float) : Type 0 where
  pub value : HasValue r s (num r) (den r)
  pub near : Near (2 ^ 53) a c (num r) (den r)

pack : (r : Float) {s : Bool} {g L a c : ℕ} → 0 < L → HasValue r s g L → Near (2 ^ 53) a c g L → Close s a c r
pack nan P h n = absurd h
pack (inf t) P h n = absurd h
pack (fin t m e) P h n = record { value = (h.0, refl); near = near-as P h.1 n }

-- `round_val` with a sign
round_val : (f : Format) (s : Bool) (a c : ℕ) → grid f a c < overflow f → HasValue (round f s a c) s (grid f a c) (2 ^ low f)
round_val f s a c h = subst (λ (z : Float). HasValue z s (grid f a c) (2 ^ low f)) (sym (round_is f s a c)) (units_val f s (kept (prec f) (a * 2 ^ low f) c) (drop (prec f) (a * 2 ^ low f) c) h)

-- far from both ends of the format's range
normal : (a c : ℕ) → 0 < c → c ≤ a * 2 ^ 30 → prec binary64 ≤ size (a * 2 ^ low binary64 / c)
normal a c C h =
    normal_of_fraction binary64 a c C
    (le_trans (mul-le-mul_left (2 ^ 52) h)
    (le_trans (le_of_eq (mul_left_comm (2 ^ 52) a (2 ^ 30))) (mul-le-mul_left {m = 2 ^ 52 * 2 ^ 30} {n = 2 ^ low binary64} a (lit≤ tt))))

under : (a c g : ℕ) → 0 < c → a ≤ c * 2 ^ 60 → g * c * 2 ^ 53 ≤ a * 2 ^ low binary64 * (2 ^ 53 + 1) → g < overflow binary64
under a c g C h n =
    let p : a * 2 ^ low binary64 * (2 ^ 53 + 1) ≤ c * 2 ^ 60 * 2 ^ low binary64 * (2 ^ 53 + 1) = mul-le-mul_right (2 ^ 53 + 1) (mul-le-mul_right (2 ^ low binary64) h) in
    let q : g * 2 ^ 53 * c ≤ 2 ^ 60 * 2 ^ low binary64 * (2 ^ 53 + 1) * c =
    le_trans (le_of_eq (mul_right_comm g (2 ^ 53) c)) (le_trans n (le_trans p (le_of_eq (simp (mul_assoc, mul_comm, mul_left_comm))))) in
    let b : g * 2 ^ 53 ≤ 2 ^ 60 * 2 ^ low binary64 * (2 ^ 53 + 1) = le_of_mul-le-mul_right q C in
    lt_of_le_of_lt (le_trans (le_of_eq (sym (mul-one g))) (le_trans (mul-le-mul_left g (lit≤ tt)) b)) (lit< tt)

pub round-close : (s : Bool) (a c : ℕ) → 0 < c → c ≤ a * 2 ^ 30 → a ≤ c * 2 ^ 60 → Close s a c (round binary64 s a c)
round-close s a c C h k =
    let n : Near (2 ^ 53) a c (grid binary64 a c) (2 ^ low binary64) = grid-near binary64 a c C (normal a c C h) in
    pack (round binary64 s a c) (pow_pos (low binary64)) (round_val binary64 s a c (under a c (grid binary64 a c) C k n.above)) n

like : (s : Bool) → unlike s false ≡ s
like true = refl
like false = refl

-- ---- the product of a whole number, as X, and a side
pub mul-close : (X side : Float) {s : Bool} {N : ℕ} → HasValue X s N 1 → T (positive side) → 0 < N → N ≤ 2 ^ 27 → den side ≤ num side → num side ≤ den side * 2 ^ 30
    → Close s (N * num side) (den side) (mul binary64 X side)
unfolding mul
mul-close nan y h p k l lo hi = absurd h
mul-close (inf t) y h p k l lo hi = absurd h
mul-close (fin t m e) nan h p k l lo hi = absurd p
mul-close (fin t m e) (inf u) h p k l lo hi = absurd p
mul-close (fin t m e) (fin true n d) h p k l lo hi = absurd p
mul-close (fin t m e) (fin false n d) {s} {N} h p k l lo hi =
    let S = n * up d in
    let D = down d in
    let a = m * up e * S in
    let c = down e * D in
    -- a / c is N * S / D
    let e1 : m * up e ≡ N * down e = sym (mul-one (m * up e)) ∙ h.1 in
    let e2 : a ≡ N * S * down e = ap (λ (z : ℕ). z * S) e1 ∙ mul_right_comm N (down e) S in
    let e3 : a * D ≡ N * S * c = ap (λ (z : ℕ). z * D) e2 ∙ mul_assoc (N * S) (down e) D in
    let C : 0 < c = mul-pos (down_pos e) (down_pos d) in
    let one : S ≤ N * S = le_trans (le_of_eq (sym (one-mul S))) (mul-le-mul_right S k) in
    let low1 : c ≤ a = le_trans (mul-le-mul_left (down e) (le_trans lo one)) (le_of_eq (mul_comm (down e) (N * S) ∙ sym e2)) in
    let low2 : c ≤ a * 2 ^ 30 = le_trans low1 (le-mul_of_pos_right a (lit< tt)) in
    let top1 : N * S ≤ D * 2 ^ 57 = le_trans (mul-le-mul l hi) (le_of_eq (mul_left_comm (2 ^ 27) D (2 ^ 30))) in
    let top2 : a ≤ c * 2 ^ 57 =
    le_trans (le_of_eq e2) (le_trans (mul-le-mul_right (down e) top1) (le_of_eq (simp (mul_assoc, mul_comm, mul_left_comm)))) in
    let top3 : a ≤ c * 2 ^ 60 = le_trans top2 (mul-le-mul_left {m = 2 ^ 57} {n = 2 ^ 60} c (lit≤ tt)) in
    let r : Close s a c (round binary64 (unlike t false) a c) = subst (λ (b : Bool). Close s a c (round binary64 b a c)) (sym (like t ∙ h.0)) (round-close s a c C low2 top3) in
    record { value = r.value; near = near_of C e3 r.near }

-- ---- bounds that go over to the product
up-half : (A B : ℕ) → A * 2 ^ 53 ≤ B * 2 ^ 53 + A → A ≤ B * 2
up-half A B h = omega arith

twice : (A B : ℕ) → A * 2 ^ 53 ≤ B * (2 ^ 53 + 1) → A ≤ B * 2
twice A B h = omega arith

-- b / d, near an a / c that is 1 or more, is a half or more
not-small : {a c b d : ℕ} → 0 < c → c ≤ a → Near (2 ^ 53) a c b d → d ≤ b * 2
not-small {a} {c} {b} {d} C h n =
    le_of_mul-le-mul_right
    (le_trans (le_of_eq (mul_comm d c)) (le_trans (mul-le-mul_right d h) (le_trans (up-half (a * d) (b * c) n.below) (le_of_eq (mul_right_comm b c 2)))))
    C

-- b / d, near an a / c of 2 ^ 57 at most, is 2 ^ 58 at most
not-large : {a c b d : ℕ} → 0 < c → a ≤ c * 2 ^ 57 → Near (2 ^ 53) a c b d → b ≤ d * 2 ^ 58
not-large {a} {c} {b} {d} C h n =
    le_of_mul-le-mul_right
    (le_trans (twice (b * c) (a * d) n.above)
    (le_trans (mul-le-mul_right 2 (mul-le-mul_right d h))
    (le_of_eq (ap (λ (z : ℕ). z * 2) (mul_right_comm c (2 ^ 57) d) ∙ mul_assoc (c * d) (2 ^ 57) 2 ∙ ap (λ (z : ℕ). z * 2 ^ 58) (mul_comm c d) ∙ sym (mul_right_comm d (2 ^ 58) c)))))
    C

-- ---- the quotient of P by 28697814, which is 14348907 * 2
pub div-close : (P : Float) {s : Bool} → HasValue P s (num P) (den P) → den P ≤ num P * 2 → num P ≤ den P * 2 ^ 58
    → Close s (num P) (den P * 28697814) (div binary64 P (fin false 14348907 (pos 1)))
unfolding div
div-close nan h lo hi = absurd h
div-close (inf t) h lo hi = absurd h
div-close (fin t m e) {s} h lo hi =
    let a = m * up e * 1 in
    let c = 28697814 * down e in
    let C : 0 < c = mul-pos {m = 28697814} (lit< tt) (down_pos e) in
    let a1 : a ≡ m * up e = mul-one (m * up e) in
    let low2 : c ≤ a * 2 ^ 30 =
    le_trans (mul-le-mul_left 28697814 lo)
    (le_trans (le_of_eq (mul_left_comm 28697814 (m * up e) 2)) (le_trans (mul-le-mul_left {m = 28697814 * 2} {n = 2 ^ 30} (m * up e) (lit≤ tt)) (le_of_eq (ap (λ (z : ℕ). z * 2 ^ 30) (sym a1))))) in
    let top3 : a ≤ c * 2 ^ 60 =
    le_trans (le_of_eq a1)
    (le_trans hi (le_trans (mul-le-mul_left {m = 2 ^ 58} {n = 28697814 * 2 ^ 60} (down e) (lit≤ tt))
    (le_of_eq (mul_left_comm (down e) 28697814 (2 ^ 60) ∙ sym (mul_assoc 28697814 (down e) (2 ^ 60)))))) in
    let r : Close s a c (round binary64 (unlike t false) a c) = subst (λ (b : Bool). Close s a c (round binary64 b a c)) (sym (like t ∙ h.0)) (round-close s a c C low2 top3) in
    record { value = r.value; near = near_of C (ap (λ (z : ℕ). z * (down e * 28697814)) a1 ∙ ap (λ (z : ℕ). m * up e * z) (mul_comm (down e) 28697814)) r.near }

-- ---- both steps
abbrev M : Float
M = fin false 14348907 (pos 1)

-- at a whole number above 0, with its sign
signed : (s : Bool) (N : ℕ) (side : Float) → 0 < N → N ≤ 2 ^ 27 → T (positive side) → den side ≤ num side → num side ≤ den side * 2 ^ 30
    → let r = div binary64 (mul binary64 (round binary64 s N 1) side) M in HasValue r s (num r) (den r) × Near (2 ^ 51) (N * num side) (den side * 28697814) (num r) (den r)
signed s N side k l p lo hi =
    let X = round binary64 s N 1 in
    let P = mul binary64 X side in
    let whole : HasValue X s N 1 = round_whole binary64 s N (le_trans l (lit≤ tt)) in
    let c : Close s (N * num side) (den side) P = mul-close X side whole p k l lo hi in
    let one : num side ≤ N * num side = le_trans (le_of_eq (sym (one-mul (num side)))) (mul-le-mul_right (num side) k) in
    let top : N * num side ≤ den side * 2 ^ 57 = le_trans (mul-le-mul l hi) (le_of_eq (mul_left_comm (2 ^ 27) (den side) (2 ^ 30))) in
    let q : Close s (num P) (den P * 28697814) (div binary64 P M) = div-close P c.value (not-small (den_pos side) (le_trans lo one) c.near) (not-large (den_pos side) top c.near) in
    (q.value, chain 28697814 (den_pos P) c.near q.near)

-- at 0
zero_is : round binary64 false 0 1 ≡ fin false 0 (pos 0)
unfolding round
zero_is = refl

zero-by : (n : ℕ) (d : ℤ) → mul binary64 (fin false 0 (pos 0)) (fin false n d) ≡ fin false 0 (pos 0)
unfolding mul
zero-by n d =
    round_same binary64 false (0 * (n * up d)) (1 * down d) 0 1 (mul-pos {m = 1} (lit< tt) (down_pos d)) (lit< tt) (mul-one (0 * (n * up d)) ∙ zero-mul (n * up d) ∙ sym (zero-mul (1 * down d)))
    ∙ zero_is

zero-times : (side : Float) → T (positive side) → mul binary64 (round binary64 false 0 1) side ≡ fin false 0 (pos 0)
zero-times nan p = absurd p
zero-times (inf t) p = absurd p
zero-times (fin true n d) p = absurd p
zero-times (fin false n d) p = ap (λ (z : Float). mul binary64 z (fin false n d)) zero_is ∙ zero-by n d

zero-over : div binary64 (fin false 0 (pos 0)) M ≡ fin false 0 (pos 0)
unfolding div
zero-over = refl

at_zero : (side : Float) → T (positive side) → div binary64 (mul binary64 (round binary64 false 0 1) side) M ≡ fin false 0 (pos 0)
at_zero side p = ap (λ (z : Float). div binary64 z M) (zero-times side p) ∙ zero-over

zero-near : (a c : ℕ) → Near (2 ^ 51) (0 * a) c 0 1
zero-near a c = record { above = le_of_eq (simp zero-mul); below = le_of_eq (simp zero-mul) }

pub one-to : (side : Float) → T (le (fin false 1 (pos 0)) side) → T (le side (fin false 1 (pos 30))) → T (positive side)
one-to side lo hi = between (fin false 1 (pos 0)) side (fin false 1 (pos 30)) tt tt lo hi

pub one-or-more : (side : Float) → T (positive side) → T (le (fin false 1 (pos 0)) side) → den side ≤ num side
one-or-more side p lo = le_trans (le_of_eq (sym (one-mul (den side)))) (le_trans (le→cross (fin false 1 (pos 0)) side tt p lo) (le_of_eq (mul-one (num side))))

pub not-above : (side : Float) → T (positive side) → T (le side (fin false 1 (pos 30))) → num side ≤ den side * 2 ^ 30
not-above side p hi = le_trans (le_of_eq (sym (mul-one (num side)))) (le_trans (le→cross side (fin false 1 (pos 30)) p tt hi) (le_of_eq (mul_comm (2 ^ 30) (den side))))

suc-not : (n : ℕ) → pos (suc n) ≡ pos 0 → ⊥
suc-not n e = let z : suc n ≡ 0 = cc in omega arith

neg-not : (n : ℕ) → negsuc n ≡ pos 0 → ⊥
neg-not n e = let z : ◌≡◌ {A = ℕ} 0 1 = cc in omega arith

suc-pos : (n : ℕ) → 0 < suc n
suc-pos n = omega arith

pub metres-right : (x : ℤ) (side : Float) → nat_abs x ≤ 2 ^ 27 → T (le (fin false 1 (pos 0)) side) → T (le side (fin false 1 (pos 30)))
    → NearExact x side (div binary64 (mul binary64 (of_int binary64 x) side) M)
unfolding of_int
metres-right (pos zero) side l lo hi =
    subst (λ (r : Float). NearExact (pos zero) side r) (sym (at_zero side (one-to side lo hi)))
    (record { value = (refl, refl); near = zero-near (num side) (den side * 28697814); zero = λ _. refl })
metres-right (pos (suc n)) side l lo hi =
    let p : T (positive side) = one-to side lo hi in
    let v = signed false (suc n) side (suc-pos n) l p (one-or-more side p lo) (not-above side p hi) in
    record { value = v.0; near = v.1; zero = λ e. absurd (suc-not n e) }
metres-right (negsuc n) side l lo hi =
    let p : T (positive side) = one-to side lo hi in
    let v = signed true (suc n) side (suc-pos n) l p (one-or-more side p lo) (not-above side p hi) in
    record { value = v.0; near = v.1; zero = λ e. absurd (neg-not n e) }
