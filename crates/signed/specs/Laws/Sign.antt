-- Laws of signed numbers. Every signed number is a difference `sub_ℕ a b` of two natural numbers, and sums, opposites and orders of differences
-- are those of the natural numbers, which `omega` reads. Assumes nothing.
use Rattle.std.specs.Prelude.{◌≡◌, refl, Bool, true, false, not, cond, ℕ, zero, suc, ◌+◌, ◌-◌, ◌^◌, ◌≤◌, ◌<◌, ℤ, pos, negsuc, neg_ℤ, nat_abs, ◌+ℤ◌, ◌-ℤ◌, leb, ltb}
use Rattle.std.proofs.Common.{sym, ap, ◌∙◌, subst, true≢false, lt_of_not-le, arith, leb-true, le-ltb, lt-ltb, le-leb, SFits, to_z, of_z, to_z-of_z}
use Rattle.std.proofs.Math.Decide.{dec_le}
use Rattle.std.proofs.Math.IntN.{sub_ℕ}
use Rattle.std.specs.Int.Signed.{mag, le_z, lt_z}
use Rattle.std.proofs.lemmas.Bool.{lt-leb}
use Rattle.std.specs.Int.{w64}
use Rattle.signed.specs.Sign.{negative, with_sign}

-- ---- what the machine reads back

-- of a parameter or a local
pub back : {x : ℤ} → SFits w64 x → to_z w64 (of_z w64 x) ≡ x
back f = to_z-of_z f

-- of a call's result, whose bound the call gives as `.ok`
pub back-result : (x : ℤ) → mag x < 2 ^ 63 → to_z w64 (of_z w64 x) ≡ x
back-result x h = to_z-of_z {w = w64} (record { sfits = h })

-- and where the call says what it is
pub back_as : {x z : ℤ} → mag x < 2 ^ 63 → x ≡ z → to_z w64 (of_z w64 x) ≡ z
back_as {x} h e = back-result x h ∙ e

-- ---- sign and magnitude

pub sign-and-size : (x : ℤ) → with_sign (negative x) (nat_abs x) ≡ x
sign-and-size (pos n) = refl
sign-and-size (negsuc n) = refl

pub not_negative : (x : ℤ) → negative x ≡ false → x ≡ pos (nat_abs x)
not_negative (pos n) e = refl
not_negative (negsuc n) e = absurd (true≢false e)

pub is_negative : (x : ℤ) → negative x ≡ true → x ≡ neg_ℤ (pos (nat_abs x))
is_negative (pos n) e = absurd (true≢false (sym e))
is_negative (negsuc n) e = refl

-- the sign is a comparison with 0
pub below-zero : (x : ℤ) → lt_z x (pos 0) ≡ negative x
below-zero (pos n) = le-ltb n 0 (omega arith)
below-zero (negsuc n) = refl

-- ---- tests that say the same

pub same-le : (a b c d : ℕ) → (a ≤ b → c ≤ d) → (c ≤ d → a ≤ b) → leb a b ≡ leb c d
same-le a b c d f g = go (dec_le a b)
  where
    go : Dec (a ≤ b) → leb a b ≡ leb c d
    go (yes h) = le-leb a b h ∙ sym (le-leb c d (f h))
    go (no n) = lt-leb a b (lt_of_not-le n) ∙ sym (lt-leb c d (lt_of_not-le (λ h. n (g h))))

pub same-lt : (a b c d : ℕ) → (a < b → c < d) → (c < d → a < b) → ltb a b ≡ ltb c d
same-lt a b c d f g = same-le (suc a) b (suc c) d f g

-- below is not at most the other way round
pub ltb-not : (a b : ℕ) → ltb a b ≡ not (leb b a)
ltb-not a b = go (dec_le b a)
  where
    go : Dec (b ≤ a) → ltb a b ≡ not (leb b a)
    go (yes h) = le-ltb a b h ∙ sym (ap not (le-leb b a h))
    go (no n) = let h = lt_of_not-le n in lt-ltb a b h ∙ sym (ap not (lt-leb b a h))

pub lt_not_le : (x y : ℤ) → lt_z x y ≡ not (le_z y x)
lt_not_le (pos a) (pos b) = ltb-not a b
lt_not_le (pos a) (negsuc b) = refl
lt_not_le (negsuc a) (pos b) = refl
lt_not_le (negsuc a) (negsuc b) = ltb-not b a

-- ---- differences of natural numbers

pub sub_at : (a b : ℕ) → b ≤ a → sub_ℕ a b ≡ pos (a - b)
sub_at a b h = ap (λ (t : Bool). cond t (negsuc (b - suc a)) (pos (a - b))) (le-ltb a b h)

pub sub-below : (a b : ℕ) → a < b → sub_ℕ a b ≡ negsuc (b - suc a)
sub-below a b h = ap (λ (t : Bool). cond t (negsuc (b - suc a)) (pos (a - b))) (lt-ltb a b h)

pub pos-sub : (n : ℕ) → pos n ≡ sub_ℕ n 0
pos-sub n = ap pos (omega arith) ∙ sym (sub_at n 0 (omega arith))

pub negsuc-sub : (n : ℕ) → negsuc n ≡ sub_ℕ 0 (suc n)
negsuc-sub n = ap negsuc (omega arith) ∙ sym (sub-below 0 (suc n) (omega arith))

pub neg-sub : (n : ℕ) → neg_ℤ (pos n) ≡ sub_ℕ 0 n
neg-sub zero = refl
neg-sub (suc n) = negsuc-sub n

-- a fact of every difference, from one where it is not negative and one where it is
pub by_sign {ℓ} : (P : ℤ → Type ℓ) (a b : ℕ) → (b ≤ a → P (pos (a - b))) → (a < b → P (negsuc (b - suc a))) → P (sub_ℕ a b)
by_sign P a b f g = go (dec_le b a)
  where
    go : Dec (b ≤ a) → P (sub_ℕ a b)
    go (yes h) = subst P (sym (sub_at a b h)) (f h)
    go (no n) = let h = lt_of_not-le n in subst P (sym (sub-below a b h)) (g h)

-- differences are equal where the sums crosswise are
pub sub_same : (a b c d : ℕ) → a + d ≡ c + b → sub_ℕ a b ≡ sub_ℕ c d
sub_same a b c d e =
    by_sign (λ z. z ≡ sub_ℕ c d) a b
    (λ h. ap pos (omega arith) ∙ sym (sub_at c d (omega arith)))
    (λ h. ap negsuc (omega arith) ∙ sym (sub-below c d (omega arith)))

-- and ordered as these are
pub sub-le : (a b c d : ℕ) → le_z (sub_ℕ a b) (sub_ℕ c d) ≡ leb (a + d) (c + b)
sub-le a b c d =
    by_sign (λ y. le_z y (sub_ℕ c d) ≡ leb (a + d) (c + b)) a b
    (λ h.
    by_sign (λ z. le_z (pos (a - b)) z ≡ leb (a + d) (c + b)) c d
    (λ k. same-le (a - b) (c - d) (a + d) (c + b) (λ l. omega arith) (λ l. omega arith))
    (λ k. sym (lt-leb (a + d) (c + b) (omega arith))))
    (λ h.
    by_sign (λ z. le_z (negsuc (b - suc a)) z ≡ leb (a + d) (c + b)) c d
    (λ k. sym (le-leb (a + d) (c + b) (omega arith)))
    (λ k. same-le (d - suc c) (b - suc a) (a + d) (c + b) (λ l. omega arith) (λ l. omega arith)))

pub sub-lt : (a b c d : ℕ) → lt_z (sub_ℕ a b) (sub_ℕ c d) ≡ ltb (a + d) (c + b)
sub-lt a b c d = lt_not_le (sub_ℕ a b) (sub_ℕ c d) ∙ ap not (sub-le c d a b) ∙ sym (ltb-not (a + d) (c + b))

-- sums and opposites
pub sub-add : (a b c d : ℕ) → sub_ℕ a b +ℤ sub_ℕ c d ≡ sub_ℕ (a + c) (b + d)
sub-add a b c d =
    by_sign (λ y. y +ℤ sub_ℕ c d ≡ sub_ℕ (a + c) (b + d)) a b
    (λ h.
    by_sign (λ z. pos (a - b) +ℤ z ≡ sub_ℕ (a + c) (b + d)) c d
    (λ k. ap pos (omega arith) ∙ sym (sub_at (a + c) (b + d) (omega arith)))
    (λ k. sub_same (a - b) (suc (d - suc c)) (a + c) (b + d) (omega arith)))
    (λ h.
    by_sign (λ z. negsuc (b - suc a) +ℤ z ≡ sub_ℕ (a + c) (b + d)) c d
    (λ k. sub_same (c - d) (suc (b - suc a)) (a + c) (b + d) (omega arith))
    (λ k. ap negsuc (omega arith) ∙ sym (sub-below (a + c) (b + d) (omega arith))))

pub sub-neg : (a b : ℕ) → neg_ℤ (sub_ℕ a b) ≡ sub_ℕ b a
sub-neg a b =
    by_sign (λ z. neg_ℤ z ≡ sub_ℕ b a) a b
    (λ h. neg-sub (a - b) ∙ sub_same 0 (a - b) b a (omega arith))
    (λ h. ap pos (omega arith) ∙ sym (sub_at b a (omega arith)))

pub sub-sub : (a b c d : ℕ) → sub_ℕ a b -ℤ sub_ℕ c d ≡ sub_ℕ (a + d) (b + c)
sub-sub a b c d = ap (λ (z : ℤ). sub_ℕ a b +ℤ z) (sub-neg c d) ∙ sub-add a b d c

-- a difference more or less a natural number
pub sub_more : (a b n : ℕ) → sub_ℕ a b +ℤ pos n ≡ sub_ℕ (a + n) b
sub_more a b n = ap (λ (z : ℤ). sub_ℕ a b +ℤ z) (pos-sub n) ∙ sub-add a b n 0 ∙ sub_same (a + n) (b + 0) (a + n) b (omega arith)

pub sub-less : (a b n : ℕ) → sub_ℕ a b -ℤ pos n ≡ sub_ℕ a (b + n)
sub-less a b n = ap (λ (z : ℤ). sub_ℕ a b -ℤ z) (pos-sub n) ∙ sub-sub a b n 0 ∙ sub_same (a + 0) (b + n) a (b + n) (omega arith)

-- both shifted alike
pub sub-shift : (a b n : ℕ) → sub_ℕ (a + n) (b + n) ≡ sub_ℕ a b
sub-shift a b n = sub_same (a + n) (b + n) a b (omega arith)

-- without its sign
pub sub-size : (a b : ℕ) → nat_abs (sub_ℕ a b) ≡ (a - b) + (b - a)
sub-size a b = by_sign (λ z. nat_abs z ≡ (a - b) + (b - a)) a b (λ h. omega arith) (λ h. omega arith)

-- a difference of small numbers is small
pub sub_small : (a b n : ℕ) → a < n → b < n → mag (sub_ℕ a b) < n
sub_small a b n h k = by_sign (λ z. mag z < n) a b (λ l. omega arith) (λ l. omega arith)

-- differences from one number, and to one number, are ordered by the other
pub sub-le-right : (a b h : ℕ) → le_z (sub_ℕ a h) (sub_ℕ b h) ≡ leb a b
sub-le-right a b h = sub-le a h b h ∙ same-le (a + h) (b + h) a b (λ l. omega arith) (λ l. omega arith)

pub sub-le-left : (a b h : ℕ) → le_z (sub_ℕ h a) (sub_ℕ h b) ≡ leb b a
sub-le-left a b h = sub-le h a h b ∙ same-le (h + b) (h + a) b a (λ l. omega arith) (λ l. omega arith)

pub sub-lt-right : (a b h : ℕ) → lt_z (sub_ℕ a h) (sub_ℕ b h) ≡ ltb a b
sub-lt-right a b h = lt_not_le (sub_ℕ a h) (sub_ℕ b h) ∙ ap not (sub-le-right b a h) ∙ sym (ltb-not a b)

pub sub-lt-left : (a b h : ℕ) → lt_z (sub_ℕ h a) (sub_ℕ h b) ≡ ltb b a
sub-lt-left a b h = lt_not_le (sub_ℕ h a) (sub_ℕ h b) ∙ ap not (sub-le-left b a h) ∙ sym (ltb-not b a)

-- ---- the size of a number between bounds

pub size_low : (x : ℤ) (n : ℕ) → negative x ≡ true → le_z (neg_ℤ (pos n)) x ≡ true → nat_abs x ≤ n
size_low (pos a) n s l = absurd (true≢false (sym s))
size_low (negsuc a) zero s l = absurd (true≢false (sym l))
size_low (negsuc a) (suc n) s l = let h : a ≤ n = leb-true a n l in omega arith

pub size-high : (x : ℤ) (n : ℕ) → negative x ≡ false → le_z x (pos n) ≡ true → nat_abs x ≤ n
size-high (pos a) n s h = leb-true a n h
size-high (negsuc a) n s h = absurd (true≢false s)

pub size-between : (x : ℤ) (n : ℕ) → le_z (neg_ℤ (pos n)) x ≡ true → le_z x (pos n) ≡ true → nat_abs x ≤ n
size-between (pos a) n l h = size-high (pos a) n refl h
size-between (negsuc a) n l h = size_low (negsuc a) n refl l

-- ---- a number taken to another by a natural number, by its sign and magnitude

pub plain-plus : (x : ℤ) (n : ℕ) → negative x ≡ false → x +ℤ pos n ≡ pos (nat_abs x + n)
plain-plus (pos m) n e = refl
plain-plus (negsuc m) n e = absurd (true≢false e)

pub negative-plus : (x : ℤ) (n : ℕ) → negative x ≡ true → x +ℤ pos n ≡ sub_ℕ n (nat_abs x)
negative-plus (pos m) n e = absurd (true≢false (sym e))
negative-plus (negsuc m) n e = refl

pub minus-plain : (n : ℕ) (x : ℤ) → negative x ≡ false → pos n -ℤ x ≡ sub_ℕ n (nat_abs x)
minus-plain n (pos m) e = ap (λ (z : ℤ). z -ℤ pos m) (pos-sub n) ∙ sub-less n 0 m ∙ sub_same n (0 + m) n m (omega arith)
minus-plain n (negsuc m) e = absurd (true≢false e)

pub minus-negative : (n : ℕ) (x : ℤ) → negative x ≡ true → pos n -ℤ x ≡ pos (n + nat_abs x)
minus-negative n (pos m) e = absurd (true≢false (sym e))
minus-negative n (negsuc m) e = refl
