-- The floor over a root exists, there is one of it, and the resolutions agree on it. Assumes nothing.
use Rattle.std.specs.Prelude.{◌≡◌, refl, Bool, true, false, cond, ◌⊎◌, ℕ, zero, suc, ◌+◌, ◌-◌, ◌*◌, ◌/◌, ◌^◌, ◌≤◌, ◌<◌, ℤ, pos, negsuc, neg_ℤ, nat_abs}
use Rattle.std.proofs.Common.{sym, ◌∙◌, subst, inl, inr, ⊎_elim, le_refl, le_trans, le_of_eq, le_of_lt, lt_of_lt_of_le, eq-or-lt_of_le, mul-le-mul_left, mul-pos, mul-add, mul-one, mul_assoc, mul_comm, mul_left_comm, zero-mul, div-add-mod', mod-lt, arith, lit<, le-leb}
use Rattle.std.proofs.Math.Path.{ap, ap₂}
use Rattle.std.proofs.Math.Bool.{◌&&◌, ◌||◌}
use Rattle.std.proofs.Math.Nat.{mul-lt-mul_of_pos_left, mul-sub}
use Rattle.std.proofs.Math.Arith.{lt_of_le-ne}
use Rattle.std.proofs.Math.Dec.{leb}
use Rattle.std.proofs.lemmas.Bool.{lt-leb}
use Rattle.logic.specs.Laws.Bools.{clash, by_cond}
use Rattle.logic.specs.Laws.Order.{lt-or, three_ways}
use Rattle.root.specs.declared.Axis.{Axis}
use Rattle.root.specs.Floor.{square, plus_at, minus_at, at_most, IsFloor, greatest, root_floor, axis_of}
use Rattle.root.specs.Laws.Square.{square_le, square-mul, over_root, plus-under, plus-not, plus-down, minus_is, minus-over, minus-down}

-- ---- what is at most the value stays so further down, and what is above it further up

pub at-most-down : (m radicand : ℕ) (p : ℤ) (i j : ℕ) → i ≤ j → at_most m radicand p j ≡ true → at_most m radicand p i ≡ true
unfolding at_most
at-most-down m radicand (pos g) i j h e = plus-down m radicand g i j h e
at-most-down m radicand (negsuc g) i j h e = minus-down m radicand (suc g) i j h e

pub at-most-up : (m radicand : ℕ) (p : ℤ) (i j : ℕ) → i ≤ j → at_most m radicand p i ≡ false → at_most m radicand p j ≡ false
at-most-up m radicand p i j h e = go (at_most m radicand p j) refl
  where
    go : (b : Bool) → at_most m radicand p j ≡ b → b ≡ false
    go true f = clash (sym (at-most-down m radicand p i j h f) ∙ e)
    go false f = refl

-- ---- one floor at most

not-above : (m radicand : ℕ) (p : ℤ) (v w : ℕ) → IsFloor m radicand p v → IsFloor m radicand p w → v < w → ⊥
not-above m radicand p v w f g h = clash (sym g.below ∙ at-most-up m radicand p (v + 1) w (omega arith) f.above)

pub one-floor : {m radicand : ℕ} {p : ℤ} {v w : ℕ} → IsFloor m radicand p v → IsFloor m radicand p w → v ≡ w
one-floor {m} {radicand} {p} {v} {w} f g =
    ⊎_elim (λ h. absurd (not-above m radicand p v w f g h)) (λ r. ⊎_elim (λ e. e) (λ h. absurd (not-above m radicand p w v g f h)) r) (three_ways v w)

-- ---- the greatest number that passes a test

greatest-is : (test : ℕ → Bool) (n w : ℕ) → w ≤ n → test w ≡ true → ((j : ℕ) → w < j → test j ≡ false) → greatest test n ≡ w
unfolding greatest
greatest-is test zero w h y f = omega arith
greatest-is test (suc n) w h y f = pick (eq-or-lt_of_le h) (greatest-is test n w)
  where
    pick : (w ≡ suc n) ⊎ (w < suc n) → (w ≤ n → test w ≡ true → ((j : ℕ) → w < j → test j ≡ false) → greatest test n ≡ w) → greatest test (suc n) ≡ w
    pick (inl e) rec = ap (λ (b : Bool). cond b (suc n) (greatest test n)) (subst (λ (x : ℕ). test x ≡ true) e y) ∙ sym e
    pick (inr l) rec = ap (λ (b : Bool). cond b (suc n) (greatest test n)) (f (suc n) l) ∙ rec (omega arith) y f

greatest-le : (test : ℕ → Bool) (n : ℕ) → greatest test n ≤ n
unfolding greatest
greatest-le test zero = le_refl 0
greatest-le test (suc n) = let h = greatest-le test n in by_cond (λ x. x ≤ suc n) (test (suc n)) (λ e. le_refl (suc n)) (λ e. omega arith)

greatest-true : (test : ℕ → Bool) (n : ℕ) → test 0 ≡ true → test (greatest test n) ≡ true
unfolding greatest
greatest-true test zero e = e
greatest-true test (suc n) e = by_cond (λ x. test x ≡ true) (test (suc n)) (λ f. f) (λ f. greatest-true test n e)

greatest-above : (test : ℕ → Bool) (n j : ℕ) → greatest test n < j → j ≤ n → test j ≡ false
unfolding greatest
greatest-above test zero j h l = absurd (omega arith)
greatest-above test (suc n) j h l = pick (test (suc n)) refl h (eq-or-lt_of_le l) (greatest-above test n j)
  where
    pick : (b : Bool) → test (suc n) ≡ b → cond b (suc n) (greatest test n) < j → (j ≡ suc n) ⊎ (j < suc n) → (greatest test n < j → j ≤ n → test j ≡ false) → test j ≡ false
    pick true f g s rec = absurd (omega arith)
    pick false f g (inl e) rec = subst (λ (x : ℕ). test x ≡ false) (sym e) f
    pick false f g (inr k) rec = rec g (omega arith)

pub floor-le : (m radicand : ℕ) (p : ℤ) → root_floor m radicand p ≤ m
unfolding root_floor
floor-le m radicand p = greatest-le (at_most m radicand p) m

-- a floor up to m is the one that is computed: two tests, no search
pub floor-one : {m radicand : ℕ} {p : ℤ} {w : ℕ} → w ≤ m → IsFloor m radicand p w → root_floor m radicand p ≡ w
unfolding root_floor
floor-one {m} {radicand} {p} {w} h f = greatest-is (at_most m radicand p) m w h f.below (λ j l. at-most-up m radicand p (w + 1) j (omega arith) f.above)

-- the same by the two tests, for a part of the root that is added, and for one that is taken away
pub plus-exact : (m radicand g w : ℕ) → w ≤ m → plus_at m radicand g w ≡ true → plus_at m radicand g (w + 1) ≡ false → root_floor m radicand (pos g) ≡ w
unfolding at_most
plus-exact m radicand g w h y n = floor-one h (record { below = y; above = n })

pub minus-exact : (m radicand g w : ℕ) → 0 < g → w ≤ m → minus_at m radicand g w ≡ true → minus_at m radicand g (w + 1) ≡ false → root_floor m radicand (neg_ℤ (pos g)) ≡ w
unfolding at_most
minus-exact m radicand zero w g0 h y n = absurd (omega arith)
minus-exact m radicand (suc g) w g0 h y n = floor-one h (record { below = y; above = n })

-- ---- the floor exists: 0 is at most the value, and m is above it

-- y r at most x, and radicand below r r: y y radicand is below x x
strictly : (x y r radicand : ℕ) → y * r ≤ x → 0 < x → radicand < square r → square y * radicand < square x
strictly x zero r radicand h p l = rw (zero-mul radicand) (mul-pos p p)
strictly x (suc y) r radicand h p l =
    lt_of_lt_of_le (mul-lt-mul_of_pos_left l (mul-pos {m = suc y} {n = suc y} (omega arith) (omega arith))) (le_trans (le_of_eq (sym (square-mul (suc y) r))) (square_le h))

part : (m g : ℕ) → g ≤ 900000000 → m * g * 1000000000 ≤ 900000000000000000 * m
part m g h = let k : m * g ≤ m * 900000000 = mul-le-mul_left m h in omega arith

pub first-at-most : (m radicand : ℕ) (p : ℤ) → nat_abs p ≤ 900000000 → radicand < 10 ^ 18 → at_most m radicand p 0 ≡ true
unfolding at_most
first-at-most m radicand (pos g) hg ht = plus-under m radicand g 0 (omega arith)
first-at-most m radicand (negsuc g) hg ht =
    let k = part m (suc g) hg in
    minus_is m radicand (suc g) 0 (omega arith) (over_root (m * suc g) 1000000000 radicand (omega arith) (le_of_lt ht))

pub end-above : (m radicand : ℕ) (p : ℤ) → 0 < m → nat_abs p ≤ 900000000 → radicand < 10 ^ 18 → at_most m radicand p m ≡ false
unfolding at_most
end-above m radicand (pos g) m0 hg ht =
    let k = part m g hg in
    plus-not m radicand g m (omega arith) (strictly (900000000000000000 * (2 * m - m)) (m * g) 1000000000 radicand (omega arith) (omega arith) ht)
end-above m radicand (negsuc g) m0 hg ht = minus-over m radicand (suc g) m (omega arith)

module _ (m radicand : ℕ) (p : ℤ) (m0 : 0 < m) (hp : nat_abs p ≤ 900000000) (ht : radicand < 10 ^ 18) where
  pub floor-below : root_floor m radicand p < m
  unfolding root_floor
  floor-below =
      lt_of_le-ne (floor-le m radicand p) (λ q. clash (sym (greatest-true (at_most m radicand p) m (first-at-most m radicand p hp ht)) ∙ ap (at_most m radicand p) q
      ∙ end-above m radicand p m0 hp ht))

  pub floor-is : IsFloor m radicand p (root_floor m radicand p)
  unfolding root_floor
  floor-is =
      let l = floor-below in
      record {
        below = greatest-true (at_most m radicand p) m (first-at-most m radicand p hp ht);
        above = greatest-above (at_most m radicand p) m (root_floor m radicand p + 1) (omega arith) (omega arith);
      }

-- ---- the resolutions agree: c times as many rows, c times the number, the same test

leb-mul : (k a b : ℕ) → 0 < k → leb (k * a) (k * b) ≡ leb a b
leb-mul k a b h =
    ⊎_elim
    (λ l. lt-leb (k * a) (k * b) (mul-lt-mul_of_pos_left l h) ∙ sym (lt-leb a b l))
    (λ l. le-leb (k * a) (k * b) (mul-le-mul_left k l) ∙ sym (le-leb a b l))
    (lt-or b a)

-- the squares grow by c c
module _ (c m radicand g w : ℕ) where
  half-scaled : 2 * (c * w) ≡ c * (2 * w)
  half-scaled = mul_left_comm 2 c w

  reach-scaled : square (c * m * g) * radicand ≡ c * c * (square (m * g) * radicand)
  reach-scaled = simp (mul_assoc, mul_comm, mul_left_comm)

  edge-scaled : (x y : ℕ) → square (900000000000000000 * (c * x - c * y)) ≡ c * c * square (900000000000000000 * (x - y))
  edge-scaled x y =
      ap square (ap (λ (z : ℕ). 900000000000000000 * z) (sym (mul-sub c x y)) ∙ mul_left_comm 900000000000000000 c (x - y))
      ∙ square-mul c (900000000000000000 * (x - y))

  plus-scaled : 0 < c → plus_at (c * m) radicand g (c * w) ≡ plus_at m radicand g w
  unfolding plus_at
  plus-scaled h =
      ap₂ ◌||◌ (ap (λ (x : ℕ). leb x (c * m)) half-scaled ∙ leb-mul c (2 * w) m h)
      (ap₂ leb (ap (λ (x : ℕ). square (900000000000000000 * (x - c * m))) half-scaled ∙ edge-scaled (2 * w) m) reach-scaled
      ∙ leb-mul (c * c) (square (900000000000000000 * (2 * w - m))) (square (m * g) * radicand) (mul-pos h h))

  minus-scaled : 0 < c → minus_at (c * m) radicand g (c * w) ≡ minus_at m radicand g w
  unfolding minus_at
  minus-scaled h =
      ap₂ ◌&&◌ (ap (λ (x : ℕ). leb x (c * m)) half-scaled ∙ leb-mul c (2 * w) m h)
      (ap₂ leb reach-scaled (ap (λ (x : ℕ). square (900000000000000000 * (c * m - x))) half-scaled ∙ edge-scaled m (2 * w))
      ∙ leb-mul (c * c) (square (m * g) * radicand) (square (900000000000000000 * (m - 2 * w))) (mul-pos h h))

pub at-most-scaled : (c m radicand : ℕ) (p : ℤ) (w : ℕ) → 0 < c → at_most (c * m) radicand p (c * w) ≡ at_most m radicand p w
unfolding at_most
at-most-scaled c m radicand (pos g) w h = plus-scaled c m radicand g w h
at-most-scaled c m radicand (negsuc g) w h = minus-scaled c m radicand (suc g) w h

-- the c-th part of the floor in c times as many rows is the floor
pub floor-part : (c m radicand : ℕ) (p : ℤ) → 0 < c → 0 < m → nat_abs p ≤ 900000000 → radicand < 10 ^ 18 → root_floor (c * m) radicand p / c ≡ root_floor m radicand p
floor-part c m radicand p c0 m0 hp ht =
    let w : ℕ = root_floor (c * m) radicand p in
    let f : IsFloor (c * m) radicand p w = floor-is (c * m) radicand p (mul-pos c0 m0) hp ht in
    let e = div-add-mod' w c in
    let l = mod-lt w c0 in
    let s = mul_comm c (w / c) in
    let u : c * (w / c + 1) ≡ c * (w / c) + c = mul-add c (w / c) 1 ∙ ap (λ (x : ℕ). c * (w / c) + x) (mul-one c) in
    one-floor
    (record {
      below = sym (at-most-scaled c m radicand p (w / c) c0) ∙ at-most-down (c * m) radicand p (c * (w / c)) w (omega arith) f.below;
      above = sym (at-most-scaled c m radicand p (w / c + 1) c0) ∙ at-most-up (c * m) radicand p (w + 1) (c * (w / c + 1)) (omega arith) f.above;
    })
    (floor-is m radicand p m0 hp ht)

-- 3^(k+1) is 3^k * 3
pub floor-third' : (m radicand : ℕ) (p : ℤ) → 0 < m → nat_abs p ≤ 900000000 → radicand < 10 ^ 18 → root_floor (m * 3) radicand p / 3 ≡ root_floor m radicand p
floor-third' m radicand p m0 hp ht = ap (λ (x : ℕ). root_floor x radicand p / 3) (mul_comm m 3) ∙ floor-part 3 m radicand p (lit< tt) m0 hp ht

-- ---- the size of an axis

pub axis-size : (x : Axis) → nat_abs (axis_of x) ≡ x.size
axis-size x = go x.minus x.size
  where
    go : (b : Bool) (g : ℕ) → nat_abs (cond b (neg_ℤ (pos g)) (pos g)) ≡ g
    go false g = refl
    go true zero = refl
    go true (suc g) = refl
