-- Squares compared, and what they say of the two tests of `Floor`: 01 "From a fix to a cell", "Both sides are decided by sign and by whole-number
-- squares". Assumes nothing.
use Rattle.std.specs.Prelude.{◌≡◌, refl, Bool, true, false, ◌&&◌, ◌||◌, ℕ, ◌-◌, ◌*◌, ◌≤◌, ◌<◌, leb}
use Rattle.std.proofs.Common.{sym, ◌∙◌, ⊎_elim, le_trans, le_of_eq, le_of_lt, lt_of_le_of_lt, lt_of_lt_of_le, mul-le-mul, mul-le-mul_left, mul-lt-mul_of_pos_right, arith}
use Rattle.std.proofs.Math.Nat.{mul-mul-mul_comm}
use borrow.Author.Tests.{le-leb, lt-leb, leb-true}
use Rattle.logic.specs.Laws.Bools.{and_left, and_right}
use Rattle.logic.specs.Laws.Order.{lt-or}
use Rattle.root.specs.Floor.{square, plus_at, minus_at}

-- ---- squares

pub square_le : {x y : ℕ} → x ≤ y → square x ≤ square y
square_le h = mul-le-mul h h

pub square-lt : {x y : ℕ} → x < y → square x < square y
square-lt {x} {y} h = lt_of_le_of_lt (mul-le-mul_left x (le_of_lt h)) (mul-lt-mul_of_pos_right h (omega arith))

pub square-mul : (x y : ℕ) → square (x * y) ≡ square x * square y
square-mul x y = mul-mul-mul_comm x y x y

-- x at most y r, with r r at most radicand: the square of x is at most y y radicand
pub under-root : {x : ℕ} (y r radicand : ℕ) → x ≤ y * r → square r ≤ radicand → square x ≤ square y * radicand
under-root y r radicand h l = le_trans (square_le h) (le_trans (le_of_eq (square-mul y r)) (mul-le-mul_left (square y) l))

pub under-root-lt : {x : ℕ} (y r radicand : ℕ) → x < y * r → square r ≤ radicand → square x < square y * radicand
under-root-lt y r radicand h l = lt_of_lt_of_le (square-lt h) (le_trans (le_of_eq (square-mul y r)) (mul-le-mul_left (square y) l))

-- x at least y r, with r r at least radicand
pub over_root : {x : ℕ} (y r radicand : ℕ) → y * r ≤ x → radicand ≤ square r → square y * radicand ≤ square x
over_root y r radicand h l = le_trans (mul-le-mul_left (square y) l) (le_trans (le_of_eq (sym (square-mul y r))) (square_le h))

pub over-root-lt : {x : ℕ} (y r radicand : ℕ) → y * r < x → radicand ≤ square r → square y * radicand < square x
over-root-lt y r radicand h l = lt_of_le_of_lt (mul-le-mul_left (square y) l) (lt_of_le_of_lt (le_of_eq (sym (square-mul y r))) (square-lt h))

-- ---- the tests

or_yes : (a b : Bool) → b ≡ true → (a || b) ≡ true
or_yes true b e = refl
or_yes false b e = e

and_no : (a b : Bool) → b ≡ false → (a && b) ≡ false
and_no true b e = e
and_no false b e = refl

module _ (m radicand g : ℕ) where
  pub plus-under : (w : ℕ) → 2 * w ≤ m → plus_at m radicand g w ≡ true
  unfolding plus_at
  plus-under w h = rw (le-leb (2 * w) m h)

  pub plus-square : (w : ℕ) → square (900000000000000000 * (2 * w - m)) ≤ square (m * g) * radicand → plus_at m radicand g w ≡ true
  unfolding plus_at
  plus-square w h = or_yes (leb (2 * w) m) _ (le-leb _ _ h)

  pub plus-not : (w : ℕ) → m < 2 * w → square (m * g) * radicand < square (900000000000000000 * (2 * w - m)) → plus_at m radicand g w ≡ false
  unfolding plus_at
  plus-not w h l = rw (lt-leb (2 * w) m h) (lt-leb _ _ l)

  -- above the middle the squares decide
  pub plus-second : (w : ℕ) → m < 2 * w → leb (square (900000000000000000 * (2 * w - m))) (square (m * g) * radicand) ≡ plus_at m radicand g w
  unfolding plus_at
  plus-second w h = rw (lt-leb (2 * w) m h)

  -- what is at most the value stays so further down
  pub plus-down : (i j : ℕ) → i ≤ j → plus_at m radicand g j ≡ true → plus_at m radicand g i ≡ true
  plus-down i j h e =
      ⊎_elim
      (λ l.
      let s : square (900000000000000000 * (2 * j - m)) ≤ square (m * g) * radicand = leb-true _ _ (plus-second j (omega arith) ∙ e) in
      plus-square i (le_trans (square_le (mul-le-mul_left 900000000000000000 (omega arith))) s))
      (λ l. plus-under i l)
      (lt-or m (2 * i))

  pub minus_is : (w : ℕ) → 2 * w ≤ m → square (m * g) * radicand ≤ square (900000000000000000 * (m - 2 * w)) → minus_at m radicand g w ≡ true
  unfolding minus_at
  minus_is w h l = rw (le-leb (2 * w) m h) (le-leb _ _ l)

  pub minus-over : (w : ℕ) → m < 2 * w → minus_at m radicand g w ≡ false
  unfolding minus_at
  minus-over w h = rw (lt-leb (2 * w) m h)

  pub minus-not : (w : ℕ) → square (900000000000000000 * (m - 2 * w)) < square (m * g) * radicand → minus_at m radicand g w ≡ false
  unfolding minus_at
  minus-not w h = and_no (leb (2 * w) m) _ (lt-leb _ _ h)

  -- up to the middle the squares decide
  pub minus-second : (w : ℕ) → 2 * w ≤ m → leb (square (m * g) * radicand) (square (900000000000000000 * (m - 2 * w))) ≡ minus_at m radicand g w
  unfolding minus_at
  minus-second w h = rw (le-leb (2 * w) m h)

  pub minus-down : (i j : ℕ) → i ≤ j → minus_at m radicand g j ≡ true → minus_at m radicand g i ≡ true
  unfolding minus_at
  minus-down i j h e =
      let l : 2 * j ≤ m = leb-true (2 * j) m (and_left _ _ e) in
      minus_is i (omega arith) (le_trans (leb-true _ _ (and_right (leb (2 * j) m) _ e)) (square_le (mul-le-mul_left 900000000000000000 (omega arith))))
