pub mod Framing
pub mod Hexadecimal
pub mod Side
pub mod Worked
-- A double's bits have sixteen hexadecimal digits; edges that are numbers; which line is put. Assumes nothing.
use mathlib.Core.Path.{◌≡◌, refl, sym, ap, ◌∙◌, subst}
use mathlib.Core.Logic.{⊎_elim}
use mathlib.Core.Bool.{false, ◌||◌}
use mathlib.Core.List.{List}
use Prim.Native.Nat.{ℕ, zero, suc, ◌-◌, ◌^◌, ◌≤◌, ◌<◌}
use native.Mathlib.Nat.{pow-le-pow_right, zero-lt-suc}
use native.Mathlib.Omega.{arith}
use lib.Ieee.{Float, is_nan}
use Rattle.io.specs.Digits.{IsDigitCount}
use Rattle.logic.specs.Laws.Order.{lt-or}
use Rattle.logic.specs.Laws.Bools.{or_left, or_right}
use Rattle.report.specs.Put.{Put}
use Rattle.report.specs.Lines.{number_line}
use Rattle.listing.specs.List.{codes_of}
use Rattle.plotter.specs.declared.Frame.{Frame}
use Rattle.plotter.specs.declared.Around.{Around}
use Rattle.plotter.specs.Plotter.{has_nan, frame_around}
use Rattle.framing.specs.Framing.{around_line, frame_refusal, line_with, frame_line}

power-up : (i j : ℕ) → i ≤ j → 16 ^ i ≤ 16 ^ j
power-up i j h = pow-le-pow_right (zero-lt-suc 15) h

pub sixteen : (n r : ℕ) → IsDigitCount 16 16 n r → n < 2 ^ 64 → r ≡ 16
sixteen n r f h = ⊎_elim more (λ k. omega (arith, f.0)) (lt-or 16 r)
  where
    more : 16 < r → r ≡ 16
    more k =
        let p : 16 ^ 16 ≤ 16 ^ (r - 1) = power-up 16 (r - 1) (omega arith) in
        absurd (omega (arith, f.2 k))

-- ---- the edges of a frame whose edges are numbers

module _ (f : Frame) (e : has_nan f ≡ false) where
  pub left-number : is_nan f.left ≡ false
  unfolding has_nan
  left-number = or_left (is_nan f.left) (is_nan f.bottom || (is_nan f.right || is_nan f.top)) e

  behind-left : (is_nan f.bottom || (is_nan f.right || is_nan f.top)) ≡ false
  unfolding has_nan
  behind-left = or_right (is_nan f.left) (is_nan f.bottom || (is_nan f.right || is_nan f.top)) e

  pub bottom-number : is_nan f.bottom ≡ false
  bottom-number = or_left (is_nan f.bottom) (is_nan f.right || is_nan f.top) behind-left

  pub right-number : is_nan f.right ≡ false
  right-number = or_left (is_nan f.right) (is_nan f.top) (or_right (is_nan f.bottom) (is_nan f.right || is_nan f.top) behind-left)

  pub top-number : is_nan f.top ≡ false
  top-number = or_right (is_nan f.right) (is_nan f.top) (or_right (is_nan f.bottom) (is_nan f.right || is_nan f.top) behind-left)

-- the same bytes by another name
pub put_as : {at : ℕ} {a b out later : List ℕ} {end : ℕ} → a ≡ b → Put at a out later end → Put at b out later end
put_as {at} {out = out} {later = later} {end = end} e p = subst (λ (x : List ℕ). Put at x out later end) e p

-- ---- the line that is put

module _ (side : Float) (t : List ℕ) (room : ℕ) where
  pub line_refused : (q : ℕ) → frame_refusal side t room ≡ q → (q ≡ 0 → ⊥) → number_line q ≡ frame_line side t room
  unfolding frame_line
  line_refused q e n = as_number q n ∙ sym (ap (λ (r : ℕ). line_with r side t) e)
    where
      as_number : (x : ℕ) → (x ≡ 0 → ⊥) → number_line x ≡ line_with x side t
      as_number zero z = absurd (z refl)
      as_number (suc x) z = refl

  pub line-framed : (x : Around) → frame_refusal side t room ≡ 0 → x ≡ frame_around side (codes_of t) → around_line x ≡ frame_line side t room
  unfolding frame_line
  line-framed x e f = ap around_line f ∙ sym (ap (λ (r : ℕ). line_with r side t) e)
