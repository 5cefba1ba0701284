-- A planar number that the machine reads back from its bits, and refusals of marks and frames. Assumes nothing.
use Rattle.std.specs.Prelude.{Err, Ok}
use mathlib.Core.Path.{◌≡◌, refl, sym, ap, ◌∙◌, subst}
use mathlib.Core.Bool.{Bool, true, false, not}
use Prim.Native.Nat.{ℕ, zero, suc, ◌*◌, ◌^◌, ◌≤◌, ◌<◌}
use native.Mathlib.Omega.{arith}
use lib.IntN.{ℤ, pos, negsuc, nat_abs}
use lib.Signed.{mag}
use lib.Ieee.{Float}
use mir.Syntax.{w64}
use mir.Val.{to_z, of_z}
use Rattle.logic.specs.Refusal.{refuse, ◌otherwise◌}
use Rattle.logic.specs.Laws.Refusal.{passes}
use Rattle.signed.specs.Laws.Sign.{back_as}
use Rattle.cell.specs.declared.Arrangement.{Arrangement}
use Rattle.cell.specs.Cell.{IsArrangement}
use Rattle.plane.specs.Plane.{in_image, point_refusal}
use Rattle.plane.proofs.Laws.Plane.{point-allowed, refused-outside}
use Rattle.plane.proofs.Laws.Small.{image-within}
use Rattle.metres.specs.Metres.{is_side, side_refusal}
use Rattle.plotter.specs.declared.Frame.{Frame}
use Rattle.plotter.specs.declared.Mark.{Mark}
use Rattle.plotter.specs.declared.Mark.TheVariants.{Nothing}
use Rattle.plotter.specs.Plotter.{mark, framed}

few : (x : ℤ) → nat_abs x ≤ 4 * 28697814 → mag x < 2 ^ 63
few (pos n) h = omega arith
few (negsuc n) h = omega arith

pub read_back : {x z : ℤ} → x ≡ z → nat_abs z ≤ 4 * 28697814 → to_z w64 (of_z w64 x) ≡ z
read_back {x} {z} e h = back_as (few x (subst (λ (y : ℤ). nat_abs y ≤ 4 * 28697814) (sym e) h)) e

pub read_small : {x z : ℤ} → x ≡ z → nat_abs z ≤ 4 * 28697814 → nat_abs (to_z w64 (of_z w64 x)) ≤ 2 ^ 27
read_small {x} {z} e h = let f = ap nat_abs (read_back e h) in omega arith

-- 19, or what comes after it
pub side-refused : (side : Float) (r : ℕ) → is_side side ≡ false → 19 ≡ side_refusal side otherwise r
unfolding side_refusal ◌otherwise◌
side-refused side r e = sym (ap (λ (b : Bool). refuse (not b) 19 otherwise r) e)

pub side-passes : (side : Float) (r : ℕ) → is_side side ≡ true → side_refusal side otherwise r ≡ r
unfolding side_refusal
side-passes side r e = passes r (ap (λ (b : Bool). refuse (not b) 19) e)

-- ---- what each case stands for

pub framed-edges : {r : ℕ} {f g : Frame} → r ≡ 0 → f ≡ g → Ok f ≡ framed r g
framed-edges {r} {f} {g} e h = ap Ok h ∙ sym (ap (λ (q : ℕ). framed q g) e)

pub framed-refused : (q r : ℕ) (g : Frame) → q ≡ r → (r ≡ 0 → ⊥) → Err q ≡ framed r g
framed-refused q zero g e n = absurd (n refl)
framed-refused q (suc r) g e n = ap Err e

pub edges-framed : (r : ℕ) {f : Frame} (g : Frame) → Ok f ≡ framed r g → (r ≡ 0) × (f ≡ g)
edges-framed zero g e = (refl, cc)
edges-framed (suc r) g e = let k : ◌≡◌ {A = ℕ} 0 1 = cc in absurd (omega arith)

pub refused-framed : (r : ℕ) {q : ℕ} (g : Frame) → Err q ≡ framed r g → (q ≡ r) × (r ≡ 0 → ⊥)
refused-framed zero g e = let k : ◌≡◌ {A = ℕ} 0 1 = cc in absurd (omega arith)
refused-framed (suc r) g e = (cc, λ z. omega arith)

pub marked : {r : ℕ} {m n : Mark} → r ≡ 0 → m ≡ n → m ≡ mark r n
marked {r} {m} {n} e h = h ∙ sym (ap (λ (q : ℕ). mark q n) e)

pub marked-nothing : (q r : ℕ) (m : Mark) → q ≡ r → (r ≡ 0 → ⊥) → Nothing q ≡ mark r m
marked-nothing q zero m e n = absurd (n refl)
marked-nothing q (suc r) m e n = ap Nothing e

pub nineteen : {r : ℕ} → 19 ≡ r → r ≡ 0 → ⊥
nineteen e z = omega arith

-- an edge that is not a number, or none
pub nan-refused : (b : Bool) (r : ℕ) → b ≡ true → 19 ≡ refuse b 19 otherwise r
unfolding ◌otherwise◌
nan-refused b r e = sym (ap (λ (x : Bool). refuse x 19 otherwise r) e)

pub nan-passes : (b : Bool) (r : ℕ) → b ≡ false → refuse b 19 otherwise r ≡ r
nan-passes b r e = passes r (ap (λ (x : Bool). refuse x 19) e)

-- a point that is not refused lies in the image, so its numbers are small
pub point-within : (a : Arrangement) (x y : ℤ) → point_refusal a 0 x y ≡ 0 → (nat_abs x ≤ 4 * 28697814) × (nat_abs y ≤ 4 * 28697814)
point-within a x y e = let g = (point-allowed a 0 x y e).0 in image-within g x y (go g (in_image a x y) refl)
  where
    go : IsArrangement a → (b : Bool) → in_image a x y ≡ b → b ≡ true
    go g true f = refl
    go g false f = let h = (refused-outside {k = 0} x y g (omega arith)).1 f in absurd (omega arith)
