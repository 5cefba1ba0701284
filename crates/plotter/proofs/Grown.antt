-- A frame that grows by one code after the other, and the frame around the cells of codes. Assumes nothing.
use Rattle.std.specs.Prelude.{Err, Ok}
use mathlib.Core.Path.{◌≡◌, refl, sym, ap}
use mathlib.Core.Bool.{Bool, true, false, not}
use mathlib.Core.List.{List, [], ◌∷◌}
use Prim.Native.Nat.{ℕ, ◌+◌, ◌-◌, ◌<◌}
use lib.ListN.{length, take, drop, get_or, length-drop}
use lib.Seq.{drop-cons, take_all}
use native.Mathlib.Numerals.{add-one}
use native.Mathlib.Omega.{arith}
use lib.Ieee.{Float}
use Rattle.logic.specs.Refusal.{refuse}
use Rattle.metres.specs.Metres.{is_side, side_refusal}
use Rattle.plotter.specs.declared.Frame.{Frame}
use Rattle.plotter.specs.declared.Around.TheVariants as around-as
use Rattle.plotter.specs.Plotter.{first_frame, grown_frame, grown_by, as_around, no_cells, frame_around}

drop_code : (codes : List ℕ) (i : ℕ) → i < length codes → drop i codes ≡ get_or codes i 0 ∷ drop (i + 1) codes
drop_code codes i h = rw (add-one, drop-cons codes i 0)

-- the codes behind the first, as the code has them
pub behind-first : (codes : List ℕ) → take (length codes - 1) (drop 1 codes) ≡ drop 1 codes
behind-first codes = take_all (length codes - 1) (drop 1 codes) (omega (arith, length-drop 1 codes))

-- by the next code, and then by the rest
pub grown-at : (side : Float) (f : Frame) (codes : List ℕ) (i : ℕ) → i < length codes →
    grown_by side (Ok f) (drop i codes) ≡ grown_by side (grown_frame side f (get_or codes i 0)) (drop (i + 1) codes)
grown-at side f codes i h = ap (grown_by side (Ok f)) (drop_code codes i h)

-- a refusal stays
pub refused-stays : (side : Float) (r : ℕ) (codes : List ℕ) → grown_by side (Err r) codes ≡ Err r
refused-stays side r [] = refl
refused-stays side r (code ∷ codes) = refused-stays side r codes

-- ---- the frame around cells, by whether there are any

pub none-around : (side : Float) (codes : List ℕ) → length codes ≡ 0 → is_side side ≡ true → around-as.Nothing ≡ frame_around side codes
unfolding frame_around side_refusal
none-around side [] n e = sym (ap (λ (b : Bool). no_cells (refuse (not b) 19)) e)
none-around side (code ∷ codes) n e = absurd (omega arith)

pub none-refused : (side : Float) (codes : List ℕ) → length codes ≡ 0 → is_side side ≡ false → around-as.Refused 19 ≡ frame_around side codes
unfolding frame_around side_refusal
none-refused side [] n e = sym (ap (λ (b : Bool). no_cells (refuse (not b) 19)) e)
none-refused side (code ∷ codes) n e = absurd (omega arith)

pub some-around : (side : Float) (codes : List ℕ) → (length codes ≡ 0 → ⊥) →
    frame_around side codes ≡ as_around (grown_by side (first_frame side (get_or codes 0 0)) (drop 1 codes))
unfolding frame_around
some-around side [] n = absurd (n refl)
some-around side (code ∷ codes) n = refl
