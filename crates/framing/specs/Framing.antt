-- What `coverage frame` reads and prints: the face side, and the frame around a text's whole cells. Assumes nothing.
use Rattle.std.specs.Prelude.{◌≡◌, false, cond, List, [], ◌∷◌, ◌++◌, ℕ, zero, suc, ◌-◌, ltb, pos, Float, None, Option, Some}
use Rattle.std.specs.Float.{binary64, fin}
use Rattle.std.specs.Float.Ieee.{of_int, div, to_bits}
use Rattle.io.specs.Digits.{last_digits}
use Rattle.decimal.specs.Fraction.{fraction_in}
use Rattle.plotter.specs.declared.Frame.{Frame}
use Rattle.plotter.specs.declared.Around.{Around}
use Rattle.plotter.specs.declared.Around.TheVariants as around-as
use Rattle.plotter.specs.Plotter.{has_nan, frame_around}
use Rattle.report.specs.Lines.{number_line}
use Rattle.logic.specs.Refusal.{◌otherwise◌}
use Rattle.metres.specs.Metres.{side_refusal}
use Rattle.listing.specs.List.{codes_of, listing_refusal}

-- a fraction as a double: a quotient of two whole numbers below 2^53, rounded once, so the nearest to it; what is no fraction is 0, which is no side
abbrev pub side_of : Option (ℕ × ℕ) → Float
side_of (Some (number, scale)) = div binary64 (of_int binary64 (pos number)) (of_int binary64 (pos scale))
side_of None = fin false 0 (pos 0)

unfoldable pub side_in : List ℕ → Float
side_in bs = side_of (fraction_in bs)

-- a double's bits, as sixteen hexadecimal digits
unfoldable pub hexadecimal : Float → List ℕ
hexadecimal x = last_digits 16 16 (to_bits binary64 x)

-- the digit that a byte writes: `0` to `9`, then `a` to `f`
abbrev pub glyph_value : ℕ → ℕ
glyph_value b = cond (ltb b 58) (b - 48) (b - 87)

-- left, bottom, right and top, a space between them
unfoldable pub edges_line : Frame → List ℕ
unfolding hexadecimal
edges_line f =
    (hexadecimal f.left ++ (32 ∷ [])) ++ ((hexadecimal f.bottom ++ (32 ∷ [])) ++ ((hexadecimal f.right ++ (32 ∷ [])) ++ (hexadecimal f.top ++ (10 ∷ []))))

-- a line, nothing where there is no cell, or the refusal number
unfoldable pub around_line : Around → List ℕ
around_line (around-as.Edges f) = edges_line f
around_line around-as.Nothing = []
around_line (around-as.Refused r) = number_line r

-- every edge is a number
abbrev pub Numbers : Around → Type 0
Numbers (around-as.Edges f) = has_nan f ≡ false
Numbers around-as.Nothing = Unit {0}
Numbers (around-as.Refused r) = Unit {0}

-- `coverage frame`: 19 of the side, then the text's refusal
unfoldable pub frame_refusal : (side : Float) (t : List ℕ) (room : ℕ) → ℕ
frame_refusal side t room = side_refusal side otherwise listing_refusal t room

-- the line of the frame around the text's cells, or the refusal number on a line
abbrev pub line_with : (refusal : ℕ) (side : Float) (t : List ℕ) → List ℕ
line_with zero side t = around_line (frame_around side (codes_of t))
line_with (suc r) side t = number_line (suc r)

unfoldable pub frame_line : (side : Float) (t : List ℕ) (room : ℕ) → List ℕ
unfolding frame_refusal
frame_line side t room = line_with (frame_refusal side t room) side t
