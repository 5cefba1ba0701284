-- A double's hexadecimal digits: sixteen, and read back they are its bits, so they are no other double's. Assumes nothing.
use Rattle.std.specs.Prelude.{◌≡◌, refl, List, [], ◌∷◌, ◌++◌, map, Bool, true, false, cond, ℕ, zero, suc, ◌+◌, ◌/◌, ◌%◌, ◌^◌, ◌<◌, T, ltb, length, Float}
use Rattle.std.proofs.Common.{ap, ap₂, ◌∙◌, arith, length-append, lt-ltb, le-ltb, ltb-true, ltb-false}
use Rattle.std.proofs.lemmas.List.{map-append}
use Rattle.std.specs.Float.{binary64}
use Rattle.std.specs.Float.Ieee.{fits, to_bits, of_bits}
use Rattle.std.specs.Float.Ieee.Bits.{of_bits-to_bits, to_bits-lt}
use Rattle.io.specs.Digits.{hex_digit_ascii, last_digits}
use Rattle.ternary.specs.Digits.{value}
use Rattle.ternary.specs.Digits as base
use Rattle.ternary.proofs.Laws.Digits.{value-digits}
use Rattle.framing.specs.Framing.{hexadecimal, glyph_value}

digits-length : (b k n : ℕ) → length (last_digits b k n) ≡ k
digits-length b zero n = refl
digits-length b (suc k) n = length-append (last_digits b k (n / b)) (hex_digit_ascii (n % b) ∷ []) ∙ omega (arith, digits-length b k (n / b))

pub hex-length : (x : Float) → length (hexadecimal x) ≡ 16
unfolding hexadecimal
hex-length x = digits-length 16 16 (to_bits binary64 x)

-- a digit's byte is that digit's
glyph-back : (d : ℕ) → d < 16 → glyph_value (hex_digit_ascii d) ≡ d
glyph-back d h = go (ltb d 10) refl
  where
    go : (t : Bool) → ltb d 10 ≡ t → glyph_value (cond t (48 + d) (87 + d)) ≡ d
    go true e = let k = ltb-true d 10 e in simp (lt-ltb (48 + d) 58 (omega arith)) (omega arith)
    go false e = let k = ltb-false d 10 e in simp (le-ltb (87 + d) 58 (omega arith)) (omega arith)

glyphs-back : (k n : ℕ) → map glyph_value (last_digits 16 k n) ≡ base.digits 16 k n
unfolding base.digits
glyphs-back zero n = refl
glyphs-back (suc k) n =
    map-append glyph_value (last_digits 16 k (n / 16)) (hex_digit_ascii (n % 16) ∷ [])
    ∙ ap₂ (λ (ds : List ℕ) (d : ℕ). ds ++ (d ∷ [])) (glyphs-back k (n / 16)) (glyph-back (n % 16) (omega arith))

-- the bits, and the double that has them
pub hex-back : (x : Float) → T (fits binary64 x) → of_bits binary64 (value 16 (map glyph_value (hexadecimal x))) ≡ x
unfolding hexadecimal
hex-back x h =
    let n = to_bits binary64 x in
    let l : n < 16 ^ 16 = to_bits-lt binary64 x h in
    ap (λ (ds : List ℕ). of_bits binary64 (value 16 ds)) (glyphs-back 16 n) ∙ ap (of_bits binary64) (value-digits 16 16 n (omega arith) l) ∙ of_bits-to_bits binary64 x h
