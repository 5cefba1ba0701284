-- 01's table "Refusal numbers" for the entries: each number with its condition, and for each entry the numbers that it gives, in 01's order.
-- Laws/Refusals shows that each entry gives the first whose condition holds. Assumes nothing.
use Rattle.std.specs.Prelude.{◌≡◌, ◌⊎◌, List, [], ◌∷◌, map, ℕ, ◌+◌, ◌*◌, ◌^◌, ◌≤◌, ◌<◌, ℤ, pos, neg_ℤ, ◌≤ℤ◌, ◌<ℤ◌, length, drop, take}
use Rattle.logic.specs.Lists.{Any}
use Rattle.logic.specs.Rise.{Rise}
use Rattle.code.specs.Code.{cell_of, arrangement_of}
use Rattle.code.proofs.Laws.Exact.{NoCell}
use Rattle.name.specs.Name.{name_of}
use Rattle.corner.specs.List.{codes_at}
use Rattle.plane.specs.Plane.{face_side, half, three_halves}
use Rattle.locate.specs.Fix.{InRange}
use Rattle.authalic.specs.Authalic.{Geodetic}
use Rattle.geodetic.specs.GeodeticFix.{GeodeticRange}
use Rattle.reading.specs.Ground.{Apart}
use Rattle.reading.specs.Text.{Accepted}
use Rattle.reading.proofs.Laws.Written.{TextOf}
use Rattle.reading.specs.TextReading.{profile_of, north_of, south_of}
use Rattle.reader.specs.Check.{WrongVersion}
use Rattle.listing.specs.List.{codes_of}
use Rattle.writing.specs.Write.{Another, asks_for, text_of}
use Rattle.adding.specs.Add.{cells_with, text_with}
use Rattle.comparing.specs.Compare.{ThreeLists, shared_codes}
use Rattle.entries.specs.Entries.{arrangement}
use Rattle.entries.specs.Order.{Chain}

-- ---- conditions that take more than a line

-- 1: "empty name, first byte not N to S"
abbrev pub NoLetter : List ℕ → Type 0
NoLetter [] = Unit {0}
NoLetter (b ∷ bs) = (b < 78) ⊎ (83 < b)

-- 3: "later name byte not 0 to 8"
abbrev pub NoDigit : ℕ → Type 0
NoDigit b = (b < 48) ⊎ (56 < b)

-- 7: "planar point outside the image". "O to R hold the points with 0 <= X < 4M and |Y| <= M/2"
abbrev pub OnBelt : (x y : ℤ) → Type 0
OnBelt x y = ((pos 0 ≤ℤ x) × (x <ℤ pos (4 * face_side))) × ((neg_ℤ (pos half) ≤ℤ y) × (y ≤ℤ pos half))

-- "N lies above face n: nM < X < (n+1)M and M/2 < Y < 3M/2."
abbrev pub OnNorth : (n : ℕ) (x y : ℤ) → Type 0
OnNorth n x y = ((pos (n * face_side) <ℤ x) × (x <ℤ pos ((n + 1) * face_side))) × ((pos half <ℤ y) × (y <ℤ pos three_halves))

-- "S lies below face s: sM < X < (s+1)M and -3M/2 < Y < -M/2."
abbrev pub OnSouth : (s : ℕ) (x y : ℤ) → Type 0
OnSouth s x y =
    ((pos (s * face_side) <ℤ x) × (x <ℤ pos ((s + 1) * face_side))) × ((neg_ℤ (pos three_halves) <ℤ y) × (y <ℤ neg_ℤ (pos half)))

abbrev pub OnImage : (n s : ℕ) (x y : ℤ) → Type 0
OnImage n s x y = (OnBelt x y ⊎ OnNorth n x y) ⊎ OnSouth s x y

-- ---- numbers that several entries give

-- 5: "n or s given as a number above 3"
abbrev pub arrangement_tests : (n s : ℕ) → Chain
arrangement_tests n s = (5, (3 < n) ⊎ (3 < s)) ∷ []

-- 4: "a code is no cell's"
abbrev pub code_tests : ℕ → Chain
code_tests code = (4, NoCell code) ∷ []

-- 13: "text longer than 65,536 bytes, read ..". 10: "five bytes or more, mark right", version "neither 1 nor 2". 9: "text not of the grammar"
abbrev pub text_tests : List ℕ → Chain
text_tests t = (13, 65536 < length t) ∷ (10, WrongVersion t) ∷ (9, Accepted t → ⊥) ∷ []

-- ---- the entries

-- 2: "resolution above 15". 1: "face above 5". 3: "row or column not below 3^k"
abbrev pub cell_tests : (n s face resolution row column : ℕ) → Chain
cell_tests n s f k i j = (5, (3 < n) ⊎ (3 < s)) ∷ (2, 15 < k) ∷ (1, 5 < f) ∷ (3, (3 ^ k ≤ i) ⊎ (3 ^ k ≤ j)) ∷ []

-- 2: "name over 16 bytes"
abbrev pub name_tests : (n s : ℕ) → List ℕ → Chain
name_tests n s bs = (5, (3 < n) ⊎ (3 < s)) ∷ (2, 16 < length bs) ∷ (1, NoLetter bs) ∷ (3, Any NoDigit (drop 1 bs)) ∷ []

-- 8: "lent buffer shorter than the answer"
abbrev pub code_name_tests : (code room : ℕ) → Chain
code_name_tests code room = (4, NoCell code) ∷ (8, room < length (name_of (cell_of code))) ∷ []

abbrev pub corners_tests : (code room : ℕ) → Chain
corners_tests code room = (4, NoCell code) ∷ (8, room < length (codes_at code)) ∷ []

-- 12: "parent at resolution 0, child at 15". 3: "child digit above 8"
abbrev pub parent_tests : ℕ → Chain
parent_tests code = (4, NoCell code) ∷ (12, (cell_of code).resolution ≡ 0) ∷ []

abbrev pub child_tests : (code digit : ℕ) → Chain
child_tests code digit = (3, 8 < digit) ∷ (4, NoCell code) ∷ (12, (cell_of code).resolution ≡ 15) ∷ []

abbrev pub point_tests : (n s resolution : ℕ) (x y : ℤ) → Chain
point_tests n s k x y = (5, (3 < n) ⊎ (3 < s)) ∷ (2, 15 < k) ∷ (7, OnImage n s x y → ⊥) ∷ []

abbrev pub fix_tests : (n s resolution : ℕ) (L z : ℤ) → Chain
fix_tests n s k L z = (5, (3 < n) ⊎ (3 < s)) ∷ (2, 15 < k) ∷ (6, InRange L z → ⊥) ∷ []

-- 6: "also for S or E out of range" (02, W-203)
abbrev pub z_tests : (S : ℤ) (E : ℕ) → Chain
z_tests S E = (6, Geodetic S E → ⊥) ∷ []

abbrev pub geodetic_tests : (n s resolution : ℕ) (L S : ℤ) (E : ℕ) → Chain
geodetic_tests n s k L S E = (5, (3 < n) ⊎ (3 < s)) ∷ (2, 15 < k) ∷ (6, GeodeticRange L S E → ⊥) ∷ []

-- 3: "direction above 3"
abbrev pub neighbour_tests : (code direction : ℕ) → Chain
neighbour_tests code direction = (3, 3 < direction) ∷ (4, NoCell code) ∷ []

abbrev pub list_tests : (t : List ℕ) (room : ℕ) → Chain
list_tests t room = (13, 65536 < length t) ∷ (10, WrongVersion t) ∷ (9, Accepted t → ⊥) ∷ (8, room < length (codes_of t)) ∷ []

-- 14: "asked arrangement differs from the heading's", the asked one being the code's (02, W-210). In either version "n and s as ASCII digits" stand
-- behind the mark and the version
abbrev pub turns_of : (code : ℕ) → List ℕ
turns_of code = (48 + (arrangement_of code).north) ∷ (48 + (arrangement_of code).south) ∷ []

abbrev pub ask_tests : (t : List ℕ) (code : ℕ) → Chain
ask_tests t code =
    (4, NoCell code) ∷ (13, 65536 < length t) ∷ (10, WrongVersion t) ∷ (9, Accepted t → ⊥) ∷ (14, take 2 (drop 5 t) ≡ turns_of code → ⊥) ∷ []

-- 2: "also for an asked depth above 15, at version 1 too". 10: "neither 1 nor 2, asked of the writer too" (02, W-208). 14: "also for a list .. of another
-- arrangement" (02, W-210). 11: "list not strictly rising, or one cell inside another". 15: "list outside the profile": no accepted text of the heading
-- has its ground. 13: "text longer than 65,536 bytes, .. to be written"
abbrev pub write_tests : (version depth n s : ℕ) (codes : List ℕ) (room : ℕ) → Chain
write_tests version depth n s codes room =
    (5, (3 < n) ⊎ (3 < s)) ∷
    (2, 15 < depth) ∷
    (4, Any NoCell codes) ∷
    (10, (version ≡ 1) ⊎ (version ≡ 2) → ⊥) ∷
    (14, Another (arrangement n s) codes) ∷
    (11, Rise codes × Apart (map cell_of codes) → ⊥) ∷
    (15, TextOf (asks_for version depth) n s (map cell_of codes) → ⊥) ∷
    (13, 65536 < length (text_of (asks_for version depth) (arrangement n s) codes)) ∷
    (8, room < length (text_of (asks_for version depth) (arrangement n s) codes)) ∷ []

-- of the bytes that are lent and the number of them that are said to be the text. 15: no accepted text of its heading has the ground of the text and
-- the cell
abbrev pub add_tests : (bytes : List ℕ) (end code : ℕ) → Chain
add_tests bytes end code =
    let t : List ℕ = take end bytes in
    (4, NoCell code) ∷
    (13, 65536 < end) ∷
    (8, length bytes < end) ∷
    (10, WrongVersion t) ∷
    (9, Accepted t → ⊥) ∷
    (14, take 2 (drop 5 t) ≡ turns_of code → ⊥) ∷
    (15, TextOf (profile_of t) (north_of t) (south_of t) (cells_with t (cell_of code)) → ⊥) ∷
    (13, 65536 < length (text_with t (cell_of code))) ∷
    (8, length bytes < length (text_with t (cell_of code))) ∷ []

-- 8: "if any room is short"
abbrev pub RoomShort : (lent codes : ThreeLists) → Type 0
RoomShort lent codes =
    (length lent.firsts < length codes.firsts) ⊎ ((length lent.seconds < length codes.seconds) ⊎ (length lent.boths < length codes.boths))

-- the first text's 13, 10, 9, then the second's. 14: "for differing n or s, after both texts are read in order" (02, W-205)
abbrev pub compare_tests : (t u : List ℕ) → ThreeLists → Chain
compare_tests t u lent =
    (13, 65536 < length t) ∷
    (10, WrongVersion t) ∷
    (9, Accepted t → ⊥) ∷
    (13, 65536 < length u) ∷
    (10, WrongVersion u) ∷
    (9, Accepted u → ⊥) ∷
    (14, take 2 (drop 5 t) ≡ take 2 (drop 5 u) → ⊥) ∷
    (8, RoomShort lent (shared_codes t u)) ∷ []
