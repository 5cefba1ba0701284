-- One cell more in a text (01 "The coverage text", "Refusal numbers"; 02, W-208 and W-210): the text of the old ground and the cell, in the text's own
-- profile and arrangement, and what is refused. Laws/Add shows that it is accepted and of that ground. Assumes nothing.
use Rattle.std.specs.Prelude.{◌≡◌, Bool, true, not, List, ◌∷◌, ◌++◌, ℕ, zero, suc, ◌≤◌, ltb, length, take, drop, Err, Ok, Result}
use Rattle.reading.specs.declared.Refused.{Refused}
use Rattle.logic.specs.Refusal.{refuse, ◌otherwise◌, given}
use Rattle.cell.specs.declared.Cell.{Cell}
use Rattle.code.specs.Code.{cell_of, code_refusal}
use Rattle.reading.specs.declared.Profile.{Profile}
use Rattle.reading.specs.Ground.{whole_cells}
use Rattle.reading.specs.Written.{written_text, keeps}
use Rattle.reading.specs.TextReading.{nodes_of, profile_of, north_of, south_of, is_text}
use Rattle.reader.specs.Check.{place_with}
use Rattle.asking.specs.Ask.{ask_refusal}

-- the cell and the text's whole cells
abbrev pub cells_with : List ℕ → Cell → List Cell
cells_with t c = c ∷ whole_cells (nodes_of t)

-- the text that writing gives of them, with the heading of the text
unfoldable pub text_with : List ℕ → Cell → List ℕ
text_with t c = written_text (profile_of t) (north_of t) (south_of t) (cells_with t c)

-- 15: the fewest cells of the new ground break the text's profile
unfoldable pub keeps_with : List ℕ → Cell → Bool
keeps_with t c = keeps (profile_of t) (cells_with t c)

-- 13: "text longer than 65,536 bytes, .. to be written". 8: "lent buffer shorter than the answer". Of a text of n bytes
unfoldable pub size_refusal : (n room : ℕ) → ℕ
size_refusal n room = refuse (ltb 65536 n) 13 otherwise refuse (ltb room n) 8

-- of a text that was accepted: 15, and then 13 and 8 as in writing
unfoldable pub with_refusal : (t : List ℕ) (c : Cell) (room : ℕ) → ℕ
unfolding size_refusal
with_refusal t c room = refuse (not (keeps_with t c)) 15 otherwise size_refusal (length (text_with t c)) room

-- of any lent bytes, of which the first `end` are said to be the text: 4; 13; 8 where they are not all lent; 10, 9 and 14 as in asking; 15, 13 and 8
-- of the text with the cell
unfoldable pub add_refusal : (bytes : List ℕ) (end code : ℕ) → ℕ
unfolding with_refusal
add_refusal bytes end code =
    code_refusal code otherwise
    refuse (ltb 65536 end) 13 otherwise
    refuse (ltb (length bytes) end) 8 otherwise
    ask_refusal (take end bytes) code otherwise
    with_refusal (take end bytes) (cell_of code) (length bytes)

-- ---- the answer: the length of the text with the cell, or the refusal and the place

unfoldable pub added : (r : ℕ) (t : List ℕ) (code : ℕ) → Result ℕ Refused
added zero t code = Ok (length (text_with t (cell_of code)))
added (suc r) t code = Err (record { refusal = suc r; place = place_with (suc r) t })

-- the lent bytes with this text in front: "A refusal changes no lent byte; an answer changes only its own length"
unfoldable pub placed : (r : ℕ) (u bytes : List ℕ) → List ℕ
placed r u bytes = given r (u ++ drop (length u) bytes) bytes

-- what each case stands for
abbrev pub refusal_in : Result ℕ Refused → ℕ
refusal_in (Ok n) = 0
refusal_in (Err e) = e.refusal

abbrev pub place_in : Result ℕ Refused → ℕ
place_in (Ok n) = 0
place_in (Err e) = e.place

abbrev pub length_in : Result ℕ Refused → ℕ
length_in (Ok n) = n
length_in (Err e) = 0

-- ---- a text that is known to be accepted

-- the first `end` of the lent bytes are an accepted text of this profile
pub record Holding (p : Profile) (bytes : List ℕ) (end : ℕ) : Type 0 where
  pub fits : end ≤ length bytes
  pub small : end ≤ 65536
  pub text : is_text (take end bytes) ≡ true
  pub profiled : profile_of (take end bytes) ≡ p

-- neither 15 nor 13 nor 8 has a place
unfoldable pub resized : (r n : ℕ) → Result ℕ Refused
resized zero n = Ok n
resized (suc r) n = Err (record { refusal = suc r; place = 0 })

-- the text t in front of the lent bytes becomes that with the cell, or a refusal changes none of them
pub record Gains (t : List ℕ) (c : Cell) (before after : List ℕ) (r : Result ℕ Refused) : Type 0 where
  pub answer : r ≡ resized (with_refusal t c (length before)) (length (text_with t c))
  pub bytes : after ≡ placed (with_refusal t c (length before)) (text_with t c) before

-- how many bytes the text has then, where it had so many before
abbrev pub length_after : Result ℕ Refused → ℕ → ℕ
length_after (Ok n) length = n
length_after (Err e) length = length
