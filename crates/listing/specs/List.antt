-- Listing (01 "The coverage text"): "Listing gives the codes of the whole cells in rising order." Assumes nothing.
use Rattle.std.specs.Prelude.{List, ◌++◌, map, ℕ, zero, suc, ltb, length, drop, Err, Ok, Result}
use Rattle.reading.specs.declared.Refused.{Refused}
use Rattle.logic.specs.Refusal.{refuse, ◌otherwise◌}
use Rattle.code.specs.Code.{code_of}
use Rattle.reading.specs.Ground.{whole_cells}
use Rattle.reading.specs.TextReading.{nodes_of, text_arrangement}
use Rattle.reader.specs.Check.{text_refusal, place_with}

-- the codes of a text's whole cells in its heading's arrangement, in the order they stand
unfoldable pub codes_of : List ℕ → List ℕ
codes_of t = map (code_of (text_arrangement t)) (whole_cells (nodes_of t))

-- the lent codes with these in front: "an answer changes only its own length"
unfoldable pub codes_in : (t codes : List ℕ) → List ℕ
unfolding codes_of
codes_in t codes = codes_of t ++ drop (length (codes_of t)) codes

-- 13, 10, 9: the text's. 8: "lent buffer shorter than the answer"
unfoldable pub listing_refusal : (t : List ℕ) (room : ℕ) → ℕ
listing_refusal t room = text_refusal t otherwise refuse (ltb room (length (codes_of t))) 8

-- how many codes were listed, or the refusal and the place
unfoldable pub listed : (r : ℕ) (t : List ℕ) → Result ℕ Refused
listed zero t = Ok (length (codes_of t))
listed (suc r) t = Err (record { refusal = suc r; place = place_with (suc r) t })
