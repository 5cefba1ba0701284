-- How far asking reads. Assumes nothing.
use Rattle.std.specs.Prelude.{◌≡◌, Bool, List, ℕ, ◌+◌, ◌≤◌, length, drop}
use Rattle.code.specs.Code.{cell_of}
use Rattle.reading.specs.Ground.{whole_cells}
use Rattle.reading.specs.Letters.{letter_codes, letter_count}
use Rattle.reading.specs.TextReading.{nodes_of, text_arrangement, body_start}
use Rattle.asking.specs.Ask.{any_within}
use Rattle.asking.specs.Settle.{not_above}

-- The answer, and a place with all letters and digits before it whose codes are not above the asked one's, and no others.
pub record Reaches (t : List ℕ) (code : ℕ) (covered : Bool) (at : ℕ) : Type 0 where
  pub answer : covered ≡ any_within (whole_cells (nodes_of t)) (cell_of code)
  pub behind : body_start t ≤ at
  pub within : at ≤ length t
  pub above : letter_count (drop at t) + not_above code (letter_codes (text_arrangement t) (nodes_of t)) ≡ length (letter_codes (text_arrangement t) (nodes_of t))
