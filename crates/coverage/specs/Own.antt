-- The arrangement in which `coverage ask` reads a name. Assumes nothing.
use Rattle.std.specs.Prelude.{◌≡◌, List, ℕ}
use Rattle.cell.specs.declared.Arrangement.{Arrangement}
use Rattle.cell.specs.Cell.{IsArrangement}
use Rattle.reading.specs.TextReading.{text_arrangement}
use Rattle.reader.specs.Check.{text_refusal}

-- the text's own. Of a text that is refused nothing is said: its refusal comes before 14
pub record Own (t : List ℕ) (a : Arrangement) : Type 0 where
  pub arranged : IsArrangement a
  pub own : text_refusal t ≡ 0 → a ≡ text_arrangement t
