-- The answers of the entries that take or give a coverage text, as numbers: for each case of the library's answer the refusal number and the values,
-- zeros beside a refusal. Assumes nothing.
use Rattle.std.specs.Prelude.{cond, Err, Ok, Result, ℕ}
use Rattle.comparing.specs.declared.Compared.{Compared}
use Rattle.asking.specs.declared.Asked.{Asked}
use Rattle.reading.specs.declared.Refused.{Refused}
use Rattle.reader.specs.declared.Checked.{Checked}
use Rattle.reading.specs.Text.{version_of, depth_of}
use Rattle.entries.specs.declared.LengthAnswer.{LengthAnswer}
use Rattle.entries.specs.declared.CheckAnswer.{CheckAnswer}
use Rattle.entries.specs.declared.ListAnswer.{ListAnswer}
use Rattle.entries.specs.declared.AskAnswer.{AskAnswer}
use Rattle.entries.specs.declared.AddAnswer.{AddAnswer}
use Rattle.entries.specs.declared.CompareAnswer.{CompareAnswer}

-- the heading's version, depth, n and s, "the number of whole cells in the reading and the sum of their sizes"
abbrev pub check_numbers : Result Checked Refused → CheckAnswer
check_numbers (Ok x) =
    record { refusal = 0; place = 0; version = version_of x.profile; depth = depth_of x.profile; n = x.arrangement.north; s = x.arrangement.south; cells = x.cells; size = x.size }
check_numbers (Err e) =
    record { refusal = e.refusal; place = e.place; version = 0; depth = 0; n = 0; s = 0; cells = 0; size = 0 }

-- the number of codes
abbrev pub list_numbers : Result ℕ Refused → ListAnswer
list_numbers (Ok count) = record { refusal = 0; place = 0; count = count }
list_numbers (Err e) = record { refusal = e.refusal; place = e.place; count = 0 }

-- 1 where all of the cell's finest cells are covered, 0 where not; and how many letters and digits settle that
abbrev pub ask_numbers : Result Asked Refused → AskAnswer
ask_numbers (Ok x) = record { refusal = 0; place = 0; covered = cond x.covered 1 0; settled = x.settled }
ask_numbers (Err e) = record { refusal = e.refusal; place = e.place; covered = 0; settled = 0 }

-- the length of the text
abbrev pub written_numbers : Result ℕ ℕ → LengthAnswer
written_numbers (Ok length) = record { refusal = 0; length = length }
written_numbers (Err refusal) = record { refusal = refusal; length = 0 }

-- the length of the text with the cell
abbrev pub add_numbers : Result ℕ Refused → AddAnswer
add_numbers (Ok length) = record { refusal = 0; place = 0; length = length }
add_numbers (Err e) = record { refusal = e.refusal; place = e.place; length = 0 }

-- of each listing the number of its cells and the sum of their sizes
abbrev pub compare_numbers : Result Compared Refused → CompareAnswer
compare_numbers (Ok x) =
    record {
      refusal = 0;
      place = 0;
      first_cells = x.first.count;
      second_cells = x.second.count;
      both_cells = x.both.count;
      first_size = x.first.size;
      second_size = x.second.size;
      both_size = x.both.size;
    }
compare_numbers (Err e) =
    record { refusal = e.refusal; place = e.place; first_cells = 0; second_cells = 0; both_cells = 0; first_size = 0; second_size = 0; both_size = 0 }
