-- What is answered to a line: "the name of its cell, or the refusal number". Assumes nothing.
use Rattle.std.specs.Prelude.{List, [], ◌∷◌, ◌++◌, ℕ, Err, Ok, Result}
use Rattle.code.specs.Code.{cell_of}
use Rattle.name.specs.Name.{name_of}
use Rattle.decimal.specs.Decimal.{printed}
use Rattle.flight.specs.declared.Setting.{Setting}
use Rattle.flight.specs.Flight.{line_code}

unfoldable pub answer_of : Result ℕ ℕ → List ℕ
answer_of (Ok code) = name_of (cell_of code)
answer_of (Err refusal) = printed refusal

-- "for each line the name of its cell, or the refusal number", and a line feed
abbrev pub answer_line : Setting → (line : List ℕ) → List ℕ
answer_line s line = answer_of (line_code s line) ++ (10 ∷ [])
