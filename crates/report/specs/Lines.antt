-- The lines that `coverage` prints. Assumes nothing.
use Rattle.std.specs.Prelude.{cond, List, [], ◌∷◌, ◌++◌, ℕ, Err, Ok, Result}
use Rattle.asking.specs.declared.Asked.{Asked}
use Rattle.reading.specs.declared.Refused.{Refused}
use Rattle.reader.specs.declared.Checked.{Checked}
use Rattle.decimal.specs.Decimal.{printed}
use Rattle.reading.specs.Text.{version_of, depth_of}

-- four numbers in decimal, a space between them and a byte at the end
abbrev pub four_numbers : (a b c d byte : ℕ) → List ℕ
four_numbers a b c d byte = (printed a ++ (32 ∷ [])) ++ ((printed b ++ (32 ∷ [])) ++ ((printed c ++ (32 ∷ [])) ++ (printed d ++ (byte ∷ []))))

abbrev pub number_line : ℕ → List ℕ
number_line x = printed x ++ (10 ∷ [])

-- "refusal place version depth n s cells size": zeros beside a refusal, but for the place
unfoldable pub check_line : Result Checked Refused → List ℕ
check_line (Ok x) = four_numbers 0 0 (version_of x.profile) (depth_of x.profile) 32 ++ four_numbers x.arrangement.north x.arrangement.south x.cells x.size 10
check_line (Err e) = four_numbers e.refusal e.place 0 0 32 ++ four_numbers 0 0 0 0 10

-- "`yes`, `no` or the refusal number"
unfoldable pub asked_line : Result Asked Refused → List ℕ
asked_line (Ok x) = cond x.covered (121 ∷ 101 ∷ 115 ∷ 10 ∷ []) (110 ∷ 111 ∷ 10 ∷ [])
asked_line (Err e) = number_line e.refusal
