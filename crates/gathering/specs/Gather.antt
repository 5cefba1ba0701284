-- A list of codes with one more, nine siblings merged upwards as they come (01 "The coverage text"). Laws/Gather shows that such a list is refused as the
-- list of all that came is, and has the same text. Assumes nothing.
use Rattle.std.specs.Prelude.{Bool, true, ◌&&◌, cond, List, [], ◌∷◌, ◌++◌, ℕ, zero, suc, ◌-◌, ◌/◌, ◌%◌, eqb, ltb, length, take, get_or}
use Rattle.cell.specs.declared.Arrangement.{Arrangement}
use Rattle.code.specs.Code.{cell_of}
use Rattle.code.specs.Number.{number_of, code_as}

-- the last d codes of the list are those of the d cells before number n, of resolution k
unfoldable pub follows : Arrangement → (k n d : ℕ) → List ℕ → Bool
follows a k n zero xs = true
follows a k n (suc d) xs =
    ltb 0 (length xs) && (eqb (get_or xs (length xs - 1) 0) (code_as a k (n - 1)) && follows a k (n - 1) d (take (length xs - 1) xs))

-- the cell of number n is a ninth child, and its eight siblings are the last of the list
unfoldable pub merges : Arrangement → (k n : ℕ) → List ℕ → Bool
unfolding follows
merges a k n xs = ltb 0 k && (eqb (n % 9) 8 && follows a k n 8 xs)

-- with a cell more: the parent takes the place of nine siblings, "and so on upwards"
unfoldable pub gathered_as : Arrangement → (k n : ℕ) → List ℕ → List ℕ
unfolding merges
gathered_as a zero n xs = xs ++ (code_as a zero n ∷ [])
gathered_as a (suc k) n xs = cond (merges a (suc k) n xs) (gathered_as a k (n / 9) (take (length xs - 8) xs)) (xs ++ (code_as a (suc k) n ∷ []))

-- the same of a code
abbrev pub gathered : Arrangement → (code : ℕ) → List ℕ → List ℕ
gathered a code xs = gathered_as a (cell_of code).resolution (number_of (cell_of code)) xs
