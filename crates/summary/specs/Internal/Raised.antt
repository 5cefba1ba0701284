-- What one whole cell adds to the counters, and what the functions that add it ask of them. Assumes nothing.
use Rattle.std.specs.Prelude.{◌≡◌, cond, List, [], ◌∷◌, ℕ, ◌+◌, ◌*◌, ◌^◌, ◌≤◌, ◌<◌, length, get_or}
use Rattle.counting.specs.Count.{count_of, between, tabulate}
use Rattle.code.specs.Number.{start_as, end_as}
use Rattle.walk.specs.declared.Spot.{Spot}

-- the number of finest cells inside both the cell of resolution k and number n and the resolution-2 cell of number x
unfoldable pub in_counter : (k n x : ℕ) → ℕ
in_counter k n x = count_of (9 ^ 13) (x * 9 ^ 13) (between (start_as k n) (end_as k n))

-- and what several cells have in that one
unfoldable pub in_counter_all : List Spot → (x : ℕ) → ℕ
in_counter_all [] x = 0
in_counter_all (s ∷ ss) x = in_counter s.resolution s.number x + in_counter_all ss x

-- each counter raised by what f gives for its number
unfoldable pub raised : List ℕ → (ℕ → ℕ) → List ℕ
raised counters f = tabulate (length counters) (λ x. get_or counters x 0 + f x)

-- the counters from `first` on, n of them, get this amount
abbrev pub amounts : (first n amount x : ℕ) → ℕ
amounts first n amount x = cond (between first (first + n) x) amount 0

-- no counter gets above 9^13
pub record Room (counters : List ℕ) (first count amount : ℕ) : Type 0 where
  pub long : length counters ≡ 486
  pub within : first + count ≤ 486
  pub low : (x : ℕ) → first ≤ x → x < first + count → get_or counters x 0 + amount ≤ 9 ^ 13

pub record CellRoom (counters : List ℕ) (k n : ℕ) : Type 0 where
  pub long : length counters ≡ 486
  pub fine : k ≤ 15
  pub faced : end_as k n ≤ 486 * 9 ^ 13
  pub low : (x : ℕ) → x < 486 → get_or counters x 0 + in_counter k n x ≤ 9 ^ 13
