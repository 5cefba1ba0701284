-- Sums over the numbers below n, how many numbers pass a test, and lists of values. Assumes nothing.
use Rattle.std.specs.Prelude.{Bool, ◌&&◌, cond, List, [], ◌∷◌, ℕ, zero, suc, ◌+◌, leb, ltb}

-- the sum of the values of f at the numbers below n
unfoldable pub total : ℕ → (ℕ → ℕ) → ℕ
total zero f = 0
total (suc n) f = total n f + f n

-- 1 for yes
abbrev pub bit : Bool → ℕ
bit b = cond b 1 0

-- how many of the n numbers from `from` on pass the test
abbrev pub count_of : (n from : ℕ) → (ℕ → Bool) → ℕ
count_of n from test = total n (λ j. bit (test (from + j)))

-- this number is one of those from `low` to before `high`
abbrev pub between : (low high y : ℕ) → Bool
between low high y = leb low y && ltb y high

-- the values of f at the numbers below n
unfoldable pub tabulate : (n : ℕ) → (ℕ → ℕ) → List ℕ
tabulate zero f = []
tabulate (suc n) f = f 0 ∷ tabulate n (λ i. f (suc i))

-- the sum of a list
unfoldable pub sum_of : List ℕ → ℕ
sum_of [] = 0
sum_of (x ∷ xs) = x + sum_of xs
