-- A table of constants that follows a rule, as one test over the whole table. Assumes nothing.
use Rattle.std.specs.Prelude.{Bool, true, ◌&&◌, List, [], ◌∷◌, ℕ, suc, eqb}

-- each entry is the rule's number for its place, the first one's place being i
unfoldable pub follows : (rule : ℕ → ℕ) (i : ℕ) → List ℕ → Bool
follows rule i [] = true
follows rule i (x ∷ xs) = eqb x (rule i) && follows rule (suc i) xs
