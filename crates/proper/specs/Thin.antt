-- Of rising codes, those whose cells lie in no earlier one's cell. Assumes nothing.
use Rattle.std.specs.Prelude.{◌≡◌, true, cond, List, [], ◌∷◌, ℕ, ltb}
use Rattle.logic.specs.Lists.{All}
use Rattle.cell.specs.declared.Arrangement.{Arrangement}
use Rattle.code.specs.Code.{cell_of, is_code, arrangement_of}
use Rattle.code.specs.Inside.{start_of, end_of}

-- the cells that start at `from` or later, each with no later one inside
unfoldable pub thinned : (from : ℕ) → List ℕ → List ℕ
thinned from [] = []
thinned from (c ∷ cs) = cond (ltb (start_of (cell_of c)) from) (thinned from cs) (c ∷ thinned (end_of (cell_of c)) cs)

-- codes of one arrangement
abbrev pub Coded : Arrangement → List ℕ → Type 0
Coded a cs = All (λ (c : ℕ). (is_code c ≡ true) × (arrangement_of c ≡ a)) cs
