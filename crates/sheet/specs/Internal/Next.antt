-- The next whole cell along the walk. Assumes nothing.
use Rattle.std.specs.Prelude.{◌≡◌, List, [], ◌∷◌, ℕ, drop, None, Option, Some}
use Rattle.walk.specs.declared.Spot.{Spot}
use Rattle.walk.specs.Walk.{walk, Walks}

-- its spot, and the place behind it; or there is none
abbrev pub NextIs : (t : List ℕ) (i : ℕ) (s : Spot) → Option (Spot × ℕ) → Type 0
NextIs t i s (Some (s', j)) = (walk s (drop i t) ≡ s' ∷ walk s' (drop j t)) × Walks t j s'
NextIs t i s None = walk s (drop i t) ≡ []
