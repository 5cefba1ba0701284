-- The next line of an input, of which a part is at hand. Assumes nothing.
use Rattle.std.specs.Prelude.{◌≡◌, List, ◌∷◌, ◌++◌, ℕ, ◌≤◌, length, take, drop}
use Rattle.lines.specs.Lines.{Unended}
use Rattle.lines.specs.declared.Reached.{Reached}
use Rattle.lines.specs.declared.Reached.TheVariants.{LineEnd, PartEnd}

-- The bytes left of the part are x, a line feed and those from `at` on: the line is what was kept of it and x. Or they have no line feed: then the
-- line that has begun is what was kept and all of them. It stands in front of the room, as much of it as there is room for.
abbrev pub Hands : (left kept part room : List ℕ) → Reached → Type 0
Hands left kept part room (LineEnd n at) =
    (x : List ℕ) × Unended x × (left ≡ x ++ (10 ∷ drop at part)) × (at ≤ length part) × (take n room ≡ take (length room) (kept ++ x)) × (n ≤ length room)
Hands left kept part room (PartEnd n) = Unended left × (take n room ≡ take (length room) (kept ++ left)) × (n ≤ length room)
