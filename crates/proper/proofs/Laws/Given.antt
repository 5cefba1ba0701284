-- Some rescues, computed, and compared with the second program. Assumes nothing.
use Rattle.std.specs.Prelude.{◌≡◌, refl, [], ◌∷◌, ℕ}
use Rattle.reading.specs.Reading.{Nodes, end, whole, listed}
use Rattle.reading.specs.Written.{built, tails, any_ends, node_of, side}
use Rattle.proper.specs.Proper.{answer}
use Rattle.proper.specs.Changes.{Change, changes, same, larger, any, has}

-- the change of this kind at this place
abbrev pub at : ℕ → ℕ → Change
at p k = record { place = p; kind = k }

-- `O(3)ON`: the second `O` is not above, and makes `O3` a cell inside a larger one; `N` is not above
abbrev pub first-text : Nodes
first-text = listed 1 (whole 3 end) (whole 1 (whole 0 end))

pub first-changes : (answer first-text ≡ whole 0 (whole 1 end)) × (changes first-text ≡ at 9 1 ∷ at 11 2 ∷ at 12 2 ∷ [])
unfolding built answer changes same larger any has tails any_ends node_of side
first-changes = (refl, refl)

-- `N(876543210)()`: is no body; `N(876543210)N()`: nine siblings, and an empty list
abbrev pub second-text : Nodes
second-text =
    listed 0 (whole 8 (whole 7 (whole 6 (whole 5 (whole 4 (whole 3 (whole 2 (whole 1 (whole 0 end))))))))) (listed 0 end end)

pub second-changes :
    (answer second-text ≡ whole 0 end) ×
    (changes second-text ≡
    at 7 4 ∷ at 10 2 ∷ at 11 2 ∷ at 12 2 ∷ at 13 2 ∷ at 14 2 ∷ at 15 2 ∷ at 16 2 ∷ at 17 2 ∷ at 19 2 ∷ at 20 3 ∷ [])
unfolding built answer changes same larger any has tails any_ends node_of side
second-changes = (refl, refl)

-- `OO`: the second is named whole earlier, and not above the first
abbrev pub twice-text : Nodes
twice-text = whole 1 (whole 1 end)

pub twice-changes : (answer twice-text ≡ whole 1 end) × (changes twice-text ≡ at 8 1 ∷ at 8 2 ∷ [])
unfolding built answer changes same larger any has tails any_ends node_of side
twice-changes = (refl, refl)

-- `QOP`: `P` is above `O`, the one right before it, and not above `Q`
abbrev pub turned-text : Nodes
turned-text = whole 3 (whole 1 (whole 2 end))

pub turned-changes : (answer turned-text ≡ whole 1 (whole 2 (whole 3 end))) × (changes turned-text ≡ at 8 2 ∷ [])
unfolding built answer changes same larger any has tails any_ends node_of side
turned-changes = (refl, refl)

-- `O(1())`: the inner list is empty, and the outer one is not
abbrev pub empty-text : Nodes
empty-text = listed 1 (listed 1 end end) end

pub empty-changes : (answer empty-text ≡ end) × (changes empty-text ≡ at 10 3 ∷ [])
unfolding built answer changes same larger any has tails any_ends node_of side
empty-changes = (refl, refl)

abbrev pub nine-digits : Nodes
nine-digits = whole 0 (whole 1 (whole 2 (whole 3 (whole 4 (whole 5 (whole 6 (whole 7 (whole 8 end))))))))

-- `P(0)O(012345678)`: the first letter that stands for `O`, which is not above `P` either
abbrev pub nine-text : Nodes
nine-text = listed 2 (whole 0 end) (listed 1 nine-digits end)

pub nine-changes : (answer nine-text ≡ whole 1 (listed 2 (whole 0 end) end)) × (changes nine-text ≡ at 11 2 ∷ at 11 4 ∷ [])
unfolding built answer changes same larger any has tails any_ends node_of side
nine-changes = (refl, refl)

-- `O()O(012345678)`: the first letter that stands for `O` has an empty list
abbrev pub void-text : Nodes
void-text = listed 1 end (listed 1 nine-digits end)

pub void-changes : (answer void-text ≡ whole 1 end) × (changes void-text ≡ at 7 4 ∷ at 8 3 ∷ at 10 2 ∷ [])
unfolding built answer changes same larger any has tails any_ends node_of side
void-changes = (refl, refl)

-- `O(0(012345678)12345678)`: `O` is whole in the answer, and the `0` inside it is not
abbrev pub inner-text : Nodes
inner-text = listed 1 (listed 0 nine-digits (whole 1 (whole 2 (whole 3 (whole 4 (whole 5 (whole 6 (whole 7 (whole 8 end))))))))) end

pub inner-changes : (answer inner-text ≡ whole 1 end) × (changes inner-text ≡ at 7 4 ∷ [])
unfolding built answer changes same larger any has tails any_ends node_of side
inner-changes = (refl, refl)
