-- "no order or uniqueness asked": improper texts are taken, too. Assumes nothing.
use Rattle.std.specs.Prelude.{◌≡◌, refl, [], ◌∷◌, ℕ, ◌<◌}
use Rattle.logic.specs.Refusal.{◌otherwise◌}
use Rattle.reading.specs.declared.Level.{Level}
use Rattle.reading.specs.Reading.{Nodes, end, listed, many}
use Rattle.reading.specs.Heading.{lead}
use Rattle.reading.specs.Internal.JoinLaws.{join}
use Rattle.reading.specs.Loose.{Loose}
use Rattle.loose.specs.LooseScan.{step, after, scan, depth}
use Rattle.loose.specs.Look.{not_one, is_loose, loose_refusal}
use Rattle.loose.proofs.Laws.Scan.{loose-join, loose-split}

-- an empty list
pub loose-empty : (l : Level) (d c : ℕ) → c < many l → 0 < d → Loose l d (listed c end end)
loose-empty l d c h k = (h, k, tt, tt)

-- what is taken may stand in another order, and twice
pub loose-turned : (l : Level) (d : ℕ) (a b : Nodes) → Loose l d (join a b) → Loose l d (join b a)
loose-turned l d a b g = let k = loose-split l d a b g in loose-join l d b a k.1 k.0

pub loose-twice : (l : Level) (d : ℕ) (a : Nodes) → Loose l d a → Loose l d (join a a)
loose-twice l d a g = loose-join l d a a g g

-- `OO`: twice
pub twice-taken : loose_refusal (67 ∷ 86 ∷ 82 ∷ 0 ∷ 1 ∷ 51 ∷ 50 ∷ 79 ∷ 79 ∷ []) ≡ 0
unfolding loose_refusal not_one is_loose lead scan depth step after ◌otherwise◌
twice-taken = refl

-- `QOP`: in no order
pub turned_taken : loose_refusal (67 ∷ 86 ∷ 82 ∷ 0 ∷ 1 ∷ 51 ∷ 50 ∷ 81 ∷ 79 ∷ 80 ∷ []) ≡ 0
unfolding loose_refusal not_one is_loose lead scan depth step after ◌otherwise◌
turned_taken = refl

-- `O(1())`: an empty list
pub empty-taken : loose_refusal (67 ∷ 86 ∷ 82 ∷ 0 ∷ 1 ∷ 51 ∷ 50 ∷ 79 ∷ 40 ∷ 49 ∷ 40 ∷ 41 ∷ 41 ∷ []) ≡ 0
unfolding loose_refusal not_one is_loose lead scan depth step after ◌otherwise◌
empty-taken = refl

-- `O()O(012345678)`: an empty list, and nine digits
pub nine-taken : loose_refusal (67 ∷ 86 ∷ 82 ∷ 0 ∷ 1 ∷ 51 ∷ 50 ∷ 79 ∷ 40 ∷ 41 ∷ 79 ∷ 40 ∷ 48 ∷ 49 ∷ 50 ∷ 51 ∷ 52 ∷ 53 ∷ 54 ∷ 55 ∷ 56 ∷ 41 ∷ []) ≡ 0
unfolding loose_refusal not_one is_loose lead scan depth step after ◌otherwise◌
nine-taken = refl
