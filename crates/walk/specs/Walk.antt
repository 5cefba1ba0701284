-- The walk over the body of a text, byte by byte (01 "The coverage text"). Laws/Walk shows that it gives the text's whole cells in the order they
-- stand. Assumes nothing.
use Rattle.std.specs.Prelude.{◌≡◌, Bool, true, false, ◌&&◌, not, cond, List, [], ◌∷◌, ◌++◌, ℕ, ◌+◌, ◌-◌, ◌*◌, ◌/◌, ◌^◌, ◌≤◌, ◌<◌, length, drop, eqb, ltb}
use Rattle.cell.specs.declared.Cell.{Cell}
use Rattle.code.specs.Number.{number_of}
use Rattle.reading.specs.Reading.{Nodes, end, whole, listed}
use Rattle.walk.specs.declared.Spot.{Spot}

-- the cell of resolution k and number n
abbrev pub spot : (k n : ℕ) → Spot
spot k n = record { resolution = k; number = n; first = n / 9 * 9 }

-- where the walk starts: at N, before any letter
abbrev pub origin : Spot
origin = spot 0 0

-- the spot of a cell
abbrev pub spot_of : Cell → Spot
spot_of c = spot c.resolution (number_of c)

-- a number of k + 1 digits of base nine, and the number of the first cell beside it
pub record Fits (s : Spot) : Type 0 where
  pub fine : s.resolution ≤ 15
  pub small : s.number < 9 ^ (s.resolution + 1)
  pub beside : s.first ≡ s.number / 9 * 9

-- the number of a letter from `N` on, or of a digit
unfoldable pub number_in : ℕ → ℕ
number_in b = cond (ltb b 78) (b - 48) (b - 78)

-- `(` leads to the first child, `)` to the parent, a letter or digit to the cell of that number beside
unfoldable pub after : Spot → ℕ → Spot
unfolding number_in
after s b =
    cond (eqb b 40) (spot (s.resolution + 1) (s.number * 9))
    (cond (eqb b 41) (spot (s.resolution - 1) (s.number / 9))
    (spot s.resolution (s.number / 9 * 9 + number_in b)))

-- "Nothing lies deeper than 15 digits"; a `)` shuts a list; letters and digits are below nine
unfoldable pub goes_on : Spot → ℕ → Bool
unfolding number_in
goes_on s b = cond (eqb b 40) (ltb s.resolution 15) (cond (eqb b 41) (ltb 0 s.resolution) (ltb (number_in b) 9))

-- a list stands here
abbrev pub opens : List ℕ → Bool
opens [] = false
opens (b ∷ bs) = eqb b 40

-- a whole letter or digit stands here
unfoldable pub whole_at : List ℕ → Bool
whole_at [] = false
whole_at (b ∷ bs) = cond (eqb b 40) false (cond (eqb b 41) false (not (opens bs)))

-- the spots of the whole cells that stand from here on
unfoldable pub walk : Spot → List ℕ → List Spot
unfolding after whole_at
walk s [] = []
walk s (b ∷ bs) = cond (whole_at (b ∷ bs)) (after s b ∷ walk (after s b) bs) (walk (after s b) bs)

-- every byte from here on can be gone over
unfoldable pub goes : Spot → List ℕ → Bool
unfolding after goes_on
goes s [] = true
goes s (b ∷ bs) = goes_on s b && goes (after s b) bs

-- the walk over t stands at s before the byte at i
pub record Walks (t : List ℕ) (i : ℕ) (s : Spot) : Type 0 where
  pub within : i ≤ length t
  pub fits : Fits s
  pub goes : goes s (drop i t) ≡ true

-- ---- along nodes

-- the spots of the whole cells in nodes of resolution k, in a cell of number p
unfoldable pub spots_in : ℕ → ℕ → Nodes → List Spot
spots_in k p end = []
spots_in k p (whole c ns) = spot k (p * 9 + c) ∷ spots_in k p ns
spots_in k p (listed c is ns) = spots_in (k + 1) (p * 9 + c) is ++ spots_in k p ns

-- the number at which the walk stands behind them, where it stood at p before them
unfoldable pub last_in : ℕ → Nodes → ℕ
last_in p end = p
last_in p (whole c ns) = last_in (p / 9 * 9 + c) ns
last_in p (listed c is ns) = last_in (p / 9 * 9 + c) ns
