-- What the passes over a looser text find: for each byte a number that holds the kinds of change there. Assumes nothing.
use Rattle.std.specs.Prelude.{◌≡◌, Bool, true, false, ◌&&◌, ◌||◌, not, cond, List, [], ◌∷◌, ◌++◌, ℕ, ◌+◌, ◌*◌, ◌/◌, ◌%◌, ◌<◌, eqb, leb, length, get_or}
use Rattle.cell.specs.declared.Arrangement.{Arrangement}
use Rattle.code.specs.Code.{code_of}
use Rattle.reading.specs.Ground.{cell_named}
use Rattle.reading.specs.Prefix.{Name}
use Rattle.walk.specs.declared.Spot.{Spot}
use Rattle.walk.specs.Walk.{after, whole_at}
use Rattle.listing.proofs.Laws.List.{spot_code}
use Rattle.proper.specs.Changes.{Item, Change, when}

unfoldable pub has_code : ℕ → List ℕ → Bool
has_code c [] = false
has_code c (x ∷ xs) = eqb x c || has_code c xs

-- those that are none of the keys
unfoldable pub lacking : (keys : List ℕ) → List ℕ → List ℕ
unfolding has_code
lacking keys [] = []
lacking keys (x ∷ xs) = cond (has_code x keys) (lacking keys xs) (x ∷ lacking keys xs)

-- none of the first is one of the second
abbrev pub Clear : (ms as' : List ℕ) → Type 0
Clear ms as' = (c : ℕ) → has_code c ms ≡ true → has_code c as' ≡ false

-- 0: it is none of the keys; 1: it is one, and was not met earlier; 2: it is one that was
unfoldable pub standing : (keys earlier : List ℕ) (c : ℕ) → ℕ
standing keys earlier c = cond (has_code c keys) (cond (has_code c earlier) 2 1) 0

abbrev pub bit : Bool → ℕ
bit true = 1
bit false = 0

-- of each key, whether it was met
abbrev pub Seen : (keys earlier seen : List ℕ) → Type 0
Seen keys earlier seen = (k : ℕ) → k < length keys → get_or seen k 0 ≡ bit (has_code (get_or keys k 0) earlier)

abbrev pub Zeros : List ℕ → Type 0
Zeros l = (k : ℕ) → get_or l k 0 ≡ 0

-- the tests of kinds 1, 2 and 4; ms are the largest whole cells, and as' the cells of the answer that are none of them
unfoldable pub first_kind : Bool → ℕ → (ms own : List ℕ) → Bool
unfolding standing
first_kind w c ms own = w && not (eqb (standing ms own c) 1)

unfoldable pub fourth_kind : ℕ → (as' all : List ℕ) → Bool
unfolding standing
fourth_kind c as' all = eqb (standing as' all c) 1

unfoldable pub late_at : (prev n m : ℕ) → Bool
late_at prev n m = not (eqb prev 40) && leb m n

abbrev pub shuts : List ℕ → Bool
shuts [] = false
shuts (b ∷ bs) = eqb b 41

unfoldable pub mask_of : (a b d : Bool) → ℕ
mask_of a b d = bit a + bit b * 2 + bit d * 4

abbrev pub met_own : Bool → ℕ → List ℕ → List ℕ
met_own true c own = c ∷ own
met_own false c own = own

-- one number for each byte of a body
unfoldable pub masks : Arrangement → (ms as' : List ℕ) (prev : ℕ) (s : Spot) (own all : List ℕ) → List ℕ → List ℕ
unfolding first_kind fourth_kind late_at mask_of
masks ar ms as' prev s own all [] = []
masks ar ms as' prev s own all (b ∷ bs) =
    cond (eqb b 40) (cond (shuts bs) 8 0 ∷ masks ar ms as' b (after s b) own all bs)
    (cond (eqb b 41) (0 ∷ masks ar ms as' b (after s b) own all bs)
    (mask_of (first_kind (whole_at (b ∷ bs)) (spot_code ar (after s b)) ms own) (late_at prev s.number (after s b).number) (fourth_kind (spot_code ar (after s b)) as' all) ∷
    masks ar ms as' b (after s b) (met_own (whole_at (b ∷ bs)) (spot_code ar (after s b)) own) (spot_code ar (after s b) ∷ all) bs))

-- the changes that such numbers stand for, from the place p on
unfoldable pub kinds_at : (p m : ℕ) → List Change
kinds_at p m =
    when (eqb (m % 2) 1) (record { place = p; kind = 1 }) ++
    (when (eqb (m / 2 % 2) 1) (record { place = p; kind = 2 }) ++
    (when (eqb (m / 8) 1) (record { place = p; kind = 3 }) ++ when (eqb (m / 4 % 2) 1) (record { place = p; kind = 4 })))

unfoldable pub changes_in : ℕ → List ℕ → List Change
unfolding kinds_at
changes_in p [] = []
changes_in p (m ∷ ms) = kinds_at p m ++ changes_in (p + 1) ms

-- ---- the same tests over the letters and digits of a reading

abbrev pub code_named : Arrangement → Name → ℕ
code_named ar q = code_of ar (cell_named q)

abbrev pub item_changes : (a b d v : Bool) (p : ℕ) → List Change
item_changes a b d v p =
    when a (record { place = p; kind = 1 }) ++
    (when b (record { place = p; kind = 2 }) ++ (when d (record { place = p; kind = 4 }) ++ when v (record { place = p + 1; kind = 3 })))

unfoldable pub tested : Arrangement → (ms as' own all : List ℕ) → List Item → List Change
unfolding first_kind fourth_kind
tested ar ms as' own all [] = []
tested ar ms as' own all (e ∷ es) =
    item_changes (first_kind e.own (code_named ar e.name) ms own) e.late (fourth_kind (code_named ar e.name) as' all) e.void e.place ++
    tested ar ms as' (met_own e.own (code_named ar e.name) own) (code_named ar e.name ∷ all) es

unfoldable pub own_after : Arrangement → List ℕ → List Item → List ℕ
own_after ar own [] = own
own_after ar own (e ∷ es) = own_after ar (met_own e.own (code_named ar e.name) own) es

unfoldable pub all_after : Arrangement → List ℕ → List Item → List ℕ
all_after ar all [] = all
all_after ar all (e ∷ es) = all_after ar (code_named ar e.name ∷ all) es
