-- What a rescue changes (W-206): "a list of what was changed, by place in the whole text, from 0, and then kind". Assumes nothing.
use Rattle.std.specs.Prelude.{Bool, true, false, ◌&&◌, ◌||◌, not, cond, List, [], ◌∷◌, ◌++◌, ℕ, zero, suc, ◌+◌, eqb, ltb, length}
use Rattle.reading.specs.declared.Level.TheVariants.{Digits}
use Rattle.reading.specs.Reading.{Nodes, end, whole, listed, render, names}
use Rattle.reading.specs.Prefix.{Name}
use Rattle.proper.specs.Proper.{answer}

-- ---- the letters and digits, in the order they stand

pub record Item : Type 0 where
  pub place : ℕ
  pub name : Name  -- of the cell that it stands for
  pub own : Bool  -- it names that cell whole
  pub late : Bool  -- "not above the one right before it in the same list or body"
  pub void : Bool  -- its list is empty

abbrev pub is_end : Nodes → Bool
is_end end = true
is_end (whole c ns) = false
is_end (listed c is ns) = false

-- nodes that stand from the place p on, in the list of the cell named w; numbers from lo on are above the one right before
abbrev pub items : (p : ℕ) (w : Name) (lo : ℕ) → Nodes → List Item
items p w lo end = []
items p w lo (whole c ns) =
    record { place = p; name = w ++ (c ∷ []); own = true; late = ltb c lo; void = false } ∷ items (p + 1) w (suc c) ns
items p w lo (listed c is ns) =
    record { place = p; name = w ++ (c ∷ []); own = false; late = ltb c lo; void = is_end is } ∷
    (items (p + 2) (w ++ (c ∷ [])) 0 is ++ items (p + 3 + length (render Digits is)) w (suc c) ns)

-- ---- names compared

unfoldable pub same : Name → Name → Bool
same [] [] = true
same [] (b ∷ p) = false
same (a ∷ q) [] = false
same (a ∷ q) (b ∷ p) = eqb a b && same q p

-- the cell named q is larger, and has that named p inside
unfoldable pub larger : Name → Name → Bool
larger [] [] = false
larger [] (b ∷ p) = true
larger (a ∷ q) [] = false
larger (a ∷ q) (b ∷ p) = eqb a b && larger q p

unfoldable pub any : (Item → Bool) → List Item → Bool
any f [] = false
any f (e ∷ es) = f e || any f es

unfoldable pub has : Name → List Name → Bool
has q [] = false
has q (p ∷ ps) = same p q || has q ps

-- ---- the kinds

-- it names this cell whole, or one that is larger; it stands for this cell
abbrev pub names-whole : Name → Item → Bool
names-whole q e = e.own && same e.name q

abbrev pub names-larger : Name → Item → Bool
names-larger q e = e.own && larger e.name q

abbrev pub stands-for : Name → Item → Bool
stands-for q e = same e.name q

-- "Kind 1 is a letter or digit that names a whole cell named whole earlier, or one inside a larger whole cell named anywhere."
abbrev pub kind_1 : (all earlier : List Item) → Item → Bool
kind_1 all earlier e = e.own && (any (names-whole e.name) earlier || any (names-larger e.name) all)

-- "Kind 2 is a letter or digit not above the one right before it in the same list or body."
abbrev pub kind_2 : Item → Bool
kind_2 e = e.late

-- "Kind 3 is the opening bracket of an empty list."
abbrev pub kind_3 : Item → Bool
kind_3 e = e.void

-- "Kind 4 is, for each cell whole in the answer and nowhere named whole, the first letter or digit standing for it."
abbrev pub kind-4 : (cells : List Name) (all earlier : List Item) → Item → Bool
kind-4 cells all earlier e = has e.name cells && (not (any (names-whole e.name) all) && not (any (stands-for e.name) earlier))

-- ---- the list

pub record Change : Type 0 where
  pub place : ℕ
  pub kind : ℕ

abbrev pub when : Bool → Change → List Change
when true x = x ∷ []
when false x = []

abbrev pub changes_at : (cells : List Name) (all earlier : List Item) → Item → List Change
changes_at cells all earlier e =
    when (kind_1 all earlier e) (record { place = e.place; kind = 1 }) ++
    (when (kind_2 e) (record { place = e.place; kind = 2 }) ++
    (when (kind-4 cells all earlier e) (record { place = e.place; kind = 4 }) ++ when (kind_3 e) (record { place = e.place + 1; kind = 3 })))

unfoldable pub changes_from : (cells : List Name) (all earlier : List Item) → List Item → List Change
changes_from cells all earlier [] = []
changes_from cells all earlier (e ∷ es) = changes_at cells all earlier e ++ changes_from cells all (e ∷ earlier) es

-- of a looser reading, whose letters and digits stand behind seven bytes of heading
unfoldable pub changes : Nodes → List Change
unfolding changes_from
changes ns = changes_from (names (answer ns)) (items 7 [] 0 ns) [] (items 7 [] 0 ns)
