-- How many changes there can be: two for each byte of the body at most. Assumes nothing.
use Rattle.std.specs.Prelude.{◌≡◌, refl, Bool, true, false, ◌&&◌, not, cond, List, [], ◌∷◌, ◌++◌, ℕ, suc, ◌+◌, ◌*◌, ◌≤◌, length}
use Rattle.std.proofs.Common.{sym, inl, inr, arith, length-append}
use Rattle.logic.specs.Laws.Bools.{clash, and_left, and_right}
use Rattle.reading.specs.declared.Level.{Level}
use Rattle.reading.specs.declared.Level.TheVariants.{Faces, Digits}
use Rattle.reading.specs.Reading.{Nodes, end, whole, listed, render, names}
use Rattle.reading.specs.Prefix.{Name}
use Rattle.proper.specs.Proper.{answer}
use Rattle.proper.specs.Changes.{Item, Change, is_end, items, same, any, has, names-whole, kind_1, kind_2, kind_3, kind-4, when, changes_at, changes_from, changes}
use Rattle.proper.proofs.Laws.Lists.{IMem, same_self, any_some}

-- at most two at an item, and one more at its empty list
abbrev most : List Item → ℕ
most [] = 0
most (e ∷ es) = 2 + cond e.void 1 0 + most es

most-append : (a b : List Item) → most (a ++ b) ≡ most a + most b
most-append [] b = omega arith
most-append (e ∷ a) b = let k = most-append a b in omega arith

void-most : (t : Bool) → cond t 1 0 ≤ 1
void-most true = omega arith
void-most false = omega arith

-- an item takes a byte, and its list two brackets
items-most : (ns : Nodes) (l : Level) (p : ℕ) (w : Name) (lo : ℕ) → most (items p w lo ns) ≤ 2 * length (render l ns)
items-most end l p w lo = omega arith
items-most (whole c ns) l p w lo = let k = items-most ns l (p + 1) w (suc c) in omega arith
items-most (listed c is ns) l p w lo =
    omega (
      arith,
      most-append (items (p + 2) (w ++ (c ∷ [])) 0 is) (items (p + 3 + length (render Digits is)) w (suc c) ns),
      items-most is Digits (p + 2) (w ++ (c ∷ [])) 0,
      items-most ns l (p + 3 + length (render Digits is)) w (suc c),
      void-most (is_end is),
      length-append (render Digits is) (41 ∷ render l ns),
    )

-- kinds 1 and 4 exclude each other
not-both : (cells : List Name) (all earlier : List Item) (e : Item) → IMem e all → kind_1 all earlier e ≡ true → kind-4 cells all earlier e ≡ true → ⊥
not-both cells all earlier e m h k = go (any (names-whole e.name) all) (any_some (names-whole e.name) all e m (own e.own (and_left e.own _ h))) r
  where
    r : not (any (names-whole e.name) all) ≡ true
    r = and_left (not (any (names-whole e.name) all)) _ (and_right (has e.name cells) _ k)

    own : (t : Bool) → t ≡ true → (t && same e.name e.name) ≡ true
    own true z = same_self e.name
    own false z = clash (sym z)

    go : (t : Bool) → t ≡ true → not t ≡ true → ⊥
    go true y z = clash (sym z)
    go false y z = clash (sym y)

at-most :
    (a b c d : Bool) (x y z v : Change) → (a ≡ true → c ≡ true → ⊥) →
    length (when a x ++ (when b y ++ (when c z ++ when d v))) ≤ 2 + cond d 1 0
at-most true b true d x y z v h = absurd (h refl refl)
at-most true true false true x y z v h = omega arith
at-most true true false false x y z v h = omega arith
at-most true false false true x y z v h = omega arith
at-most true false false false x y z v h = omega arith
at-most false true true true x y z v h = omega arith
at-most false true true false x y z v h = omega arith
at-most false true false true x y z v h = omega arith
at-most false true false false x y z v h = omega arith
at-most false false true true x y z v h = omega arith
at-most false false true false x y z v h = omega arith
at-most false false false true x y z v h = omega arith
at-most false false false false x y z v h = omega arith

from-most :
    (cells : List Name) (all es earlier : List Item) → ((e : Item) → IMem e es → IMem e all) → length (changes_from cells all earlier es) ≤ most es
unfolding changes_from
from-most cells all [] earlier i = omega arith
from-most cells all (e ∷ es) earlier i =
    omega (
      arith,
      length-append (changes_at cells all earlier e) (changes_from cells all (e ∷ earlier) es),
      at-most (kind_1 all earlier e) (kind_2 e) (kind-4 cells all earlier e) (kind_3 e) (record { place = e.place; kind = 1 })
          (record { place = e.place; kind = 2 }) (record { place = e.place; kind = 4 }) (record { place = e.place + 1; kind = 3 })
          (not-both cells all earlier e (i e (inl refl))),
      from-most cells all es (e ∷ earlier) (λ x m. i x (inr m)),
    )

-- so four numbers for each byte are room enough for the list
pub changes-few : (ns : Nodes) → length (changes ns) ≤ 2 * length (render Faces ns)
unfolding changes
changes-few ns =
    omega (arith, from-most (names (answer ns)) (items 7 [] 0 ns) (items 7 [] 0 ns) [] (λ e m. m), items-most ns Faces 7 [] 0)
