-- How far the numbers of a reading go. Assumes nothing.
use Rattle.std.specs.Prelude.{◌≡◌, refl, ◌⊎◌, Bool, true, false, cond, ℕ, suc, ◌+◌, ◌≤◌, ◌<◌, length, eqb}
use Rattle.std.proofs.Common.{inl, inr, arith}
use Rattle.std.proofs.Math.Decide.{ℕ_discrete}
use Rattle.reading.specs.declared.Level.{Level}
use Rattle.reading.specs.declared.Level.TheVariants.{Faces, Belt, Digits}
use Rattle.reading.specs.Reading.{Nodes, end, whole, listed, first, OfFaces, many, room, wholes, render, Some, Good}

pub eq-or : (a b : ℕ) → (a ≡ b) ⊎ (a ≡ b → ⊥)
eq-or a b = elim (ℕ_discrete a b) [ yes h ↦ inl h | no h ↦ inr h ]

-- ---- levels

-- neither bracket is a letter or a digit
pub first-big : (l : Level) → 48 ≤ first l
first-big Faces = omega arith
first-big Belt = omega arith
first-big Digits = omega arith

pub many-most : (l : Level) → many l ≤ 9
many-most Faces = omega arith
many-most Belt = omega arith
many-most Digits = omega arith

pub six-faces : (l : Level) → OfFaces l → many l ≡ 6
six-faces Faces f = refl
six-faces Belt f = refl
six-faces Digits f = absurd f

-- there is all the room, or none
pub room-all : (l : Level) (c d : ℕ) → 0 < room l c d → room l c d ≡ d
room-all Faces c d h = refl
room-all Belt c d h = go (eqb c 0) (eqb c 5) h
  where
    go : (s t : Bool) → 0 < cond s 0 (cond t 0 d) → cond s 0 (cond t 0 d) ≡ d
    go true t k = absurd (omega arith)
    go false true k = absurd (omega arith)
    go false false k = refl
room-all Digits c d h = refl

pub room-le : (l : Level) (c d : ℕ) → room l c d ≤ d
room-le Faces c d = omega arith
room-le Belt c d = go (eqb c 0) (eqb c 5)
  where
    go : (s t : Bool) → cond s 0 (cond t 0 d) ≤ d
    go true t = omega arith
    go false true = omega arith
    go false false = omega arith
room-le Digits c d = omega arith

-- ---- nodes

pub wholes-most : (ns : Nodes) (l : Level) (d lo : ℕ) → Good l d lo ns → lo ≤ many l → wholes ns + lo ≤ many l
wholes-most end l d lo g h = omega arith
wholes-most (whole c ns) l d lo g h = omega (arith, wholes-most ns l d (suc c) g.2 g.1)
wholes-most (listed c is ns) l d lo g h = omega (arith, wholes-most ns l d (suc c) g.6 g.1)

pub render-some : (ns : Nodes) (l : Level) → Some ns → 0 < length (render l ns)
render-some end l h = absurd h
render-some (whole c ns) l h = omega arith
render-some (listed c is ns) l h = omega arith
