-- Nodes of a profile are nodes of version 1, with the same bytes; and nodes of version 1 are those of a profile exactly when they fit it (02, W-208).
-- Assumes nothing.
use Rattle.std.specs.Prelude.{◌≡◌, refl, Bool, true, ◌&&◌, List, ◌∷◌, ◌++◌, ℕ, suc, ◌+◌, ◌-◌, ◌≤◌, ◌<◌, ltb}
use Rattle.std.proofs.Common.{ap, ap₂, ◌∙◌, arith, lt-ltb, ltb-true}
use Rattle.logic.specs.Laws.Bools.{and_left, and_right}
use Rattle.reading.specs.declared.Level.{Level}
use Rattle.reading.specs.declared.Level.TheVariants.{Faces, Belt, Digits}
use Rattle.reading.specs.declared.Profile.{Profile}
use Rattle.reading.specs.declared.Profile.TheVariants.{Full, Handheld}
use Rattle.reading.specs.Reading.{Nodes, end, whole, listed, OfFaces, many, room, render, Good}
use Rattle.reading.proofs.Laws.Reading.{room-le}
use Rattle.reading.specs.Text.{IsProfile, level_of, depth_of}
use Rattle.reading.specs.Written.{fitting}

-- ---- a profile's level and depth

pub faces-of : (p : Profile) → OfFaces (level_of p)
faces-of Full = tt
faces-of (Handheld d) = tt

pub depth-most : (p : Profile) → IsProfile p → depth_of p ≤ 15
depth-most Full h = omega arith
depth-most (Handheld d) h = h

-- the letters are the same in both versions
render-belt : (ns : Nodes) → render Belt ns ≡ render Faces ns
render-belt end = refl
render-belt (whole c ns) = ap (λ (x : List ℕ). (78 + c) ∷ x) (render-belt ns)
render-belt (listed c is ns) = ap (λ (x : List ℕ). (78 + c) ∷ 40 ∷ (render Digits is ++ (41 ∷ x))) (render-belt ns)

pub render-faces : (p : Profile) (ns : Nodes) → render (level_of p) ns ≡ render Faces ns
render-faces Full ns = refl
render-faces (Handheld d) ns = render-belt ns

-- ---- nodes of the grammar keep to it where more may lie below

pub good-deeper : (ns : Nodes) (l m : Level) (d e lo : ℕ) → many l ≡ many m → ((c : ℕ) → room l c d ≤ room m c e) → Good l d lo ns → Good m e lo ns
good-deeper end l m d e lo n w g = tt
good-deeper (whole c ns) l m d e lo n w g = (g.0, omega (arith, g.1), good-deeper ns l m d e (suc c) n w g.2)
good-deeper (listed c is ns) l m d e lo n w g = (
  g.0,
  omega (arith, g.1),
  omega (arith, g.2, w c),
  g.3,
  g.4,
  good-deeper is Digits Digits (room l c d - 1) (room m c e - 1) 0 refl (λ b. omega (arith, w c)) g.5,
  good-deeper ns l m d e (suc c) n w g.6,
)

pub good-faces : (p : Profile) (ns : Nodes) → IsProfile p → Good (level_of p) (depth_of p) 0 ns → Good Faces 15 0 ns
good-faces Full ns h g = g
good-faces (Handheld d) ns h g = good-deeper ns Belt Faces d 15 0 refl (λ c. omega (arith, h, room-le Belt c d)) g

-- ---- they fit exactly where they are of the grammar there

pub fits-good : (ns : Nodes) (l m : Level) (d e lo : ℕ) → many l ≡ many m → Good l d lo ns → fitting m e ns ≡ true → Good m e lo ns
unfolding fitting
fits-good end l m d e lo n g f = tt
fits-good (whole c ns) l m d e lo n g f = (g.0, omega (arith, g.1), fits-good ns l m d e (suc c) n g.2 f)
fits-good (listed c is ns) l m d e lo n g f =
    let r = and_right (ltb 0 (room m c e)) (fitting Digits (room m c e - 1) is && fitting m e ns) f in (
      g.0,
      omega (arith, g.1),
      ltb-true 0 (room m c e) (and_left (ltb 0 (room m c e)) (fitting Digits (room m c e - 1) is && fitting m e ns) f),
      g.3,
      g.4,
      fits-good is Digits Digits (room l c d - 1) (room m c e - 1) 0 refl g.5 (and_left (fitting Digits (room m c e - 1) is) (fitting m e ns) r),
      fits-good ns l m d e (suc c) n g.6 (and_right (fitting Digits (room m c e - 1) is) (fitting m e ns) r),
    )

pub good-fits : (ns : Nodes) (l : Level) (d lo : ℕ) → Good l d lo ns → fitting l d ns ≡ true
unfolding fitting
good-fits end l d lo g = refl
good-fits (whole c ns) l d lo g = good-fits ns l d (suc c) g.2
good-fits (listed c is ns) l d lo g =
    ap₂ ◌&&◌ (lt-ltb 0 (room l c d) g.2) (ap₂ ◌&&◌ (good-fits is Digits (room l c d - 1) 0 g.5) (good-fits ns l d (suc c) g.6))

pub profile-good : (p : Profile) (ns : Nodes) → Good Faces 15 0 ns → fitting (level_of p) (depth_of p) ns ≡ true → Good (level_of p) (depth_of p) 0 ns
profile-good Full ns g f = g
profile-good (Handheld d) ns g f = fits-good ns Faces Belt 15 d 0 refl g f
