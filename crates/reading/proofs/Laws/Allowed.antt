-- What a profile allows, said of cells (02, W-208): a text of a profile has allowed whole cells alone, a text of version 1 whose whole cells are allowed
-- is one of the profile but for its heading, and "a good list is outside the profile exactly when the fewest cells of its ground break it".
-- Assumes nothing.
use Rattle.std.specs.Prelude.{◌≡◌, refl, ◌↔◌, ◌⊎◌, Bool, true, false, ◌&&◌, cond, ℕ, suc, ◌-◌, ◌≤◌, ◌<◌, eqb, length}
use Rattle.std.proofs.Common.{ap₂, inl, inr, ⊎_elim, lt-ltb, eq-eqb, ne_eqb}
use mathlib.Core.List.{List, [], ◌∷◌, ◌++◌, map}
use native.Mathlib.Omega.{arith}
use Rattle.logic.specs.Laws.Lists.{all_append, all-each, all_map}
use Rattle.cell.specs.declared.Cell.{Cell}
use Rattle.cell.specs.Cell.{IsCell}
use Rattle.reading.specs.declared.Level.{Level}
use Rattle.reading.specs.declared.Level.TheVariants.{Faces, Belt, Digits}
use Rattle.reading.specs.declared.Profile.{Profile}
use Rattle.reading.specs.declared.Profile.TheVariants.{Full, Handheld}
use Rattle.reading.specs.Reading.{Nodes, end, whole, listed, room, Some, Good, names}
use Rattle.reading.specs.Ground.{cell_named, whole_cells, All, Covers, Cells}
use Rattle.reading.specs.Fewest.{FewestOf}
use Rattle.reading.specs.Prefix.{Name}
use Rattle.reading.specs.Text.{IsProfile, level_of, depth_of, ReadsAs}
use Rattle.reading.specs.Written.{nodes_for, fitting, keeps, Allows}
use Rattle.reading.proofs.Laws.Reading.{eq-or}
use Rattle.reading.proofs.Laws.Fits.{good-faces, good-fits, profile-good}
use Rattle.reading.proofs.Laws.Written.{nodes-good}
use Rattle.reading.proofs.Laws.FewestOf.{written-fewest, one-fewest}

-- ---- names

-- no more digits behind the first number than may lie there
abbrev Roomy : Level → ℕ → Name → Type 0
Roomy l d [] = Unit {0}
Roomy l d (c ∷ q) = length q ≤ room l c d

abbrev Short : ℕ → Name → Type 0
Short k q = length q ≤ k

roomy-under : (l : Level) (c d : ℕ) → 0 < room l c d → (q : Name) → Roomy Digits (room l c d - 1) q → Roomy l d (c ∷ q)
roomy-under l c d h [] r = omega arith
roomy-under l c d h (b ∷ q) r = omega arith

names-roomy : (ns : Nodes) (l : Level) (d lo : ℕ) → Good l d lo ns → All (Roomy l d) (names ns)
names-roomy end l d lo g = tt
names-roomy (whole c ns) l d lo g = (omega arith, names-roomy ns l d (suc c) g.2)
names-roomy (listed c is ns) l d lo g =
    all_append (Roomy l d) (map (λ (q : Name). c ∷ q) (names is)) (names ns)
    (all_map (Roomy Digits (room l c d - 1)) (Roomy l d) (λ (q : Name). c ∷ q) (roomy-under l c d g.2) (names is)
    (names-roomy is Digits (room l c d - 1) 0 g.5))
    (names-roomy ns l d (suc c) g.6)

-- ---- and back

front : (P : Name → Type 0) (qs ps : List Name) → All P (qs ++ ps) → All P qs
front P [] ps h = tt
front P (q ∷ qs) ps h = (h.0, front P qs ps h.1)

behind : (P : Name → Type 0) (qs ps : List Name) → All P (qs ++ ps) → All P ps
behind P [] ps h = h
behind P (q ∷ qs) ps h = behind P qs ps h.1

unmap : (P : Name → Type 0) (f : Name → Name) (qs : List Name) → All P (map f qs) → All (λ (q : Name). P (f q)) qs
unmap P f [] h = tt
unmap P f (q ∷ qs) h = (h.0, unmap P f qs h.1)

-- a list has a name, which has a digit
some-room : (ns : Nodes) (l : Level) (d lo k : ℕ) → Some ns → Good l d lo ns → All (Short k) (names ns) → 0 < k
some-room end l d lo k s g h = absurd s
some-room (whole c ns) l d lo k s g h = omega (arith, h.0)
some-room (listed c is ns) l d lo k s g h =
    let a : All (λ (q : Name). Short k (c ∷ q)) (names is) = unmap (Short k) (λ (q : Name). c ∷ q) (names is) (front (Short k) (map (λ (q : Name). c ∷ q) (names is)) (names ns) h) in
    let r = some-room is Digits (room l c d - 1) 0 (k - 1) g.3 g.5 (all-each (λ (q : Name). Short k (c ∷ q)) (Short (k - 1)) (λ q e. omega arith) (names is) a) in
    omega arith

short-roomy : (k : ℕ) (q : Name) → Short k q → Roomy Digits (k - 1) q
short-roomy k [] h = tt
short-roomy k (b ∷ q) h = omega arith

-- nodes whose names have room fit
roomy-fits : (ns : Nodes) (l m : Level) (d e lo : ℕ) → Good m e lo ns → All (Roomy l d) (names ns) → fitting l d ns ≡ true
unfolding fitting
roomy-fits end l m d e lo g h = refl
roomy-fits (whole c ns) l m d e lo g h = roomy-fits ns l m d e (suc c) g.2 h.1
roomy-fits (listed c is ns) l m d e lo g h =
    let k : ℕ = room l c d in
    let a : All (Short k) (names is) = unmap (Roomy l d) (λ (q : Name). c ∷ q) (names is) (front (Roomy l d) (map (λ (q : Name). c ∷ q) (names is)) (names ns) h) in
    ap₂ ◌&&◌ (lt-ltb 0 k (some-room is Digits (room m c e - 1) 0 k g.3 g.5 a))
    (ap₂ ◌&&◌
    (roomy-fits is Digits Digits (k - 1) (room m c e - 1) 0 g.5 (all-each (Short k) (Roomy Digits (k - 1)) (short-roomy k) (names is) a))
    (roomy-fits ns l m d e (suc c) g.6 (behind (Roomy l d) (map (λ (q : Name). c ∷ q) (names is)) (names ns) h)))

-- ---- cells

-- of the handheld profile: no digits behind N and S, and at most d behind the others
module _ (d : ℕ) where
  belt-room : (c k : ℕ) → (k ≤ room Belt c d) ↔ ((k ≤ d) × ((c ≡ 0) ⊎ (c ≡ 5) → k ≡ 0))
  belt-room c k = go (eq-or c 0) (eq-or c 5)
    where
      go : ((c ≡ 0) ⊎ (c ≡ 0 → ⊥)) → ((c ≡ 5) ⊎ (c ≡ 5 → ⊥)) → (k ≤ room Belt c d) ↔ ((k ≤ d) × ((c ≡ 0) ⊎ (c ≡ 5) → k ≡ 0))
      go (inl a) b = let e : eqb c 0 ≡ true = eq-eqb c 0 a in rw e ((λ h. (omega arith, λ z. omega arith)), (λ h. let z = h.1 (inl a) in omega arith))
      go (inr a) (inl b) =
          let e : eqb c 0 ≡ false = ne_eqb c 0 a in
          let f : eqb c 5 ≡ true = eq-eqb c 5 b in
          rw (e, f) ((λ h. (omega arith, λ z. omega arith)), (λ h. let z = h.1 (inr b) in omega arith))
      go (inr a) (inr b) =
          let e : eqb c 0 ≡ false = ne_eqb c 0 a in
          let f : eqb c 5 ≡ false = ne_eqb c 5 b in
          rw (e, f) ((λ h. (h, λ z. absurd (⊎_elim a b z))), (λ h. h.0))

  roomy-allows : (q : Name) → Roomy Belt d q → Allows (Handheld d) (cell_named q)
  unfolding cell_named
  roomy-allows [] r = (omega arith, λ z. refl)
  roomy-allows (c ∷ q) r = (belt-room c (length q)).0 r

  allows-roomy : (qs : List Name) → All (Allows (Handheld d)) (map cell_named qs) → All (Roomy Belt d) qs
  unfolding cell_named
  allows-roomy [] h = tt
  allows-roomy ([] ∷ qs) h = (tt, allows-roomy qs h.1)
  allows-roomy ((c ∷ q) ∷ qs) h = ((belt-room c (length q)).1 h.0, allows-roomy qs h.1)

-- a cell is allowed exactly where its digits have room below its face
pub allows-room : (p : Profile) (c : Cell) → IsCell c → Allows p c ↔ (c.resolution ≤ room (level_of p) c.face (depth_of p))
allows-room Full c v = ((λ h. v.fine), (λ h. tt))
allows-room (Handheld d) c v = let b = belt-room d c.face c.resolution in (b.1, b.0)

all-full : (qs : List Cell) → All (Allows Full) qs
all-full [] = tt
all-full (q ∷ qs) = (tt, all-full qs)

-- nodes of a profile have allowed whole cells alone
pub good-allows : (p : Profile) (ns : Nodes) → Good (level_of p) (depth_of p) 0 ns → All (Allows p) (whole_cells ns)
unfolding whole_cells
good-allows Full ns g = all-full (map cell_named (names ns))
good-allows (Handheld d) ns g = all_map (Roomy Belt d) (Allows (Handheld d)) cell_named (roomy-allows d) (names ns) (names-roomy ns Belt d 0 g)

-- nodes of version 1 whose whole cells are allowed fit
pub allowed-fits : (p : Profile) (ns : Nodes) → Good Faces 15 0 ns → All (Allows p) (whole_cells ns) → fitting (level_of p) (depth_of p) ns ≡ true
unfolding whole_cells
allowed-fits Full ns g h = good-fits ns Faces 15 0 g
allowed-fits (Handheld d) ns g h = roomy-fits ns Belt Faces d 15 0 g (allows-roomy d (names ns) h)

-- the grammar of a profile is that of version 1 with allowed whole cells alone
pub profile-exactly :
    (p : Profile) (ns : Nodes) → IsProfile p → Good (level_of p) (depth_of p) 0 ns ↔ (Good Faces 15 0 ns × All (Allows p) (whole_cells ns))
profile-exactly p ns i = ((λ g. (good-faces p ns i g, good-allows p ns g)), (λ h. profile-good p ns h.0 (allowed-fits p ns h.0 h.1)))

-- an accepted text has whole cells that its heading allows
pub accepted-allows : {p : Profile} {n s : ℕ} {t : List ℕ} {ns : Nodes} → ReadsAs p n s t ns → All (Allows p) (whole_cells ns)
accepted-allows {p} {n} {s} {t} {ns} r = good-allows p ns r.body.good

-- "A good list is outside the profile exactly when the fewest cells of its ground break it"
pub keeps-fewest :
    (p : Profile) (cells few : List Cell) → Cells cells → FewestOf (Covers cells) few → (keeps p cells ≡ true) ↔ All (Allows p) few
keeps-fewest p cells few c f =
    let e : few ≡ whole_cells (nodes_for cells) = one-fewest (Covers cells) few (whole_cells (nodes_for cells)) f (written-fewest cells c) in
    let g = nodes-good cells c in
    rw e ((λ k. good-allows p (nodes_for cells) (profile-good p (nodes_for cells) g k)), (λ h. allowed-fits p (nodes_for cells) g h))
