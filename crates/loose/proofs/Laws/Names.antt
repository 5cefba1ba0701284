-- The names of a looser reading are names of cells. Assumes nothing.
use Rattle.std.specs.Prelude.{◌≡◌, List, [], ◌∷◌, ◌++◌, map, ℕ, suc, ◌-◌, ◌<◌}
use Rattle.std.proofs.Common.{arith}
use Rattle.logic.specs.Laws.Lists.{all_append}
use Rattle.reading.specs.declared.Level.{Level}
use Rattle.reading.specs.declared.Level.TheVariants.{Faces, Digits}
use Rattle.reading.specs.Reading.{Nodes, end, whole, listed, many, names}
use Rattle.reading.specs.Loose.{Loose}
use Rattle.reading.specs.Ground.{whole_cells, Cells}
use Rattle.reading.specs.Prefix.{Name, numbers_of, IsName, AreNames}
use Rattle.reading.proofs.Laws.Fewest.{name-longer}
use Rattle.reading.proofs.Laws.Named.{cells-named, names-named}

names-map : (c m r : ℕ) (a : List Name) → c < m → AreNames 9 r a → AreNames m (suc r) (map (λ (q : Name). c ∷ q) a)
names-map c m r [] h n = tt
names-map c m r (q ∷ a) h n = (name-longer c m r h q n.0, names-map c m r a h n.1)

pub names-loose : (ns : Nodes) (l : Level) (d : ℕ) → Loose l d ns → AreNames (many l) d (names ns)
names-loose end l d g = tt
names-loose (whole c ns) l d g = ((g.0, omega arith, tt), names-loose ns l d g.1)
names-loose (listed c is ns) l d g =
    let e : suc (d - 1) ≡ d = omega (arith, g.1) in
    let i : AreNames (many l) (suc (d - 1)) (map (λ (q : Name). c ∷ q) (names is)) =
    names-map c (many l) (d - 1) (names is) g.0 (names-loose is Digits (d - 1) g.2) in
    all_append (IsName (many l) d) (map (λ (q : Name). c ∷ q) (names is)) (names ns) (rw e at i) (names-loose ns l d g.3)

module _ (ns : Nodes) (g : Loose Faces 15 ns) where
  pub loose-cells : Cells (whole_cells ns)
  unfolding whole_cells
  loose-cells = cells-named (names ns) (names-loose ns Faces 15 g)

  pub loose-names : map numbers_of (whole_cells ns) ≡ names ns
  unfolding whole_cells
  loose-names = names-named (names ns) (names-loose ns Faces 15 g)
