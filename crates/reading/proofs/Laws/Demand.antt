-- Demand 3 over the cells of the grid: of a text in 01's grammar, its reading, its ground, its whole cells, and what is reported of them. For any
-- heading, for faces of which each or only O to R may hold lists, and any greatest depth up to 15. Assumes nothing.
use Rattle.std.specs.Prelude.{◌≡◌, refl, List, [], ◌++◌, map, ℕ, ◌+◌, ◌-◌, ◌^◌, ◌≤◌}
use Rattle.std.proofs.Common.{sym, ◌∙◌, arith}
use Rattle.std.proofs.Math.Path.{ap}
use Rattle.std.proofs.lemmas.List.{append_cancel_left, length-map}
use Rattle.std.proofs.Math.ListN.{length}
use Rattle.cell.specs.declared.Cell.{Cell}
use Rattle.cell.specs.Cell.{IsCell}
use Rattle.code.specs.Code.{size_of}
use Rattle.code.specs.Inside.{Inside}
use Rattle.reading.specs.declared.Level.{Level}
use Rattle.reading.specs.declared.Level.TheVariants.{Faces}
use Rattle.reading.specs.declared.Profile.{Profile}
use Rattle.reading.specs.Reading.{Nodes, OfFaces, render, Good, names}
use Rattle.reading.proofs.Laws.Reading.{six-faces}
use Rattle.reading.specs.Ground.{cell_named, whole_cells, Finest, Covers, SameGround, Cells, Rising, Apart, size_sum}
use Rattle.reading.specs.Text.{level_of, Reads, ReadsAs}
use Rattle.reading.proofs.Laws.Heading.{one-heading}
use Rattle.reading.proofs.Laws.Fits.{render-faces, good-faces}
use Rattle.reading.specs.Report.{count, size_along}
use Rattle.reading.proofs.Laws.Report.{count-names, along-sum}
use Rattle.reading.proofs.Laws.Parse.{render-one}
use Rattle.reading.specs.Prefix.{numbers_of, Covered, SameNames, AreNames, InOrder}
use Rattle.reading.proofs.Laws.Ground.{covered_whole, same_names}
use Rattle.reading.proofs.Laws.Rising.{names-rise, rise-rising, rise-apart}
use Rattle.reading.proofs.Laws.Fewest.{names-good, fewest-names, covered-wider}
use Rattle.reading.proofs.Laws.Named.{cell-is-named, inside-prefix, prefix-inside, covers-covered, covered-covers, cells-named, names-named, names-of-cells, finest-named, ground-names}

-- ---- "Each accepted text has exactly one reading"

pub one-reading : {h : List ℕ} {l : Level} {d : ℕ} {t : List ℕ} {a b : Nodes} → Reads h l d t a → Reads h l d t b → a ≡ b
one-reading {h} {l} {d} {t} {a} {b} r q =
    render-one l d a b r.good q.good (append_cancel_left h (render l a) (render l b) (sym r.all ∙ q.all))

-- of either version, its heading included
pub one-reading-as :
    {p p' : Profile} {n s n' s' : ℕ} {t : List ℕ} {a b : Nodes} → ReadsAs p n s t a → ReadsAs p' n' s' t b → (p ≡ p') × (n ≡ n') × (s ≡ s') × (a ≡ b)
one-reading-as {p} {p'} {n} {s} {n'} {s'} {t} {a} {b} r q =
    let e = one-heading p p' n s n' s' (render (level_of p) a) (render (level_of p') b) (sym r.body.all ∙ q.body.all) in
    let k : render Faces a ≡ render Faces b = sym (render-faces p a) ∙ e.3 ∙ render-faces p' b in
    (e.0, e.1, e.2, render-one Faces 15 a b (good-faces p a r.profiled r.body.good) (good-faces p' b q.profiled q.body.good) k)

-- nodes of the grammar are the reading of their own bytes
pub good-reads : (ns : Nodes) (l : Level) (d : ℕ) → Good l d 0 ns → Reads [] l d (render l ns) ns
good-reads ns l d g = record { good = g; all = refl }

module _ {h : List ℕ} {l : Level} {d : ℕ} {t : List ℕ} {ns : Nodes} (f : OfFaces l) (m : d ≤ 15) (r : Reads h l d t ns) where
  -- ---- the whole cells have the names that stand in the reading

  faces-names : AreNames 6 15 (names ns)
  faces-names = rw (six-faces l f) at (names-good ns l d 0 15 r.good m)

  pub good-cells : Cells (whole_cells ns)
  unfolding whole_cells
  good-cells = cells-named (names ns) faces-names

  pub whole-names : map numbers_of (whole_cells ns) ≡ names ns
  unfolding whole_cells
  whole-names = names-named (names ns) faces-names

  pub named-whole : (x : Cell) → IsCell x → Covered (names ns) (numbers_of x) → Covers (whole_cells ns) x
  named-whole x v h = covered-covers (whole_cells ns) x good-cells v (rw whole-names h)

  pub whole-named : (x : Cell) → Covers (whole_cells ns) x → Covered (names ns) (numbers_of x)
  whole-named x h = rw whole-names at (covers-covered (whole_cells ns) x h)

  -- ---- the whole cells are cells, their codes rise strictly in the order they stand, and none lies inside another

  pub whole_cells_lem : Cells (whole_cells ns) × Rising (whole_cells ns) × Apart (whole_cells ns)
  whole_cells_lem =
      let k : InOrder (map numbers_of (whole_cells ns)) = rw whole-names (names-rise ns l d 0 r.good) in
      (good-cells, rise-rising (whole_cells ns) good-cells k, rise-apart (whole_cells ns) good-cells k)

  -- ---- "the number of whole cells and the sum of sizes that the reader reports are those of that reading"

  pub count-whole : count ns ≡ length (whole_cells ns)
  count-whole = count-names ns ∙ sym (ap length whole-names) ∙ length-map (whole_cells ns) numbers_of

  pub size-whole : size_along (9 ^ 15) ns ≡ size_sum (whole_cells ns)
  unfolding whole_cells cell_named size_of
  size-whole = along-sum ns l d 0 15 cell_named (λ c q k e. ap (λ (x : ℕ). 9 ^ x) {x = 15 - length q} {y = k} (omega arith)) r.good m

  -- ---- "whether all of one cell's finest cells are covered": they are exactly when one whole cell has the cell inside

  pub one_cell : (x : Cell) → IsCell x → ((y : Cell) → Finest y → Inside x y → Covers (whole_cells ns) y) → Covers (whole_cells ns) x
  one_cell x v c =
      named-whole x v
      (covered_whole ns l d 15 6 (numbers_of x) r.good m (cell-is-named x v)
      (λ p u w.
      let k = finest-named p u in
      let i : Inside x (cell_named p) = prefix-inside x (cell_named p) v k.0.cell (rw k.1 w) in
      rw k.1 at (whole-named (cell_named p) (c (cell_named p) k.0 i))))

  pub all-covered : (x : Cell) → Covers (whole_cells ns) x → (y : Cell) → Finest y → Inside x y → Covers (whole_cells ns) y
  all-covered x c y k i =
      named-whole y k.cell (covered-wider (names ns) (numbers_of x) (numbers_of y) (whole-named x c) (inside-prefix x y i))

  -- ---- "Every list of cells that covers exactly an accepted text's ground has at least as many cells"

  pub fewest : (qs : List Cell) → Cells qs → SameGround qs (whole_cells ns) → length (whole_cells ns) ≤ length qs
  fewest qs c g =
      let k : SameNames 6 15 (map numbers_of qs) (names ns) = rw whole-names at (ground-names qs (whole_cells ns) c good-cells g) in
      let n : length (names ns) ≤ length (map numbers_of qs) =
      fewest-names ns l d 15 (map numbers_of qs) r.good m (rw (six-faces l f) (names-of-cells qs c)) (rw (six-faces l f) k) in
      omega (arith, length-map qs numbers_of, length-map (whole_cells ns) numbers_of, ap length whole-names)

-- ---- "Any two accepted texts with the same .. heading cover the same finest cells exactly when they are the same bytes."

module _ {h : List ℕ} {l : Level} {d : ℕ} {t u : List ℕ} {a b : Nodes} (f : OfFaces l) (m : d ≤ 15) (r : Reads h l d t a) (q : Reads h l d u b) where
  pub same_nodes : SameGround (whole_cells a) (whole_cells b) → a ≡ b
  same_nodes g =
      let k : SameNames 6 15 (names a) (names b) =
      rw (whole-names f m r, whole-names f m q) at (ground-names (whole_cells a) (whole_cells b) (good-cells f m r) (good-cells f m q) g) in
      same_names a b l d 15 r.good q.good m (rw (six-faces l f) k)

  pub same-ground : (SameGround (whole_cells a) (whole_cells b) → t ≡ u) × (t ≡ u → SameGround (whole_cells a) (whole_cells b))
  same-ground = (
    (λ g. r.all ∙ ap (λ (x : Nodes). h ++ render l x) (same_nodes g) ∙ sym q.all),
    (λ e x i.
        let k : a ≡ b = one-reading r (record { good = q.good; all = e ∙ q.all }) in
        ((λ c. rw k at c), (λ c. rw (← k) at c))),
  )
