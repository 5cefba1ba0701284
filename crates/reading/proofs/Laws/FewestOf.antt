-- A ground has at most one list of fewest cells in rising order; the whole cells of a reading are those of its ground; and so every list of cells has
-- the fewest cells of its ground in the text that is written of it. Assumes nothing.
use Rattle.std.specs.Prelude.{◌≡◌, refl, true, ℕ, ◌≤◌, ◌<◌}
use Rattle.std.proofs.Math.Path.{sym, ap}
use Rattle.std.proofs.Common.{ap₂, ◌∙◌, arith}
use mathlib.Core.List.{List, [], ◌∷◌, map}
use Rattle.std.proofs.Math.ListN.{length, length-map}
use Rattle.cell.specs.declared.Cell.{Cell}
use Rattle.cell.specs.Cell.{IsCell}
use Rattle.code.specs.Code.{cell_code}
use Rattle.reading.specs.declared.Level.{Level}
use Rattle.reading.specs.declared.Profile.{Profile}
use Rattle.reading.specs.Reading.{Nodes, OfFaces, names}
use Rattle.reading.proofs.Laws.Reading.{six-faces}
use Rattle.reading.specs.Ground.{cell_named, whole_cells, All, Covers, Fills, SameGround, Cells, Rising}
use Rattle.reading.specs.Fewest.{FewestOf}
use Rattle.reading.specs.Text.{IsProfile, Reads}
use Rattle.reading.specs.Prefix.{Name, numbers_of, Ahead}
use Rattle.reading.proofs.Laws.Named.{names-of-cells, ground-names, cell-named}
use Rattle.reading.proofs.Laws.Rising.{ahead_before, code-before}
use Rattle.reading.proofs.Laws.Fewest.{Ordered, one-names}
use Rattle.reading.proofs.Laws.Demand.{whole-names, good-cells, whole_cells_lem, fewest}
use Rattle.reading.specs.Written.{nodes_for, written_text, keeps}
use Rattle.reading.specs.TextReading.{nodes_of}
use Rattle.reading.proofs.Laws.TextReading.{read-nodes}
use Rattle.reading.proofs.Laws.Written.{nodes-read, written-reads, written-ground}

-- ---- cells that rise have names of which no later one is ahead

rising-behind : (q : Cell) (qs : List Cell) → IsCell q → Cells qs → All (λ (x : Cell). cell_code q < cell_code x) qs → All (λ (p : Name). Ahead p (numbers_of q) → ⊥) (map numbers_of qs)
rising-behind q [] v c r = tt
rising-behind q (x ∷ qs) v c r = (
  (λ f. let h = code-before x q c.0 v (ahead_before x q c.0 v f) in omega (arith, r.0)),
  rising-behind q qs v c.1 r.1,
)

rising-ordered : (qs : List Cell) → Cells qs → Rising qs → Ordered (map numbers_of qs)
rising-ordered [] c r = tt
rising-ordered (q ∷ qs) c r = (rising-behind q qs c.0 c.1 r.0, rising-ordered qs c.1 r.1)

cells-back : (qs : List Cell) → Cells qs → map cell_named (map numbers_of qs) ≡ qs
cells-back [] c = refl
cells-back (q ∷ qs) c = ap₂ ◌∷◌ (cell-named q c.0) (cells-back qs c.1)

module _ {h : List ℕ} {l : Level} {d : ℕ} {t : List ℕ} {ns : Nodes} (f : OfFaces l) (m : d ≤ 15) (r : Reads h l d t ns) where
  -- "Every list of cells that covers exactly an accepted text's ground has at least as many cells"
  pub whole-fewest : (P : Cell → Type 0) → Fills P (whole_cells ns) → FewestOf P (whole_cells ns)
  whole-fewest P e =
      record {
        cells = good-cells f m r;
        rising = (whole_cells_lem f m r).1;
        fills = e;
        fewest = λ ps c i. fewest f m r ps c (λ x k. ((λ j. (e x k).1 ((i x k).0 j)), (λ j. (i x k).1 ((e x k).0 j))));
      }

  -- cells of the same ground that rise, and are no more than the whole cells, are those
  only-whole : (qs : List Cell) → Cells qs → Rising qs → SameGround qs (whole_cells ns) → length qs ≤ length (whole_cells ns) → qs ≡ whole_cells ns
  unfolding whole_cells
  only-whole qs c k g o =
      let e : map numbers_of (whole_cells ns) ≡ names ns = whole-names f m r in
      let i : map numbers_of qs ≡ names ns =
      one-names ns l d 15 (map numbers_of qs) r.good m (rw (six-faces l f) (names-of-cells qs c))
      (rw (six-faces l f) (rw e at (ground-names qs (whole_cells ns) c (good-cells f m r) g))) (rising-ordered qs c k)
      (omega (arith, length-map qs numbers_of, length-map (whole_cells ns) numbers_of, ap length e)) in
      sym (cells-back qs c) ∙ ap (map cell_named) i

-- ---- any cells, "in any order, repeated or one inside another"

module _ (qs : List Cell) (c : Cells qs) where
  -- the whole cells of the nodes that are built of them are the fewest of their ground
  pub written-fewest : FewestOf (Covers qs) (whole_cells (nodes_for qs))
  written-fewest = whole-fewest tt (omega arith) (nodes-read qs c) (Covers qs) (λ x k. let w = written-ground qs c x k in (w.1, w.0))

  -- and so are those of the text that is written
  pub text-fewest :
      (p : Profile) (n s : ℕ) → IsProfile p → keeps p qs ≡ true → n ≤ 3 → s ≤ 3 → FewestOf (Covers qs) (whole_cells (nodes_of (written_text p n s qs)))
  text-fewest p n s q k a b = rw (read-nodes (written-reads qs c p n s q k a b)) written-fewest

  -- a list of fewest cells of any ground that they fill is that
  only-fewest : (P : Cell → Type 0) → Fills P qs → (ps : List Cell) → FewestOf P ps → ps ≡ whole_cells (nodes_for qs)
  only-fewest P e ps b =
      let w = written-ground qs c in
      let i : Fills P (whole_cells (nodes_for qs)) = λ x k. ((λ j. (e x k).0 ((w x k).1 j)), (λ j. (w x k).0 ((e x k).1 j))) in
      only-whole tt (omega arith) (nodes-read qs c) ps b.cells b.rising (λ x k. ((λ j. (i x k).1 ((b.fills x k).0 j)), (λ j. (b.fills x k).1 ((i x k).0 j))))
      (b.fewest (whole_cells (nodes_for qs)) (good-cells tt (omega arith) (nodes-read qs c)) i)

-- "the fewest cells in rising order": a ground has at most one such list
pub one-fewest : (P : Cell → Type 0) (qs ps : List Cell) → FewestOf P qs → FewestOf P ps → qs ≡ ps
one-fewest P qs ps a b = only-fewest qs a.cells P a.fills qs a ∙ sym (only-fewest qs a.cells P a.fills ps b)
