-- What lies before a sheet that stands beside the walk: the next whole cell and its record. Assumes nothing.
use Rattle.std.specs.Prelude.{◌≡◌, refl, true, ℕ, zero, suc, ◌+◌, ◌≤◌, ◌<◌}
use Rattle.std.proofs.Math.Path.{sym, ap, ap₂}
use Rattle.std.proofs.Common.{◌∙◌, arith, drop-drop}
use mathlib.Core.List.{List, [], ◌∷◌, map}
use Rattle.std.proofs.Math.ListN.{length, drop, length-drop}
use Rattle.std.proofs.lemmas.List.{length-map}
use Rattle.cell.specs.declared.Cell.{Cell}
use Rattle.code.specs.Code.{code_of, cell_of, arrangement_of, is_code}
use Rattle.code.proofs.Laws.Code.{cell-code, cell-has-code, arrangement-code}
use Rattle.code.proofs.Laws.Number.{code-as}
use Rattle.reading.specs.declared.Level.TheVariants.{Faces}
use Rattle.reading.specs.Ground.{whole_cells, Cells, Rising, Apart}
use Rattle.reading.proofs.Laws.Report.{count_most}
use Rattle.reading.specs.TextReading.{nodes_of, text_arrangement, is_text, body_start}
use Rattle.reading.proofs.Laws.TextReading.{reads-body, body-nodes, text-arranged}
use Rattle.reading.proofs.Laws.Demand.{whole_cells_lem, count-whole}
use Rattle.walk.specs.declared.Spot.{Spot}
use Rattle.walk.specs.Walk.{spot_of, walk, Walks}
use Rattle.walk.specs.Laws.Walk.{walk-text, walks-start}
use Rattle.listing.proofs.Laws.List.{spot_code}
use Rattle.sheet.specs.declared.Record.{Record}
use Rattle.sheet.specs.Sheet.{record_of, records_of}
use Rattle.sheet.specs.Parts.{Stands, StandsAt, start_at}

-- ---- of an accepted text

module _ (t : List ℕ) (e : is_text t ≡ true) where
  pub text-cells : Cells (whole_cells (nodes_of t)) × Rising (whole_cells (nodes_of t)) × Apart (whole_cells (nodes_of t))
  text-cells = whole_cells_lem tt (omega arith) (reads-body t e)

  -- a whole cell takes a byte at least
  pub few : length (whole_cells (nodes_of t)) ≤ length t
  few =
      omega (
        arith,
        count-whole tt (omega arith) (reads-body t e),
        count_most (nodes_of t) Faces,
        ap length (body-nodes t e),
        length-drop (body_start t) t,
      )

  pub stands-start : {body : ℕ} → body ≡ body_start t → StandsAt t (start_at body)
  stands-start h = rw h (record { walks = walks-start t e; left = walk-text t e; text = e })

pub length-records : (t : List ℕ) → length (records_of t) ≡ length (whole_cells (nodes_of t))
unfolding records_of
length-records t = length-map (whole_cells (nodes_of t)) (record_of (text_arrangement t))

-- ---- the next whole cell

cells-drop : (k : ℕ) (cs : List Cell) → Cells cs → Cells (drop k cs)
cells-drop zero cs v = v
cells-drop (suc k) [] v = tt
cells-drop (suc k) (c ∷ cs) v = cells-drop k cs v.1

map-drop : (k : ℕ) (f : Cell → Record) (cs : List Cell) → drop k (map f cs) ≡ map f (drop k cs)
map-drop zero f cs = refl
map-drop (suc k) f [] = refl
map-drop (suc k) f (c ∷ cs) = map-drop k f cs

-- the code of the cell at a spot of the walk over a text, and its record
abbrev pub code_there : List ℕ → Spot → ℕ
code_there t s = spot_code (text_arrangement t) s

abbrev pub record_there : List ℕ → Spot → Record
record_there t s = record_of (arrangement_of (code_there t s)) (cell_of (code_there t s))

-- the cell that comes next behind k cells, at the spot s', with the walk at j behind it
pub record Comes (t : List ℕ) (k j : ℕ) (s' : Spot) : Type 0 where
  pub code : is_code (code_there t s') ≡ true
  pub rest : drop k (records_of t) ≡ record_there t s' ∷ drop (k + 1) (records_of t)
  pub more : k < length (whole_cells (nodes_of t))
  pub on : Stands t (k + 1) j s'

module _ {t : List ℕ} {k i : ℕ} {s : Spot} (x : Stands t k i s) where
  abbrev cs : List Cell
  cs = whole_cells (nodes_of t)

  module _ {j : ℕ} {s' : Spot} (e : walk s (drop i t) ≡ s' ∷ walk s' (drop j t)) (w : Walks t j s') where
    first : (ds : List Cell) → drop k cs ≡ ds → Cells ds → Comes t k j s'
    unfolding records_of
    first [] d v =
        let z : map spot_of [] ≡ s' ∷ walk s' (drop j t) = ap (map spot_of) (sym d) ∙ sym x.left ∙ e in
        absurd (omega (arith, ap length z))
    first (c ∷ ds) d v =
        let z : spot_of c ∷ map spot_of ds ≡ s' ∷ walk s' (drop j t) = ap (map spot_of) (sym d) ∙ sym x.left ∙ e in
        let p : spot_of c ≡ s' = cc in
        let q : map spot_of ds ≡ walk s' (drop j t) = cc in
        let u : drop (k + 1) cs ≡ ds = sym (drop-drop 1 k cs) ∙ ap (drop 1) d in
        let g = text-arranged t x.text in
        let n : code_there t s' ≡ code_of (text_arrangement t) c = ap (spot_code (text_arrangement t)) (sym p) ∙ code-as (text_arrangement t) c v.0 in
        let f = record_of (text_arrangement t) in
        let o : f c ≡ record_there t s' =
        ap₂ record_of (sym (ap arrangement_of n ∙ arrangement-code g c v.0)) (sym (ap cell_of n ∙ cell-code g c v.0)) in
        record {
          code = ap is_code n ∙ cell-has-code g c v.0;
          rest = map-drop k f cs ∙ ap (map f) d ∙ ap₂ ◌∷◌ o (ap (map f) (sym u) ∙ sym (map-drop (k + 1) f cs));
          more = omega (arith, ap length d, length-drop k cs);
          on = record { walks = w; left = sym q ∙ ap (map spot_of) (sym u); text = x.text };
        }

    pub comes : Comes t k j s'
    comes = first (drop k cs) refl (cells-drop k cs (text-cells t x.text).0)

  -- no cell comes
  module _ (e : walk s (drop i t) ≡ []) where
    pub none-comes : length (whole_cells (nodes_of t)) ≤ k
    none-comes =
        let z : map spot_of (drop k cs) ≡ [] = sym x.left ∙ e in
        omega (arith, ap length z, length-map (drop k cs) spot_of, length-drop k cs)
