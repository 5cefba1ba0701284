-- Writing the thinned codes of a looser text's whole cells gives the proper text. Assumes nothing.
use Rattle.std.specs.Prelude.{◌≡◌, refl, true, List, [], ◌∷◌, ◌++◌, map, ℕ, leb, drop}
use Rattle.std.proofs.Common.{◌∙◌, inl, inr}
use Rattle.std.proofs.Math.Path.{ap}
use Rattle.logic.specs.Lists.{Mem}
use Rattle.logic.specs.Laws.Bools.{by_cond}
use Rattle.cell.specs.declared.Cell.{Cell}
use Rattle.cell.specs.declared.Arrangement.{Arrangement}
use Rattle.cell.specs.Cell.{IsArrangement}
use Rattle.code.specs.Code.{code_of, cell_of, is_code, arrangement_of}
use Rattle.code.proofs.Laws.Code.{cell-has-code, arrangement-code}
use Rattle.code.specs.Inside.{Inside}
use Rattle.reading.specs.declared.Profile.TheVariants.{Full}
use Rattle.reading.specs.declared.Level.TheVariants.{Faces}
use Rattle.reading.specs.Reading.{Nodes, render}
use Rattle.reading.specs.Text.{heading}
use Rattle.reading.specs.Ground.{whole_cells, Covers, SameGround, Cells}
use Rattle.reading.specs.Written.{written_text}
use Rattle.reading.proofs.Laws.Written.{one-text}
use Rattle.writing.proofs.Laws.List.{codes-cells}
use Rattle.listing.proofs.Laws.List.{cells-back}
use Rattle.sorting.specs.Sorted.{insert, sorted}
use Rattle.sorting.proofs.Laws.Sorted.{sorted-rising, sorted-mem}
use Rattle.loose.specs.LooseText.{LooseBody}
use Rattle.loose.specs.LooseScan.{loose_nodes}
use Rattle.loose.proofs.Laws.Names.{loose-cells}
use Rattle.proper.specs.Proper.{rescued}
use Rattle.proper.proofs.Laws.Proper.{answer-for}
use Rattle.proper.specs.Thin.{thinned, Coded}
use Rattle.proper.proofs.Laws.Thin.{coded-all, thinned-coded, thinned-ground}
use Rattle.proper.specs.Wholes.{loose_codes}

-- ---- codes of cells, sorted

module _ {a : Arrangement} (v : IsArrangement a) where
  cells-coded : (cs : List Cell) → Cells cs → Coded a (map (code_of a) cs)
  cells-coded [] h = tt
  cells-coded (c ∷ cs) h = ((cell-has-code v c h.0, arrangement-code v c h.0), cells-coded cs h.1)

insert-coded : (a : Arrangement) (x : ℕ) (cs : List ℕ) → (is_code x ≡ true) × (arrangement_of x ≡ a) → Coded a cs → Coded a (insert x cs)
unfolding insert
insert-coded a x [] i d = (i, tt)
insert-coded a x (c ∷ cs) i d = by_cond (Coded a) (leb x c) (λ e. (i, d)) (λ e. (d.0, insert-coded a x cs i d.1))

pub sorted-coded : (a : Arrangement) (cs : List ℕ) → Coded a cs → Coded a (sorted cs)
unfolding sorted
sorted-coded a [] d = tt
sorted-coded a (c ∷ cs) d = insert-coded a c (sorted cs) d.0 (sorted-coded a cs d.1)

pub covers-mem : (cs : List ℕ) (x : Cell) → Covers (map cell_of cs) x → (c : ℕ) × Mem c cs × Inside (cell_of c) x
covers-mem [] x h = absurd h
covers-mem (c ∷ cs) x (inl h) = (c, inl refl, h)
covers-mem (c ∷ cs) x (inr h) = let k = covers-mem cs x h in (k.0, inr k.1, k.2)

pub mem-covers : (cs : List ℕ) (x : Cell) (c : ℕ) → Mem c cs → Inside (cell_of c) x → Covers (map cell_of cs) x
mem-covers [] x c m h = absurd m
mem-covers (d ∷ cs) x c (inl m) h = inl (rw m h)
mem-covers (d ∷ cs) x c (inr m) h = inr (mem-covers cs x c m h)

sorted-ground : (cs : List ℕ) → SameGround (map cell_of cs) (map cell_of (sorted cs))
sorted-ground cs x f = (
  (λ h. let k = covers-mem cs x h in mem-covers (sorted cs) x k.0 ((sorted-mem k.0 cs).1 k.1) k.2),
  (λ h. let k = covers-mem (sorted cs) x h in mem-covers cs x k.0 ((sorted-mem k.0 cs).0 k.1) k.2),
)

-- ---- the text

module _ {a : Arrangement} (v : IsArrangement a) (t : List ℕ) (b : LooseBody (drop 7 t) (loose_nodes (drop 7 t))) where
  abbrev nodes : Nodes
  nodes = loose_nodes (drop 7 t)

  abbrev left : List ℕ
  left = thinned 0 (sorted (loose_codes a t))

  cells : Cells (whole_cells nodes)
  cells = loose-cells nodes b.loose

  pub coded : Coded a (loose_codes a t)
  unfolding loose_codes
  coded = cells-coded v (whole_cells nodes) cells

  pub codes-sorted : Coded a (sorted (loose_codes a t))
  codes-sorted = sorted-coded a (loose_codes a t) coded

  back : map cell_of (loose_codes a t) ≡ whole_cells nodes
  unfolding loose_codes
  back = cells-back a v (whole_cells nodes) cells

  pub left-cells : Cells (map cell_of left)
  left-cells = codes-cells left (coded-all a left (thinned-coded a 0 (sorted (loose_codes a t)) codes-sorted))

  left-ground : SameGround (map cell_of left) (whole_cells nodes)
  left-ground x f =
      let i = sorted-ground (loose_codes a t) x f in
      let j = thinned-ground a (sorted (loose_codes a t)) codes-sorted (sorted-rising (loose_codes a t)) x f in (
        (λ h. rw back at (i.1 (j.1 h))),
        (λ h. j.0 (i.0 (rw back h))),
      )

  whole-text : (n s : ℕ) → written_text Full n s (whole_cells nodes) ≡ rescued n s nodes
  unfolding written_text rescued
  whole-text n s = ap (λ (x : Nodes). heading Full n s ++ render Faces x) (answer-for nodes b.loose)

  -- "give the proper text of the same ground"
  pub left-text : (n s : ℕ) → written_text Full n s (map cell_of left) ≡ rescued n s nodes
  left-text n s = one-text Full n s (map cell_of left) (whole_cells nodes) left-cells cells left-ground ∙ whole-text n s
