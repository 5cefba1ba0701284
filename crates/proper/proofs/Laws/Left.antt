-- The codes that are left are those of the largest whole cells. Assumes nothing.
use Rattle.std.specs.Prelude.{◌≡◌, refl, List, [], ◌∷◌, map, ℕ, ltb, drop}
use Rattle.std.proofs.Common.{sym, ap, ◌∙◌, inl, inr, ⊎_elim, arith}
use Rattle.logic.specs.Lists.{All, Mem}
use Rattle.logic.specs.Laws.Bools.{by_cond}
use Rattle.logic.specs.Laws.Lists.{mem-all}
use Rattle.cell.specs.declared.Cell.{Cell}
use Rattle.cell.specs.declared.Arrangement.{Arrangement}
use Rattle.cell.specs.Cell.{IsCell, IsArrangement}
use Rattle.code.specs.Code.{code_of, cell_of}
use Rattle.code.proofs.Laws.Code.{cell-code}
use Rattle.code.specs.Inside.{Inside, start_of, end_of}
use Rattle.code.proofs.Laws.Inside.{within-inside}
use Rattle.reading.specs.declared.Level.TheVariants.{Faces}
use Rattle.reading.specs.Reading.{Nodes, names}
use Rattle.reading.specs.Ground.{cell_named, whole_cells, Cells, Apart}
use Rattle.reading.specs.Prefix.{Name, numbers_of, Prefix, AreNames, IsName}
use Rattle.reading.proofs.Laws.Named.{named-cell, name-named, inside-prefix, prefix-inside}
use Rattle.writing.proofs.Laws.List.{good-list}
use Rattle.sorting.specs.Sorted.{sorted}
use Rattle.sorting.proofs.Laws.Sorted.{sorted-mem, sorted-rising}
use Rattle.loose.specs.LooseText.{LooseBody}
use Rattle.loose.specs.LooseScan.{loose_nodes}
use Rattle.loose.proofs.Laws.Names.{names-loose}
use Rattle.proper.proofs.Laws.Kind.{Largest}
use Rattle.proper.specs.Thin.{thinned}
use Rattle.proper.proofs.Laws.Thin.{outer, thinned-good}
use Rattle.proper.specs.Wholes.{loose_codes}
use Rattle.proper.proofs.Laws.Thinned.{codes-sorted, left-cells, covers-mem, mem-covers}

abbrev pub name_in : ℕ → Name
name_in c = numbers_of (cell_of c)

thinned-mem : (from : ℕ) (cs : List ℕ) (c : ℕ) → Mem c (thinned from cs) → Mem c cs
unfolding thinned
thinned-mem from [] c m = m
thinned-mem from (x ∷ cs) c m =
    by_cond (λ (l : List ℕ). Mem c l → Mem c (x ∷ cs)) (ltb (start_of (cell_of x)) from) (λ e k. inr (thinned-mem from cs c k))
    (λ e. ⊎_elim (λ k. inl k) (λ k. inr (thinned-mem (end_of (cell_of x)) cs c k)))
    m

map-mem : (cs : List ℕ) (q : Name) → Mem q (map name_in cs) → (c : ℕ) × Mem c cs × (name_in c ≡ q)
map-mem [] q m = absurd m
map-mem (c ∷ cs) q (inl m) = (c, inl refl, m)
map-mem (c ∷ cs) q (inr m) = let k = map-mem cs q m in (k.0, inr k.1, k.2)

mem-map : (cs : List ℕ) (c : ℕ) → Mem c cs → Mem (name_in c) (map name_in cs)
mem-map [] c m = absurd m
mem-map (x ∷ cs) c (inl m) = inl (ap name_in m)
mem-map (x ∷ cs) c (inr m) = inr (mem-map cs c m)

-- the codes of named cells
module _ {a : Arrangement} (v : IsArrangement a) where
  code-mem : (qs : List Name) → AreNames 6 15 qs → (c : ℕ) → Mem c (map (code_of a) (map cell_named qs)) → Mem (name_in c) qs
  code-mem [] n c m = absurd m
  code-mem (q ∷ qs) n c (inl m) =
      inl (sym (name-named q n.0) ∙ ap numbers_of (sym (cell-code v (cell_named q) (named-cell q n.0)) ∙ ap cell_of m))
  code-mem (q ∷ qs) n c (inr m) = inr (code-mem qs n.1 c m)

mem-code : (a : Arrangement) (qs : List Name) (q : Name) → Mem q qs → Mem (code_of a (cell_named q)) (map (code_of a) (map cell_named qs))
mem-code a [] q m = absurd m
mem-code a (p ∷ qs) q (inl m) = inl (ap (λ (x : Name). code_of a (cell_named x)) m)
mem-code a (p ∷ qs) q (inr m) = inr (mem-code a qs q m)

inside-self : (x : Cell) → IsCell x → Inside x x
inside-self x v = within-inside x x v v (record { from = omega arith; to = omega arith })

all-not : (x : Cell) (cs : List ℕ) (d : ℕ) → All (λ (p : Cell). (Inside x p → ⊥) × (Inside p x → ⊥)) (map cell_of cs) → Mem d cs → (Inside x (cell_of d) → ⊥) × (Inside (cell_of d) x → ⊥)
all-not x [] d a m = absurd m
all-not x (c ∷ cs) d a (inl m) = let e : cell_of c ≡ cell_of d = ap cell_of m in rw e at a.0
all-not x (c ∷ cs) d a (inr m) = all-not x cs d a.1 m

apart-mem : (cs : List ℕ) → Apart (map cell_of cs) → (c d : ℕ) → Mem c cs → Mem d cs → Inside (cell_of c) (cell_of d) → c ≡ d
apart-mem [] a c d i j h = absurd i
apart-mem (x ∷ cs) a c d (inl i) (inl j) h = sym i ∙ j
apart-mem (x ∷ cs) a c d (inl i) (inr j) h = let e : cell_of x ≡ cell_of c = ap cell_of i in absurd ((all-not (cell_of x) cs d a.0 j).0 (rw e h))
apart-mem (x ∷ cs) a c d (inr i) (inl j) h = let e : cell_of x ≡ cell_of d = ap cell_of j in absurd ((all-not (cell_of x) cs c a.0 i).1 (rw e h))
apart-mem (x ∷ cs) a c d (inr i) (inr j) h = apart-mem cs a.1 c d i j h

cell-mem : (cs : List ℕ) (c : ℕ) → Cells (map cell_of cs) → Mem c cs → IsCell (cell_of c)
cell-mem [] c k m = absurd m
cell-mem (x ∷ cs) c k (inl m) = let e : cell_of x ≡ cell_of c = ap cell_of m in rw e at k.0
cell-mem (x ∷ cs) c k (inr m) = cell-mem cs c k.1 m

module _ {a : Arrangement} (v : IsArrangement a) (t : List ℕ) (b : LooseBody (drop 7 t) (loose_nodes (drop 7 t))) where
  abbrev nodes : Nodes
  nodes = loose_nodes (drop 7 t)

  abbrev all : List ℕ
  all = loose_codes a t

  abbrev left : List ℕ
  left = thinned 0 (sorted all)

  named : AreNames 6 15 (names nodes)
  named = names-loose nodes Faces 15 b.loose

  cells : Cells (map cell_of left)
  cells = left-cells v t b

  -- what is left names cells that are named whole
  left-among : (m : Name) → Mem m (map name_in left) → Mem m (names nodes)
  unfolding loose_codes whole_cells
  left-among m i =
      let k = map-mem left m i in
      let j : Mem k.0 all = (sorted-mem k.0 all).0 (thinned-mem 0 (sorted all) k.0 k.1) in
      rw k.2 at (code-mem v (names nodes) named k.0 j)

  -- and each of those lies in one that is left
  left-holds : (q : Name) → Mem q (names nodes) → (m : Name) × Mem m (map name_in left) × Prefix m q
  unfolding loose_codes whole_cells
  left-holds q i =
      let w : Cell = cell_named q in
      let n : IsName 6 15 q = mem-all (IsName 6 15) (names nodes) q named i in
      let u : IsCell w = named-cell q n in
      let j : Mem (code_of a w) (sorted all) = (sorted-mem (code_of a w) all).1 (mem-code a (names nodes) q i) in
      let s : Inside (cell_of (code_of a w)) w = rw (cell-code v w u) (inside-self w u) in
      let o = outer a w u (sorted all) (codes-sorted v t b) (sorted-rising all) (mem-covers (sorted all) w (code_of a w) j s) in
      let c = covers-mem left w o in
      (name_in c.0, mem-map left c.0 c.1, rw (name-named q n) at (inside-prefix (cell_of c.0) w c.2))

  -- and none lies in another
  left-apart : (m q : Name) → Mem m (map name_in left) → Mem q (map name_in left) → Prefix m q → m ≡ q
  left-apart m q i j h =
      let x = map-mem left m i in
      let y = map-mem left q j in
      let p : Prefix (name_in x.0) (name_in y.0) = rw (x.2, y.2) h in
      let u : Inside (cell_of x.0) (cell_of y.0) =
      prefix-inside (cell_of x.0) (cell_of y.0) (cell-mem left x.0 cells x.1) (cell-mem left y.0 cells y.1) p in
      let g = good-list a left (thinned-good a (sorted all) (codes-sorted v t b)) in
      let e : x.0 ≡ y.0 = apart-mem left g.apart x.0 y.0 x.1 y.1 u in
      sym x.2 ∙ ap name_in e ∙ y.2

  pub left-largest : Largest (map name_in left) (names nodes)
  left-largest = record { among = left-among; holds = left-holds; apart = left-apart }
