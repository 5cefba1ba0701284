-- The written text is accepted and has the ground of the cells (01 "The coverage text"), and cells of one ground have one text. In a profile there is
-- such a text exactly where the fewest cells of the ground keep to it (02, W-208). Laws/FewestOf shows that its whole cells are the fewest.
-- Assumes nothing.
use Rattle.std.specs.Prelude.{◌≡◌, ◌↔◌, true, List, [], ◌++◌, map, ℕ, ◌≤◌}
use Rattle.std.proofs.Math.Path.{refl}
use Rattle.std.proofs.Common.{sym, ap, ◌∙◌, arith}
use Rattle.cell.specs.declared.Cell.{Cell}
use Rattle.reading.specs.declared.Level.TheVariants.{Faces}
use Rattle.reading.specs.declared.Profile.{Profile}
use Rattle.reading.specs.Reading.{Nodes, render, Good}
use Rattle.reading.specs.Ground.{whole_cells, SameGround, Cells}
use Rattle.reading.specs.Text.{IsProfile, level_of, depth_of, heading, Reads, ReadsAs}
use Rattle.reading.specs.Prefix.{numbers_of}
use Rattle.reading.proofs.Laws.Named.{names-of-cells, names-ground}
use Rattle.reading.proofs.Laws.Demand.{good-reads, good-cells, whole-names, whole_cells_lem, same_nodes}
use Rattle.reading.proofs.Laws.Fits.{good-faces, good-fits, profile-good}
use Rattle.reading.specs.Written.{nodes_for, written_text, keeps}
use Rattle.reading.proofs.Laws.Built.{built-good, built-ground}

module _ (cells : List Cell) (c : Cells cells) where
  pub nodes-good : Good Faces 15 0 (nodes_for cells)
  nodes-good = built-good (map numbers_of cells) (names-of-cells cells c)

  -- the nodes of the cells, as a body of version 1
  pub nodes-read : Reads [] Faces 15 (render Faces (nodes_for cells)) (nodes_for cells)
  nodes-read = good-reads (nodes_for cells) Faces 15 nodes-good

  -- "gives the accepted text": it is accepted, and has the heading of the profile and of (n, s)
  pub written-reads : (p : Profile) (n s : ℕ) → IsProfile p → keeps p cells ≡ true → n ≤ 3 → s ≤ 3 → ReadsAs p n s (written_text p n s cells) (nodes_for cells)
  unfolding written_text
  written-reads p n s q k a b =
      record { profiled = q; north = a; south = b; body = record { good = profile-good p (nodes_for cells) nodes-good k; all = refl } }

  -- "of the same ground": of any cells, "in any order, repeated or one inside another"
  pub written-ground : SameGround cells (whole_cells (nodes_for cells))
  written-ground =
      names-ground cells (whole_cells (nodes_for cells)) c (good-cells tt (omega arith) nodes-read)
      (rw (whole-names tt (omega arith) nodes-read) (built-ground (map numbers_of cells) (names-of-cells cells c)))

  -- nodes of the grammar of that ground are these
  pub only-nodes : (ns : Nodes) → Good Faces 15 0 ns → SameGround cells (whole_cells ns) → nodes_for cells ≡ ns
  only-nodes ns g e =
      let w = written-ground in
      same_nodes tt (omega arith) nodes-read
      (record { good = (good-reads ns Faces 15 g).good; all = refl })
      (λ x f. ((λ h. (e x f).0 ((w x f).1 h)), (λ h. (w x f).0 ((e x f).1 h))))

-- writing what was listed gives the same bytes
pub listed-nodes : {p : Profile} {n s : ℕ} {t : List ℕ} {ns : Nodes} → ReadsAs p n s t ns → nodes_for (whole_cells ns) ≡ ns
listed-nodes {p} {n} {s} {t} {ns} r =
    let g = good-faces p ns r.profiled r.body.good in
    only-nodes (whole_cells ns) (whole_cells_lem tt (omega arith) (good-reads ns Faces 15 g)).0 ns g (λ x f. ((λ h. h), (λ h. h)))

pub listed-written : {p : Profile} {n s : ℕ} {t : List ℕ} {ns : Nodes} → ReadsAs p n s t ns → written_text p n s (whole_cells ns) ≡ t
unfolding written_text
listed-written {p} {n} {s} {t} {ns} r = ap (λ (x : Nodes). heading p n s ++ render (level_of p) x) (listed-nodes r) ∙ sym r.body.all

-- cells of one ground have the same nodes, and so one text, whatever the list
pub one-nodes : (qs ps : List Cell) → Cells qs → Cells ps → SameGround qs ps → nodes_for qs ≡ nodes_for ps
one-nodes qs ps c d g =
    let j = written-ground ps d in
    only-nodes qs c (nodes_for ps) (nodes-good ps d) (λ x f. ((λ h. (j x f).0 ((g x f).0 h)), (λ h. (g x f).1 ((j x f).1 h))))

pub one-text : (p : Profile) (n s : ℕ) (qs ps : List Cell) → Cells qs → Cells ps → SameGround qs ps → written_text p n s qs ≡ written_text p n s ps
unfolding written_text
one-text p n s qs ps c d g = ap (λ (x : Nodes). heading p n s ++ render (level_of p) x) (one-nodes qs ps c d g)

-- a text of some ground: accepted, with the heading of a profile and of (n, s)
pub record TextOf (p : Profile) (n s : ℕ) (cells : List Cell) : Type 0 where
  pub text : List ℕ
  pub nodes : Nodes
  pub reads : ReadsAs p n s text nodes
  pub ground : SameGround cells (whole_cells nodes)

-- "A good list is outside the profile exactly when the fewest cells of its ground break it": exactly when no accepted text of that heading has its ground
pub keeps-exactly :
    (p : Profile) (n s : ℕ) (cells : List Cell) → IsProfile p → n ≤ 3 → s ≤ 3 → Cells cells → (keeps p cells ≡ true) ↔ TextOf p n s cells
keeps-exactly p n s cells q a b c = (
  (λ k. record { text = written_text p n s cells; nodes = nodes_for cells; reads = written-reads cells c p n s q k a b; ground = written-ground cells c }),
  (λ w.
      let r = w.reads in
      rw (only-nodes cells c w.nodes (good-faces p w.nodes q r.body.good) w.ground) (good-fits w.nodes (level_of p) (depth_of p) 0 r.body.good)),
)
