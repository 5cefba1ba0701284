-- The text with the cell is that of the nodes with the cell, and so the edited text. Assumes nothing.
use Rattle.std.specs.Prelude.{◌≡◌, refl, true, ℕ, ◌+◌, length}
use Rattle.std.proofs.Common.{sym, ◌∙◌, subst, inl, inr, ⊎_elim, arith}
use Rattle.std.proofs.Math.Path.{ap}
use Rattle.std.proofs.Math.Bool.{not}
use mathlib.Core.List.{List, [], ◌∷◌, ◌++◌, map, append-nil}
use Rattle.cell.specs.declared.Cell.{Cell}
use Rattle.cell.specs.Cell.{IsCell}
use Rattle.code.specs.Code.{digits_of}
use Rattle.code.proofs.Laws.Code.{length-digits-of}
use Rattle.reading.specs.declared.Level.TheVariants.{Faces, Digits}
use Rattle.reading.specs.Reading.{Nodes, wholes, render, Good, names}
use Rattle.reading.specs.Prefix.{Name, numbers_of, SameNames, IsName, AreNames}
use Rattle.reading.specs.Ground.{whole_cells}
use Rattle.reading.specs.Text.{level_of, depth_of, heading}
use Rattle.reading.specs.TextReading.{nodes_of, profile_of, north_of, south_of, is_text, body_start}
use Rattle.reading.specs.Written.{built, nodes_for, written_text, fitting}
use Rattle.reading.proofs.Laws.Reading.{wholes-most, six-faces}
use Rattle.reading.proofs.Laws.Ground.{in→covered, covered→in, same_names}
use Rattle.reading.proofs.Laws.Fewest.{names-good}
use Rattle.reading.proofs.Laws.Named.{cell-is-named, names-named}
use Rattle.reading.proofs.Laws.Heading.{length-head}
use Rattle.reading.proofs.Laws.Fits.{faces-of, render-faces}
use Rattle.reading.proofs.Laws.Built.{built-good, built-ground}
use Rattle.reading.proofs.Laws.TextReading.{reads-own, good-nodes, body-within, body-nodes}
use Rattle.name.specs.Name.{digit_bytes, name_of}
use Rattle.name.specs.Laws.Name.{length-name}
use Rattle.adding.specs.declared.Edit.{Edit}
use Rattle.adding.specs.Add.{text_with, keeps_with}
use Rattle.adding.specs.Internal.Grow.{grow}
use Rattle.adding.specs.Internal.GrowLaws.{grow-good, own-grow, in-grow, grow-in}
use Rattle.adding.specs.Internal.Edit.{name_bytes, edit_of, edited, EditFits}
use Rattle.adding.specs.Internal.EditLaws.{Says, says, says-edited, says-fits}
use Rattle.adding.specs.Internal.Find.{Stands}
use Rattle.adding.specs.Internal.Fit.{breaks}
use Rattle.adding.specs.Internal.FitLaws.{fits-with}

-- ---- the nodes with the cell have its names and theirs

grow-names :
    (ns : Nodes) (x : ℕ) (p : Name) → Good Faces 15 0 ns → IsName 6 15 (x ∷ p) → SameNames 6 15 ((x ∷ p) ∷ names ns) (names (grow x p ns))
grow-names ns x p g n [] f = absurd f
grow-names ns x p g n (z ∷ r) f = (
  ⊎_elim (λ h. in→covered (grow x p ns) z r (own-grow ns x p z r h))
      (λ h. in→covered (grow x p ns) z r (in-grow ns Faces 15 0 x p z r 15 g (omega arith) f.1 (covered→in ns z r h))),
  (λ h.
      ⊎_elim (λ o. inl o) (λ o. inr (in→covered ns z r o))
      (grow-in ns Faces 15 0 x p z r 15 g n.0 n.1 n.2 (omega arith) f.1 (covered→in (grow x p ns) z r h))),
)

-- so they are the nodes that writing builds
grow-built : (ns : Nodes) (x : ℕ) (p : Name) → Good Faces 15 0 ns → IsName 6 15 (x ∷ p) → built 15 6 ((x ∷ p) ∷ names ns) ≡ grow x p ns
grow-built ns x p g n =
    let k : AreNames 6 15 ((x ∷ p) ∷ names ns) = (n, names-good ns Faces 15 0 15 g (omega arith)) in
    let b = built-ground ((x ∷ p) ∷ names ns) k in
    same_names (built 15 6 ((x ∷ p) ∷ names ns)) (grow x p ns) Faces 15 15 (built-good ((x ∷ p) ∷ names ns) k)
    (grow-good ns Faces 15 0 x p g (omega arith) n.0 n.1 n.2) (omega arith)
    (λ q f. let i = grow-names ns x p g n q f in let j = b q f in ((λ h. i.0 (j.1 h)), (λ h. j.0 (i.1 h))))

-- the digits of a cell's name
abbrev pub cell_digits : Cell → Name
cell_digits c = digits_of c.resolution c.row c.column

-- and its bytes
abbrev pub cell_bytes : Cell → List ℕ
cell_bytes c = name_bytes Faces (c.face ∷ cell_digits c)

module _ (t : List ℕ) (e : is_text t ≡ true) (c : Cell) (v : IsCell c) where
  pub named : IsName 6 15 (c.face ∷ cell_digits c)
  unfolding numbers_of
  named = cell-is-named c v

  -- the nodes with the cell
  abbrev pub grown : Nodes
  grown = grow c.face (cell_digits c) (nodes_of t)

  pub nodes-with : nodes_for (c ∷ whole_cells (nodes_of t)) ≡ grown
  unfolding whole_cells numbers_of
  nodes-with =
      let q : map numbers_of (whole_cells (nodes_of t)) ≡ names (nodes_of t) =
      names-named (names (nodes_of t)) (names-good (nodes_of t) Faces 15 0 15 (good-nodes t e) (omega arith)) in
      ap (λ (z : List Name). built 15 6 ((c.face ∷ cell_digits c) ∷ z)) q
      ∙ grow-built (nodes_of t) c.face (cell_digits c) (good-nodes t e) named

  abbrev head : List ℕ
  head = heading (profile_of t) (north_of t) (south_of t)

  -- its bytes
  with-nodes : text_with t c ≡ head ++ render Faces grown
  unfolding text_with written_text
  with-nodes =
      ap (λ (z : Nodes). head ++ render (level_of (profile_of t)) z) nodes-with
      ∙ ap (λ (z : List ℕ). head ++ z) (render-faces (profile_of t) grown)

  -- ---- the edit of the text

  abbrev pub text_edit : Edit
  text_edit = edit_of (body_start t) 0 0 c.face (cell_digits c) (nodes_of t)

  pub few : (ns : Nodes) → Good Faces 15 0 ns → 0 + wholes ns ≡ 9 → ⊥
  few ns g q = omega (arith, wholes-most ns Faces 15 0 g (omega arith))

  grown-good : Good Faces 15 0 grown
  grown-good = grow-good (nodes_of t) Faces 15 0 c.face (cell_digits c) (good-nodes t e) (omega arith) named.0 named.1 named.2

  head-long : body_start t ≡ length head
  head-long = sym (ap length (sym (append-nil head)) ∙ length-head (north_of t) (south_of t) [] (profile_of t) ∙ omega arith)

  said :
      Says (cell_bytes c) (head ++ (render Faces (nodes_of t) ++ [])) (head ++ (render Faces grown ++ [])) (body_start t + length (render Faces (nodes_of t)))
      (0 + wholes grown) text_edit
  said =
      says (nodes_of t) Faces 15 0 c.face (cell_digits c) (body_start t) 0 0 (cell_bytes c) head [] (good-nodes t e) (omega arith) (omega arith) named.0
      named.2 (few (nodes_of t) (good-nodes t e)) head-long refl

  old-text : head ++ (render Faces (nodes_of t) ++ []) ≡ t
  old-text =
      ap (λ (x : List ℕ). head ++ x) (append-nil (render Faces (nodes_of t)) ∙ sym (render-faces (profile_of t) (nodes_of t)))
      ∙ sym (reads-own t e).body.all

  -- gives the text with the cell
  pub edited-with : edited (cell_bytes c) t text_edit ≡ text_with t c
  edited-with =
      ap (λ (x : List ℕ). edited (cell_bytes c) x text_edit) (sym old-text)
      ∙ says-edited _ _ _ _ _ text_edit (few grown grown-good) said
      ∙ ap (λ (x : List ℕ). head ++ x) (append-nil (render Faces grown))
      ∙ sym with-nodes

  pub edit-fits : EditFits (length t) (length (cell_bytes c)) text_edit
  edit-fits = subst (λ (x : List ℕ). EditFits (length x) (length (cell_bytes c)) text_edit) old-text (says-fits _ _ _ _ _ text_edit said)

  -- it keeps to the profile exactly where the edit does not break it
  pub keeps-edit : keeps_with t c ≡ not (breaks (profile_of t) c.face c.resolution text_edit)
  unfolding keeps_with
  keeps-edit =
      ap (fitting (level_of (profile_of t)) (depth_of (profile_of t))) nodes-with
      ∙ fits-with (profile_of t) (nodes_of t) c.face (cell_digits c) (body_start t) (reads-own t e).body.good
      (omega (arith, named.0, six-faces (level_of (profile_of t)) (faces-of (profile_of t)))) named.2
      ∙ ap (λ (n : ℕ). not (breaks (profile_of t) c.face n text_edit)) (length-digits-of c.resolution c.row c.column)

  -- ---- nodes and a cell's name, as finding the edit takes them

  unfoldable pub stands-text : (bytes : List ℕ) → bytes ≡ cell_bytes c → Stands t bytes (body_start t) 0
  stands-text bytes q =
      record {
        level = Faces;
        depth = 15;
        nodes = nodes_of t;
        rest = [];
        number = c.face;
        digits = cell_digits c;
        within = body-within t e;
        left = body-nodes t e ∙ sym (append-nil (render Faces (nodes_of t)));
        stop = tt;
        good = good-nodes t e;
        few = λ q. few (nodes_of t) (good-nodes t e) (omega (arith, q));
        named = q;
        small = named.0;
        below = named.2;
      }

digit-bytes : (ds : List ℕ) → name_bytes Digits ds ≡ digit_bytes ds
digit-bytes [] = refl
digit-bytes (d ∷ ds) = ap (λ (x : List ℕ). (48 + d) ∷ x) (digit-bytes ds)

pub name-bytes : (c : Cell) → name_of c ≡ cell_bytes c
unfolding name_of
name-bytes c = ap (λ (x : List ℕ). (78 + c.face) ∷ x) (sym (digit-bytes (cell_digits c)))

pub bytes-length : (c : Cell) → length (cell_bytes c) ≡ c.resolution + 1
bytes-length c = sym (ap length (name-bytes c)) ∙ length-name c
