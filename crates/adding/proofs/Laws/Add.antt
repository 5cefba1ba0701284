-- The text with a cell is accepted, keeps its heading, and its ground is the old one and the cell's; cells added one by one give the text of all of
-- them, in whatever order they come. 15 is given exactly where no accepted text of that heading has that ground. What the lent bytes are then. Assumes
-- nothing.
use Rattle.std.specs.Prelude.{◌≡◌, ◌↔◌, ◌⊎◌, true, false, not, List, ◌∷◌, ltb, length, drop}
use Rattle.std.proofs.Math.Path.{refl, sym, ap, ap₂}
use Rattle.std.proofs.Common.{◌∙◌, subst, inl, inr, arith, le-ltb, ltb-false}
use Rattle.std.proofs.Math.Logic.{⊎_elim}
use Prim.Native.Nat.{ℕ, zero, suc, ◌+◌, ◌≤◌}
use Rattle.std.proofs.Math.Seq.{drop-append_seam}
use Rattle.std.proofs.lemmas.Bool.{not-true}
use Rattle.logic.specs.Refusal.{given}
use Rattle.cell.specs.declared.Cell.{Cell}
use Rattle.cell.specs.Cell.{IsCell}
use Rattle.code.specs.Code.{cell_of}
use Rattle.reading.specs.declared.Profile.{Profile}
use Rattle.reading.specs.declared.Profile.TheVariants.{Full}
use Rattle.reading.specs.Reading.{room}
use Rattle.reading.specs.Ground.{whole_cells, Covers, SameGround, Cells}
use Rattle.reading.specs.Fewest.{FewestOf}
use Rattle.reading.specs.Text.{IsProfile, level_of, depth_of, ReadsAs}
use Rattle.reading.specs.TextReading.{nodes_of, profile_of, north_of, south_of, is_text}
use Rattle.reading.specs.Written.{nodes_for, written_text, fitting, keeps, Allows}
use Rattle.reading.proofs.Laws.Demand.{whole_cells_lem}
use Rattle.reading.proofs.Laws.TextReading.{reads-own, reads-body, read-text, read-nodes, read-profile, read-north, read-south}
use Rattle.reading.proofs.Laws.Written.{written-reads, written-ground, listed-written, one-nodes, one-text, TextOf, keeps-exactly}
use Rattle.reading.proofs.Laws.FewestOf.{text-fewest}
use Rattle.reading.proofs.Laws.Allowed.{allows-room}
use Rattle.reader.specs.Check.{place_with}
use Rattle.asking.specs.Ask.{AllCovered}
use Rattle.adding.specs.declared.Edit.{Edit}
use Rattle.adding.specs.declared.Edit.TheVariants as edit-as
use Rattle.adding.specs.Internal.Edit.{edited}
use Rattle.adding.specs.Internal.EditLaws.{edited-length, edited-same}
use Rattle.adding.specs.Internal.Fit.{breaks}
use Rattle.adding.proofs.Internal.WithLaws.{cell_bytes, text_edit, edited-with, edit-fits, keeps-edit, bytes-length}
use Rattle.adding.specs.Add.{cells_with, text_with, keeps_with, added, placed, place_in, length_in}

module _ (t : List ℕ) (e : is_text t ≡ true) (c : Cell) (v : IsCell c) where
  pub with-cells : Cells (cells_with t c)
  with-cells = (v, (whole_cells_lem tt (omega arith) (reads-body t e)).0)

  -- 15 exactly where no accepted text with this heading has the ground
  pub keeps-with : (keeps_with t c ≡ true) ↔ TextOf (profile_of t) (north_of t) (south_of t) (cells_with t c)
  unfolding keeps_with
  keeps-with =
      let r = reads-own t e in
      keeps-exactly (profile_of t) (north_of t) (south_of t) (cells_with t c) r.profiled r.north r.south with-cells

  module _ (k : keeps_with t c ≡ true) where
    -- it is accepted, with the same heading
    pub with-reads : ReadsAs (profile_of t) (north_of t) (south_of t) (text_with t c) (nodes_for (cells_with t c))
    unfolding text_with keeps_with
    with-reads =
        let r = reads-own t e in
        written-reads (cells_with t c) with-cells (profile_of t) (north_of t) (south_of t) r.profiled k r.north r.south

    pub with-text : is_text (text_with t c) ≡ true
    with-text = read-text with-reads

    pub with-heading :
        (profile_of (text_with t c) ≡ profile_of t) × (north_of (text_with t c) ≡ north_of t) × (south_of (text_with t c) ≡ south_of t)
    with-heading = (read-profile with-reads, read-north with-reads, read-south with-reads)

    -- its ground: the finest cells inside the cell, and those of the text
    pub with-ground : SameGround (cells_with t c) (whole_cells (nodes_of (text_with t c)))
    with-ground = rw (read-nodes with-reads) (written-ground (cells_with t c) with-cells)

    -- of which its whole cells are the fewest
    pub with-fewest : FewestOf (Covers (cells_with t c)) (whole_cells (nodes_of (text_with t c)))
    unfolding text_with keeps_with
    with-fewest =
        let r = reads-own t e in
        text-fewest (cells_with t c) with-cells (profile_of t) (north_of t) (south_of t) r.profiled k r.north r.south

  -- a cell that is covered changes nothing
  module _ (h : AllCovered (whole_cells (nodes_of t)) c) where
    covered-ground : SameGround (cells_with t c) (whole_cells (nodes_of t))
    covered-ground x f = (⊎_elim (h x f) (λ i. i), inr)

    pub covered_same : text_with t c ≡ t
    unfolding text_with
    covered_same =
        one-text (profile_of t) (north_of t) (south_of t) (cells_with t c) (whole_cells (nodes_of t)) with-cells with-cells.1 covered-ground
        ∙ listed-written (reads-own t e)

    pub covered-keeps : keeps_with t c ≡ true
    covered-keeps = keeps-with.1 (record { text = t; nodes = nodes_of t; reads = reads-own t e; ground = covered-ground })

  -- "N and S may appear only whole, and nothing lies deeper": a cell that is not allowed breaks the profile, unless it is covered
  pub keeps-allowed : (keeps_with t c ≡ true) ↔ (Allows (profile_of t) c ⊎ AllCovered (whole_cells (nodes_of t)) c)
  unfolding edited
  keeps-allowed = (to, ⊎_elim roomy covered-keeps)
    where
      p : Profile
      p = profile_of t

      kept : keeps_with t c ≡ not (breaks p c.face c.resolution (text_edit t e c v))
      kept = keeps-edit t e c v

      -- nothing is to be changed: the cell is covered
      covered : keeps_with t c ≡ true → text_edit t e c v ≡ edit-as.Covered → AllCovered (whole_cells (nodes_of t)) c
      covered k q y f i =
          let same : text_with t c ≡ t = sym (edited-with t e c v) ∙ ap (edited (cell_bytes c) t) q in
          subst (λ (u : List ℕ). Covers (whole_cells (nodes_of u)) y) same ((with-ground k y f).0 (inl i))

      within : ltb (room (level_of p) c.face (depth_of p)) c.resolution ≡ false → Allows p c
      within h = (allows-room p c v).1 (ltb-false (room (level_of p) c.face (depth_of p)) c.resolution h)

      by-edit : (x : Edit) → keeps_with t c ≡ true → breaks p c.face c.resolution x ≡ false → (x ≡ edit-as.Covered → AllCovered (whole_cells (nodes_of t)) c) →
          Allows p c ⊎ AllCovered (whole_cells (nodes_of t)) c
      by-edit edit-as.Covered k h g = inr (g refl)
      by-edit (edit-as.Put i j) k h g = inl (within h)
      by-edit (edit-as.Cut i j) k h g = inl (within h)
      by-edit (edit-as.Full i) k h g = inl (within h)

      to : keeps_with t c ≡ true → Allows p c ⊎ AllCovered (whole_cells (nodes_of t)) c
      to k = by-edit (text_edit t e c v) k (not-true _ (sym kept ∙ k)) (covered k)

      unbroken : (x : Edit) → c.resolution ≤ room (level_of p) c.face (depth_of p) → breaks p c.face c.resolution x ≡ false
      unbroken edit-as.Covered h = refl
      unbroken (edit-as.Put i j) h = le-ltb (room (level_of p) c.face (depth_of p)) c.resolution h
      unbroken (edit-as.Cut i j) h = le-ltb (room (level_of p) c.face (depth_of p)) c.resolution h
      unbroken (edit-as.Full i) h = le-ltb (room (level_of p) c.face (depth_of p)) c.resolution h

      roomy : Allows p c → keeps_with t c ≡ true
      roomy a = kept ∙ ap not (unbroken (text_edit t e c v) ((allows-room p c v).0 a))

  -- the text grows by at most 46 bytes: a name of 16 bytes, each but the first in a list of its own
  pub with-length : length (text_with t c) ≤ length t + 46
  with-length =
      let n : length (cell_bytes c) ≡ c.resolution + 1 = bytes-length c in
      omega (
        arith,
        ap length (edited-with t e c v),
        edited-length (cell_bytes c) t (text_edit t e c v) (edit-fits t e c v) (omega (arith, v.fine)),
      )

  -- a text that keeps its length is the same text
  pub length-same : length (text_with t c) ≡ length t → text_with t c ≡ t
  length-same h =
      sym (edited-with t e c v)
      ∙ edited-same (cell_bytes c) t (text_edit t e c v) (edit-fits t e c v) (ap length (edited-with t e c v) ∙ h)

-- a cell that was added is covered, so adding it again changes nothing
pub with-again : (t : List ℕ) → is_text t ≡ true → (c : Cell) → IsCell c → keeps_with t c ≡ true → text_with (text_with t c) c ≡ text_with t c
with-again t e c v k = covered_same (text_with t c) (with-text t e c v k) c v (λ y f i. (with-ground t e c v k y f).0 (inl i))

-- ---- cells added one by one

module _ (p : Profile) (n s : ℕ) (q : IsProfile p) (a : n ≤ 3) (b : s ≤ 3) (cells : List Cell) (w : Cells cells) (k : keeps p cells ≡ true) where
  -- the text of some cells, with one more, is the text of all of them
  abbrev text : List ℕ
  text = written_text p n s cells

  reads : ReadsAs p n s text (nodes_for cells)
  reads = written-reads cells w p n s q k a b

  module _ (c : Cell) (v : IsCell c) where
    listed : Cells (whole_cells (nodes_of text))
    listed = (with-cells text (read-text reads) c v).1

    with_all : SameGround (cells_with text c) (c ∷ cells)
    with_all x f =
        let g : SameGround cells (whole_cells (nodes_of text)) = rw (read-nodes reads) (written-ground cells w) in
        (⊎_elim (λ i. inl i) (λ i. inr ((g x f).1 i)), ⊎_elim (λ i. inl i) (λ i. inr ((g x f).0 i)))

    pub with-written : text_with text c ≡ written_text p n s (c ∷ cells)
    unfolding text_with
    with-written =
        one-text (profile_of text) (north_of text) (south_of text) (cells_with text c) (c ∷ cells) (v, listed) (v, w) with_all
        ∙ ap₂ (λ (x : Profile) (y : ℕ). written_text x y (south_of text) (c ∷ cells)) (read-profile reads) (read-north reads)
        ∙ ap (λ (z : ℕ). written_text p n z (c ∷ cells)) (read-south reads)

    pub keeps-written : keeps_with text c ≡ keeps p (c ∷ cells)
    unfolding keeps_with
    keeps-written =
        ap (λ (x : Profile). keeps x (cells_with text c)) (read-profile reads)
        ∙ ap (fitting (level_of p) (depth_of p)) (one-nodes (cells_with text c) (c ∷ cells) (v, listed) (v, w) with_all)

-- ---- in whatever order they come

module _ (t : List ℕ) (e : is_text t ≡ true) (c d : Cell) (v : IsCell c) (w : IsCell d) (k : keeps_with t c ≡ true) (j : keeps_with t d ≡ true) where
  -- the cells of both, in two orders
  turned : SameGround (d ∷ cells_with t c) (c ∷ cells_with t d)
  turned x f = (
    ⊎_elim (λ i. inr (inl i)) (⊎_elim (λ i. inl i) (λ i. inr (inr i))),
    ⊎_elim (λ i. inr (inl i)) (⊎_elim (λ i. inl i) (λ i. inr (inr i))),
  )

  pub with-order : text_with (text_with t c) d ≡ text_with (text_with t d) c
  unfolding text_with keeps_with
  with-order =
      let r = reads-own t e in
      with-written (profile_of t) (north_of t) (south_of t) r.profiled r.north r.south (cells_with t c) (with-cells t e c v) k d w
      ∙ one-text (profile_of t) (north_of t) (south_of t) (d ∷ cells_with t c) (c ∷ cells_with t d) (w, with-cells t e c v) (v, with-cells t e d w) turned
      ∙ sym (with-written (profile_of t) (north_of t) (south_of t) r.profiled r.north r.south (cells_with t d) (with-cells t e d w) j c v)

-- in version 1 nothing is outside the profile
pub full-keeps : (t : List ℕ) → is_text t ≡ true → (c : Cell) → IsCell c → profile_of t ≡ Full → keeps_with t c ≡ true
full-keeps t e c v f = (keeps-allowed t e c v).1 (inl (rw f tt))

-- ---- what the lent bytes are then: "A refusal changes no lent byte; an answer changes only its own length"

module _ (t : List ℕ) (code : ℕ) (bytes : List ℕ) where
  abbrev lent : ℕ → List ℕ
  lent r = placed r (text_with t (cell_of code)) bytes

  -- behind the answer they are what they were
  pub placed-rest : (r : ℕ) → drop (length_in (added r t code)) (lent r) ≡ drop (length_in (added r t code)) bytes
  unfolding added placed given
  placed-rest zero = drop-append_seam (text_with t (cell_of code)) (drop (length (text_with t (cell_of code))) bytes)
  placed-rest (suc r) = refl

  -- beside a refusal no length is answered, and all of them are what they were
  pub placed-none : (r : ℕ) → (r ≡ 0 → ⊥) → (length_in (added r t code) ≡ 0) × (lent r ≡ bytes)
  unfolding added placed given
  placed-none zero h = absurd (h refl)
  placed-none (suc r) h = (refl, refl)

  -- the place stands beside 9 alone
  pub placed-place : (r : ℕ) → place_in (added r t code) ≡ place_with r t
  unfolding added
  placed-place zero = refl
  placed-place (suc r) = refl
