-- What the writing pass leaves in the text. Assumes nothing.
use Rattle.std.specs.Prelude.{◌≡◌, List, [], ◌∷◌, ◌++◌, ℕ, ◌+◌, ◌-◌, ◌*◌, ◌≤◌, length}
use Rattle.std.proofs.lemmas.List.Edits.{sets}
use Rattle.reading.specs.declared.Level.{Level}
use Rattle.reading.specs.Reading.{end, first, render}
use Rattle.reading.specs.Prefix.{Name, Ahead}
use Rattle.writing.specs.declared.WrittenTo.{WrittenTo}
use Rattle.reading.specs.Written.{node_of, side, under}
use Rattle.writing.specs.Internal.Take.{rests_of, Each, Standing, Took}
use Rattle.writing.specs.Internal.Measure.{names_from, NodeAt, ListAt}

-- these bytes were written from the place on
pub record Wrote (place : ℕ) (bytes text later : List ℕ) (ends : ℕ) : Type 0 where
  pub holds : later ≡ sets text place bytes
  pub ended : ends ≡ place + length bytes

pub record NodeWrote (codes : List ℕ) (at : ℕ) (w : Name) (k place : ℕ) (l : Level) (c : ℕ) (text later : List ℕ) (r : WrittenTo) : Type 0 where
  pub took : Took w (names_from codes at) (names_from codes r.next)
  pub past : Each (Ahead w) (names_from codes r.next)
  pub wrote : Wrote place (render l (node_of (under k) c (rests_of w (names_from codes at)) end)) text later r.place

pub record ListWrote (codes : List ℕ) (at : ℕ) (w : Name) (k place : ℕ) (l : Level) (c left : ℕ) (text later : List ℕ) (r : WrittenTo) : Type 0 where
  pub took : Took w (names_from codes at) (names_from codes r.next)
  pub past : Standing (w ++ ((left + c) ∷ [])) (names_from codes r.next)
  pub wrote : Wrote place (render l (side (under k) left c (rests_of w (names_from codes at)))) text later r.place

-- ---- what is promised

pub record NodePut (codes : List ℕ) (at start size place byte : ℕ) (text later : List ℕ) (r : WrittenTo) : Type 0 where
  pub is : (l : Level) (w : Name) (c k : ℕ) → byte ≡ first l + c → NodeAt codes at w start size k → NodeWrote codes at w k place l c text later r
  pub inside : r.next ≤ length codes
  pub short : r.place ≤ place + (2 * size - 1)

pub record ListPut (codes : List ℕ) (at left start size place byte : ℕ) (text later : List ℕ) (r : WrittenTo) : Type 0 where
  pub is : (l : Level) (w : Name) (c k : ℕ) → byte ≡ first l + c → ListAt codes at w c left start size k → ListWrote codes at w k place l c left text later r
  pub inside : r.next ≤ length codes
  pub short : r.place ≤ place + left * (2 * size - 1)

-- ---- the bytes of heading that both versions have

abbrev pub front : (version n s : ℕ) → List ℕ
front version n s = 67 ∷ 86 ∷ 82 ∷ 0 ∷ version ∷ (48 + n) ∷ (48 + s) ∷ []
