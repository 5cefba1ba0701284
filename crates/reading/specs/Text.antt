-- The coverage text (01 "The coverage text"; 02, W-208): its two versions, its heading, and what is accepted. Assumes nothing.
use Rattle.std.specs.Prelude.{◌≡◌, List, [], ◌∷◌, ◌++◌, ℕ, ◌+◌, ◌≤◌, length}
use Rattle.reading.specs.declared.Level.{Level}
use Rattle.reading.specs.declared.Level.TheVariants.{Faces, Belt}
use Rattle.reading.specs.declared.Profile.{Profile}
use Rattle.reading.specs.declared.Profile.TheVariants.{Full, Handheld}
use Rattle.reading.specs.Reading.{Nodes, render, Good}

-- ---- a profile: "version 1 being depth 15 with caps allowed"; version 2 has "the greatest depth 0 to 15"

abbrev pub IsProfile : Profile → Type 0
IsProfile Full = Unit {0}
IsProfile (Handheld d) = d ≤ 15

abbrev pub version_of : Profile → ℕ
version_of Full = 1
version_of (Handheld d) = 2

-- in version 2 "N and S may appear only whole"
abbrev pub level_of : Profile → Level
level_of Full = Faces
level_of (Handheld d) = Belt

-- "nothing lies deeper than that depth"
abbrev pub depth_of : Profile → ℕ
depth_of Full = 15
depth_of (Handheld d) = d

-- "Seven bytes of heading: the mark `CVR`, the 16-bit version 1 (bytes 00 01), n and s as ASCII digits." "Version 2 has one more heading byte after
-- s, a letter a to p for the greatest depth 0 to 15."
abbrev pub heading : Profile → (n s : ℕ) → List ℕ
heading Full n s = 67 ∷ 86 ∷ 82 ∷ 0 ∷ 1 ∷ (48 + n) ∷ (48 + s) ∷ []
heading (Handheld d) n s = 67 ∷ 86 ∷ 82 ∷ 0 ∷ 2 ∷ (48 + n) ∷ (48 + s) ∷ (97 + d) ∷ []

abbrev pub heading_length : Profile → ℕ
heading_length Full = 7
heading_length (Handheld d) = 8

-- ---- A reading of a text: this heading, and these nodes, of at most d digits' depth

pub record Reads (h : List ℕ) (l : Level) (d : ℕ) (t : List ℕ) (ns : Nodes) : Type 0 where
  pub good : Good l d 0 ns
  pub all : t ≡ h ++ render l ns

-- bytes that are a body: a text without its heading
abbrev pub Body : Level → ℕ → List ℕ → Type 0
Body l d b = (ns : Nodes) × Reads [] l d b ns

-- a reading of either version
pub record ReadsAs (p : Profile) (n s : ℕ) (t : List ℕ) (ns : Nodes) : Type 0 where
  pub profiled : IsProfile p
  pub north : n ≤ 3
  pub south : s ≤ 3
  pub body : Reads (heading p n s) (level_of p) (depth_of p) t ns

-- the text is accepted: it has a reading
abbrev pub Accepted : List ℕ → Type 0
Accepted t = (p : Profile) × (n : ℕ) × (s : ℕ) × (ns : Nodes) × ReadsAs p n s t ns
