-- Names of cells, "one a line". Assumes nothing.
use Rattle.std.specs.Prelude.{◌≡◌, ◌⊎◌, List, [], ◌∷◌, ◌++◌, ℕ, ◌+◌, ◌≤◌, ◌<◌, length, take}
use Rattle.logic.specs.Refusal.{given}
use Rattle.code.specs.Code.{cell_of, code_refusal}
use Rattle.name.specs.Name.{name_of}
use Rattle.report.specs.declared.Names.{Names}
use Rattle.report.specs.Put.{Put}

-- the name of a code's cell; a code that is no cell's has none
unfoldable pub name_bytes : ℕ → List ℕ
name_bytes code = given (code_refusal code) (name_of (cell_of code)) []

abbrev pub name_line : ℕ → List ℕ
name_line code = name_bytes code ++ (10 ∷ [])

abbrev pub names_of : List ℕ → List ℕ
names_of [] = []
names_of (code ∷ codes) = name_line code ++ names_of codes

-- "names, one a line, an empty line after each listing" (02, W-205)
abbrev pub listing_lines : List ℕ → List ℕ
listing_lines codes = names_of codes ++ (10 ∷ [])

-- the names of the first codes are put, and more only where no further one may have room: a line has at most 17 bytes
pub record NamesPut (codes out later : List ℕ) (r : Names) : Type 0 where
  pub count : r.count ≤ length codes
  pub put : Put 0 (names_of (take r.count codes)) out later r.end
  pub within : r.end ≤ length out
  pub most : (r.count ≡ length codes) ⊎ (length out < r.end + 17)
