-- What `coverage write` reads: "names, one a line". Assumes nothing.
use Rattle.std.specs.Prelude.{◌≡◌, List, [], ◌∷◌, ◌++◌, ℕ, zero, suc, ◌≤◌, leb, length, take, Err, Ok, Result}
use Rattle.logic.specs.Refusal.{refuse, ◌otherwise◌}
use Rattle.cell.specs.declared.Arrangement.{Arrangement}
use Rattle.decimal.specs.Decimal.{trimmed}
use Rattle.name.specs.Name.{name_refusal, name_code}
use Rattle.lines.specs.Fold.{OfBytes}
use Rattle.gathering.specs.Gather.{gathered}
use Rattle.coverage.specs.declared.NamesRead.{NamesRead}
use Rattle.coverage.specs.declared.NamesRead.TheVariants as read_as

-- the codes of the names so far, and what is held of them; or the first line that stopped the reading, by its number, with its refusal
pub data Names : Type 0 where
  read : (codes held : List ℕ) → Names
  stopped : (line refusal : ℕ) → Names

-- a line's own refusal (2, 1, 3), otherwise 13 where there is no room for another code
abbrev pub line_refusal : (room : ℕ) (held line : List ℕ) → ℕ
line_refusal room held line = name_refusal (trimmed line) otherwise refuse (leb room (length held)) 13

abbrev pub named_or : Arrangement → (refusal : ℕ) (codes held : List ℕ) (code : ℕ) → Names
named_or a zero codes held code = read (codes ++ (code ∷ [])) (gathered a code held)
named_or a (suc r) codes held code = stopped (suc (length codes)) (suc r)

-- after one more line, in an arrangement
abbrev pub with_name : Arrangement → (room : ℕ) → Names → (line : List ℕ) → Names
with_name a room (read codes held) line = named_or a (line_refusal room held line) codes held (name_code a (trimmed line))
with_name a room (stopped n r) line = stopped n r

-- one line: its code is gathered with the others, or this is its refusal
abbrev pub NameTaken : Arrangement → (line codes : List ℕ) (count : ℕ) (later : List ℕ) → Result ℕ ℕ → Type 0
NameTaken a line codes count later (Ok n) =
    (line_refusal (length codes) (take count codes) line ≡ 0) × (take n later ≡ gathered a (name_code a (trimmed line)) (take count codes)) × (n ≤ length later)
NameTaken a line codes count later (Err r) = (line_refusal (length codes) (take count codes) line ≡ r) × (r ≡ 0 → ⊥)

-- what the lines of some bytes come to: what is held of all names, in their order, or the refusal of the first line that stops
abbrev pub AllTaken : Arrangement → (room : ℕ) (codes : List ℕ) → NamesRead → Type 0
AllTaken a room codes (read_as.Count n) = (all : List ℕ) × OfBytes (with_name a room) (read [] []) (read all (take n codes)) × (n ≤ length codes)
AllTaken a room codes (read_as.Stopped r) = (line : ℕ) × OfBytes (with_name a room) (read [] []) (stopped line r)
AllTaken a room codes read_as.Failed = Unit {0}
