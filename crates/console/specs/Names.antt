-- Names of cells, "one a line", printed in parts. Assumes nothing.
use Rattle.std.specs.Prelude.{◌≡◌, List, ℕ, ◌*◌, ◌≤◌, ◌<◌, length, take, drop, None, Option, Some}
use Rattle.report.specs.Names.{names_of}

-- Names are put part by part into a room, and each part is printed before the next is put. Of what was printed no statement can speak; so this one
-- speaks of what waits: the last part, whole lines up to the last name, all of them where the room has 17 bytes for each
pub record NamesWritten (codes out : List ℕ) (waiting : ℕ) : Type 0 where
  pub from : ℕ
  pub names : take waiting out ≡ names_of (drop from codes)
  pub some : 0 < length codes → from < length codes
  pub all : 17 * length codes ≤ length out → from ≡ 0
  pub fits : waiting ≤ length out

-- only printing fails, and what has room is not printed here
abbrev pub NamesIn : (codes out : List ℕ) → Option ℕ → Type 0
NamesIn codes out (Some waiting) = NamesWritten codes out waiting
NamesIn codes out None = length out < 17 * length codes
