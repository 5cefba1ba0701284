-- The lines of standard input. Which bytes the system gives no statement can say: they are the ones that there are. Assumes nothing.
use Rattle.std.specs.Prelude.{◌≡◌, List, [], ◌∷◌, ◌++◌, ℕ, zero, suc, ◌≤◌, ◌<◌, length, take, drop, None, Option, Some}
use Rattle.lines.specs.Lines.{Unended}
use Rattle.console.specs.declared.LineRead.{LineRead}
use Rattle.console.specs.declared.LineRead.TheVariants.{Line, Last, End, Failed}

-- so many bytes stand in front
abbrev pub Fits : List ℕ → Option ℕ → Type 0
Fits bytes (Some n) = n ≤ length bytes
Fits bytes None = Unit {0}

-- the bytes read and not yet handed on
abbrev pub unread : (bytes : List ℕ) (from end : ℕ) → List ℕ
unread bytes from end = drop from (take end bytes)

-- the last line has no end; where nothing is left there is none
abbrev pub last_line : ℕ → LineRead
last_line zero = End
last_line (suc n) = Last (suc n)

-- The bytes that were left and those that the system gave meanwhile are the line, a line feed and what is left now; or they are the last line; or
-- there were none. The line stands in front of its room, as much of it as there is room for.
abbrev pub Given : (left bytes room : List ℕ) → LineRead → Type 0
Given left bytes room (Line n from end) =
    (more : List ℕ) × (x : List ℕ) × Unended x × (left ++ more ≡ x ++ (10 ∷ unread bytes from end)) × (take n room ≡ take (length room) x) × (n ≤ length room)
    × (from ≤ end) × (end ≤ length bytes)
Given left bytes room (Last n) =
    (more : List ℕ) × Unended (left ++ more) × (0 < length (left ++ more)) × (take n room ≡ take (length room) (left ++ more)) × (n ≤ length room)
Given left bytes room End = left ≡ []
Given left bytes room Failed = Unit {0}
