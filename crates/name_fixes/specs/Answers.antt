-- What `name_fixes` writes: the answers to the lines, in their order. Assumes nothing.
use Rattle.std.specs.Prelude.{◌≡◌, List, [], ◌++◌, ℕ, ◌≤◌, length, take, None, Option, Some}
use Rattle.lines.specs.Fold.{OfBytes}
use Rattle.flight.specs.declared.Setting.{Setting}
use Rattle.report.specs.Answer.{answer_line}
use Rattle.console.specs.Room.{start_for}

-- all that is written, after one more line
abbrev pub with_answer : Setting → (written line : List ℕ) → List ℕ
with_answer s written line = written ++ answer_line s line

-- one line: what waits then is its answer behind what waited, unless all of that was printed to make room
abbrev pub Answered : Setting → (line : List ℕ) (waiting : ℕ) (out later : List ℕ) → Option ℕ → Type 0
Answered s line waiting out later (Some n) = (take n later ≡ take (start_for (length out) waiting 21) out ++ answer_line s line) × (n ≤ length later)
Answered s line waiting out later None = Unit {0}

-- this holds of what was printed and then of what waits. What was printed no statement can say
abbrev pub Written : (P : List ℕ → Type 0) (out : List ℕ) (waiting : ℕ) → Type 0
Written P out waiting = (printed : List ℕ) × P (printed ++ take waiting out)

-- the answers to all lines of some bytes
abbrev pub AllAnswered : Setting → (out : List ℕ) → Option ℕ → Type 0
AllAnswered s out (Some n) = Written (OfBytes (with_answer s) []) out n × (n ≤ length out)
AllAnswered s out None = Unit {0}

-- the last answer waits: where nothing does, there was no line, and the room is as it was lent
abbrev pub LastWaits : (out later : List ℕ) → Option ℕ → Type 0
LastWaits out later (Some n) = n ≡ 0 → later ≡ out
LastWaits out later None = Unit {0}
