-- What lines come to, taken one after the other. Assumes nothing.
use Rattle.std.specs.Prelude.{◌≡◌, List, [], ◌∷◌, ℕ}
use Rattle.lines.specs.Lines.{ended, begun, lines_of}

-- a state, and what each line makes of it
abbrev pub after : {S : Type 0} (step : S → List ℕ → S) → S → List (List ℕ) → S
after step s [] = s
after step s (line ∷ lines) = after step (step s line) lines

-- this state is what the lines of some bytes come to: those that were read, of which no statement can speak
abbrev pub OfBytes : {S : Type 0} (step : S → List ℕ → S) (first s : S) → Type 0
OfBytes step first s = (bytes : List ℕ) × (s ≡ after step first (lines_of bytes))

-- the same of bytes whose last line ended
abbrev pub OfEnded : {S : Type 0} (step : S → List ℕ → S) (first s : S) → Type 0
OfEnded step first s = (bytes : List ℕ) × (begun [] bytes ≡ []) × (s ≡ after step first (ended [] bytes))
