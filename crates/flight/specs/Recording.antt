-- A flight recorded in a text and nothing else: what each line makes of it. Laws/Recording shows that the text is always that of the cells of the fixes
-- taken, and which lines are taken. Assumes nothing.
use Rattle.std.specs.Prelude.{◌≡◌, ◌⊎◌, Bool, true, cond, List, [], ◌∷◌, ℕ, zero, suc, ◌+◌, eqb, ltb, length, take, Err, Ok, Result}
use Rattle.cell.specs.declared.Cell.{Cell}
use Rattle.code.specs.Code.{cell_of, is_code}
use Rattle.reading.specs.declared.Profile.TheVariants as profile-as
use Rattle.reading.specs.Ground.{Cells}
use Rattle.reading.specs.Written.{written_text}
use Rattle.adding.specs.Add.{text_with, with_refusal, placed, Holding}
use Rattle.flight.specs.declared.Setting.{Setting}
use Rattle.flight.specs.declared.Recording.{Recording}
use Rattle.flight.specs.Flight.{line_code}

-- ---- one line: its cell is added where the text then has room; a refused line changes nothing

unfoldable pub fix_taken : (r n code : ℕ) → Result Recording ℕ
fix_taken zero n code = Ok (record { length = n; last = code })
fix_taken (suc r) n code = Err (suc r)

unfoldable pub taken : Result ℕ ℕ → (room : ℕ) (t : List ℕ) → Result Recording ℕ
unfolding fix_taken
taken (Ok code) room t = fix_taken (with_refusal t (cell_of code) room) (length (text_with t (cell_of code))) code
taken (Err r) room t = Err r

-- the lent bytes then
unfoldable pub taken_text : Result ℕ ℕ → (bytes t : List ℕ) → List ℕ
taken_text (Ok code) bytes t = placed (with_refusal t (cell_of code) (length bytes)) (text_with t (cell_of code)) bytes
taken_text (Err r) bytes t = bytes

-- what each case stands for
abbrev pub refusal_in : Result Recording ℕ → ℕ
refusal_in (Ok m) = 0
refusal_in (Err r) = r

-- the first bytes are an accepted text of version 1, in which the cell of the last fix is covered already
pub record Records (bytes : List ℕ) (m : Recording) : Type 0 where
  pub holds : Holding profile-as.Full bytes m.length
  pub last : is_code m.last ≡ true → text_with (take m.length bytes) (cell_of m.last) ≡ take m.length bytes

abbrev pub recording_after : Result Recording ℕ → Recording → Recording
recording_after (Ok n) m = n
recording_after (Err r) m = m

-- ---- a flight: the text, how many fixes are in it, and how many lines were refused, with 13 and with another number

pub record Flown : Type 0 where
  pub text : List ℕ
  pub fixes : ℕ
  pub full : ℕ
  pub bad : ℕ

abbrev pub with_fix : List ℕ → Flown → Flown
with_fix u f = record { text = u; fixes = suc f.fixes; full = f.full; bad = f.bad }

abbrev pub with_refused : ℕ → Flown → Flown
with_refused r f =
    record {
      text = f.text;
      fixes = f.fixes;
      full = cond (eqb r 13) (suc f.full) f.full;
      bad = cond (eqb r 13) f.bad (suc f.bad);
    }

-- the text becomes u, or the fix is refused
abbrev pub decided : (r : ℕ) (u : List ℕ) → Flown → Flown
decided zero u f = with_fix u f
decided (suc r) u f = with_refused (suc r) f

abbrev pub with_code : (room : ℕ) → Result ℕ ℕ → Flown → Flown
with_code room (Ok code) f = decided (with_refusal f.text (cell_of code) room) (text_with f.text (cell_of code)) f
with_code room (Err r) f = with_refused r f

-- after one more line
abbrev pub with_line : Setting → (room : ℕ) → Flown → (line : List ℕ) → Flown
with_line s room f line = with_code room (line_code s line) f

-- how many lines that makes
abbrev pub counted : Flown → ℕ
counted f = f.fixes + f.full + f.bad

-- how many lines are no fix, or one out of range
abbrev pub bad_in : Result ℕ ℕ → ℕ
bad_in (Ok code) = 0
bad_in (Err r) = 1

abbrev pub bad_lines : Setting → List (List ℕ) → ℕ
bad_lines s [] = 0
bad_lines s (line ∷ lines) = bad_in (line_code s line) + bad_lines s lines

-- the text of some cells, of version 1, in the setting's arrangement
abbrev pub text_for : Setting → List Cell → List ℕ
text_for s cells = written_text profile-as.Full s.arrangement.north s.arrangement.south cells

-- before the first line: the text of no cell
abbrev pub started : Setting → Flown
started s = record { text = text_for s []; fixes = 0; full = 0; bad = 0 }

-- ---- the same without texts: the cells of the fixes taken, the last one first. 13: "text longer than 65,536 bytes, .. to be written"

abbrev pub too_long : Setting → List Cell → Bool
too_long s cells = ltb 65536 (length (text_for s cells))

abbrev pub with_cell : Setting → Result ℕ ℕ → List Cell → List Cell
with_cell s (Ok code) cells = cond (too_long s (cell_of code ∷ cells)) cells (cell_of code ∷ cells)
with_cell s (Err r) cells = cells

abbrev pub cells_with : Setting → List Cell → (line : List ℕ) → List Cell
cells_with s cells line = with_cell s (line_code s line) cells

-- the flight's text is that of these cells, one for each fix taken
pub record FlownFrom (s : Setting) (f : Flown) (qs : List Cell) : Type 0 where
  pub text : f.text ≡ text_for s qs
  pub cells : Cells qs
  pub fixes : f.fixes ≡ length qs

-- some line is a fix in this cell
abbrev pub HasFix : Setting → (lines : List (List ℕ)) → Cell → Type 0
HasFix s [] x = ⊥
HasFix s (line ∷ lines) x = ((code : ℕ) × (line_code s line ≡ Ok code) × (cell_of code ≡ x)) ⊎ HasFix s lines x
