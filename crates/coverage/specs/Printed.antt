-- What `coverage ask`, `coverage list` and `coverage write` print. Assumes nothing.
use Rattle.reading.specs.declared.Refused.{Refused}
use Rattle.std.specs.Prelude.{◌≡◌, List, [], ℕ, zero, suc, ◌≤◌, length, take, None, Option, Result, Some}
use Rattle.asking.specs.declared.Asked.{Asked}
use Rattle.logic.specs.Refusal.{◌otherwise◌}
use Rattle.name.specs.Name.{name_refusal, name_code}
use Rattle.reading.specs.TextReading.{text_arrangement}
use Rattle.reader.specs.Check.{text_refusal}
use Rattle.asking.specs.Ask.{asked}
use Rattle.writing.specs.Write.{asks_for, text_of, write_refusal}
use Rattle.lines.specs.Fold.{OfBytes}
use Rattle.listing.specs.List.{codes_of}
use Rattle.console.specs.Names.{NamesIn}
use Rattle.report.specs.Lines.{number_line}
use Rattle.coverage.specs.declared.Form.{Form}
use Rattle.coverage.specs.declared.Text.{Text}
use Rattle.coverage.specs.declared.Text.TheVariants as text-as
use Rattle.coverage.specs.declared.NamesRead.{NamesRead}
use Rattle.coverage.specs.declared.NamesRead.TheVariants as read_as
use Rattle.coverage.specs.Names.{read, with_name}

-- the name's refusal, otherwise the text's, otherwise whether the text covers the cell of that name, in the text's own arrangement
unfoldable pub asked_name : (t name : List ℕ) → Result Asked Refused
unfolding asked
asked_name t name = asked (name_refusal name otherwise text_refusal t) t (name_code (text_arrangement t) name)

-- what waits to be printed: nothing, where printing failed
abbrev pub waits : Option ℕ → ℕ
waits (Some end) = end
waits None = 0

-- `coverage list`: the names of the text's codes, up to where printing failed; or the refusal number on a line
abbrev pub ListWritten : (refusal : ℕ) (t out : List ℕ) (waiting : ℕ) → Type 0
ListWritten zero t out waiting = (room : Option ℕ) × NamesIn (codes_of t) out room × (waiting ≡ waits room)
ListWritten (suc r) t out waiting = take waiting out ≡ number_line (suc r)

-- the text of the codes, as it is asked for; or writing is refused
abbrev pub TextWritten : Form → (codes : List ℕ) (room : ℕ) (text : List ℕ) → Text → Type 0
TextWritten f codes room text (text-as.Length n) = (take n text ≡ text_of (asks_for f.version f.depth) f.arrangement codes) × (n ≤ length text)
TextWritten f codes room text (text-as.Refused r) = (write_refusal f.version f.depth f.arrangement codes room ≡ r) × (r ≡ 0 → ⊥)
TextWritten f codes room text text-as.None = ⊥

-- `coverage write`: where names were read, the text of all names on the lines of some bytes, of which the first n of the lent codes are held, in the arrangement
-- that they were read in; or their list is refused. Where a line stopped the reading, or the input failed, there is no text
abbrev pub NamesText : Form → (codes : List ℕ) → NamesRead → (room : ℕ) (text : List ℕ) → Text → Type 0
NamesText f codes (read_as.Count n) room text r =
    (all : List ℕ) × OfBytes (with_name f.arrangement (length codes)) (read [] []) (read all (take n codes)) × TextWritten f all room text r
NamesText f codes (read_as.Stopped q) room text r = r ≡ text-as.None
NamesText f codes read_as.Failed room text r = r ≡ text-as.None
