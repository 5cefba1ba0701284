-- What `record` has of a flight, as the fold over its lines has it. Assumes nothing.
use Rattle.std.specs.Prelude.{◌≡◌, ◌⊎◌, Bool, true, false, cond, List, ℕ, ◌+◌, ◌%◌, ◌≤◌, eqb, ltb, length, take, get_or, set, Err, Ok, Result}
use Rattle.flight.specs.declared.Recording.{Recording}
use Rattle.flight.specs.Recording.{Flown}
use Rattle.record.specs.declared.Flight.{Flight}
use Rattle.record.specs.declared.File.{File}
use Rattle.record.specs.declared.File.TheVariants as file-as

-- the text in front of the bytes, and the counts
abbrev pub flown_of : (bytes : List ℕ) → Flight → Flown
flown_of bytes f = record { text = take f.recording.length bytes; fixes = f.fixes; full = f.full; bad = f.bad }

-- how many lines that makes
abbrev pub line_count : Flight → ℕ
line_count f = f.fixes + f.full + f.bad

-- whether the text has changed since it was kept, with this recording: one cell more changes it exactly where it changes its length
abbrev pub changed_by : Flight → Recording → Bool
changed_by f m = cond (eqb m.length f.recording.length) f.changed true

-- one fix more, or one refused line more
abbrev pub fix_added : Flight → Recording → Flight → Type 0
fix_added f m r = (r.recording ≡ m) × (r.fixes ≡ f.fixes + 1) × (r.full ≡ f.full) × (r.bad ≡ f.bad) × (r.changed ≡ changed_by f m)

abbrev pub refused_added : Flight → ℕ → Flight → Type 0
refused_added f q r =
    (r.recording ≡ f.recording) × (r.fixes ≡ f.fixes) × (r.full ≡ cond (eqb q 13) (f.full + 1) f.full) × (r.bad ≡ cond (eqb q 13) f.bad (f.bad + 1))
    × (r.changed ≡ f.changed)

-- no change goes unnoted: where none is noted then, none was noted before, and the text is what it was
abbrev pub Noted : (bytes : List ℕ) → Flight → (later : List ℕ) → Flight → Type 0
Noted bytes f later r = r.changed ≡ false → (f.changed ≡ false) × ((flown_of later r).text ≡ (flown_of bytes f).text)

-- the same flight, its text kept
abbrev pub kept : Flight → Flight
kept f = record { recording = f.recording; fixes = f.fixes; full = f.full; bad = f.bad; changed = false }

-- behind this line the text may be kept: at the end of a minute's worth of lines, where it has changed
abbrev pub Checkpointed : (number : ℕ) (f r : Flight) → Type 0
Checkpointed number f r = (r ≡ f) ⊎ ((number % 1200 ≡ 0) × (f.changed ≡ true) × (r ≡ kept f))

-- refused lines that wait: how many numbers stand behind the first, and those are each line's own and its refusal. One line more, if there is room for it
unfoldable pub waits_with : (number refusal : ℕ) (waits : List ℕ) → List ℕ
waits_with number refusal waits =
    let taken : ℕ = get_or waits 0 0 in
    cond (ltb (taken + 2) (length waits)) (set (set (set waits (taken + 1) number) (taken + 2) refusal) 0 (taken + 2)) waits

-- what waits after a line: one that is refused waits with its own number and refusal, a fix leaves all as it was
abbrev pub waits_after : (number : ℕ) → Result Recording ℕ → (waits : List ℕ) → List ℕ
waits_after number (Ok m) waits = waits
waits_after number (Err r) waits = waits_with number r waits

-- the path stands in front of its room
abbrev pub FileFits : (path : List ℕ) → File → Type 0
FileFits path (file-as.Path n) = n ≤ length path
FileFits path file-as.None = Unit {0}
FileFits path file-as.Wrong = Unit {0}
