-- One line more is recorded. Assumes nothing.
use Rattle.std.specs.Prelude.{Err, Ok, Option, Result, Some}
use mathlib.Core.Path.{◌≡◌, refl, sym, ap, ap₂, ◌∙◌, subst}
use mathlib.Core.Logic.{◌⊎◌, inl, inr, ⊎_elim}
use mathlib.Core.Bool.{Bool, true, false, cond}
use mathlib.Core.List.{List, ◌++◌}
use Prim.Native.Nat.{ℕ, suc, ◌+◌, ◌≤◌, ◌<◌}
use native.Mathlib.Numerals.{add-one}
use native.Mathlib.Omega.{arith}
use lib.Dec.{eqb}
use lib.ListN.{length, take, get_or, set}
use lib.Seq.{length-take-le}
use borrow.Author.Tests.{eqb-true, le-ltb, lt-ltb}
use Rattle.logic.specs.Laws.Bools.{clash}
use Rattle.lines.specs.Fold.{OfBytes, OfEnded}
use Rattle.lines.specs.Laws.Fold.{then-line, then-last}
use Rattle.code.proofs.Laws.Code.{code-is-cell}
use Rattle.flight.specs.declared.Recording.{Recording}
use Rattle.flight.specs.declared.Setting.{Setting}
use Rattle.flight.specs.Flight.{line_code}
use Rattle.flight.specs.Setting.{setting_refusal}
use Rattle.flight.specs.Recording.{taken, taken_text, Records, Flown, with_code, with_line}
use Rattle.flight.proofs.Laws.Code.{line-is-code}
use Rattle.flight.proofs.Laws.Recording.{flown_as, taken-flown, refused-bytes, same_text}
use Rattle.flight.proofs.Laws.Cut.{cut_line}
use Rattle.console.specs.declared.LineRead.TheVariants.{Line, Last}
use Rattle.console.specs.Input.{Given}
use Rattle.console.specs.Arguments.{Usable}
use Rattle.record.specs.declared.Flight.{Flight}
use Rattle.record.specs.declared.File.{File}
use Rattle.record.specs.declared.File.TheVariants.{Path}
use Rattle.record.specs.Recorded.{flown_of, line_count, fix_added, refused_added, Noted, kept, Checkpointed, waits_with, FileFits}

-- ---- what `flight::take_line` answered

module _ (s : Setting) (line bytes later : List ℕ) (f r : Flight) where
  abbrev t : List ℕ
  t = take f.recording.length bytes

  abbrev Recorded : Type 0
  Recorded = flown_of later r ≡ with_line s (length bytes) (flown_of bytes f) line

  pub fix-recorded : (m : Recording) → Ok m ≡ taken (line_code s line) (length bytes) t → later ≡ taken_text (line_code s line) bytes t → fix_added f m r → Recorded
  fix-recorded m e g d =
      let n : r.fixes ≡ suc f.fixes = omega (arith, d.1) in
      (λ i. record { text = take (d.0 i).length later; fixes = n i; full = d.2 i; bad = d.3 i })
      ∙ ap₂ (λ (x : Result Recording ℕ) (l : List ℕ). flown_as x l (flown_of bytes f)) e g
      ∙ taken-flown (line_code s line) bytes (flown_of bytes f)

  pub refused-recorded : (q : ℕ) → Err q ≡ taken (line_code s line) (length bytes) t → later ≡ taken_text (line_code s line) bytes t → refused_added f q r → Recorded
  refused-recorded q e g d =
      let same : later ≡ bytes = g ∙ refused-bytes (line_code s line) bytes t e in
      let full : r.full ≡ cond (eqb q 13) (suc f.full) f.full = d.2 ∙ ap (λ (n : ℕ). cond (eqb q 13) n f.full) (add-one f.full) in
      let bad : r.bad ≡ cond (eqb q 13) f.bad (suc f.bad) = d.3 ∙ ap (λ (n : ℕ). cond (eqb q 13) f.bad n) (add-one f.bad) in
      (λ i. record { text = take (d.0 i).length (same i); fixes = d.1 i; full = full i; bad = bad i })
      ∙ ap₂ (λ (x : Result Recording ℕ) (l : List ℕ). flown_as x l (flown_of bytes f)) e g
      ∙ taken-flown (line_code s line) bytes (flown_of bytes f)

  -- ---- no change goes unnoted

  pub fix-noted :
      (m : Recording) → Records bytes f.recording → Ok m ≡ taken (line_code s line) (length bytes) t → later ≡ taken_text (line_code s line) bytes t → fix_added f m r →
      Noted bytes f later r
  fix-noted m h e g d z = go (eqb m.length f.recording.length) refl
    where
      go : (b : Bool) → eqb m.length f.recording.length ≡ b → (f.changed ≡ false) × (take r.recording.length later ≡ t)
      go true q = (
        sym (d.4 ∙ ap (λ (x : Bool). cond x f.changed true) q) ∙ z,
        ap₂ take (ap (λ (x : Recording). x.length) d.0) g
            ∙ same_text (line_code s line) bytes t m h.holds.text (λ code k. code-is-cell code (line-is-code s line code k)) e
            (eqb-true _ _ q ∙ sym (length-take-le _ _ h.holds.fits)),
      )
      go false q = clash (sym (d.4 ∙ ap (λ (x : Bool). cond x f.changed true) q) ∙ z)

  pub refused-noted : (q : ℕ) → Err q ≡ taken (line_code s line) (length bytes) t → later ≡ taken_text (line_code s line) bytes t → refused_added f q r → Noted bytes f later r
  refused-noted q e g d z = (sym d.4 ∙ z, ap₂ take (ap (λ (x : Recording). x.length) d.0) (g ∙ refused-bytes (line_code s line) bytes t e))

-- ---- a line of the input

module _ (s : Setting) (room : List ℕ) (big : 43 ≤ length room) (size n : ℕ) {first : Flown} (f next : Flown) (o : OfEnded (with_line s size) first f)
    (e : next ≡ with_line s size f (take n room)) where
  -- a line that was cut to its room
  cut : (x : List ℕ) → take n room ≡ take (length room) x → with_line s size f x ≡ next
  cut x g = sym (e ∙ ap (λ (c : Result ℕ ℕ). with_code size c f) (ap (line_code s) g ∙ cut_line s (length room) x big))

  -- a line that ended
  pub line-recorded : (left bytes : List ℕ) (from end : ℕ) → Given left bytes room (Line n from end) → OfEnded (with_line s size) first next
  line-recorded left bytes from end (more, x, u, g, h, i, j, l) = subst (OfEnded (with_line s size) first) (cut x h) (then-line (with_line s size) x u o)

  -- the last line, which has no end
  pub last-recorded : (left bytes : List ℕ) → Given left bytes room (Last n) → OfBytes (with_line s size) first next
  last-recorded left bytes (more, u, l, h, i) = subst (OfBytes (with_line s size) first) (cut (left ++ more) h) (then-last (with_line s size) (left ++ more) u l o)

-- ---- keeping the text changes nothing else

module _ {f r : Flight} (h : (r ≡ f) ⊎ (r ≡ kept f)) where
  pub kept-flown : (bytes : List ℕ) → flown_of bytes r ≡ flown_of bytes f
  kept-flown bytes = ⊎_elim (λ e. ap (flown_of bytes) e) (λ e. ap (flown_of bytes) e) h

  pub kept-recording : r.recording ≡ f.recording
  kept-recording = ⊎_elim (λ e. ap (λ (x : Flight). x.recording) e) (λ e. ap (λ (x : Flight). x.recording) e) h

  pub kept-count : line_count r ≡ line_count f
  kept-count = ⊎_elim (λ e. ap line_count e) (λ e. ap line_count e) h

-- which it is only where it has to be
pub checkpointed : (n : ℕ) {f r : Flight} → Checkpointed n f r → (r ≡ f) ⊎ (r ≡ kept f)
checkpointed n (inl e) = inl e
checkpointed n (inr (i, j, e)) = inr e

-- ---- a refused line that waits, or has no room to wait in

module _ (number refusal : ℕ) (waits : List ℕ) where
  abbrev behind : List ℕ
  behind = set (set (set waits (get_or waits 0 0 + 1) number) (get_or waits 0 0 + 2) refusal) 0 (get_or waits 0 0 + 2)

  pub waits-full : length waits ≤ get_or waits 0 0 + 2 → waits ≡ waits_with number refusal waits
  unfolding waits_with
  waits-full h = sym (ap (λ (b : Bool). cond b behind waits) (le-ltb (get_or waits 0 0 + 2) (length waits) h))

  pub waits-more : get_or waits 0 0 + 2 < length waits → behind ≡ waits_with number refusal waits
  unfolding waits_with
  waits-more h = sym (ap (λ (b : Bool). cond b behind waits) (lt-ltb (get_or waits 0 0 + 2) (length waits) h))

-- ---- what is given

pub path-given : (path : List ℕ) {r : File} (n : ℕ) → FileFits path r → r ≡ Path n → n ≤ length path
path-given path n h e = subst (FileFits path) e h

pub path-short : (path : List ℕ) {r : File} (n : ℕ) → FileFits path r → r ≡ Path n → length path ≡ 4080 → length (take n path) ≤ 4096
path-short path n h e l = omega (arith, length-take-le n path (path-given path n h e), path-given path n h e)

pub setting-used : {r : Option Setting} (s : Setting) → Usable r → r ≡ Some s → setting_refusal s ≡ 0
setting-used s h e = subst Usable e h
