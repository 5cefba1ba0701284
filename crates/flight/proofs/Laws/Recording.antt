-- The text after a flight is that of the cells of the fixes taken; a line is refused exactly where it is no fix or the text with its cell would be
-- too long; each line is counted once, as what it is; and where none was refused with 13, the order of the fixes makes no difference. Assumes nothing.
use Rattle.std.specs.Prelude.{◌≡◌, ◌↔◌, ◌⊎◌, Bool, not, cond, eqb, ltb, length, take, drop, Err, Ok, Result}
use Rattle.std.proofs.Math.Path.{refl, ap, ap₂}
use Rattle.std.proofs.Common.{sym, ◌∙◌, subst, inl, inr, ⊎_elim, arith, take_at}
use Rattle.std.proofs.Math.Bool.{true, false}
use mathlib.Core.List.{List, [], ◌∷◌}
use Prim.Native.Nat.{ℕ, zero, suc, ◌+◌, ◌≤◌}
use borrow.Author.Tests.{le-ltb, ltb-false}
use Rattle.logic.specs.Lists.{Mem}
use Rattle.logic.specs.Laws.Lists.{any-mem, mem-any}
use Rattle.logic.specs.Refusal.{refuse, ◌otherwise◌, given}
use Rattle.logic.specs.Laws.Bools.{by_cond}
use Rattle.cell.specs.declared.Cell.{Cell}
use Rattle.cell.specs.Cell.{IsCell}
use Rattle.code.specs.Code.{cell_of}
use Rattle.code.specs.Inside.{Inside}
use Rattle.code.proofs.Laws.Code.{code-is-cell}
use Rattle.reading.specs.declared.Profile.TheVariants as profile-as
use Rattle.reading.specs.Ground.{Covers, Cells}
use Rattle.reading.specs.Written.{keeps}
use Rattle.reading.proofs.Laws.Fits.{good-fits}
use Rattle.reading.specs.TextReading.{is_text}
use Rattle.reading.proofs.Laws.Written.{nodes-good, written-reads, one-text}
use Rattle.adding.specs.Add.{text_with, keeps_with, size_refusal, with_refusal, placed}
use Rattle.adding.proofs.Laws.Add.{length-same, with-written, keeps-written}
use Rattle.lines.specs.Fold.{after}
use Rattle.flight.specs.declared.Recording.{Recording}
use Rattle.flight.specs.declared.Setting.{Setting}
use Rattle.flight.specs.Setting.{UsableSetting}
use Rattle.flight.specs.Flight.{line_code}
use Rattle.flight.specs.Recording.{fix_taken, taken, taken_text, refusal_in, Flown, with_fix, with_refused, decided, with_code, with_line}
use Rattle.flight.specs.Recording.{bad_in, bad_lines, text_for, started, too_long, with_cell, cells_with, FlownFrom, HasFix, counted}
use Rattle.flight.proofs.Laws.Code.{line-is-code}
use Rattle.flight.proofs.Laws.Setting.{line-six}

-- ---- what an answer of `flight::take_line` stands for

abbrev length_in : Result Recording ℕ → ℕ
length_in (Ok m) = m.length
length_in (Err r) = 0

abbrev pub flown_as : Result Recording ℕ → (later : List ℕ) → Flown → Flown
flown_as (Ok n) later f = with_fix (take n.length later) f
flown_as (Err r) later f = with_refused r f

-- the flight after the line
pub taken-flown : (a : Result ℕ ℕ) (bytes : List ℕ) (f : Flown) → flown_as (taken a (length bytes) f.text) (taken_text a bytes f.text) f ≡ with_code (length bytes) a f
unfolding taken taken_text fix_taken placed given
taken-flown (Ok code) bytes f = go (with_refusal f.text (cell_of code) (length bytes))
  where
    u : List ℕ
    u = text_with f.text (cell_of code)

    go : (r : ℕ) → flown_as (fix_taken r (length u) code) (placed r u bytes) f ≡ decided r u f
    go zero = ap (λ (t : List ℕ). with_fix t f) (take_at u (drop (length u) bytes) (length u) refl)
    go (suc r) = refl
taken-flown (Err r) bytes f = refl

-- a refused line changes no byte
pub refused-bytes : (a : Result ℕ ℕ) (bytes t : List ℕ) {r : ℕ} → Err r ≡ taken a (length bytes) t → taken_text a bytes t ≡ bytes
unfolding taken taken_text fix_taken placed given
refused-bytes (Ok code) bytes t {r} e = go (with_refusal t (cell_of code) (length bytes)) e
  where
    u : List ℕ
    u = text_with t (cell_of code)

    go : (q : ℕ) → Err r ≡ fix_taken q (length u) code → placed q u bytes ≡ bytes
    go zero f = let z : ◌≡◌ {A = ℕ} 0 1 = cc in absurd (omega arith)
    go (suc q) f = refl
refused-bytes (Err q) bytes t e = refl

-- a fix after which the text has its length of before left the text as it was
pub same_text :
    (a : Result ℕ ℕ) (bytes t : List ℕ) (m : Recording) → is_text t ≡ true → ((code : ℕ) → a ≡ Ok code → IsCell (cell_of code)) →
    Ok m ≡ taken a (length bytes) t → m.length ≡ length t → take m.length (taken_text a bytes t) ≡ t
unfolding taken taken_text fix_taken placed given
same_text (Ok code) bytes t m e v q h = go (with_refusal t (cell_of code) (length bytes)) q
  where
    u : List ℕ
    u = text_with t (cell_of code)

    go : (r : ℕ) → Ok m ≡ fix_taken r (length u) code → take m.length (placed r u bytes) ≡ t
    go zero f =
        let k : m.length ≡ length u = ap length_in f in
        take_at u (drop (length u) bytes) m.length (sym k) ∙ length-same t e (cell_of code) (v code refl) (sym k ∙ h)
    go (suc r) f = let z : ◌≡◌ {A = ℕ} 0 1 = cc in absurd (omega arith)
same_text (Err r) bytes t m e v q h = let z : ◌≡◌ {A = ℕ} 0 1 = cc in absurd (omega arith)

-- ---- the text of the cells taken

full-fits : (cells : List Cell) → Cells cells → keeps profile-as.Full cells ≡ true
full-fits cells w = good-fits _ _ _ 0 (nodes-good cells w)

module _ (s : Setting) (u : UsableSetting s) (room : ℕ) (big : 65536 ≤ room) where
  -- ---- one line

  module _ {f : Flown} {cells : List Cell} (h : FlownFrom s f cells) (c : Cell) (v : IsCell c) where
    with-text : text_with f.text c ≡ text_for s (c ∷ cells)
    with-text =
        ap (λ (x : List ℕ). text_with x c) h.text
        ∙ with-written profile-as.Full s.arrangement.north s.arrangement.south tt u.arrangement.northern u.arrangement.southern cells h.cells
        (full-fits cells h.cells) c v

    -- the cell of a fix is refused with 13 where the text would be too long, and with no other number
    pub fix-refusal : with_refusal f.text c room ≡ refuse (too_long s (c ∷ cells)) 13
    unfolding with_refusal size_refusal ◌otherwise◌
    fix-refusal =
        let k : keeps_with f.text c ≡ true =
        ap (λ (x : List ℕ). keeps_with x c) h.text
        ∙ keeps-written profile-as.Full s.arrangement.north s.arrangement.south tt u.arrangement.northern u.arrangement.southern cells h.cells
        (full-fits cells h.cells) c v
        ∙ full-fits (c ∷ cells) (v, h.cells) in
        ap₂ (λ (x : Bool) (y : List ℕ). refuse (not x) 15 otherwise refuse (ltb 65536 (length y)) 13 otherwise refuse (ltb room (length y)) 8) k with-text
        ∙ go (too_long s (c ∷ cells)) refl
      where
        go :
            (t : Bool) → too_long s (c ∷ cells) ≡ t →
            refuse t 13 otherwise refuse (ltb room (length (text_for s (c ∷ cells)))) 8 ≡ refuse t 13
        go true e = refl
        go false e = let l = ltb-false 65536 (length (text_for s (c ∷ cells))) e in ap (λ (x : Bool). refuse x 8) (le-ltb room (length (text_for s (c ∷ cells))) (omega arith))

    -- so one of two things comes of it
    with-fix :
        (code : ℕ) → cell_of code ≡ c → with_code room (Ok code) f ≡ cond (too_long s (c ∷ cells)) (with_refused 13 f) (with_fix (text_for s (c ∷ cells)) f)
    with-fix code e =
        ap (λ (x : Cell). decided (with_refusal f.text x room) (text_with f.text x) f) e
        ∙ ap₂ (λ (x : ℕ) (y : List ℕ). decided x y f) fix-refusal with-text
        ∙ go (too_long s (c ∷ cells))
      where
        go : (t : Bool) → decided (refuse t 13) (text_for s (c ∷ cells)) f ≡ cond t (with_refused 13 f) (with_fix (text_for s (c ∷ cells)) f)
        go true = refl
        go false = refl

  code-from :
      {f : Flown} {cells : List Cell} → FlownFrom s f cells → (a : Result ℕ ℕ) → ((code : ℕ) → a ≡ Ok code → IsCell (cell_of code)) →
      FlownFrom s (with_code room a f) (with_cell s a cells)
  code-from {f} {cells} h (Ok code) v =
      subst (λ (x : Flown). FlownFrom s x (with_cell s (Ok code) cells)) (sym (with-fix h (cell_of code) (v code refl) code refl)) (go (too_long s (cell_of code ∷ cells)))
    where
      go : (t : Bool) → FlownFrom s (cond t (with_refused 13 f) (with_fix (text_for s (cell_of code ∷ cells)) f)) (cond t cells (cell_of code ∷ cells))
      go true = record { text = h.text; cells = h.cells; fixes = h.fixes }
      go false = record { text = refl; cells = (v code refl, h.cells); fixes = ap suc h.fixes }
  code-from {f} {cells} h (Err r) v = record { text = h.text; cells = h.cells; fixes = h.fixes }

  line-cell : (line : List ℕ) (code : ℕ) → line_code s line ≡ Ok code → IsCell (cell_of code)
  line-cell line code e = code-is-cell code (line-is-code s line code e)

  pub line-from : {f : Flown} {cells : List Cell} → FlownFrom s f cells → (line : List ℕ) → FlownFrom s (with_line s room f line) (cells_with s cells line)
  line-from h line = code-from h (line_code s line) (line-cell line)

  -- ---- which lines are refused, and with what

  module _ {f : Flown} {cells : List Cell} (h : FlownFrom s f cells) (line : List ℕ) where
    -- of a fix
    told : (r n code : ℕ) → refusal_in (fix_taken r n code) ≡ r
    unfolding fix_taken
    told zero n code = refl
    told (suc r) n code = refl

    fix-told : (code : ℕ) → line_code s line ≡ Ok code → refusal_in (taken (line_code s line) room f.text) ≡ refuse (too_long s (cell_of code ∷ cells)) 13
    unfolding taken
    fix-told code e =
        ap (λ (a : Result ℕ ℕ). refusal_in (taken a room f.text)) e
        ∙ told (with_refusal f.text (cell_of code) room) (length (text_with f.text (cell_of code))) code
        ∙ fix-refusal h (cell_of code) (line-cell line code e)

    -- of a line that is none
    none_told : (r : ℕ) → line_code s line ≡ Err r → refusal_in (taken (line_code s line) room f.text) ≡ 6
    unfolding taken
    none_told r e = ap (λ (a : Result ℕ ℕ). refusal_in (taken a room f.text)) e ∙ line-six s u line r e

    -- 13 exactly where the line is a fix, and the text with its cell would be longer than 65,536 bytes
    pub thirteen-line :
        (refusal_in (taken (line_code s line) room f.text) ≡ 13) ↔ ((code : ℕ) × (line_code s line ≡ Ok code) × (too_long s (cell_of code ∷ cells) ≡ true))
    thirteen-line = (to (line_code s line) refl, λ w. fix-told w.0 w.1 ∙ ap (λ (b : Bool). refuse b 13) w.2)
      where
        long : (b : Bool) → refuse b 13 ≡ 13 → b ≡ true
        long true e = refl
        long false e = absurd (omega arith)

        to :
            (a : Result ℕ ℕ) → line_code s line ≡ a → refusal_in (taken (line_code s line) room f.text) ≡ 13 →
            (code : ℕ) × (line_code s line ≡ Ok code) × (too_long s (cell_of code ∷ cells) ≡ true)
        to (Ok code) e k = (code, e, long (too_long s (cell_of code ∷ cells)) (sym (fix-told code e) ∙ k))
        to (Err r) e k = let z : ◌≡◌ {A = ℕ} 6 13 = sym (none_told r e) ∙ k in absurd (omega arith)

    -- 6 exactly where it is no fix, or one out of range
    pub six-line : (refusal_in (taken (line_code s line) room f.text) ≡ 6) ↔ ((r : ℕ) × (line_code s line ≡ Err r))
    six-line = (to (line_code s line) refl, λ w. none_told w.0 w.1)
      where
        six : (b : Bool) → refuse b 13 ≡ 6 → ⊥
        six true e = omega arith
        six false e = omega arith

        to : (a : Result ℕ ℕ) → line_code s line ≡ a → refusal_in (taken (line_code s line) room f.text) ≡ 6 → (r : ℕ) × (line_code s line ≡ Err r)
        to (Ok code) e k = absurd (six (too_long s (cell_of code ∷ cells)) (sym (fix-told code e) ∙ k))
        to (Err r) e k = (r, e)

  -- ---- a flight

  pub flown-from :
      (lines : List (List ℕ)) {f : Flown} {cells : List Cell} → FlownFrom s f cells →
      FlownFrom s (after (with_line s room) f lines) (after (cells_with s) cells lines)
  flown-from [] h = h
  flown-from (line ∷ lines) h = flown-from lines (line-from h line)

  started-from : FlownFrom s (started s) []
  started-from = record { text = refl; cells = tt; fixes = refl }

  -- the text after a flight is that of the cells of the fixes taken
  pub flown-text : (lines : List (List ℕ)) → FlownFrom s (after (with_line s room) (started s) lines) (after (cells_with s) [] lines)
  flown-text lines = flown-from lines started-from

  -- its heading is that of version 1, with the setting's n and s
  pub flown-heading :
      (lines : List (List ℕ)) →
      take 7 (after (with_line s room) (started s) lines).text ≡ 67 ∷ 86 ∷ 82 ∷ 0 ∷ 1 ∷ (48 + s.arrangement.north) ∷ (48 + s.arrangement.south) ∷ []
  flown-heading lines =
      let h = flown-text lines in
      let r = written-reads (after (cells_with s) [] lines) h.cells profile-as.Full s.arrangement.north s.arrangement.south tt
      (full-fits (after (cells_with s) [] lines) h.cells) u.arrangement.northern u.arrangement.southern in
      ap (take 7) (h.text ∙ r.body.all)

  -- ---- how many lines are refused with another number than 13: those that are no fix, or one out of range

  bad-code :
      {f : Flown} {cells : List Cell} → FlownFrom s f cells → (a : Result ℕ ℕ) → ((code : ℕ) → a ≡ Ok code → IsCell (cell_of code)) →
      ((r : ℕ) → a ≡ Err r → r ≡ 6) → (with_code room a f).bad ≡ bad_in a + f.bad
  bad-code {f} {cells} h (Ok code) v z =
      ap (λ (x : Flown). x.bad) (with-fix h (cell_of code) (v code refl) code refl) ∙ go (too_long s (cell_of code ∷ cells))
    where
      go : (t : Bool) → (cond t (with_refused 13 f) (with_fix (text_for s (cell_of code ∷ cells)) f)).bad ≡ 0 + f.bad
      go true = omega arith
      go false = omega arith
  bad-code {f} h (Err r) v z = ap (λ (q : ℕ). (with_refused q f).bad) (z r refl) ∙ omega arith

  bad-after :
      (lines : List (List ℕ)) {f : Flown} {cells : List Cell} → FlownFrom s f cells → (after (with_line s room) f lines).bad ≡ bad_lines s lines + f.bad
  bad-after [] h = omega arith
  bad-after (line ∷ lines) h = bad-after lines (line-from h line) ∙ omega (arith, bad-code h (line_code s line) (line-cell line) (line-six s u line))

  pub bad-exactly : (lines : List (List ℕ)) → (after (with_line s room) (started s) lines).bad ≡ bad_lines s lines
  bad-exactly lines = bad-after lines started-from ∙ omega arith

  -- ---- the cells of the fixes taken: of the flight's fixes, and all of them where none was refused with 13

  -- one line's
  cell-old : (a : Result ℕ ℕ) (cells : List Cell) (x : Cell) → Mem x cells → Mem x (with_cell s a cells)
  cell-old (Ok code) cells x h = by_cond (λ (qs : List Cell). Mem x qs) (too_long s (cell_of code ∷ cells)) (λ _. h) (λ _. inr h)
  cell-old (Err r) cells x h = h

  cell-only : (a : Result ℕ ℕ) (cells : List Cell) (x : Cell) → Mem x (with_cell s a cells) → Mem x cells ⊎ ((code : ℕ) × (a ≡ Ok code) × (cell_of code ≡ x))
  cell-only (Ok code) cells x h =
      by_cond (λ (qs : List Cell). Mem x qs → Mem x cells ⊎ ((d : ℕ) × (◌≡◌ {A = Result ℕ ℕ} (Ok code) (Ok d)) × (cell_of d ≡ x))) (too_long s (cell_of code ∷ cells)) (λ _ k. inl k)
      (λ _. ⊎_elim (λ e. inr (code, refl, e)) (λ k. inl k)) h
  cell-only (Err r) cells x h = inl h

  kept-old : (lines : List (List ℕ)) (cells : List Cell) (x : Cell) → Mem x cells → Mem x (after (cells_with s) cells lines)
  kept-old [] cells x h = h
  kept-old (line ∷ lines) cells x h = kept-old lines (cells_with s cells line) x (cell-old (line_code s line) cells x h)

  only-flown : (lines : List (List ℕ)) (cells : List Cell) (x : Cell) → Mem x (after (cells_with s) cells lines) → Mem x cells ⊎ HasFix s lines x
  only-flown [] cells x h = inl h
  only-flown (line ∷ lines) cells x h =
      ⊎_elim (λ k. ⊎_elim (λ i. inl i) (λ i. inr (inl i)) (cell-only (line_code s line) cells x k)) (λ k. inr (inr k)) (only-flown lines (cells_with s cells line) x h)

  -- nothing is in the text that was not flown
  pub flown-fix : (lines : List (List ℕ)) (x : Cell) → Mem x (after (cells_with s) [] lines) → HasFix s lines x
  flown-fix lines x h = ⊎_elim (λ k. absurd k) (λ k. k) (only-flown lines [] x h)

  -- a line that is refused with 13 is counted, and stays so
  full-grows : (a : Result ℕ ℕ) (f : Flown) → f.full ≤ (with_code room a f).full
  full-grows (Ok code) f = go (with_refusal f.text (cell_of code) room) (text_with f.text (cell_of code))
    where
      refused : (r : ℕ) → f.full ≤ (with_refused r f).full
      refused r = by_cond (λ (n : ℕ). f.full ≤ n) (eqb r 13) (λ _. omega arith) (λ _. omega arith)

      go : (r : ℕ) (w : List ℕ) → f.full ≤ (decided r w f).full
      go zero w = omega arith
      go (suc r) w = refused (suc r)
  full-grows (Err r) f = by_cond (λ (n : ℕ). f.full ≤ n) (eqb r 13) (λ _. omega arith) (λ _. omega arith)

  full-after : (lines : List (List ℕ)) (f : Flown) → f.full ≤ (after (with_line s room) f lines).full
  full-after [] f = omega arith
  full-after (line ∷ lines) f = omega (arith, full-grows (line_code s line) f, full-after lines (with_line s room f line))

  -- a fix that is not refused is in
  cell-new :
      {f : Flown} {cells : List Cell} → FlownFrom s f cells → (a : Result ℕ ℕ) (code : ℕ) → a ≡ Ok code → IsCell (cell_of code) → (with_code room a f).full ≡ 0 →
      Mem (cell_of code) (with_cell s a cells)
  cell-new {f} {cells} h a code e v z =
      subst (λ (b : Result ℕ ℕ). Mem (cell_of code) (with_cell s b cells)) (sym e)
      (go (too_long s (cell_of code ∷ cells)) (ap (λ (g : Flown). g.full) (sym (with-fix h (cell_of code) v code refl)) ∙ subst (λ (b : Result ℕ ℕ). (with_code room b f).full ≡ 0) e z))
    where
      go : (t : Bool) → (cond t (with_refused 13 f) (with_fix (text_for s (cell_of code ∷ cells)) f)).full ≡ 0 → Mem (cell_of code) (cond t cells (cell_of code ∷ cells))
      go true k = absurd (omega arith)
      go false k = inl refl

  all-flown :
      (lines : List (List ℕ)) {f : Flown} {cells : List Cell} → FlownFrom s f cells → (x : Cell) → (after (with_line s room) f lines).full ≡ 0 → HasFix s lines x →
      Mem x (after (cells_with s) cells lines)
  all-flown [] h x z k = absurd k
  all-flown (line ∷ lines) {f} {cells} h x z (inl (code, e, q)) =
      kept-old lines (cells_with s cells line) x
      (subst (λ (y : Cell). Mem y (cells_with s cells line)) q
      (cell-new h (line_code s line) code e (line-cell line code e) (omega (arith, full-after lines (with_line s room f line)))))
  all-flown (line ∷ lines) h x z (inr k) = all-flown lines (line-from h line) x z k

  -- every fix is in the text where none was refused with 13
  pub fix-flown : (lines : List (List ℕ)) (x : Cell) → (after (with_line s room) (started s) lines).full ≡ 0 → HasFix s lines x → Mem x (after (cells_with s) [] lines)
  fix-flown lines x z h = all-flown lines started-from x z h

  -- ---- the order of the fixes makes no difference

  same-covers : (qs ps : List Cell) → ((x : Cell) → Mem x qs → Mem x ps) → (y : Cell) → Covers qs y → Covers ps y
  same-covers qs ps h y k = let m = any-mem (λ (q : Cell). Inside q y) qs k in mem-any (λ (q : Cell). Inside q y) ps m.0 (h m.0 m.1) m.2

  -- two flights with fixes in the same cells have one text, where none was refused with 13
  pub any_order :
      (xs ys : List (List ℕ)) → (after (with_line s room) (started s) xs).full ≡ 0 → (after (with_line s room) (started s) ys).full ≡ 0 →
      ((x : Cell) → HasFix s xs x ↔ HasFix s ys x) → (after (with_line s room) (started s) xs).text ≡ (after (with_line s room) (started s) ys).text
  any_order xs ys y z h =
      let p = flown-text xs in
      let q = flown-text ys in
      let to : (x : Cell) → Mem x (after (cells_with s) [] xs) → Mem x (after (cells_with s) [] ys) = λ x m. fix-flown ys x z ((h x).0 (flown-fix xs x m)) in
      let back : (x : Cell) → Mem x (after (cells_with s) [] ys) → Mem x (after (cells_with s) [] xs) = λ x m. fix-flown xs x y ((h x).1 (flown-fix ys x m)) in
      p.text
      ∙ one-text profile-as.Full s.arrangement.north s.arrangement.south (after (cells_with s) [] xs) (after (cells_with s) [] ys) p.cells q.cells
      (λ x f. (same-covers (after (cells_with s) [] xs) (after (cells_with s) [] ys) to x, same-covers (after (cells_with s) [] ys) (after (cells_with s) [] xs) back x))
      ∙ sym q.text

-- ---- each line is counted once: as a fix taken, as one refused with 13, or as refused with another number

module _ (s : Setting) (room : ℕ) where
  refused-once : (r : ℕ) (f : Flown) → counted (with_refused r f) ≡ suc (counted f)
  refused-once r f = go (eqb r 13)
    where
      go : (t : Bool) → f.fixes + cond t (suc f.full) f.full + cond t f.bad (suc f.bad) ≡ suc (counted f)
      go true = omega arith
      go false = omega arith

  decided-once : (r : ℕ) (u : List ℕ) (f : Flown) → counted (decided r u f) ≡ suc (counted f)
  decided-once zero u f = omega arith
  decided-once (suc r) u f = refused-once (suc r) f

  pub line-once : (f : Flown) (line : List ℕ) → counted (with_line s room f line) ≡ suc (counted f)
  line-once f line = go (line_code s line)
    where
      go : (a : Result ℕ ℕ) → counted (with_code room a f) ≡ suc (counted f)
      go (Ok code) = decided-once (with_refusal f.text (cell_of code) room) (text_with f.text (cell_of code)) f
      go (Err r) = refused-once r f

  pub lines-once : (lines : List (List ℕ)) (f : Flown) → counted (after (with_line s room) f lines) ≡ counted f + length lines
  lines-once [] f = omega arith
  lines-once (line ∷ lines) f = lines-once lines (with_line s room f line) ∙ omega (arith, line-once f line)

  -- no other line is
  pub flown-counted : (lines : List (List ℕ)) → counted (after (with_line s room) (started s) lines) ≡ length lines
  flown-counted lines = lines-once lines (started s) ∙ omega arith
