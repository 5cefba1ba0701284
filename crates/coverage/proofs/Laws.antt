-- A name more is read; a name is asked for; names are printed part by part. Assumes nothing.
use Rattle.std.specs.Prelude.{Err, None, Ok, Option, Result, Some}
use Rattle.reading.specs.declared.Refused.{Refused}
use mathlib.Core.Path.{◌≡◌, refl, sym, ap, ◌∙◌, subst}
use mathlib.Core.Logic.{⊎_elim}
use mathlib.Core.Bool.{Bool, true, false, not}
use mathlib.Core.List.{List, [], ◌∷◌, ◌++◌}
use Prim.Native.Nat.{ℕ, zero, suc, ◌≤◌, ◌<◌}
use native.Mathlib.Omega.{arith}
use lib.Dec.{leb, ltb}
use lib.ListN.{length, take, drop}
use lib.Seq.{take_all, length-take-le}
use borrow.Author.Tests.{lt-ltb, lt-leb, le-leb}
use Rattle.logic.specs.Laws.Order.{lt-or}
use Rattle.logic.specs.Refusal.{refuse, given, ◌otherwise◌}
use Rattle.logic.specs.Laws.Refusal.{stops, passes}
use Rattle.code.specs.Code.{coded, code_in, refusal_in, is_code, is_of}
use Rattle.code.proofs.Laws.Code.{code-passes}
use Rattle.decimal.specs.Decimal.{trimmed}
use Rattle.decimal.proofs.Laws.Long.{trimmed-length, trimmed-take}
use Rattle.name.specs.Name.{name_refusal, name_code, first_letter, all_digits}
use Rattle.name.specs.Laws.Name.{accepted, name-code-is}
use Rattle.lines.specs.Fold.{OfBytes, OfEnded}
use Rattle.gathering.specs.Gather.{gathered}
use Rattle.gathering.proofs.Laws.Gather.{Holds, text-alike, refused-alike}
use Rattle.writing.specs.Write.{asks_for}
use Rattle.lines.specs.Laws.Fold.{then-line, then-last, then-none}
use Rattle.console.specs.declared.LineRead.TheVariants.{Line, Last}
use Rattle.console.specs.Input.{Given}
use Rattle.report.specs.Put.{Put}
use Rattle.report.specs.Lines.{number_line}
use Rattle.report.proofs.Laws.Put.{put-taken}
use Rattle.cell.specs.declared.Arrangement.{Arrangement}
use Rattle.cell.specs.Cell.{IsArrangement}
use Rattle.reading.specs.TextReading.{text_arrangement}
use Rattle.reader.specs.Check.{text_refusal, place_with}
use Rattle.asking.specs.Ask.{asked, ask_refusal}
use Rattle.listing.specs.List.{codes_in, listing_refusal, listed}
use Rattle.listing.proofs.Laws.Listed.{listed-allowed, listed-taken, listed-refused}
use Rattle.coverage.specs.declared.NamesRead.{NamesRead}
use Rattle.coverage.specs.declared.Text.{Text}
use Rattle.coverage.specs.declared.Form.{Form}
use Rattle.coverage.specs.declared.Text.TheVariants as text-as
use Rattle.coverage.specs.declared.Text.TheVariants.{Length}
use Rattle.coverage.specs.declared.NamesRead.TheVariants as read_as
use Rattle.coverage.specs.Names.{Names, read, stopped, named_or, with_name, NameTaken, AllTaken}
use Rattle.coverage.specs.Own.{Own}
use Rattle.coverage.specs.Laws.Asked.{named-code, named_in}
use Rattle.coverage.specs.Laws.Names.{names-held}
use Rattle.console.specs.Names.{NamesIn}
use Rattle.coverage.specs.Printed.{asked_name, waits, ListWritten, TextWritten, NamesText}

-- ---- one name

as_code : (q code c : ℕ) → coded q code ≡ Ok c → (q ≡ 0) × (code ≡ c)
unfolding coded
as_code zero code c e = (refl, ap code_in e)
as_code (suc q) code c e = let z : ◌≡◌ {A = ℕ} 0 1 = cc in absurd (omega arith)

as-refusal : (q code r : ℕ) → coded q code ≡ Err r → (q ≡ r) × (r ≡ 0 → ⊥)
unfolding coded
as-refusal zero code r e = let z : ◌≡◌ {A = ℕ} 0 1 = cc in absurd (omega arith)
as-refusal (suc q) code r e = let k : suc q ≡ r = ap refusal_in e in (k, λ z. omega arith)

module _ (a : Arrangement) (line codes : List ℕ) (count : ℕ) (h : count ≤ length codes) {n : ℕ} (t : n ≡ length (trimmed line)) {x : Result ℕ ℕ}
    (e : x ≡ coded (name_refusal (take n line)) (name_code a (take n line))) where
  name-text : take n line ≡ trimmed line
  name-text = ap (λ (i : ℕ). take i line) t ∙ trimmed-take line

  named : x ≡ coded (name_refusal (trimmed line)) (name_code a (trimmed line))
  named = e ∙ ap (λ (l : List ℕ). coded (name_refusal l) (name_code a l)) name-text

  held : length (take count codes) ≡ count
  held = length-take-le count codes h

  -- a name's code is a code
  pub name-coded : IsArrangement a → (code : ℕ) → x ≡ Ok code → is_code code ≡ true
  name-coded g code f =
      let k = as_code (name_refusal (trimmed line)) (name_code a (trimmed line)) code (sym named ∙ f) in
      ap is_code (sym k.1) ∙ name-code-is (trimmed line) g (accepted (trimmed line) k.0)

  pub name-taken :
      (code n : ℕ) (later : List ℕ) → x ≡ Ok code → count < length codes → take n later ≡ gathered a code (take count codes) → n ≤ length later →
      NameTaken a line codes count later (Ok n)
  name-taken code n later f l w i =
      let k = as_code (name_refusal (trimmed line)) (name_code a (trimmed line)) code (sym named ∙ f) in (
        passes _ k.0 ∙ ap (λ (b : Bool). refuse b 13) (ap (leb (length codes)) held ∙ lt-leb (length codes) count l),
        w ∙ ap (λ (y : ℕ). gathered a y (take count codes)) (sym k.1),
        i,
      )

  pub name-full : (code : ℕ) → x ≡ Ok code → length codes ≤ count → NameTaken a line codes count codes (Err 13)
  name-full code f l =
      let k = as_code (name_refusal (trimmed line)) (name_code a (trimmed line)) code (sym named ∙ f) in
      (passes _ k.0 ∙ ap (λ (b : Bool). refuse b 13) (ap (leb (length codes)) held ∙ le-leb (length codes) count l), λ z. omega arith)

  pub name-refused : (r : ℕ) → x ≡ Err r → NameTaken a line codes count codes (Err r)
  name-refused r f =
      let k = as-refusal (name_refusal (trimmed line)) (name_code a (trimmed line)) r (sym named ∙ f) in
      (stops (name_refusal (trimmed line)) _ (λ z. k.1 (sym k.0 ∙ z)) ∙ k.0, k.1)

-- ---- a line that was cut to its room

long-name : (y : List ℕ) → 18 ≤ length y → name_refusal (trimmed y) ≡ 2
unfolding name_refusal ◌otherwise◌
long-name y h = rw (lt-ltb 16 (length (trimmed y)) (omega (arith, trimmed-length y))) refl

stops-long : (a : Arrangement) (size : ℕ) (codes held y : List ℕ) → 18 ≤ length y → with_name a size (read codes held) y ≡ stopped (suc (length codes)) 2
stops-long a size codes held y h =
    ap (λ (q : ℕ). named_or a q codes held (name_code a (trimmed y))) (stops (name_refusal (trimmed y)) _ (λ z. absurd (two (sym (long-name y h) ∙ z))) ∙ long-name y h)
  where
    two : ◌≡◌ {A = ℕ} 2 0 → ⊥
    two z = omega arith

cut-name : (a : Arrangement) (size room : ℕ) (codes held x : List ℕ) → 18 ≤ room → with_name a size (read codes held) (take room x) ≡ with_name a size (read codes held) x
cut-name a size room codes held x h =
    ⊎_elim
    (λ l.
    let z : length (take room x) ≡ room = length-take-le room x (omega arith) in
    stops-long a size codes held (take room x) (omega arith) ∙ sym (stops-long a size codes held x (omega arith)))
    (λ l. ap (with_name a size (read codes held)) (take_all room x l)) (lt-or room (length x))

-- ---- a line more

module _ (a : Arrangement) (room : List ℕ) (big : 18 ≤ length room) (all codes later : List ℕ) (count n : ℕ)
    (o : OfEnded (with_name a (length codes)) (read [] []) (read all (take count codes))) where
  abbrev kept : List ℕ
  kept = take count codes

  abbrev line_code : ℕ
  line_code = name_code a (trimmed (take n room))

  -- what the line comes to
  abbrev comes : (r : Result ℕ ℕ) → NameTaken a (take n room) codes count later r → Names
  comes (Ok k) h = read (all ++ (line_code ∷ [])) (take k later)
  comes (Err r) h = stopped (suc (length all)) r

  is : (r : Result ℕ ℕ) (h : NameTaken a (take n room) codes count later r) → with_name a (length codes) (read all kept) (take n room) ≡ comes r h
  is (Ok k) (e, f, i) = ap (λ (q : ℕ). named_or a q all kept line_code) e ∙ ap (read (all ++ (line_code ∷ []))) (sym f)
  is (Err r) (e, f) = ap (λ (q : ℕ). named_or a q all kept line_code) e ∙ some r f
    where
      some : (q : ℕ) → (q ≡ 0 → ⊥) → named_or a q all kept line_code ≡ stopped (suc (length all)) q
      some zero g = absurd (g refl)
      some (suc q) g = refl

  whole : (x : List ℕ) → take n room ≡ take (length room) x → (r : Result ℕ ℕ) (h : NameTaken a (take n room) codes count later r) → with_name a (length codes) (read all kept) x ≡ comes r h
  whole x f r h =
      sym (cut-name a (length codes) (length room) all kept x big) ∙ ap (with_name a (length codes) (read all kept)) (sym f) ∙ is r h

  line-comes : (left bytes : List ℕ) (from end : ℕ) → Given left bytes room (Line n from end) → (r : Result ℕ ℕ) (h : NameTaken a (take n room) codes count later r) → OfEnded
      (with_name a (length codes)) (read [] []) (comes r h)
  line-comes left bytes from end (more, x, u, g, f, i, j, l) r h = subst (OfEnded (with_name a (length codes)) (read [] [])) (whole x f r h) (then-line (with_name a (length codes)) x u o)

  last-comes : (left bytes : List ℕ) → Given left bytes room (Last n) → (r : Result ℕ ℕ) (h : NameTaken a (take n room) codes count later r) → OfBytes (with_name a (length codes)) (read [] []) (comes r h)
  last-comes left bytes (more, u, l, f, i) r h = subst (OfBytes (with_name a (length codes)) (read [] [])) (whole (left ++ more) f r h) (then-last (with_name a (length codes)) (left ++ more) u l o)

  module _ {r : Result ℕ ℕ} (h : NameTaken a (take n room) codes count later r) where
    pub taken-fits : (k : ℕ) → r ≡ Ok k → k ≤ length later
    taken-fits k e = (subst (NameTaken a (take n room) codes count later) e h).2

    pub line_read : (left bytes : List ℕ) (from end k : ℕ) → Given left bytes room (Line n from end) → r ≡ Ok k → OfEnded (with_name a (length codes)) (read [] [])
        (read (all ++ (line_code ∷ [])) (take k later))
    line_read left bytes from end k g e = line-comes left bytes from end g (Ok k) (subst (NameTaken a (take n room) codes count later) e h)

    pub line-stops : (left bytes : List ℕ) (from end q : ℕ) → Given left bytes room (Line n from end) → r ≡ Err q → AllTaken a (length codes) later (read_as.Stopped q)
    line-stops left bytes from end q g e =
        (_, then-none (with_name a (length codes)) (line-comes left bytes from end g (Err q) (subst (NameTaken a (take n room) codes count later) e h)))

    pub last-read : (left bytes : List ℕ) (k : ℕ) → Given left bytes room (Last n) → r ≡ Ok k → AllTaken a (length codes) later (read_as.Count k)
    last-read left bytes k g e = (_, last-comes left bytes g (Ok k) (subst (NameTaken a (take n room) codes count later) e h), taken-fits k e)

    pub last-stops : (left bytes : List ℕ) (q : ℕ) → Given left bytes room (Last n) → r ≡ Err q → AllTaken a (length codes) later (read_as.Stopped q)
    last-stops left bytes q g e = (_, last-comes left bytes g (Err q) (subst (NameTaken a (take n room) codes count later) e h))

-- ---- a name asked for

-- a name's refusal has no place
chain : (a b c : Bool) (t : List ℕ) → place_with (refuse a 2 otherwise refuse b 1 otherwise refuse c 3) t ≡ 0
unfolding ◌otherwise◌
chain true b c t = refl
chain false true c t = refl
chain false false true t = refl
chain false false false t = refl

name-place : (name t : List ℕ) → place_with (name_refusal name) t ≡ 0
unfolding name_refusal
name-place name t = chain (ltb 16 (length name)) (not (first_letter name)) (not (all_digits (drop 1 name))) t

pub name-stops : (t name : List ℕ) (a : Arrangement) {x : Result ℕ ℕ} (r : ℕ) → x ≡ coded (name_refusal name) (name_code a name) → x ≡ Err r → Err (record { refusal = r; place = 0 }) ≡ asked_name t name
unfolding asked_name asked
name-stops t name a r e f = let k = as-refusal (name_refusal name) (name_code a name) r (sym e ∙ f) in go r k.0 k.1
  where
    go : (q : ℕ) → name_refusal name ≡ q → (q ≡ 0 → ⊥) → Err (record { refusal = q; place = 0 }) ≡ asked_name t name
    go zero i j = absurd (j refl)
    go (suc q) i j =
        ap (λ (p : ℕ). Err (record { refusal = suc q; place = p })) (sym (name-place name t) ∙ ap (λ (y : ℕ). place_with y t) i)
        ∙ sym (ap (λ (y : ℕ). asked y t (name_code (text_arrangement t) name)) (stops (name_refusal name) (text_refusal t) (λ z. j (sym i ∙ z)) ∙ i))

module _ (t name : List ℕ) (a : Arrangement) (o : Own t a) (e : name_refusal name ≡ 0) where
  abbrev code : ℕ
  code = name_code a name

  is-code : is_code code ≡ true
  is-code = named-code a o.arranged name e

  own-asked : asked (ask_refusal t code) t code ≡ asked_name t name
  unfolding asked_name ask_refusal asked
  own-asked = go (text_refusal t) refl
    where
      go : (q : ℕ) → text_refusal t ≡ q → asked (ask_refusal t code) t code ≡ asked_name t name
      go zero i =
          let own = o.own i in
          ap (λ (y : ℕ). asked y t code)
          (passes _ (code-passes code is-code)
          ∙ passes _ i
          ∙ ap (λ (b : Arrangement). refuse (not (is_of b code)) 14) (sym own)
          ∙ ap (λ (b : Bool). refuse (not b) 14) (named_in a o.arranged name e))
          ∙ ap (λ (b : Arrangement). asked 0 t (name_code b name)) own
          ∙ sym (ap (λ (y : ℕ). asked y t (name_code (text_arrangement t) name)) (passes _ e ∙ i))
      go (suc q) i =
          ap (λ (y : ℕ). asked y t code) (passes _ (code-passes code is-code) ∙ stops (text_refusal t) _ (λ z. omega arith) ∙ i)
          ∙ sym (ap (λ (y : ℕ). asked y t (name_code (text_arrangement t) name)) (passes _ e ∙ i))

pub name-asked :
    (t name : List ℕ) (a : Arrangement) (c : ℕ) {x : Result ℕ ℕ} → Own t a → x ≡ coded (name_refusal name) (name_code a name) → x ≡ Ok c →
    asked (ask_refusal t c) t c ≡ asked_name t name
name-asked t name a c o e f =
    let k = as_code (name_refusal name) (name_code a name) c (sym e ∙ f) in
    ap (λ (y : ℕ). asked (ask_refusal t y) t y) (sym k.1) ∙ own-asked t name a o k.0

-- ---- what is handed on

-- what waits has its room
pub waits-fit : (codes out : List ℕ) (room : Option ℕ) → NamesIn codes out room → waits room ≤ length out
waits-fit codes out (Some end) w = w.fits
waits-fit codes out None w = omega arith

module _ (t codes : List ℕ) {r : Result ℕ Refused} (e : r ≡ listed (listing_refusal t (length codes)) t) where
  pub list_written :
      (n : ℕ) (later out : List ℕ) (room : Option ℕ) (waiting : ℕ) → r ≡ Ok n → later ≡ given (listing_refusal t (length codes)) (codes_in t codes) codes →
      NamesIn (take n later) out room → waiting ≡ waits room → ListWritten (listing_refusal t (length codes)) t out waiting
  list_written n later out room waiting f g w z =
      subst (λ (q : ℕ). ListWritten q t out waiting) (sym (listed-allowed t codes e n f))
      (room, subst (λ (l : List ℕ). NamesIn l out room) (listed-taken t codes e n later f g) w, z)

  pub list-refused :
      (q p : ℕ) {out later : List ℕ} {end : ℕ} → r ≡ Err (record { refusal = q; place = p }) → Put 0 (number_line q) out later end → end ≤ length out → ListWritten (listing_refusal t (length codes)) t later end
  list-refused q p {later = later} {end} f w h =
      let k = listed-refused t codes e q p f in
      subst (λ (x : ℕ). ListWritten x t later end) (sym k.0) (line q k.1 (put-taken w h))
    where
      line : (x : ℕ) → (x ≡ 0 → ⊥) → take end later ≡ number_line x → ListWritten x t later end
      line zero n z = absurd (n refl)
      line (suc x) n z = z

pub read_fits : (a : Arrangement) (room : ℕ) (codes : List ℕ) (n : ℕ) {r : NamesRead} → AllTaken a room codes r → r ≡ read_as.Count n → n ≤ length codes
read_fits a room codes n h e = (subst (AllTaken a room codes) e h).2

-- the text of what is held is that of all names
text-all :
    (f : Form) (codes held : List ℕ) (room : ℕ) (text : List ℕ) (r : Text) → Holds f.arrangement codes held → TextWritten f held room text r → TextWritten f codes room text r
text-all f codes held room text (Length m) p w = (w.0 ∙ sym (text-alike p (asks_for f.version f.depth)), w.1)
text-all f codes held room text (text-as.Refused m) p w = (refused-alike p f.version f.depth room ∙ w.0, w.1)
text-all f codes held room text text-as.None p w = absurd w

-- the text of the names read, by what was read
pub names-written :
    (f : Form) (room : ℕ) (codes text : List ℕ) (n : ℕ) {q : NamesRead} (r : Text) → IsArrangement f.arrangement → AllTaken f.arrangement (length codes) codes q →
    q ≡ read_as.Count n → TextWritten f (take n codes) room text r → NamesText f codes q room text r
names-written f room codes text n r g h e w =
    let t = subst (AllTaken f.arrangement (length codes) codes) e h in
    subst (λ (x : NamesRead). NamesText f codes x room text r) (sym e)
    (t.0, t.1, text-all f t.0 (take n codes) room text r (names-held f.arrangement g (length codes) t.0 (take n codes) t.1) w)

module _ (f : Form) (room : ℕ) (codes text : List ℕ) {q : NamesRead} where
  pub none-stopped : (m : ℕ) → q ≡ read_as.Stopped m → NamesText f codes q room text text-as.None
  none-stopped m e = subst (λ (x : NamesRead). NamesText f codes x room text text-as.None) (sym e) refl

  pub none-failed : q ≡ read_as.Failed → NamesText f codes q room text text-as.None
  none-failed e = subst (λ (x : NamesRead). NamesText f codes x room text text-as.None) (sym e) refl

-- a text that stands there has its room
pub names-text-length : (f : Form) (codes : List ℕ) (q : NamesRead) (room : ℕ) (text : List ℕ) (n : ℕ) {r : Text} → NamesText f codes q room text r → r ≡ Length n → n ≤ length text
names-text-length f codes (read_as.Count m) room text n h e = (subst (NamesText f codes (read_as.Count m) room text) e h).2.1
names-text-length f codes (read_as.Stopped m) room text n h e = let z : Length n ≡ text-as.None = sym e ∙ h in let k : ◌≡◌ {A = ℕ} 0 1 = cc in absurd (omega arith)
names-text-length f codes read_as.Failed room text n h e = let z : Length n ≡ text-as.None = sym e ∙ h in let k : ◌≡◌ {A = ℕ} 0 1 = cc in absurd (omega arith)
