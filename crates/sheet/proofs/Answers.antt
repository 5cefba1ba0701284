-- The answers of `check` and `write`: a refusal leaves the lent bytes as they were. Assumes nothing.
use Rattle.std.specs.Prelude.{Err, Ok}
use mathlib.Core.Path.{◌≡◌, refl, sym, ap, ◌∙◌}
use mathlib.Core.Bool.{Bool, true, false, ◌||◌, cond}
use mathlib.Core.List.{List}
use Prim.Native.Nat.{ℕ, zero, suc, ◌+◌, ◌*◌, ◌/◌, ◌≤◌, ◌<◌}
use native.Mathlib.Omega.{arith}
use lib.ListN.{length}
use lib.Seq.{take_all}
use lib.Dec.{ltb, leb}
use borrow.Author.Tests.{lt-ltb, le-ltb}
use Rattle.logic.specs.Lent.{in_front}
use Rattle.logic.specs.Refusal.{refuse, given}
use Rattle.logic.specs.Laws.Refusal.{stops, passes}
use Rattle.reading.specs.declared.Profile.{Profile}
use Rattle.reader.specs.Check.{text_refusal, place_with}
use Rattle.reader.specs.Laws.Answer.{TextChecked, TextRefused}
use Rattle.sheet.specs.declared.Record.{Record}
use Rattle.sheet.specs.declared.Standing.{Standing}
use Rattle.sheet.specs.declared.Judged.{Judged}
use Rattle.sheet.specs.declared.Judged.TheVariants as judged-as
use Rattle.sheet.specs.Sheet.{records_of, joined, sheet_of, sheet_refusal, sheet_in, written}
use Rattle.sheet.specs.Verdict.{verdict, judged, judged_of}
use Rattle.sheet.specs.Parts.{StandsAt, start_at, told_of, ours_in, GoesOver, next_records, PartPut}
use Rattle.sheet.specs.Internal.Compared.{PartCompared}
use Rattle.sheet.proofs.Laws.Bytes.{length-joined}
use Rattle.sheet.proofs.Laws.Stands.{length-records}

-- ---- a part gone over

module _ {t : List ℕ} (part : List ℕ) (x : Standing) where
  pub over-wrong : StandsAt t x → x.wrong ≡ true → GoesOver t part x x
  over-wrong s e =
      let l : ℕ = ours_in t x.records part in
      let z : x.records + cond x.wrong 0 l ≡ x.records + 0 = ap (λ (c : Bool). x.records + cond c 0 l) e in
      record {
        records = omega arith;
        wrong = e ∙ sym (ap (λ (c : Bool). c || ltb (40 * l) (length part)) e);
        stands = s;
      }

  pub over-right : {y : Standing} → x.wrong ≡ false → PartCompared t part x y → GoesOver t part x y
  over-right e p =
      let l : ℕ = ours_in t x.records part in
      record {
        records = p.records ∙ sym (ap (λ (c : Bool). x.records + cond c 0 l) e);
        wrong = p.wrong ∙ sym (ap (λ (c : Bool). c || ltb (40 * l) (length part)) e);
        stands = p.stands;
      }

-- ---- the verdict

module _ (t : List ℕ) (x : Standing) where
  pub wrong-met : x.wrong ≡ true → judged-as.Wrong x.records ≡ told_of t x
  wrong-met e = rw e

  module _ {q : Bool} (e : x.wrong ≡ false) (f : q ≡ leb (length (records_of t)) x.records) where
    pub all-met : q ≡ true → judged-as.Right ≡ told_of t x
    all-met h = rw (e, sym f ∙ h)

    pub one-missing : q ≡ false → judged-as.Wrong x.records ≡ told_of t x
    one-missing h = rw (e, sym f ∙ h)

pub judged-text : {t : List ℕ} {p : Profile} {n s c z b : ℕ} {y : Judged} (sheet : List ℕ) → TextChecked t p n s c z b → y ≡ verdict t sheet → y ≡ judged_of t sheet
unfolding judged_of
judged-text {t} sheet r e = e ∙ sym (ap (λ (q : ℕ). judged q t sheet) r.allowed)

pub judged-refused : {t : List ℕ} {r p : ℕ} (sheet : List ℕ) → TextRefused t r p → judged-as.Refused r p ≡ judged_of t sheet
unfolding judged_of
judged-refused {t} {r} {p} sheet u = go r u.refusal u.some u.place
  where
    go : (q : ℕ) → text_refusal t ≡ q → (q ≡ 0 → ⊥) → p ≡ place_with q t → judged-as.Refused q p ≡ judged (text_refusal t) t sheet
    go zero e h k = absurd (h refl)
    go (suc q) e h k = ap (judged-as.Refused (suc q)) k ∙ sym (ap (λ (m : ℕ). judged m t sheet) e)

-- ---- writing

module _ {t : List ℕ} {p : Profile} {n s c z b : ℕ} (r : TextChecked t p n s c z b) where
  counted : length (records_of t) ≡ c
  counted = length-records t ∙ sym r.count

  pub sheet-long : length (sheet_of t) ≡ 40 * c
  unfolding sheet_of
  sheet-long = length-joined (records_of t) ∙ ap (λ (i : ℕ). 40 * i) counted

  pub short : (room : ℕ) → room / 40 < c → sheet_refusal t room ≡ 8
  unfolding sheet_refusal
  short room h = passes _ r.allowed ∙ ap (λ (b : Bool). refuse b 8) (lt-ltb room (length (sheet_of t)) (omega (arith, sheet-long)))

  pub enough : (room : ℕ) → c ≤ room / 40 → sheet_refusal t room ≡ 0
  unfolding sheet_refusal
  enough room h = passes _ r.allowed ∙ ap (λ (b : Bool). refuse b 8) (le-ltb room (length (sheet_of t)) (omega (arith, sheet-long)))

  -- one part holds the whole sheet
  pub in_one : {x y : Standing} {body : ℕ} (lent later : List ℕ) → x ≡ start_at body → PartPut t x lent later y → c ≤ length lent / 40 → later ≡ sheet_in t lent
  unfolding sheet_in sheet_of
  in_one {x} lent later e q h =
      let k : next_records t x.records (length lent) ≡ records_of t =
      ap (λ (y : Standing). next_records t y.records (length lent)) e ∙ take_all (length lent / 40) (records_of t) (omega (arith, counted)) in
      q.memory ∙ ap (λ (rs : List Record). in_front (joined rs) lent) k

pub unread : {t : List ℕ} {r p : ℕ} (room : ℕ) → TextRefused t r p → sheet_refusal t room ≡ r
unfolding sheet_refusal
unread room u = stops _ _ (λ z. u.some (sym u.refusal ∙ z)) ∙ u.refusal

pub nothing_written : {q r p : ℕ} (t x b : List ℕ) → q ≡ r → (r ≡ 0 → ⊥) → p ≡ place_with r t → (Err (record { refusal = r; place = p }) ≡ written q t) × (b ≡ given q x b)
unfolding written given
nothing_written {r = zero} t x b e h k = absurd (h refl)
nothing_written {r = suc r} t x b e h k = (ap (λ (p : ℕ). Err (record { refusal = suc r; place = p })) k ∙ sym (ap (λ (y : ℕ). written y t) e), sym (ap (λ (y : ℕ). given y x b) e))

pub all-written : {q c : ℕ} {y x : List ℕ} (t b : List ℕ) → q ≡ 0 → c ≡ length (sheet_of t) → y ≡ x → (Ok c ≡ written q t) × (y ≡ given q x b)
unfolding written given
all-written {x = x} t b e h k = (ap Ok h ∙ sym (ap (λ (a : ℕ). written a t) e), k ∙ sym (ap (λ (a : ℕ). given a x b) e))
