-- A sheet read part by part: the bytes gone over are some bytes and the part at hand. Assumes nothing.
use mathlib.Core.Path.{◌≡◌, refl, sym, ap, subst, ◌∙◌}
use mathlib.Core.Bool.{Bool, true, false, ◌||◌, ◌&&◌, not, cond}
use mathlib.Core.List.{List, [], ◌++◌}
use Prim.Native.Nat.{ℕ, zero, suc, ◌+◌, ◌-◌, ◌*◌, ◌%◌, ◌≤◌, ◌<◌}
use native.Mathlib.Omega.{arith}
use lib.ListN.{length, take, drop, length-append, length-drop}
use lib.Seq.{length-take-le}
use lib.Dec.{ltb, leb}
use borrow.Author.Tests.{ltb-false}
use Rattle.reading.specs.TextReading.{is_text, body_start}
use Rattle.reader.specs.Check.{text_refusal, place_with}
use Rattle.sheet.specs.declared.Standing.{Standing}
use Rattle.sheet.specs.declared.Judged.{Judged}
use Rattle.sheet.specs.declared.Judged.TheVariants.{Right, Wrong, Refused}
use Rattle.sheet.specs.Sheet.{records_of}
use Rattle.sheet.specs.Parts.{start_at, told_of, Behind, ours_in, GoesOver}
use Rattle.sheet.proofs.Laws.Parts.{lead-most, behind-start, behind-part, behind-told, wrong_stays}
use Rattle.sheet_parts.specs.Printed.{Judges, JudgesText}

-- some bytes of whole records lie behind, and no wrong record
pub record Reads (t : List ℕ) (x : Standing) : Type 0 where
  pub bytes : List ℕ
  pub whole : length bytes % 40 ≡ 0
  pub behind : Behind t bytes x
  pub right : x.wrong ≡ false

pub reads-start : (t : List ℕ) {body : ℕ} → is_text t ≡ true → body ≡ body_start t → Reads t (start_at body)
reads-start t e h = record { bytes = []; whole = refl; behind = behind-start t e h; right = refl }

-- a sheet that cannot be read is empty
pub unreadable :
    (t room : List ℕ) {body : ℕ} {x : Standing} {r : Judged} → is_text t ≡ true → body ≡ body_start t → 0 < length room → x ≡ start_at body → r ≡ told_of t x → Judges t room r
unreadable t room e h l f g =
    record {
      earlier = [];
      count = 0;
      whole = refl;
      fits = omega arith;
      told = g ∙ ap (told_of t) f ∙ behind-told (behind-start t e h);
      settled = λ z. absurd (omega arith);
    }

module _ {t : List ℕ} {x y : Standing} (room : List ℕ) (count : ℕ) (w : Reads t x) (l : count ≤ length room) (g : GoesOver t (take count room) x y) where
  pub behind-all : Behind t (w.bytes ++ take count room) y
  behind-all = behind-part w.behind g w.whole

  -- where the part fills its room, whole records lie behind it
  whole-all : length room % 40 ≡ 0 → count ≡ length room → length (w.bytes ++ take count room) % 40 ≡ 0
  whole-all m e =
      rest (length w.bytes) count (length (w.bytes ++ take count room)) (omega (arith, length-append w.bytes (take count room), length-take-le count room l)) w.whole
      (ap (λ (n : ℕ). n % 40) e ∙ m)
    where
      rest : (i j k : ℕ) → k ≡ i + j → i % 40 ≡ 0 → j % 40 ≡ 0 → k % 40 ≡ 0
      rest i j k f p q = omega arith

  -- a wrong record was met
  pub stops-wrong : {r : Judged} → length room % 40 ≡ 0 → y.wrong ≡ true → r ≡ told_of t y → Judges t room r
  stops-wrong {r} m e f =
      record {
        earlier = w.bytes;
        count = count;
        whole = w.whole;
        fits = l;
        told = f ∙ behind-told behind-all;
        settled = λ z rest. wrong_stays rest behind-all e (whole-all m z) ∙ sym (f ∙ named);
      }
    where
      named : told_of t y ≡ Wrong y.records
      named = ap (λ (b : Bool). cond (not b && leb (length (records_of t)) y.records) Right (Wrong y.records)) e

  -- the sheet ends
  pub stops_end : {r : Judged} → count < length room → r ≡ told_of t y → Judges t room r
  stops_end h f =
      record { earlier = w.bytes; count = count; whole = w.whole; fits = l; told = f ∙ behind-told behind-all; settled = λ z. absurd (omega arith) }

  module _ (h : length room ≤ count) (m : length room % 40 ≡ 0) (e : y.wrong ≡ false) where
    pub reads_on : Reads t y
    reads_on = record { bytes = w.bytes ++ take count room; whole = whole-all m (omega arith); behind = behind-all; right = e }

    -- records of the text lie behind that did not before
    pub reads_more : 0 < length room → (x.records < y.records) × (y.records ≤ length (records_of t))
    reads_more k =
        let part : List ℕ = take count room in
        let o : ℕ = ours_in t x.records part in
        let a : y.records ≡ x.records + o = g.records ∙ ap (λ (b : Bool). x.records + cond b 0 o) w.right in
        let b : ltb (40 * o) (length part) ≡ false = sym (ap (λ (c : Bool). c || ltb (40 * o) (length part)) w.right) ∙ sym g.wrong ∙ e in
        let c : length part ≤ 40 * o = ltb-false (40 * o) (length part) b in
        let n : length part ≡ count = length-take-le count room l in
        let d : o ≤ length (records_of t) - x.records =
        subst (λ (i : ℕ). o ≤ i) (length-drop x.records (records_of t)) (lead-most (drop x.records (records_of t)) part) in
        (omega arith, omega arith)

-- the text's refusal
pub text-judged : {room : List ℕ} {r : Judged} (t : List ℕ) → text_refusal t ≡ 0 → Judges t room r → JudgesText (text_refusal t) t room r
text-judged {room} {r} t e j = subst (λ (q : ℕ). JudgesText q t room r) (sym e) j

pub text-not-judged : {q p : ℕ} (t room : List ℕ) → text_refusal t ≡ q → (q ≡ 0 → ⊥) → p ≡ place_with q t → JudgesText (text_refusal t) t room (Refused q p)
text-not-judged {q} {p} t room e n f = subst (λ (i : ℕ). JudgesText i t room (Refused q p)) (sym e) (go q n f)
  where
    go : (i : ℕ) → (i ≡ 0 → ⊥) → p ≡ place_with i t → JudgesText i t room (Refused i p)
    go zero h k = absurd (h refl)
    go (suc i) h k = ap (Refused (suc i)) k
