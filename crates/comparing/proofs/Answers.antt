-- The answers of comparing, refusal by refusal, and what the lent codes hold then. Assumes nothing.
use Rattle.std.specs.Prelude.{Err, Ok, Result}
use Rattle.reading.specs.declared.Refused.{Refused}
use Rattle.comparing.specs.declared.Compared.{Compared}
use mathlib.Core.Path.{◌≡◌, refl, sym, ap, ap₂, ◌∙◌}
use mathlib.Core.Bool.{Bool, true, false, ◌&&◌, ◌||◌, not}
use mathlib.Core.List.{List, ◌++◌}
use Prim.Native.Nat.{ℕ, zero, suc, ◌+◌, ◌-◌, ◌≤◌}
use native.Mathlib.Omega.{arith}
use lib.ListN.{length, drop, length-map}
use lib.Dec.{eqb, ltb}
use lib.Seq.{sets, sets-eq}
use borrow.Author.Tests.{eq-eqb, ne_eqb, ltb-false}
use Rattle.logic.specs.Lent.{in_front}
use Rattle.logic.specs.Refusal.{refuse, ◌otherwise◌, given}
use Rattle.logic.specs.Laws.Bools.{and_none, or_left, or_right}
use Rattle.logic.specs.Laws.Refusal.{stops, passes, given-value, given-none}
use Rattle.cell.specs.declared.Cell.{Cell}
use Rattle.code.specs.Code.{code_of}
use Rattle.reading.specs.Ground.{size_sum}
use Rattle.reading.specs.TextReading.{nodes_of, north_of, south_of, text_arrangement}
use Rattle.reading.proofs.Laws.TextReading.{good-nodes}
use Rattle.reading.specs.declared.Profile.{Profile}
use Rattle.reader.specs.Check.{text_refusal, place_with}
use Rattle.reader.specs.Laws.Answer.{TextChecked, TextRefused, checked-arrangement}
use Rattle.comparing.specs.declared.Cursor.{Cursor}
use Rattle.comparing.specs.declared.Read.{Read}
use Rattle.comparing.specs.Compare.{first_only, second_only, in_both, ThreeLists, codes_for, shared_codes, with_codes, Compares}
use Rattle.comparing.specs.Compare.{arrangements_differ, room_short, compare_refusal, compare_place, compared}
use Rattle.comparing.proofs.Laws.Compare.{first-tie, second-tie}
use Rattle.comparing.specs.Internal.Found.{WasRead, TextsMeasured, TextsFound, tied_up}

-- ---- refused: nothing is changed

refused-with :
    {t u : List ℕ} {lent : ThreeLists} {r p : ℕ} → compare_refusal t u lent ≡ r → (r ≡ 0 → ⊥) → p ≡ compare_place t u → Compares t u lent lent (Err (record { refusal = r; place = p }))
unfolding compared given
refused-with {r = zero} e h k = absurd (h refl)
refused-with {t = t} {u = u} {lent = lent} {r = suc r} e h k =
    record {
      answer = ap (λ (p : ℕ). Err (record { refusal = suc r; place = p })) k ∙ sym (ap (λ (x : ℕ). compared x t u) e);
      memory = sym (ap (λ (x : ℕ). given x (with_codes (shared_codes t u) lent) lent) e);
    }

pub first-refused : {t u : List ℕ} {lent : ThreeLists} {r p : ℕ} → TextRefused t r p → Compares t u lent lent (Err (record { refusal = r; place = p }))
unfolding compare_refusal compare_place
first-refused {t} {u} {lent} {r} {p} v =
    let n : text_refusal t ≡ 0 → ⊥ = λ z. v.some (sym v.refusal ∙ z) in
    refused-with (stops _ _ n ∙ v.refusal) v.some
    (v.place ∙ ap (λ (x : ℕ). place_with x t) (sym v.refusal) ∙ sym (given-none (text_refusal t) (place_with (text_refusal u) u) (place_with (text_refusal t) t) n))

pub second-refused : {t u : List ℕ} {lent : ThreeLists} {r p : ℕ} → text_refusal t ≡ 0 → TextRefused u r p → Compares t u lent lent (Err (record { refusal = r; place = p }))
unfolding compare_refusal compare_place
second-refused {t} {u} {lent} {r} {p} e v =
    refused-with (passes _ e ∙ stops _ _ (λ z. v.some (sym v.refusal ∙ z)) ∙ v.refusal) v.some
    (v.place ∙ ap (λ (x : ℕ). place_with x u) (sym v.refusal) ∙ sym (given-value (place_with (text_refusal u) u) (place_with (text_refusal t) t) e))

-- ---- both are texts

module _ (t u : List ℕ) (e : text_refusal t ≡ 0) (f : text_refusal u ≡ 0) where
  no_place : 0 ≡ compare_place t u
  unfolding compare_place
  no_place = sym (given-value (place_with (text_refusal u) u) (place_with (text_refusal t) t) e ∙ ap (λ (x : ℕ). place_with x u) f)

  both_read : (lent : ThreeLists) → compare_refusal t u lent ≡ refuse (arrangements_differ t u) 14 otherwise refuse (room_short lent (shared_codes t u)) 8
  unfolding compare_refusal
  both_read lent = passes _ e ∙ passes _ f

  fourteen : {lent : ThreeLists} → arrangements_differ t u ≡ true → Compares t u lent lent (Err (record { refusal = 14; place = 0 }))
  unfolding ◌otherwise◌
  fourteen {lent} d =
      refused-with (both_read lent ∙ ap (λ (x : Bool). refuse x 14 otherwise refuse (room_short lent (shared_codes t u)) 8) d) (λ z. omega arith) no_place

  one-arrangement : (lent : ThreeLists) → arrangements_differ t u ≡ false → compare_refusal t u lent ≡ refuse (room_short lent (shared_codes t u)) 8
  unfolding ◌otherwise◌
  one-arrangement lent d = both_read lent ∙ ap (λ (x : Bool). refuse x 14 otherwise refuse (room_short lent (shared_codes t u)) 8) d

-- what the second heading says, beside the first
module _ {t u : List ℕ} {p : Profile} {n s c z b : ℕ} {one : Read} (v : WasRead t one) (w : TextChecked u p n s c z b) where
  first-north : one.arrangement.north ≡ north_of t
  first-north = ap (λ x. x.north) v.arranged

  first-south : one.arrangement.south ≡ south_of t
  first-south = ap (λ x. x.south) v.arranged

  pub other-north : {lent : ThreeLists} → (one.arrangement.north ≡ n → ⊥) → Compares t u lent lent (Err (record { refusal = 14; place = 0 }))
  unfolding arrangements_differ
  other-north h =
      fourteen t u v.allowed w.allowed
      (ap (λ (x : Bool). not (x && eqb (south_of t) (south_of u))) (ne_eqb (north_of t) (north_of u) (λ i. h (first-north ∙ i ∙ sym w.north))))

  pub other-south : {lent : ThreeLists} → (one.arrangement.south ≡ s → ⊥) → Compares t u lent lent (Err (record { refusal = 14; place = 0 }))
  unfolding arrangements_differ
  other-south h =
      fourteen t u v.allowed w.allowed
      (ap (λ (x : Bool). not (eqb (north_of t) (north_of u) && x)) (ne_eqb (south_of t) (south_of u) (λ i. h (first-south ∙ i ∙ sym w.south)))
      ∙ ap not (and_none (eqb (north_of t) (north_of u))))

  pub same-arrangement : one.arrangement.north ≡ n → one.arrangement.south ≡ s → arrangements_differ t u ≡ false
  unfolding arrangements_differ
  same-arrangement h k =
      ap not
      (ap₂ ◌&&◌ (eq-eqb (north_of t) (north_of u) (sym first-north ∙ h ∙ w.north)) (eq-eqb (south_of t) (south_of u) (sym first-south ∙ k ∙ w.south)))

pub was_read :
    {t : List ℕ} {p : Profile} {n s c z b : ℕ} → TextChecked t p n s c z b →
    WasRead t (record { arrangement = record { north = n; south = s }; size = z; body = b })
was_read r = record { allowed = r.allowed; text = r.text; arranged = checked-arrangement r; size = r.sum; body = r.start }

-- ---- the rooms, and the listings

-- codes that have room stand in front
front : (x vs : List ℕ) {y : List ℕ} → y ≡ sets x 0 vs → length vs ≤ length x → y ≡ in_front vs x
front x vs e h = let k : 0 + length vs ≡ length vs = omega arith in e ∙ sets-eq vs x 0 (omega arith) ∙ ap (λ (n : ℕ). vs ++ drop n x) k

no_less : (a b c x y z : ℕ) → (ltb a x || (ltb b y || ltb c z)) ≡ false → (x ≤ a) × (y ≤ b) × (z ≤ c)
no_less a b c x y z e =
    let f : (ltb b y || ltb c z) ≡ false = or_right (ltb a x) (ltb b y || ltb c z) e in (
      ltb-false a x (or_left (ltb a x) (ltb b y || ltb c z) e),
      ltb-false b y (or_left (ltb b y) (ltb c z) f),
      ltb-false c z (or_right (ltb b y) (ltb c z) f),
    )

-- what the test of the rooms answers
abbrev short : ThreeLists → Cursor → Bool
short lent c = ltb (length lent.firsts) c.firsts || (ltb (length lent.seconds) c.seconds || ltb (length lent.boths) c.boths)

module _ {t u : List ℕ} {one two : Read} {found : Cursor} (v : WasRead t one) (w : WasRead u two) (d : arrangements_differ t u ≡ false) (m : TextsMeasured t u found) where
  rooms : (lent : ThreeLists) → compare_refusal t u lent ≡ refuse (short lent found) 8
  unfolding room_short
  rooms lent =
      one-arrangement t u v.allowed w.allowed lent d
      ∙ sym (λ i.
      refuse
      (ltb (length lent.firsts) (m.firsts i)
      || (ltb (length lent.seconds) (m.seconds i) || ltb (length lent.boths) (m.boths i)))
      8)

  pub room-short : {lent : ThreeLists} {b : Bool} → b ≡ short lent found → b ≡ true → Compares t u lent lent (Err (record { refusal = 8; place = 0 }))
  room-short {lent} e h =
      refused-with (rooms lent ∙ ap (λ (x : Bool). refuse x 8) (sym e ∙ h)) (λ z. omega arith) (no_place t u v.allowed w.allowed)

  -- the sums tie up, so none of the differences is cut off
  pub ties : (size_sum (first_only (nodes_of t) (nodes_of u)) + found.size ≡ one.size) × (size_sum (second_only (nodes_of t) (nodes_of u)) + found.size ≡ two.size)
  ties =
      let g = good-nodes t v.text in
      let h = good-nodes u w.text in
      (omega (arith, first-tie (nodes_of t) (nodes_of u) g h, m.size, v.size), omega (arith, second-tie (nodes_of t) (nodes_of u) g h, m.size, w.size))

  counted : (cells : List Cell) → length (codes_for t cells) ≡ length cells
  unfolding codes_for
  counted cells = length-map cells (code_of (text_arrangement t))

  answered : tied_up found one.size two.size ≡ compared 0 t u
  unfolding compared shared_codes
  answered =
      let a = nodes_of t in
      let b = nodes_of u in
      let s₁ : one.size - found.size ≡ size_sum (first_only a b) = omega (arith, ties.0) in
      let s₂ : two.size - found.size ≡ size_sum (second_only a b) = omega (arith, ties.1) in
      let c₁ : found.firsts ≡ length (first_only a b) = m.firsts ∙ counted (first_only a b) in
      let c₂ : found.seconds ≡ length (second_only a b) = m.seconds ∙ counted (second_only a b) in
      let c₃ : found.boths ≡ length (in_both a b) = m.boths ∙ counted (in_both a b) in
      λ i. Ok (record { first = record { count = c₁ i; size = s₁ i }; second = record { count = c₂ i; size = s₂ i }; both = record { count = c₃ i; size = m.size i } })

  pub all_listed :
      {lent later : ThreeLists} {b : Bool} {end : Cursor} {r : Result Compared Refused} → b ≡ short lent found → b ≡ false → TextsFound t u lent later end →
      r ≡ tied_up found one.size two.size → Compares t u lent later r
  all_listed {lent} {later} e h l q =
      let n : short lent found ≡ false = sym e ∙ h in
      let o = no_less (length lent.firsts) (length lent.seconds) (length lent.boths) found.firsts found.seconds found.boths n in
      let z : compare_refusal t u lent ≡ 0 = rooms lent ∙ ap (λ (x : Bool). refuse x 8) n in
      let f₁ = front lent.firsts (shared_codes t u).firsts l.firsts (omega (arith, o.0, m.firsts)) in
      let f₂ = front lent.seconds (shared_codes t u).seconds l.seconds (omega (arith, o.1, m.seconds)) in
      let f₃ = front lent.boths (shared_codes t u).boths l.boths (omega (arith, o.2, m.boths)) in
      let k : later ≡ with_codes (shared_codes t u) lent = λ i. record { firsts = f₁ i; seconds = f₂ i; boths = f₃ i } in
      record {
        answer = q ∙ answered ∙ sym (ap (λ (x : ℕ). compared x t u) z);
        memory = k ∙ sym (given-value (with_codes (shared_codes t u) lent) lent z);
      }
