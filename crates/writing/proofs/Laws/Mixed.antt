-- 14 is given exactly for a list of codes of which one is of another arrangement than the asked one. Assumes nothing.
use Rattle.std.specs.Prelude.{◌≡◌, ◌↔◌, ◌⊎◌, Bool, ◌&&◌, not, List, [], ◌∷◌, ℕ, ◌≤◌, ltb}
use Rattle.std.proofs.Math.Path.{refl}
use Rattle.std.proofs.Common.{sym, ◌∙◌, inl, inr, arith}
use Rattle.std.proofs.Math.Logic.{⊎_elim}
use Rattle.std.proofs.Math.Bool.{true, false}
use borrow.Author.Tests.{ltb-false, not-true, not-false}
use Rattle.logic.specs.Laws.Bools.{clash}
use Rattle.logic.specs.Refusal.{refuse, ◌otherwise◌}
use Rattle.logic.specs.Laws.Refusal.{stops, passes, either, other, allowed}
use Rattle.cell.specs.declared.Arrangement.{Arrangement}
use Rattle.cell.specs.Cell.{IsArrangement}
use Rattle.cell.proofs.Laws.Cell.{arrangement-is}
use Rattle.code.specs.Code.{is_of}
use Rattle.code.proofs.Laws.Code.{of-arrangement, arrangement-of}
use Rattle.writing.specs.Write.{all_codes, all_of, ordered, Another, codes_refusal, asks_for, is_version, write_refusal}
use Rattle.writing.proofs.Laws.List.{tested, not-four}
use Rattle.writing.specs.Internal.Asked.{asked_refusal}
use Rattle.writing.proofs.Internal.AskedLaws.{behind, versions, asked-first, asked-list, fit-other, not_five}

-- the test fails exactly where one is of another arrangement
others : (a : Arrangement) (codes : List ℕ) → (all_of a codes ≡ false) ↔ Another a codes
unfolding all_of
others a [] = ((λ e. clash e), (λ h. absurd h))
others a (c ∷ cs) = let k = others a cs in (to (is_of a c) refl k.0, from (is_of a c) refl k.1)
  where
    to : (b : Bool) → is_of a c ≡ b → (all_of a cs ≡ false → Another a cs) → (b && all_of a cs) ≡ false → Another a (c ∷ cs)
    to true e f h = inr (f h)
    to false e f h = inl (λ g. clash (sym (arrangement-of a c g) ∙ e))

    from : (b : Bool) → is_of a c ≡ b → (Another a cs → all_of a cs ≡ false) → Another a (c ∷ cs) → (b && all_of a cs) ≡ false
    from true e f (inl h) = absurd (h (of-arrangement a c e))
    from true e f (inr h) = f h
    from false e f h = refl

module _ (a : Arrangement) (codes : List ℕ) where
  list-mixed : codes_refusal a codes ≡ 14 → (all_codes codes ≡ true) × Another a codes
  unfolding codes_refusal
  list-mixed e =
      ⊎_elim (λ h. absurd (other (not (all_codes codes)) 4 13 (λ z. omega arith) h))
      (λ k. (
        not-false (all_codes codes) (allowed 3 _ k.0),
        (others a codes).0 (not-true (all_of a codes) (refused (not (all_of a codes)) (not (ordered codes)) k.1)),
      ))
      (either (refuse (not (all_codes codes)) 4) _ e)
    where
      refused : (b o : Bool) → refuse b 14 otherwise refuse o 11 ≡ 14 → b ≡ true
      refused true o h = refl
      refused false o h = absurd (other o 11 13 (λ z. omega arith) (sym (passes _ refl) ∙ h))

  mixed-list : all_codes codes ≡ true → Another a codes → codes_refusal a codes ≡ 14
  unfolding ◌otherwise◌
  mixed-list t h = tested a codes t ((others a codes).1 h) refl

  -- "14 also for a list .. of another arrangement": whatever the order of the list, its ground, its text's length and the room are
  pub mixed-exactly :
      (version depth room : ℕ) → (write_refusal version depth a codes room ≡ 14) ↔
      (IsArrangement a × (depth ≤ 15) × ((version ≡ 1) ⊎ (version ≡ 2)) × (all_codes codes ≡ true) × Another a codes)
  unfolding write_refusal
  mixed-exactly version depth room = (to, from)
    where
      to : write_refusal version depth a codes room ≡ 14 → IsArrangement a × (depth ≤ 15) × ((version ≡ 1) ⊎ (version ≡ 2)) × (all_codes codes ≡ true) × Another a codes
      to e =
          let k = not_five a _ (λ z. omega arith) e in
          let d = behind (ltb 15 depth) 1 _ (λ z. omega arith) k.1 in
          let c = behind (not (all_codes codes)) 3 _ (λ z. omega arith) d.1 in
          let v = behind (not (is_version version)) 9 _ (λ z. omega arith) c.1 in
          let m = ⊎_elim (λ h. list-mixed h)
          (λ h. absurd (fit-other a codes (asks_for version depth) room (λ z. omega arith) (λ z. omega arith) (λ z. omega arith) h.1))
          (either (codes_refusal a codes) _ v.1) in
          (k.0, ltb-false 15 depth d.0, (versions version).0 (not-false (is_version version) v.0), m.0, m.1)

      from : IsArrangement a × (depth ≤ 15) × ((version ≡ 1) ⊎ (version ≡ 2)) × (all_codes codes ≡ true) × Another a codes → write_refusal version depth a codes room ≡ 14
      from h =
          let e = asked-list version depth a codes (arrangement-is h.0) h.1 (not-four a codes h.3) ((versions version).1 h.2) ∙ mixed-list h.3 h.4 in
          asked-first version depth a codes room ∙ stops (asked_refusal version depth a codes) _ (λ z. omega arith) ∙ e
