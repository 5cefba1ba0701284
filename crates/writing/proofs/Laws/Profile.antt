-- When writing refuses with 2, 10 and 15 (02, W-208): 15 exactly where a good list and a profile are asked for, and no accepted text of that heading has the
-- ground of the list. Assumes nothing.
use Rattle.std.specs.Prelude.{◌≡◌, ◌↔◌, ◌⊎◌, Bool, true, false, not, cond, List, map, ℕ, ◌≤◌, ◌<◌, ltb, eqb}
use Rattle.std.proofs.Common.{sym, ap, ◌∙◌, arith}
use Rattle.std.proofs.Math.Logic.{⊎_elim}
use borrow.Author.Tests.{ltb-true, ltb-false, not-true, not-false}
use Rattle.logic.specs.Laws.Bools.{clash, refuted}
use Rattle.logic.specs.Refusal.{refuse, ◌otherwise◌}
use Rattle.logic.specs.Laws.Refusal.{passes, stops, both, either, allowed}
use Rattle.cell.specs.declared.Arrangement.{Arrangement}
use Rattle.cell.specs.Cell.{IsArrangement, arrangement_refusal}
use Rattle.cell.proofs.Laws.Cell.{is-arrangement, arrangement-is}
use Rattle.code.specs.Code.{cell_of}
use Rattle.reading.specs.declared.Profile.TheVariants.{Full, Handheld}
use Rattle.reading.specs.Text.{IsProfile}
use Rattle.reading.specs.Written.{keeps}
use Rattle.reading.proofs.Laws.Written.{TextOf, keeps-exactly}
use Rattle.writing.specs.Write.{all_codes, GoodList, codes_refusal, asks_for, is_version, fit_refusal, write_refusal}
use Rattle.writing.proofs.Laws.List.{codes-cells, good-list, list-good, not-four}
use Rattle.writing.specs.Internal.Asked.{asked_refusal}
use Rattle.writing.proofs.Internal.AskedLaws.{behind, own, versions, asked-first, asked-two, asked-ten, asked-list}
use Rattle.writing.proofs.Internal.AskedLaws.{fit-fifteen, codes-other, fit-other, not_five, asked-fifteen, fifteen-fit}

-- a good list and a profile are asked for: 5, 2, 4, 10, 14 and 11 do not apply
pub record Asked (version depth : ℕ) (a : Arrangement) (codes : List ℕ) : Type 0 where
  pub arranged : IsArrangement a
  pub deep : depth ≤ 15
  pub versioned : (version ≡ 1) ⊎ (version ≡ 2)
  pub good : GoodList a codes

is-profile : (depth : ℕ) (b : Bool) → depth ≤ 15 → IsProfile (cond b Full (Handheld depth))
is-profile depth true h = tt
is-profile depth false h = h

module _ (version depth : ℕ) (a : Arrangement) (codes : List ℕ) (room : ℕ) where
  -- "2 also for an asked depth above 15, at version 1 too"
  pub two-exactly : (write_refusal version depth a codes room ≡ 2) ↔ (IsArrangement a × (15 < depth))
  unfolding write_refusal
  two-exactly = (to, from)
    where
      late : refuse (not (all_codes codes)) 4 otherwise refuse (not (is_version version)) 10 otherwise codes_refusal a codes otherwise fit_refusal (asks_for version depth) a codes room ≡ 2 → ⊥
      late e =
          let k = behind (not (all_codes codes)) 3 _ (λ z. omega arith) e in
          let m = behind (not (is_version version)) 9 _ (λ z. omega arith) k.1 in
          ⊎_elim (codes-other a codes (λ z. omega arith) (λ z. omega arith) (λ z. omega arith))
          (λ q. fit-other a codes (asks_for version depth) room (λ z. omega arith) (λ z. omega arith) (λ z. omega arith) q.1)
          (either (codes_refusal a codes) _ m.1)

      to : write_refusal version depth a codes room ≡ 2 → IsArrangement a × (15 < depth)
      to e = let k = not_five a _ (λ z. omega arith) e in (k.0, ltb-true 15 depth (own (ltb 15 depth) _ late k.1))

      from : IsArrangement a × (15 < depth) → write_refusal version depth a codes room ≡ 2
      from h =
          let e = asked-two version depth a codes (arrangement-is h.0) h.1 in
          asked-first version depth a codes room ∙ stops (asked_refusal version depth a codes) _ (λ z. omega arith) ∙ e

  -- "10 now means neither 1 nor 2, asked of the writer too"
  pub ten-exactly :
      (write_refusal version depth a codes room ≡ 10) ↔
      (IsArrangement a × (depth ≤ 15) × (all_codes codes ≡ true) × ((version ≡ 1) ⊎ (version ≡ 2) → ⊥))
  unfolding write_refusal
  ten-exactly = (to, from)
    where
      late : codes_refusal a codes otherwise fit_refusal (asks_for version depth) a codes room ≡ 10 → ⊥
      late e =
          ⊎_elim (codes-other a codes (λ z. omega arith) (λ z. omega arith) (λ z. omega arith))
          (λ q. fit-other a codes (asks_for version depth) room (λ z. omega arith) (λ z. omega arith) (λ z. omega arith) q.1)
          (either (codes_refusal a codes) _ e)

      to : write_refusal version depth a codes room ≡ 10 → IsArrangement a × (depth ≤ 15) × (all_codes codes ≡ true) × ((version ≡ 1) ⊎ (version ≡ 2) → ⊥)
      to e =
          let k = not_five a _ (λ z. omega arith) e in
          let d = behind (ltb 15 depth) 1 _ (λ z. omega arith) k.1 in
          let c = behind (not (all_codes codes)) 3 _ (λ z. omega arith) d.1 in
          let v : is_version version ≡ false = not-true (is_version version) (own (not (is_version version)) _ late c.1) in
          (k.0, ltb-false 15 depth d.0, not-false (all_codes codes) c.0, (λ h. clash (sym ((versions version).1 h) ∙ v)))

      from : IsArrangement a × (depth ≤ 15) × (all_codes codes ≡ true) × ((version ≡ 1) ⊎ (version ≡ 2) → ⊥) → write_refusal version depth a codes room ≡ 10
      from h =
          let v : is_version version ≡ false = refuted (is_version version) (λ t. h.3 ((versions version).0 t)) in
          let e = asked-ten version depth a codes (arrangement-is h.0) h.1 (not-four a codes h.2) v in
          asked-first version depth a codes room ∙ stops (asked_refusal version depth a codes) _ (λ z. omega arith) ∙ e

  pub asked-exactly : (asked_refusal version depth a codes ≡ 0) ↔ Asked version depth a codes
  unfolding asked_refusal
  asked-exactly = (to, from)
    where
      to : asked_refusal version depth a codes ≡ 0 → Asked version depth a codes
      to e =
          let k = both (arrangement_refusal a) _ e in
          let d = both (refuse (ltb 15 depth) 2) _ k.1 in
          let c = both (refuse (not (all_codes codes)) 4) _ d.1 in
          let v = both (refuse (not (is_version version)) 10) (codes_refusal a codes) c.1 in
          record {
            arranged = is-arrangement k.0;
            deep = ltb-false 15 depth (allowed 1 _ d.0);
            versioned = (versions version).0 (not-false (is_version version) (allowed 9 _ v.0));
            good = good-list a codes v.1;
          }

      from : Asked version depth a codes → asked_refusal version depth a codes ≡ 0
      from h =
          asked-list version depth a codes (arrangement-is h.arranged) h.deep (not-four a codes h.good.coded) ((versions version).1 h.versioned) ∙ list-good a codes h.good

  -- "15, list outside the profile, after 11": no accepted text of that heading has its ground
  pub fifteen-exactly :
      (write_refusal version depth a codes room ≡ 15) ↔
      (Asked version depth a codes × (TextOf (asks_for version depth) a.north a.south (map cell_of codes) → ⊥))
  fifteen-exactly = (to, from)
    where
      kept : Asked version depth a codes →
          (keeps (asks_for version depth) (map cell_of codes) ≡ true) ↔ TextOf (asks_for version depth) a.north a.south (map cell_of codes)
      kept h =
          keeps-exactly (asks_for version depth) a.north a.south (map cell_of codes) (is-profile depth (eqb version 1) h.deep) h.arranged.northern
          h.arranged.southern (codes-cells codes h.good.coded)

      to : write_refusal version depth a codes room ≡ 15 → Asked version depth a codes × (TextOf (asks_for version depth) a.north a.south (map cell_of codes) → ⊥)
      to e =
          ⊎_elim (λ h. absurd (asked-fifteen a codes version depth h))
          (λ h.
          let q = asked-exactly.0 h.0 in
          (q, (λ t. clash (sym ((kept q).1 t) ∙ not-true (keeps (asks_for version depth) (map cell_of codes)) (fifteen-fit a codes (asks_for version depth) room h.1)))))
          (either (asked_refusal version depth a codes) _ (sym (asked-first version depth a codes room) ∙ e))

      from : Asked version depth a codes × (TextOf (asks_for version depth) a.north a.south (map cell_of codes) → ⊥) → write_refusal version depth a codes room ≡ 15
      from h =
          asked-first version depth a codes room ∙ passes _ (asked-exactly.1 h.0)
          ∙ fit-fifteen (asks_for version depth) a codes room
          (ap not (refuted (keeps (asks_for version depth) (map cell_of codes)) (λ t. h.1 ((kept h.0).0 t))))
