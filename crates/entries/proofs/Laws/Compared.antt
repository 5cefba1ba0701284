-- Comparing over what the entry answers (02, W-205): its refusals in their order, the three listings in lent memory, and the sums that tie up. Assumes
-- nothing.
use Rattle.std.specs.Prelude.{◌≡◌, ◌↔◌, ◌⊎◌, Bool, ◌&&◌, List, [], ◌∷◌, map, eqb, length, take, drop, Result}
use Rattle.std.proofs.Math.Path.{refl, sym, ap, subst}
use Rattle.std.proofs.Common.{ap₂, ◌∙◌, length-take-le}
use Rattle.std.proofs.Math.Logic.{inl, inr, ⊎_elim}
use Rattle.std.proofs.Math.Bool.{true, false}
use Rattle.reading.specs.declared.Refused.{Refused}
use Rattle.comparing.specs.declared.Compared.{Compared}
use Prim.Native.Nat.{ℕ, zero, suc, ◌+◌, ◌<◌}
use Rattle.logic.specs.Lists.{All}
use Rattle.logic.specs.Rise.{Rise}
use Rattle.logic.specs.Refusal.{refuse, ◌otherwise◌, given}
use Rattle.logic.specs.Laws.Refusal.{stops, passes, either, both, given-value}
use Rattle.cell.specs.declared.Cell.{Cell}
use Rattle.code.specs.Code.{cell_of, code_of, arrangement_of}
use Rattle.reading.specs.Ground.{size_sum}
use Rattle.reading.specs.Fewest.{FewestOf}
use Rattle.reading.specs.Text.{Accepted}
use Rattle.reading.specs.TextReading.{nodes_of, north_of, south_of, text_arrangement, is_text}
use Rattle.reading.proofs.Laws.TextReading.{read-text, good-nodes}
use Rattle.reading.proofs.Laws.FewestOf.{one-fewest}
use Rattle.reader.specs.Laws.Demand.{accepted-reads}
use Rattle.reader.specs.Check.{WrongVersion, text_refusal, place_with, answer, checked_of}
use Rattle.comparing.specs.Compare.{OnlyFirst, OnlySecond, InBoth, ThreeLists, shared_codes, arrangements_differ, room_short, compare_refusal, compare_place, compared, with_codes}
use Rattle.comparing.proofs.Laws.Compare.{first_one, second-one, both_one, first-tie, second-tie}
use Rattle.comparing.proofs.Laws.Texts.{first-listed, second-listed, both-listed}
use Rattle.comparing.proofs.Laws.Answer.{AllInFront, listings-given}
use Rattle.entries.specs.declared.CompareAnswer.{CompareAnswer}
use Rattle.entries.specs.Texts.{check_numbers, compare_numbers}
use Rattle.entries.specs.Order.{NoneOf, FirstOf}
use Rattle.entries.specs.Refusals.{text_tests, RoomShort, compare_tests}
use Rattle.entries.proofs.Laws.Order.{Decides, last, then, lt-decides, eq-decides, and-decides, or-decides, not-decides, given-once, none-exactly}
use Rattle.entries.proofs.Laws.First.{passed, text-first, check-refusal, turns-told, digits-tell, of-grammar}
use Rattle.entries.proofs.Laws.Texts.{check-size}

-- ---- what the tests decide

-- the two headings have the same n and s
agree :
    (t u : List ℕ) → NoneOf (text_tests t) → NoneOf (text_tests u) →
    Decides (eqb (north_of t) (north_of u) && eqb (south_of t) (south_of u)) (take 2 (drop 5 t) ≡ take 2 (drop 5 u))
agree t u n m =
    let h = turns-told t n in
    let k = turns-told u m in
    let d = and-decides (eq-decides (north_of t) (north_of u)) (eq-decides (south_of t) (south_of u)) in
    record {
      holds = λ e. let p = d.holds e in h ∙ ap₂ (λ (x y : ℕ). (48 + x) ∷ (48 + y) ∷ []) p.0 p.1 ∙ sym k;
      fails = λ e q. d.fails e (digits-tell (north_of t) (south_of t) (north_of u) (south_of u) (sym h ∙ q ∙ k));
    }

differ : (t u : List ℕ) → NoneOf (text_tests t) → NoneOf (text_tests u) → Decides (arrangements_differ t u) (take 2 (drop 5 t) ≡ take 2 (drop 5 u) → ⊥)
unfolding arrangements_differ
differ t u n m = not-decides (agree t u n m)

-- 8: a room is short
rooms : (lent codes : ThreeLists) → Decides (room_short lent codes) (RoomShort lent codes)
unfolding room_short
rooms lent codes =
    or-decides (lt-decides (length lent.firsts) (length codes.firsts))
    (or-decides (lt-decides (length lent.seconds) (length codes.seconds)) (lt-decides (length lent.boths) (length codes.boths)))

-- what checking answers as the place
check-place : (t : List ℕ) → (check_numbers (checked_of t)).place ≡ place_with (text_refusal t) t
unfolding checked_of
check-place t = go (text_refusal t)
  where
    go : (r : ℕ) → (check_numbers (answer r t)).place ≡ place_with r t
    go zero = refl
    go (suc r) = refl

-- ---- what the entry answers, and what lent memory holds then

module _ (t u : List ℕ) (lent : ThreeLists) where
  abbrev pub compare_answer : CompareAnswer
  compare_answer = compare_numbers (compared (compare_refusal t u lent) t u)

  abbrev pub compared_memory : ThreeLists
  compared_memory = given (compare_refusal t u lent) (with_codes (shared_codes t u) lent) lent

  pub compare-refusal : compare_answer.refusal ≡ compare_refusal t u lent
  unfolding compared
  compare-refusal = go (compare_refusal t u lent)
    where
      go : (r : ℕ) → (compare_numbers (compared r t u)).refusal ≡ r
      go zero = refl
      go (suc r) = refl

  -- the first text's 13, 10, 9, the second's, 14, 8: the first whose condition holds
  pub compare-first : FirstOf (compare_tests t u lent) compare_answer.refusal
  unfolding compare_refusal
  compare-first =
      subst (FirstOf (compare_tests t u lent)) (sym compare-refusal)
      (then (text-first t) refl (λ n. then (text-first u) refl (λ m. then (last 13 (differ t u n m)) refl (λ _. last 7 (rooms lent (shared_codes t u))))))

  -- a text that is read
  abbrev IsRead : List ℕ → Type 0
  IsRead x = (65536 < length x → ⊥) × ((WrongVersion x → ⊥) × Accepted x)

  -- 14: "for differing n or s, after both texts are read in order"
  pub fourteen-compare : (compare_answer.refusal ≡ 14) ↔ (IsRead t × (IsRead u × (take 2 (drop 5 t) ≡ take 2 (drop 5 u) → ⊥)))
  fourteen-compare =
      let k = given-once 13 compare-first refl in (
        (λ e.
            let a = k.0 e in
            let b = a.1.1.1 in
            ((a.0, (a.1.0, of-grammar t a.1.1.0)), ((b.0, (b.1.0, of-grammar u b.1.1.0)), b.1.1.1))),
        (λ a.
            let b = a.0 in
            let c = a.1.0 in
            k.1 (b.0, (b.1.0, ((λ n. n b.1.1), (c.0, (c.1.0, ((λ n. n c.1.1), a.1.1))))))),
      )

  -- 8: "last, if any room is short"
  pub eight-compare :
      (compare_answer.refusal ≡ 8) ↔ (IsRead t × (IsRead u × ((take 2 (drop 5 t) ≡ take 2 (drop 5 u)) × RoomShort lent (shared_codes t u))))
  eight-compare =
      let k = given-once 7 compare-first refl in (
        (λ e.
            let a = k.0 e in
            let b = a.1.1.1 in
            let c = b.1.1.1 in
            let n : NoneOf (text_tests t) = (a.0, (a.1.0, (a.1.1.0, tt))) in
            let m : NoneOf (text_tests u) = (b.0, (b.1.0, (b.1.1.0, tt))) in
            ((a.0, (a.1.0, of-grammar t a.1.1.0)), ((b.0, (b.1.0, of-grammar u b.1.1.0)), (same n m c.0, c.1)))),
        (λ a.
            let b = a.0 in
            let c = a.1.0 in
            let d = a.1.1 in
            k.1 (b.0, (b.1.0, ((λ n. n b.1.1), (c.0, (c.1.0, ((λ n. n c.1.1), ((λ n. n d.0), d.1)))))))),
      )
    where
      same : NoneOf (text_tests t) → NoneOf (text_tests u) → ((take 2 (drop 5 t) ≡ take 2 (drop 5 u) → ⊥) → ⊥) → take 2 (drop 5 t) ≡ take 2 (drop 5 u)
      same n m h = let d = agree t u n m in d.holds (passed d h)

  -- nothing is refused exactly where none of these holds
  pub zero-compare : (compare_answer.refusal ≡ 0) ↔ NoneOf (compare_tests t u lent)
  zero-compare = none-exactly compare-first refl

  -- 13, 10, 9: the first text's, or the second's where the first is read
  pub text-compare :
      (q : ℕ) → (q ≡ 0 → ⊥) → (q ≡ 14 → ⊥) → (q ≡ 8 → ⊥) →
      (compare_answer.refusal ≡ q)
      ↔ (((check_numbers (checked_of t)).refusal ≡ q) ⊎ (((check_numbers (checked_of t)).refusal ≡ 0) × ((check_numbers (checked_of u)).refusal ≡ q)))
  unfolding compare_refusal
  text-compare q n0 n14 n8 = (
    (λ e.
        ⊎_elim (λ h. inl (check-refusal t ∙ h))
        (λ h. ⊎_elim (λ k. inr (check-refusal t ∙ h.0, check-refusal u ∙ k)) (λ k. absurd (others k.1)) (either (text_refusal u) _ h.1))
        (either (text_refusal t) _ (sym compare-refusal ∙ e))),
    (λ h.
        compare-refusal
        ∙ ⊎_elim (λ k. let a = sym (check-refusal t) ∙ k in stops (text_refusal t) _ (λ z. n0 (sym a ∙ z)) ∙ a)
        (λ k.
        let a = sym (check-refusal u) ∙ k.1 in
        passes _ (sym (check-refusal t) ∙ k.0) ∙ stops (text_refusal u) _ (λ z. n0 (sym a ∙ z)) ∙ a)
        h),
  )
    where
      others : refuse (arrangements_differ t u) 14 otherwise refuse (room_short lent (shared_codes t u)) 8 ≡ q → ⊥
      others e =
          ⊎_elim (λ k. one (arrangements_differ t u) 13 (λ z. n14 z) k) (λ k. one (room_short lent (shared_codes t u)) 7 (λ z. n8 z) k.1)
          (either (refuse (arrangements_differ t u) 14) _ e)
        where
          one : (b : Bool) (r : ℕ) → (q ≡ suc r → ⊥) → refuse b (suc r) ≡ q → ⊥
          one true r n k = n (sym k)
          one false r n k = n0 (sym k)

  -- both texts are read where nothing is refused
  read-both : compare_refusal t u lent ≡ 0 → (text_refusal t ≡ 0) × (text_refusal u ≡ 0)
  unfolding compare_refusal
  read-both e = let k = both (text_refusal t) _ e in (k.0, (both (text_refusal u) _ k.1).0)

  -- "For 9 the place is ..", in the text that is refused
  pub compare-place : compare_answer.place ≡ given (check_numbers (checked_of t)).refusal (check_numbers (checked_of u)).place (check_numbers (checked_of t)).place
  unfolding compared compare_place
  compare-place =
      go (compare_refusal t u lent) refl
      ∙ sym (λ i. given (check-refusal t i) (check-place u i) (check-place t i))
    where
      none : compare_refusal t u lent ≡ 0 → 0 ≡ compare_place t u
      none e =
          let k = read-both e in
          sym (given-value (place_with (text_refusal u) u) (place_with (text_refusal t) t) k.0 ∙ ap (λ (r : ℕ). place_with r u) k.1)

      go : (r : ℕ) → compare_refusal t u lent ≡ r → (compare_numbers (compared r t u)).place ≡ compare_place t u
      go zero e = none e
      go (suc r) e = refl

  -- "A refusal changes no lent byte", and every other number is 0
  pub compare-refused :
      (compare_answer.refusal ≡ 0 → ⊥) →
      (compared_memory ≡ lent) × (compare_answer.first_cells ≡ 0) × (compare_answer.second_cells ≡ 0) × (compare_answer.both_cells ≡ 0)
      × (compare_answer.first_size ≡ 0) × (compare_answer.second_size ≡ 0) × (compare_answer.both_size ≡ 0)
  unfolding compared given
  compare-refused n = go (compare_refusal t u lent) (λ e. n (compare-refusal ∙ e))
    where
      go :
          (r : ℕ) → (r ≡ 0 → ⊥) → let a = compare_numbers (compared r t u) in
          (given r (with_codes (shared_codes t u) lent) lent ≡ lent) × (a.first_cells ≡ 0) × (a.second_cells ≡ 0) × (a.both_cells ≡ 0)
          × (a.first_size ≡ 0) × (a.second_size ≡ 0) × (a.both_size ≡ 0)
      go zero h = absurd (h refl)
      go (suc r) h = (refl, refl, refl, refl, refl, refl, refl)

  -- ---- the listings: so much of lent memory as the entry answers

  abbrev pub first_codes : List ℕ
  first_codes = take compare_answer.first_cells compared_memory.firsts

  abbrev pub second_codes : List ℕ
  second_codes = take compare_answer.second_cells compared_memory.seconds

  abbrev pub both_codes : List ℕ
  both_codes = take compare_answer.both_cells compared_memory.boths

  module _ (e : compare_answer.refusal ≡ 0) where
    none : compare_refusal t u lent ≡ 0
    none = sym compare-refusal ∙ e

    answered : compared (compare_refusal t u lent) t u ≡ compared 0 t u
    answered = ap (λ (r : ℕ). compared r t u) none

    stands : AllInFront (shared_codes t u) lent compared_memory compare_answer.first_cells compare_answer.second_cells compare_answer.both_cells
    unfolding compared
    stands =
        subst (λ (r : Result Compared Refused). let a = compare_numbers r in AllInFront (shared_codes t u) lent compared_memory a.first_cells a.second_cells a.both_cells) (sym answered)
        (listings-given (record { answer = refl; memory = refl }) answered).1

    -- "an answer changes only its own length"
    pub compare-rest :
        (drop compare_answer.first_cells compared_memory.firsts ≡ drop compare_answer.first_cells lent.firsts)
        × (drop compare_answer.second_cells compared_memory.seconds ≡ drop compare_answer.second_cells lent.seconds)
        × (drop compare_answer.both_cells compared_memory.boths ≡ drop compare_answer.both_cells lent.boths)
    compare-rest = (stands.firsts.rest, stands.seconds.rest, stands.boths.rest)

    -- so many codes as are answered stand there
    pub compare-counts :
        (length first_codes ≡ compare_answer.first_cells) × (length second_codes ≡ compare_answer.second_cells) × (length both_codes ≡ compare_answer.both_cells)
    compare-counts = (
      length-take-le _ _ stands.firsts.fit,
      length-take-le _ _ stands.seconds.fit,
      length-take-le _ _ stands.boths.fit,
    )

    is-first : is_text t ≡ true
    is-first = read-text (accepted-reads t (read-both none).0)

    is-second : is_text u ≡ true
    is-second = read-text (accepted-reads u (read-both none).1)

    -- "ground only in the first, only in the second, and in both, each as the fewest cells in rising order", of the first heading's arrangement
    abbrev Listing : (Cell → Type 0) → List ℕ → Type 0
    Listing P codes =
        FewestOf P (map cell_of codes) × Rise codes × All (λ (code : ℕ). arrangement_of code ≡ text_arrangement t) codes
        × (codes ≡ map (code_of (text_arrangement t)) (map cell_of codes))

    pub compare-first-only : Listing (OnlyFirst (nodes_of t) (nodes_of u)) first_codes
    compare-first-only = subst (Listing (OnlyFirst (nodes_of t) (nodes_of u))) (sym stands.firsts.are) (first-listed t u is-first is-second)

    pub compare-second-only : Listing (OnlySecond (nodes_of t) (nodes_of u)) second_codes
    compare-second-only = subst (Listing (OnlySecond (nodes_of t) (nodes_of u))) (sym stands.seconds.are) (second-listed t u is-first is-second)

    pub compare-both : Listing (InBoth (nodes_of t) (nodes_of u)) both_codes
    compare-both = subst (Listing (InBoth (nodes_of t) (nodes_of u))) (sym stands.boths.are) (both-listed t u is-first is-second)

    -- no other list of cells is the fewest of such a ground
    pub compare-one :
        (qs : List Cell) →
        (FewestOf (OnlyFirst (nodes_of t) (nodes_of u)) qs → qs ≡ map cell_of first_codes)
        × (FewestOf (OnlySecond (nodes_of t) (nodes_of u)) qs → qs ≡ map cell_of second_codes) × (FewestOf (InBoth (nodes_of t) (nodes_of u)) qs → qs ≡ map cell_of both_codes)
    compare-one qs = (
      (λ f. one-fewest (OnlyFirst (nodes_of t) (nodes_of u)) qs (map cell_of first_codes) f compare-first-only.0),
      (λ f. one-fewest (OnlySecond (nodes_of t) (nodes_of u)) qs (map cell_of second_codes) f compare-second-only.0),
      (λ f. one-fewest (InBoth (nodes_of t) (nodes_of u)) qs (map cell_of both_codes) f compare-both.0),
    )

    -- the sizes are the sums of those of the listed cells
    pub compare-sizes :
        (compare_answer.first_size ≡ size_sum (map cell_of first_codes)) × (compare_answer.second_size ≡ size_sum (map cell_of second_codes))
        × (compare_answer.both_size ≡ size_sum (map cell_of both_codes))
    unfolding compared
    compare-sizes =
        let a = nodes_of t in
        let b = nodes_of u in
        let g = good-nodes t is-first in
        let h = good-nodes u is-second in (
          ap (λ (r : Result Compared Refused). (compare_numbers r).first_size) answered ∙ sym (ap size_sum (first_one a b g h (map cell_of first_codes) compare-first-only.0)),
          ap (λ (r : Result Compared Refused). (compare_numbers r).second_size) answered ∙ sym (ap size_sum (second-one a b g h (map cell_of second_codes) compare-second-only.0)),
          ap (λ (r : Result Compared Refused). (compare_numbers r).both_size) answered ∙ sym (ap size_sum (both_one a b g h (map cell_of both_codes) compare-both.0)),
        )

    -- "first only plus both is the first text's sum, and the same for the second": the sums that checking answers
    pub compare-ties :
        (compare_answer.first_size + compare_answer.both_size ≡ (check_numbers (checked_of t)).size)
        × (compare_answer.second_size + compare_answer.both_size ≡ (check_numbers (checked_of u)).size)
    unfolding compared
    compare-ties =
        let k = read-both none in
        let g = good-nodes t is-first in
        let h = good-nodes u is-second in (
          ap (λ (r : Result Compared Refused). let a = compare_numbers r in a.first_size + a.both_size) answered ∙ first-tie (nodes_of t) (nodes_of u) g h
              ∙ sym (check-size t (check-refusal t ∙ k.0)),
          ap (λ (r : Result Compared Refused). let a = compare_numbers r in a.second_size + a.both_size) answered ∙ second-tie (nodes_of t) (nodes_of u) g h
              ∙ sym (check-size u (check-refusal u ∙ k.1)),
        )
