-- Adding a cell to a text (01 "The coverage text", "Refusal numbers"), over what jgv_coverage_add answers and leaves in lent memory: the first refusal
-- that applies, and an accepted text of the same heading whose ground is the old one and the cell's. Assumes nothing.
use Rattle.std.specs.Prelude.{◌≡◌, ◌↔◌, Bool, true, not, cond, List, [], ◌∷◌, ◌++◌, map, ltb, Err, Ok, Result}
use Rattle.std.proofs.Math.Path.{refl, ap, ap₂, subst}
use Rattle.std.proofs.Common.{sym, ◌∙◌, inl, ⊎_elim, arith, length-take-le}
use Prim.Native.Nat.{ℕ, zero, suc, ◌≤◌, ◌<◌}
use Rattle.std.proofs.Math.ListN.{length, take, drop}
use Rattle.std.proofs.Math.Seq.{take-append_seam}
use Rattle.reading.specs.declared.Refused.{Refused}
use Rattle.reader.specs.declared.Checked.{Checked}
use borrow.Author.Tests.{le-ltb, ltb-false, not-false, ne_eqb}
use Rattle.logic.specs.Refusal.{refuse, ◌otherwise◌, given}
use Rattle.logic.specs.Laws.Bools.{clash}
use Rattle.logic.specs.Laws.Order.{lt-or}
use Rattle.logic.specs.Laws.Refusal.{both, passes, allowed, given-value, either, other}
use Rattle.cell.specs.declared.Cell.{Cell}
use Rattle.ternary.specs.Digits.{value}
use Rattle.ternary.specs.Weave.{row_in, column_in}
use Rattle.code.specs.Code.{cell_code_at, cell_code, cell_coded, is_cell_code, code_at, code_of, cell_of, arrangement_of, is_code, is_of, digits_of, code_refusal}
use Rattle.code.proofs.Laws.Code.{a-code, code-passes, code-is-cell}
use Rattle.code.proofs.Laws.Exact.{NoCell}
use Rattle.name.specs.Name.{name_code}
use Rattle.reading.specs.Ground.{cell_named, whole_cells, SameGround}
use Rattle.reading.specs.Heading.{lead}
use Rattle.reading.specs.Parse.{parse}
use Rattle.reading.specs.Place.{place_of}
use Rattle.reading.specs.Scan.{scan}
use Rattle.reading.specs.Prefix.{numbers_of}
use Rattle.reading.specs.Written.{built, written_text, fitting}
use Rattle.reading.specs.Text.{heading_length, heading, Accepted}
use Rattle.reading.specs.TextReading.{nodes_of, profile_of, north_of, south_of, text_arrangement, is_text, read_text, body_start}
use Rattle.reading.proofs.Laws.TextReading.{reads-own, body-start}
use Rattle.reading.proofs.Laws.Written.{TextOf}
use Rattle.reader.specs.Check.{WrongVersion, other_version, text_refusal, place_with, checked_of}
use Rattle.reader.specs.Laws.Check.{grammar-place}
use Rattle.asking.specs.Ask.{AllCovered, ask_refusal}
use Rattle.adding.specs.Add.{cells_with, text_with, keeps_with, size_refusal, with_refusal, add_refusal, added, placed, place_in, length_in}
use Rattle.adding.proofs.Laws.Add.{keeps-with, with-reads, with-text, with-ground, placed-rest, placed-none, placed-place}
use Rattle.entries.specs.declared.AddAnswer.{AddAnswer}
use Rattle.entries.specs.Entries.{arrangement}
use Rattle.entries.specs.Texts.{check_numbers, add_numbers}
use Rattle.entries.specs.Order.{Chain, order, order_in_writing, numbers, in_order, NoneOf, FirstOf}
use Rattle.entries.specs.Refusals.{text_tests, ask_tests, add_tests}
use Rattle.entries.proofs.Laws.Order.{Decides, last, then, lt-decides, not-decides, none-exactly}
use Rattle.entries.proofs.Laws.First.{cell-of, version, grammar, passed, missed, code-first, headed}
use Rattle.entries.proofs.Laws.Texts.{check-accepts}

-- a number that the first does not give is that of the second, and the other way round
otherwise-later : {n : ℕ} (r q : ℕ) → (r ≡ n → ⊥) → r otherwise q ≡ n → q ≡ n
otherwise-later r q h e = ⊎_elim (λ k. absurd (h k)) (λ k. k.1) (either r q e)

otherwise-sooner : {n : ℕ} (r q : ℕ) → (q ≡ n → ⊥) → r otherwise q ≡ n → r ≡ n
otherwise-sooner r q h e = ⊎_elim (λ k. k) (λ k. absurd (h k.1)) (either r q e)

otherwise-next : (r q p : ℕ) → (r otherwise q) otherwise p ≡ r otherwise (q otherwise p)
unfolding ◌otherwise◌
otherwise-next zero q p = refl
otherwise-next (suc r) q p = refl

module _ (bytes : List ℕ) (end code : ℕ) where
  abbrev t : List ℕ
  t = take end bytes

  abbrev c : Cell
  c = cell_of code

  -- what the entry answers
  abbrev pub add_answer : AddAnswer
  add_answer = add_numbers (added (add_refusal bytes end code) t code)

  pub add-refusal : add_answer.refusal ≡ add_refusal bytes end code
  unfolding added
  add-refusal = go (add_refusal bytes end code)
    where
      go : (r : ℕ) → (add_numbers (added r t code)).refusal ≡ r
      go zero = refl
      go (suc r) = refl

  -- ---- the first refusal that applies

  -- of bytes that are all lent and not too many, as many as are said
  module _ (f : NoCell code → ⊥) (g : 65536 < end → ⊥) (h : length bytes < end → ⊥) where
    coded : is_code code ≡ true
    coded = missed (is_code code) (cell-of code) f

    lent : end ≤ length bytes
    lent = ⊎_elim (λ k. absurd (h k)) (λ k. k) (lt-or (length bytes) end)

    short : length t ≤ 65536
    short = ⊎_elim (λ k. absurd (g k)) (λ k. omega (arith, length-take-le end bytes lent)) (lt-or 65536 end)

    -- 10, 9 and 14 as in asking
    rest-is :
        ask_refusal t code otherwise with_refusal t c (length bytes) ≡
        refuse (other_version t) 10 otherwise
        refuse (not (is_text t)) 9 otherwise
        refuse (not (is_of (text_arrangement t) code)) 14 otherwise
        with_refusal t c (length bytes)
    unfolding ask_refusal text_refusal
    rest-is =
        let q : ℕ = refuse (not (is_of (text_arrangement t) code)) 14 in
        let w : ℕ = with_refusal t c (length bytes) in
        ap (λ (r : ℕ). r otherwise w)
        (passes _ (code-passes code coded)
        ∙ ap (λ (r : ℕ). r otherwise q) (passes _ (ap (λ (b : Bool). refuse b 13) (le-ltb 65536 (length t) short))))
        ∙ otherwise-next (refuse (other_version t) 10 otherwise refuse (not (is_text t)) 9) q w
        ∙ otherwise-next (refuse (other_version t) 10) (refuse (not (is_text t)) 9) (q otherwise w)

    in-profile : ((Accepted t → ⊥) → ⊥) → Decides (keeps_with t c) (TextOf (profile_of t) (north_of t) (south_of t) (cells_with t c))
    in-profile n =
        let k = keeps-with t (passed (grammar t) n) c (code-is-cell code coded) in
        record { holds = k.0; fails = λ e a. clash (sym (k.1 a) ∙ e) }

    heads : (WrongVersion t → ⊥) → ((Accepted t → ⊥) → ⊥) → NoneOf (text_tests t)
    heads v n = ((λ k. omega (arith, short)), (v, (n, tt)))

  pub add-first : FirstOf (add_tests bytes end code) add_answer.refusal
  unfolding add_refusal with_refusal size_refusal
  add-first =
      subst (FirstOf (add_tests bytes end code)) (sym add-refusal)
      (then (code-first code) refl
      (λ f. then (last 12 (lt-decides 65536 end)) refl
      (λ g. then (last 7 (lt-decides (length bytes) end)) refl
      (λ h. subst (FirstOf _) (sym (rest-is f.0 g.0 h.0))
      (then (last 9 (version t)) refl
      (λ v. then (last 8 (not-decides (grammar t))) refl
      (λ n. then (last 13 (not-decides (headed t code (heads f.0 g.0 h.0 v.0 n.0)))) refl
      (λ _. then (last 14 (not-decides (in-profile f.0 g.0 h.0 n.0))) refl
      (λ _. then (last 12 (lt-decides 65536 (length (text_with t c)))) refl (λ _. last 7 (lt-decides (length bytes) (length (text_with t c)))))))))))))

  -- a length is answered exactly where none of them applies
  pub add_none : (add_answer.refusal ≡ 0) ↔ NoneOf (add_tests bytes end code)
  add_none = none-exactly add-first refl

  -- "Order where several apply". Of the code and of the bytes that are said to be the text: 4, 13 and 8, in 01's order
  abbrev order-numbers : List ℕ
  order-numbers = numbers (add_tests bytes end code)

  pub in-order-lent : in_order order (take 3 order-numbers) ≡ true
  unfolding in_order
  in-order-lent = refl

  -- but for that 8, the first are those of asking the text
  pub in-order-asking : take 2 order-numbers ++ take 3 (drop 3 order-numbers) ≡ numbers (ask_tests t code)
  in-order-asking = refl

  -- from 10 on they are in the order of writing: 13 "is judged on the text", here of the text with the cell, and comes "last but for 8"
  pub in-order-adding : in_order order_in_writing (drop 3 order-numbers) ≡ true
  unfolding in_order
  in-order-adding = refl

  -- ---- what is left in lent memory: all of it, and as much as the answer says

  abbrev pub lent_bytes : List ℕ
  lent_bytes = placed (add_refusal bytes end code) (text_with t c) bytes

  abbrev pub added_bytes : List ℕ
  added_bytes = take add_answer.length lent_bytes

  -- the numbers of the answer
  length-in : add_answer.length ≡ length_in (added (add_refusal bytes end code) t code)
  length-in = go (added (add_refusal bytes end code) t code)
    where
      go : (r : Result ℕ Refused) → (add_numbers r).length ≡ length_in r
      go (Ok n) = refl
      go (Err e) = refl

  place-in : add_answer.place ≡ place_with (add_refusal bytes end code) t
  place-in = go (added (add_refusal bytes end code) t code) ∙ placed-place t code bytes (add_refusal bytes end code)
    where
      go : (r : Result ℕ Refused) → (add_numbers r).place ≡ place_in r
      go (Ok n) = refl
      go (Err e) = refl

  -- "an answer changes only its own length": the bytes behind it are what they were
  pub add-rest : drop add_answer.length lent_bytes ≡ drop add_answer.length bytes
  add-rest = subst (λ (n : ℕ). drop n lent_bytes ≡ drop n bytes) (sym length-in) (placed-rest t code bytes (add_refusal bytes end code))

  -- "A refusal changes no lent byte", and beside it no length is answered
  pub add-refused : (add_answer.refusal ≡ 0 → ⊥) → (add_answer.length ≡ 0) × (lent_bytes ≡ bytes)
  add-refused h = let k = placed-none t code bytes (add_refusal bytes end code) (λ e. h (add-refusal ∙ e)) in (length-in ∙ k.0, k.1)

  -- 9 is given for the text alone
  with-nine : with_refusal t c (length bytes) ≡ 9 → ⊥
  unfolding with_refusal size_refusal
  with-nine h =
      let n : ℕ = length (text_with t c) in
      let i : refuse (ltb 65536 n) 13 otherwise refuse (ltb (length bytes) n) 8 ≡ 9 = otherwise-later _ _ (other (not (keeps_with t c)) 15 8 (λ z. omega arith)) h in
      let j : refuse (ltb (length bytes) n) 8 ≡ 9 = otherwise-later _ _ (other (ltb 65536 n) 13 8 (λ z. omega arith)) i in
      other (ltb (length bytes) n) 8 8 (λ z. omega arith) j

  code-nine : code_refusal code ≡ 9 → ⊥
  unfolding code_refusal
  code-nine = other (not (is_code code)) 4 8 (λ z. omega arith)

  text-nine : add_refusal bytes end code ≡ 9 → text_refusal t ≡ 9
  unfolding add_refusal ask_refusal
  text-nine e =
      let a = otherwise-later _ _ code-nine e in
      let b = otherwise-later _ _ (other (ltb 65536 end) 13 8 (λ z. omega arith)) a in
      let d = otherwise-later _ _ (other (ltb (length bytes) end) 8 8 (λ z. omega arith)) b in
      let f = otherwise-later _ _ code-nine (otherwise-sooner _ _ with-nine d) in
      otherwise-sooner _ _ (other (not (is_of (text_arrangement t) code)) 14 8 (λ z. omega arith)) f

  -- "For 9 the place is ..": the one that checking answers of these bytes; 0 beside any other number
  pub add-place : (add_answer.refusal ≡ 9 → add_answer.place ≡ (check_numbers (checked_of t)).place) × ((add_answer.refusal ≡ 9 → ⊥) → add_answer.place ≡ 0)
  add-place = (
    λ e.
        let r : add_refusal bytes end code ≡ 9 = sym add-refusal ∙ e in
        place-in ∙ ap (λ (n : ℕ). place_with n t) r ∙ sym (ap (λ (x : Result Checked Refused). (check_numbers x).place) (grammar-place t (text-nine r)).0),
    λ h. place-in ∙ ap (λ (b : Bool). cond b (place_of t) 0) (ne_eqb (add_refusal bytes end code) 9 (λ e. h (add-refusal ∙ e))),
  )

  module _ (e : add_answer.refusal ≡ 0) where
    none : add_refusal bytes end code ≡ 0
    none = sym add-refusal ∙ e

    pub added-text : added_bytes ≡ text_with t c
    unfolding added placed
    added-text =
        ap₂ take (ap (λ (r : ℕ). (add_numbers (added r t code)).length) none) (given-value (text_with t c ++ drop (length (text_with t c)) bytes) bytes none)
        ∙ take-append_seam (text_with t c) (drop (length (text_with t c)) bytes)

    -- behind 4, behind 13 and 8, behind 10, 9 and 14
    asks : ask_refusal t code ≡ 0
    unfolding add_refusal
    asks = (both _ _ (both _ _ (both _ _ (both _ _ none).1).1).1).0

    is-cell : is_code code ≡ true
    unfolding add_refusal
    is-cell = a-code code (both _ _ none).0

    text : is_text t ≡ true
    unfolding ask_refusal text_refusal
    text = let r = (both _ _ (both _ _ asks).1).0 in not-false (is_text t) (allowed 8 _ (both _ _ (both _ _ r).1).1)

    fits : with_refusal t c (length bytes) ≡ 0
    unfolding add_refusal
    fits = (both _ _ (both _ _ (both _ _ (both _ _ none).1).1).1).1

    keeps : keeps_with t c ≡ true
    unfolding with_refusal
    keeps = not-false (keeps_with t c) (allowed 14 _ (both _ _ fits).0)

    small : length (text_with t c) ≤ 65536
    unfolding with_refusal size_refusal
    small = ltb-false 65536 (length (text_with t c)) (allowed 12 _ (both _ _ (both _ _ fits).1).0)

    -- it is accepted
    pub added-accepted : (check_numbers (checked_of added_bytes)).refusal ≡ 0
    added-accepted =
        rw added-text
        ((check-accepts (text_with t c)).1
        (small, (profile_of t, north_of t, south_of t, _, with-reads t text c (code-is-cell code is-cell) keeps)))

    -- its heading is the text's, in all its bytes
    pub added-heading : take (body_start added_bytes) added_bytes ≡ take (body_start t) t
    added-heading =
        rw added-text
        ((body-start (with-reads t text c (code-is-cell code is-cell) keeps)).0 ∙ sym (body-start (reads-own t text)).0)

    -- its ground is the text's and the cell's
    pub added-ground : SameGround (c ∷ whole_cells (nodes_of t)) (whole_cells (nodes_of added_bytes))
    added-ground = rw added-text (with-ground t text c (code-is-cell code is-cell) keeps)

    -- so the cell is covered
    pub added-covered : AllCovered (whole_cells (nodes_of added_bytes)) c
    added-covered y f i = (added-ground y f).0 (inl i)

-- ---- as a table of bytes: the lent bytes, how many of them are said to be the text, and a code; refusal, place and length, and all lent bytes then.
-- Nothing of a heading is taken from a definition

pub data Addition : Type 0 where
  addition : (bytes : List ℕ) (end code : ℕ) (numbers after : List ℕ) → Addition

-- the code of a name at (1, 2), and at (2, 1)
abbrev at-12 : List ℕ → ℕ
at-12 name = name_code (arrangement 1 2) name

abbrev at-21 : List ℕ → ℕ
at-21 name = name_code (arrangement 2 1) name

unfoldable pub added_as : Addition → List ℕ
added_as (addition bytes end code numbers after) =
    let a = add_answer bytes end code in a.refusal ∷ a.place ∷ a.length ∷ lent_bytes bytes end code

unfoldable pub addition_said : Addition → List ℕ
addition_said (addition bytes end code numbers after) = numbers ++ after

pub additions : List Addition
additions =
    -- one cell more: the byte behind it is left
    addition (67 ∷ 86 ∷ 82 ∷ 0 ∷ 1 ∷ 49 ∷ 50 ∷ 79 ∷ 7 ∷ 7 ∷ 7 ∷ 7 ∷ 7 ∷ []) 8 (at-12 (80 ∷ 48 ∷ [])) (0 ∷ 0 ∷ 12 ∷ []) (67 ∷ 86 ∷ 82 ∷ 0 ∷ 1 ∷ 49 ∷ 50 ∷ 79 ∷ 80 ∷ 40 ∷ 48 ∷ 41 ∷ 7 ∷ []) ∷
    -- room for that and no more
    addition (67 ∷ 86 ∷ 82 ∷ 0 ∷ 1 ∷ 49 ∷ 50 ∷ 79 ∷ 7 ∷ 7 ∷ 7 ∷ 7 ∷ []) 8 (at-12 (80 ∷ 48 ∷ [])) (0 ∷ 0 ∷ 12 ∷ []) (67 ∷ 86 ∷ 82 ∷ 0 ∷ 1 ∷ 49 ∷ 50 ∷ 79 ∷ 80 ∷ 40 ∷ 48 ∷ 41 ∷ []) ∷
    -- a byte too little
    addition (67 ∷ 86 ∷ 82 ∷ 0 ∷ 1 ∷ 49 ∷ 50 ∷ 79 ∷ 7 ∷ 7 ∷ 7 ∷ []) 8 (at-12 (80 ∷ 48 ∷ [])) (8 ∷ 0 ∷ 0 ∷ []) (67 ∷ 86 ∷ 82 ∷ 0 ∷ 1 ∷ 49 ∷ 50 ∷ 79 ∷ 7 ∷ 7 ∷ 7 ∷ []) ∷
    -- nine whole siblings are the whole cell: the bytes behind it are left
    addition (67 ∷ 86 ∷ 82 ∷ 0 ∷ 1 ∷ 49 ∷ 50 ∷ 80 ∷ 40 ∷ 48 ∷ 49 ∷ 50 ∷ 51 ∷ 52 ∷ 53 ∷ 54 ∷ 55 ∷ 41 ∷ 7 ∷ []) 18 (at-12 (80 ∷ 56 ∷ [])) (0 ∷ 0 ∷ 8 ∷ [])
    (67 ∷ 86 ∷ 82 ∷ 0 ∷ 1 ∷ 49 ∷ 50 ∷ 80 ∷ 40 ∷ 48 ∷ 49 ∷ 50 ∷ 51 ∷ 52 ∷ 53 ∷ 54 ∷ 55 ∷ 41 ∷ 7 ∷ []) ∷
    -- a list gives way
    addition (67 ∷ 86 ∷ 82 ∷ 0 ∷ 1 ∷ 49 ∷ 50 ∷ 80 ∷ 40 ∷ 48 ∷ 40 ∷ 49 ∷ 50 ∷ 41 ∷ 51 ∷ 41 ∷ []) 16 (at-12 (80 ∷ 48 ∷ [])) (0 ∷ 0 ∷ 12 ∷ [])
    (67 ∷ 86 ∷ 82 ∷ 0 ∷ 1 ∷ 49 ∷ 50 ∷ 80 ∷ 40 ∷ 48 ∷ 51 ∷ 41 ∷ 50 ∷ 41 ∷ 51 ∷ 41 ∷ []) ∷
    -- covered already
    addition (67 ∷ 86 ∷ 82 ∷ 0 ∷ 1 ∷ 49 ∷ 50 ∷ 80 ∷ 40 ∷ 52 ∷ 41 ∷ 7 ∷ []) 11 (at-12 (80 ∷ 52 ∷ 49 ∷ [])) (0 ∷ 0 ∷ 11 ∷ []) (67 ∷ 86 ∷ 82 ∷ 0 ∷ 1 ∷ 49 ∷ 50 ∷ 80 ∷ 40 ∷ 52 ∷ 41 ∷ 7 ∷ []) ∷
    -- version 2, depth 1
    addition (67 ∷ 86 ∷ 82 ∷ 0 ∷ 2 ∷ 49 ∷ 50 ∷ 98 ∷ 80 ∷ 40 ∷ 51 ∷ 41 ∷ 7 ∷ []) 12 (at-12 (80 ∷ 52 ∷ [])) (0 ∷ 0 ∷ 13 ∷ []) (67 ∷ 86 ∷ 82 ∷ 0 ∷ 2 ∷ 49 ∷ 50 ∷ 98 ∷ 80 ∷ 40 ∷ 51 ∷ 52 ∷ 41 ∷ []) ∷
    -- deeper than 1
    addition (67 ∷ 86 ∷ 82 ∷ 0 ∷ 2 ∷ 49 ∷ 50 ∷ 98 ∷ 80 ∷ 40 ∷ 51 ∷ 41 ∷ 7 ∷ []) 12 (at-12 (80 ∷ 52 ∷ 49 ∷ [])) (15 ∷ 0 ∷ 0 ∷ []) (67 ∷ 86 ∷ 82 ∷ 0 ∷ 2 ∷ 49 ∷ 50 ∷ 98 ∷ 80 ∷ 40 ∷ 51 ∷ 41 ∷ 7 ∷ []) ∷
    -- deeper, but covered
    addition (67 ∷ 86 ∷ 82 ∷ 0 ∷ 2 ∷ 49 ∷ 50 ∷ 98 ∷ 80 ∷ 40 ∷ 51 ∷ 41 ∷ 7 ∷ []) 12 (at-12 (80 ∷ 51 ∷ 49 ∷ [])) (0 ∷ 0 ∷ 12 ∷ []) (67 ∷ 86 ∷ 82 ∷ 0 ∷ 2 ∷ 49 ∷ 50 ∷ 98 ∷ 80 ∷ 40 ∷ 51 ∷ 41 ∷ 7 ∷ []) ∷
    -- a part of N, and no room for it: 15 before 8
    addition (67 ∷ 86 ∷ 82 ∷ 0 ∷ 2 ∷ 49 ∷ 50 ∷ 112 ∷ []) 8 (at-12 (78 ∷ 48 ∷ [])) (15 ∷ 0 ∷ 0 ∷ []) (67 ∷ 86 ∷ 82 ∷ 0 ∷ 2 ∷ 49 ∷ 50 ∷ 112 ∷ []) ∷
    -- deeper than 1, and of another arrangement: 14 before 15
    addition (67 ∷ 86 ∷ 82 ∷ 0 ∷ 2 ∷ 49 ∷ 50 ∷ 98 ∷ 80 ∷ 40 ∷ 51 ∷ 41 ∷ 7 ∷ []) 12 (at-21 (80 ∷ 52 ∷ 49 ∷ [])) (14 ∷ 0 ∷ 0 ∷ []) (67 ∷ 86 ∷ 82 ∷ 0 ∷ 2 ∷ 49 ∷ 50 ∷ 98 ∷ 80 ∷ 40 ∷ 51 ∷ 41 ∷ 7 ∷ []) ∷
    -- `P()`: 9 at its place
    addition (67 ∷ 86 ∷ 82 ∷ 0 ∷ 1 ∷ 49 ∷ 50 ∷ 80 ∷ 40 ∷ 41 ∷ 7 ∷ []) 10 (at-12 (80 ∷ 48 ∷ [])) (9 ∷ 9 ∷ 0 ∷ []) (67 ∷ 86 ∷ 82 ∷ 0 ∷ 1 ∷ 49 ∷ 50 ∷ 80 ∷ 40 ∷ 41 ∷ 7 ∷ []) ∷
    -- and a code of another arrangement: 9 before 14
    addition (67 ∷ 86 ∷ 82 ∷ 0 ∷ 1 ∷ 49 ∷ 50 ∷ 80 ∷ 40 ∷ 41 ∷ 7 ∷ []) 10 (at-21 (80 ∷ 48 ∷ [])) (9 ∷ 9 ∷ 0 ∷ []) (67 ∷ 86 ∷ 82 ∷ 0 ∷ 1 ∷ 49 ∷ 50 ∷ 80 ∷ 40 ∷ 41 ∷ 7 ∷ []) ∷
    -- version 3
    addition (67 ∷ 86 ∷ 82 ∷ 0 ∷ 3 ∷ 49 ∷ 50 ∷ 7 ∷ []) 7 (at-12 (80 ∷ 48 ∷ [])) (10 ∷ 0 ∷ 0 ∷ []) (67 ∷ 86 ∷ 82 ∷ 0 ∷ 3 ∷ 49 ∷ 50 ∷ 7 ∷ []) ∷
    -- more bytes said than lent: 8 before 9
    addition (67 ∷ 86 ∷ 82 ∷ 0 ∷ 1 ∷ 49 ∷ 50 ∷ 80 ∷ 40 ∷ 41 ∷ []) 11 (at-12 (80 ∷ 48 ∷ [])) (8 ∷ 0 ∷ 0 ∷ []) (67 ∷ 86 ∷ 82 ∷ 0 ∷ 1 ∷ 49 ∷ 50 ∷ 80 ∷ 40 ∷ 41 ∷ []) ∷
    -- and more than a text has: 13 before 8
    addition (67 ∷ 86 ∷ 82 ∷ 0 ∷ 1 ∷ 49 ∷ 50 ∷ 80 ∷ 40 ∷ 41 ∷ []) 65537 (at-12 (80 ∷ 48 ∷ [])) (13 ∷ 0 ∷ 0 ∷ []) (67 ∷ 86 ∷ 82 ∷ 0 ∷ 1 ∷ 49 ∷ 50 ∷ 80 ∷ 40 ∷ 41 ∷ []) ∷
    -- and no cell's code: 4 before all
    addition (67 ∷ 86 ∷ 82 ∷ 0 ∷ 1 ∷ 49 ∷ 50 ∷ 80 ∷ 40 ∷ 41 ∷ []) 65537 18446744073709551615 (4 ∷ 0 ∷ 0 ∷ []) (67 ∷ 86 ∷ 82 ∷ 0 ∷ 1 ∷ 49 ∷ 50 ∷ 80 ∷ 40 ∷ 41 ∷ []) ∷
    []

pub texts-added : map added_as additions ≡ map addition_said additions
unfolding additions added_as addition_said ◌otherwise◌ given value row_in column_in code_at cell_code_at cell_code code_of cell_coded cell_of arrangement_of is_cell_code
    is_code is_of code_refusal name_code digits_of numbers_of built written_text fitting ask_refusal text_refusal other_version is_text read_text parse place_of lead scan
    nodes_of profile_of north_of south_of whole_cells cell_named text_with keeps_with size_refusal with_refusal add_refusal added placed
texts-added = refl
