-- Neighbour sheets over what the entries answer (02, W-211): refusals, yes and no, the record, our neighbours, and what is written. Assumes nothing.
use Rattle.std.specs.Prelude.{◌≡◌, ◌↔◌, ◌⊎◌, Bool, cond, length, take, get_or, ltb}
use Rattle.std.proofs.Math.Path.{refl, sym, ap, ap₂, subst}
use Rattle.std.proofs.Common.{◌∙◌, arith, le-ltb}
use Rattle.std.proofs.Math.Logic.{inl, inr, ⊎_elim}
use Rattle.std.proofs.Math.Bool.{true, false}
use mathlib.Core.List.{List, [], ◌∷◌, ◌++◌, map}
use Prim.Native.Nat.{ℕ, zero, suc, ◌+◌, ◌*◌, ◌≤◌, ◌<◌}
use Rattle.std.proofs.Math.ListN.{drop, get_or-map}
use Rattle.std.proofs.Math.Seq.{take-append_seam, drop-append_seam}
use Rattle.logic.specs.Lists.{All}
use Rattle.logic.specs.Refusal.{refuse, ◌otherwise◌, given}
use Rattle.logic.specs.Laws.Refusal.{passes, both}
use Rattle.cell.specs.declared.Cell.{Cell}
use Rattle.cell.specs.declared.Arrangement.{Arrangement}
use Rattle.cell.specs.Cell.{IsCell, IsArrangement}
use Rattle.cell.specs.Neighbour.{neighbour_of}
use Rattle.code.specs.Code.{code_of, code_refusal, coded}
use Rattle.code.proofs.Laws.Code.{cell-code, arrangement-code, cell-has-code, code-passes}
use Rattle.reading.specs.Ground.{whole_cells, Cells}
use Rattle.reading.specs.Text.{Accepted}
use Rattle.reading.specs.TextReading.{nodes_of, text_arrangement, is_text}
use Rattle.reading.proofs.Laws.TextReading.{text-arranged}
use Rattle.reader.specs.Check.{WrongVersion, text_refusal, place_with, answer, checked_of}
use Rattle.reader.specs.Laws.Answer.{text-read}
use Rattle.listing.specs.List.{codes_of}
use Rattle.sheet.specs.declared.Record.{Record}
use Rattle.sheet.specs.declared.Judged.{Judged}
use Rattle.sheet.specs.declared.Judged.TheVariants as judged-as
use Rattle.sheet.specs.Sheet.{record_of, records_of, joined, sheet_of, Yes, FirstWrong, sheet_refusal, sheet_in, written}
use Rattle.sheet.specs.Verdict.{leading, same, verdict, judged, judged_of}
use Rattle.sheet.proofs.Laws.Bytes.{length-joined}
use Rattle.sheet.proofs.Laws.Numbers.{number_at, Stand, all-at, text_codes, sheet-stands}
use Rattle.sheet.proofs.Laws.Sheet.{right-same, same-right, wrong_first, yes-exactly, cut_short, written-passes}
use Rattle.sheet.proofs.Laws.Stands.{text-cells, length-records}
use Rattle.entries.specs.declared.CodeAnswer.{CodeAnswer}
use Rattle.entries.specs.declared.SheetAnswer.{SheetAnswer}
use Rattle.entries.specs.declared.SheetLengthAnswer.{SheetLengthAnswer}
use Rattle.entries.specs.Entries.{code_answer, neighbour_code}
use Rattle.entries.specs.Order.{order, numbers, in_order, FirstOf}
use Rattle.entries.specs.Refusals.{text_tests}
use Rattle.entries.specs.Sheets.{sheet_numbers, sheet_length_numbers, sheet_write_tests}
use Rattle.entries.specs.Texts.{check_numbers}
use Rattle.entries.proofs.Laws.Order.{last, then, lt-decides, given-exactly}
use Rattle.entries.proofs.Laws.First.{text-first, check-refusal, of-grammar}
use Rattle.entries.proofs.Laws.Texts.{check-cells}

-- what checking the text answers as the place
check-place : (t : List ℕ) → (check_numbers (checked_of t)).place ≡ place_with (text_refusal t) t
unfolding checked_of
check-place t = go (text_refusal t)
  where
    go : (r : ℕ) → (check_numbers (answer r t)).place ≡ place_with r t
    go zero = refl
    go (suc r) = refl

-- ---- checking

module _ (t b : List ℕ) where
  abbrev pub sheet_answer : SheetAnswer
  sheet_answer = sheet_numbers (judged_of t b)

  -- where the text is read there is a yes or a no
  told-either : (verdict t b ≡ judged-as.Right) ⊎ ((k : ℕ) × (verdict t b ≡ judged-as.Wrong k))
  unfolding verdict
  told-either = go (same b (sheet_of t))
    where
      go :
          (p : Bool) →
          (cond p judged-as.Right (judged-as.Wrong (leading (records_of t) b)) ≡ judged-as.Right)
          ⊎ ((k : ℕ) × (cond p judged-as.Right (judged-as.Wrong (leading (records_of t) b)) ≡ judged-as.Wrong k))
      go true = inl refl
      go false = inr (leading (records_of t) b, refl)

  sheet-refusal : sheet_answer.refusal ≡ text_refusal t
  unfolding judged_of judged
  sheet-refusal = go (text_refusal t)
    where
      go : (r : ℕ) → (sheet_numbers (judged r t b)).refusal ≡ r
      go zero =
          ⊎_elim (λ e. ap (λ (y : Judged). (sheet_numbers y).refusal) e) (λ h. ap (λ (y : Judged). (sheet_numbers y).refusal) h.1) told-either
      go (suc r) = refl

  sheet-place : sheet_answer.place ≡ place_with (text_refusal t) t
  unfolding judged_of judged
  sheet-place = go (text_refusal t)
    where
      go : (r : ℕ) → (sheet_numbers (judged r t b)).place ≡ place_with r t
      go zero = ⊎_elim (λ e. ap (λ (y : Judged). (sheet_numbers y).place) e) (λ h. ap (λ (y : Judged). (sheet_numbers y).place) h.1) told-either
      go (suc r) = refl

  -- "Refusals: those of the text only": the number and the place are those of checking the text
  pub sheet-text : (sheet_answer.refusal ≡ (check_numbers (checked_of t)).refusal) × (sheet_answer.place ≡ (check_numbers (checked_of t)).place)
  sheet-text = (sheet-refusal ∙ sym (check-refusal t), sheet-place ∙ sym (check-place t))

  pub sheet-first : FirstOf (text_tests t) sheet_answer.refusal
  sheet-first = subst (FirstOf (text_tests t)) (sym sheet-refusal) (text-first t)

  -- every other number is 0 beside a refusal
  pub sheet-refused : (sheet_answer.refusal ≡ 0 → ⊥) → (sheet_answer.right ≡ 0) × (sheet_answer.«record» ≡ 0)
  unfolding judged_of judged
  sheet-refused n = go (text_refusal t) (λ e. n (sheet-refusal ∙ e))
    where
      go : (r : ℕ) → (r ≡ 0 → ⊥) → ((sheet_numbers (judged r t b)).right ≡ 0) × ((sheet_numbers (judged r t b)).«record» ≡ 0)
      go zero h = absurd (h refl)
      go (suc r) h = (refl, refl)

  module _ (e : sheet_answer.refusal ≡ 0) where
    is-text : is_text t ≡ true
    is-text = text-read t (sym sheet-refusal ∙ e)

    told : judged_of t b ≡ verdict t b
    unfolding judged_of judged
    told = ap (λ (r : ℕ). judged r t b) (sym sheet-refusal ∙ e)

    yes-told : (sheet_answer.right ≡ 1) ↔ (verdict t b ≡ judged-as.Right)
    yes-told = (
      (λ h. ⊎_elim (λ k. k) (λ k. absurd (no (sym (ap (λ (y : Judged). (sheet_numbers y).right) (told ∙ k.1)) ∙ h))) told-either),
      (λ h. ap (λ (y : Judged). (sheet_numbers y).right) (told ∙ h)),
    )
      where
        no : ◌≡◌ {A = ℕ} 0 1 → ⊥
        no h = omega arith

    -- "Yes exactly when the records stand in rising order, each whole cell has one, no other has any, and all neighbours are right."
    pub sheet-yes : (sheet_answer.right ≡ 1) ↔ Yes t b
    sheet-yes = let y = yes-exactly t b is-text in ((λ h. y.0 (yes-told.0 h)), (λ h. yes-told.1 (y.1 h)))

    -- that is, when the bytes are those of our rules
    pub sheet-same : (sheet_answer.right ≡ 1) ↔ (b ≡ sheet_of t)
    sheet-same = ((λ h. right-same t b (yes-told.0 h)), (λ h. yes-told.1 (same-right t b h)))

    -- on yes there is no record
    pub sheet-zero : sheet_answer.right ≡ 1 → sheet_answer.«record» ≡ 0
    sheet-zero h = ap (λ (y : Judged). (sheet_numbers y).«record») (told ∙ yes-told.0 h)

    -- "A no names, counted from 0, the first record that is not the one our rules put there"; there is no third answer
    pub sheet-no : (sheet_answer.right ≡ 1) ⊎ ((sheet_answer.right ≡ 0) × FirstWrong (sheet_of t) b sheet_answer.«record»)
    sheet-no =
        ⊎_elim (λ h. inl (yes-told.1 h))
        (λ h.
        inr (
          ap (λ (y : Judged). (sheet_numbers y).right) (told ∙ h.1),
          subst (FirstWrong (sheet_of t) b) (sym (ap (λ (y : Judged). (sheet_numbers y).«record») (told ∙ h.1))) (wrong_first t b h.1),
        ))
        told-either

    -- "a missing one at the end is named by the number of records, and a record broken off at the end counts as a wrong one": of a sheet that has the
    -- first n records of ours, and then fewer bytes than a record has
    pub sheet-cut :
        (n : ℕ) (c : List ℕ) → b ≡ joined (take n (records_of t)) ++ c → n ≤ length (records_of t) → length c < 40 →
        (n < length (records_of t)) ⊎ (0 < length c) → (sheet_answer.right ≡ 0) × (sheet_answer.«record» ≡ n)
    sheet-cut n c f h l d =
        let k : judged_of t b ≡ judged-as.Wrong n = told ∙ ap (verdict t) f ∙ cut_short t n c h l d in
        (ap (λ (y : Judged). (sheet_numbers y).right) k, ap (λ (y : Judged). (sheet_numbers y).«record») k)

-- ---- the neighbours are those that `jgv_neighbour` answers

pub record AsAnswered (r : Record) : Type 0 where
  pub up : neighbour_code r.code 0 ≡ record { refusal = 0; code = r.up }
  pub right : neighbour_code r.code 1 ≡ record { refusal = 0; code = r.right }
  pub down : neighbour_code r.code 2 ≡ record { refusal = 0; code = r.down }
  pub left : neighbour_code r.code 3 ≡ record { refusal = 0; code = r.left }

module _ {a : Arrangement} (g : IsArrangement a) where
  answered : (c : Cell) → IsCell c → (d : ℕ) → d < 4 → neighbour_code (code_of a c) d ≡ record { refusal = 0; code = code_of a (neighbour_of a c d) }
  unfolding neighbour_code code_answer coded
  answered c v d l =
      let r : refuse (ltb 3 d) 3 otherwise code_refusal (code_of a c) ≡ 0 =
      passes _ (ap (λ (b : Bool). refuse b 3) (le-ltb 3 d (omega arith))) ∙ code-passes (code_of a c) (cell-has-code g c v) in
      let k = arrangement-code g c v in
      let o = cell-code g c v in
      ap₂ code_answer r (λ i. code_of (k i) (neighbour_of (k i) (o i) d))

  all-answered : (cs : List Cell) → Cells cs → All AsAnswered (map (record_of a) cs)
  unfolding record_of
  all-answered [] v = tt
  all-answered (c ∷ cs) v = (
    record {
      up = answered c v.0 0 (omega arith);
      right = answered c v.0 1 (omega arith);
      down = answered c v.0 2 (omega arith);
      left = answered c v.0 3 (omega arith);
    },
    all-answered cs v.1,
  )

pub sheet-neighbours : (t : List ℕ) → (check_numbers (checked_of t)).refusal ≡ 0 → All AsAnswered (records_of t)
unfolding records_of
sheet-neighbours t e =
    let i = text-read t (sym (check-refusal t) ∙ e) in
    all-answered (text-arranged t i) (whole_cells (nodes_of t)) (text-cells t i).0

-- ---- where each number stands, in bytes: the codes are those that listing gives, and the neighbours those that `jgv_neighbour` answers for them

-- "one record of five 64-bit numbers, low byte first": from a place on a code and its neighbours up, right, down and left
pub record NumbersFrom (b : List ℕ) (at code : ℕ) : Type 0 where
  pub own : number_at b at ≡ code
  pub up : neighbour_code code 0 ≡ record { refusal = 0; code = number_at b (at + 8) }
  pub right : neighbour_code code 1 ≡ record { refusal = 0; code = number_at b (at + 16) }
  pub down : neighbour_code code 2 ≡ record { refusal = 0; code = number_at b (at + 24) }
  pub left : neighbour_code code 3 ≡ record { refusal = 0; code = number_at b (at + 32) }

stood : {b : List ℕ} {at code : ℕ} (r : Record) → r.code ≡ code → Stand b at r → AsAnswered r → NumbersFrom b at code
stood {b} {at} {code} r e s n =
    record {
      own = s.code ∙ e;
      up = answer-is 0 s.up n.up;
      right = answer-is 1 s.right n.right;
      down = answer-is 2 s.down n.down;
      left = answer-is 3 s.left n.left;
    }
  where
    answer-is : (d : ℕ) {x y : ℕ} → x ≡ y → neighbour_code r.code d ≡ record { refusal = 0; code = y } → neighbour_code code d ≡ record { refusal = 0; code = x }
    answer-is d f k = ap (λ (c : ℕ). neighbour_code c d) (sym e) ∙ k ∙ ap (λ (c : ℕ). record { refusal = 0; code = c }) (sym f)

abbrev no_record : Record
no_record = record { code = 0; up = 0; right = 0; down = 0; left = 0 }

-- record k of the sheet of our rules stands from byte 40 k on
ours-from : (t : List ℕ) → (check_numbers (checked_of t)).refusal ≡ 0 → (k : ℕ) → k < (check_numbers (checked_of t)).cells → NumbersFrom (sheet_of t) (40 * k) (get_or (codes_of t) k 0)
ours-from t e k l =
    let i = text-read t (sym (check-refusal t) ∙ e) in
    let h : k < length (records_of t) = omega (arith, length-records t, check-cells t e) in
    stood (get_or (records_of t) k no_record)
    (sym (get_or-map (λ (r : Record). r.code) (records_of t) k no_record) ∙ ap (λ (x : List ℕ). get_or x k 0) (text_codes t))
    (sheet-stands t i no_record k h) (all-at AsAnswered no_record (records_of t) (sheet-neighbours t e) k h)

-- ---- writing

pub sheet-in-order : (t : List ℕ) (room : ℕ) → in_order order (numbers (sheet_write_tests t room)) ≡ true
unfolding in_order
sheet-in-order t room = refl

module _ (t lent : List ℕ) where
  abbrev pub sheet_write_answer : SheetLengthAnswer
  sheet_write_answer = sheet_length_numbers (written (sheet_refusal t (length lent)) t)

  abbrev pub sheet_memory : List ℕ
  sheet_memory = given (sheet_refusal t (length lent)) (sheet_in t lent) lent

  write-refusal : sheet_write_answer.refusal ≡ sheet_refusal t (length lent)
  unfolding written
  write-refusal = go (sheet_refusal t (length lent))
    where
      go : (r : ℕ) → (sheet_length_numbers (written r t)).refusal ≡ r
      go zero = refl
      go (suc r) = refl

  -- the text's 13, 10, 9, then 8: the first whose condition holds
  pub sheet-write-first : FirstOf (sheet_write_tests t (length lent)) sheet_write_answer.refusal
  unfolding sheet_refusal
  sheet-write-first =
      subst (FirstOf (sheet_write_tests t (length lent))) (sym write-refusal)
      (then (text-first t) refl (λ _. last 7 (lt-decides (length lent) (length (sheet_of t)))))

  -- 8: "lent buffer shorter than the answer", a sheet
  pub eight-sheet :
      (sheet_write_answer.refusal ≡ 8)
      ↔ ((65536 < length t → ⊥) × ((WrongVersion t → ⊥) × (Accepted t × (length lent < length (sheet_of t)))))
  eight-sheet =
      let k = given-exactly 7 sheet-write-first refl in (
        (λ e. let a = k.0 e in (a.0, (a.1.0, (of-grammar t a.1.1.0, a.1.1.1)))),
        (λ a. k.1 (a.0, (a.1.0, ((λ n. n a.1.1.0), a.1.1.1)))),
      )

  -- the others are the text's
  pub sheet-write-text : (sheet_write_answer.refusal ≡ 8 → ⊥) → sheet_write_answer.refusal ≡ (check_numbers (checked_of t)).refusal
  unfolding sheet_refusal ◌otherwise◌
  sheet-write-text n =
      write-refusal ∙ go (text_refusal t) (ltb (length lent) (length (sheet_of t))) (λ e. n (write-refusal ∙ e)) ∙ sym (check-refusal t)
    where
      go : (r : ℕ) (p : Bool) → (r otherwise refuse p 8 ≡ 8 → ⊥) → r otherwise refuse p 8 ≡ r
      go zero true h = absurd (h refl)
      go zero false h = refl
      go (suc r) p h = refl

  -- and the place is the text's
  pub sheet-write-place : sheet_write_answer.place ≡ (check_numbers (checked_of t)).place
  unfolding sheet_refusal written ◌otherwise◌
  sheet-write-place = go (text_refusal t) (ltb (length lent) (length (sheet_of t))) ∙ sym (check-place t)
    where
      go : (r : ℕ) (p : Bool) → (sheet_length_numbers (written (r otherwise refuse p 8) t)).place ≡ place_with r t
      go zero true = refl
      go zero false = refl
      go (suc r) p = refl

  -- "A refusal changes no lent byte", and the length is 0
  pub sheet-write-refused : (sheet_write_answer.refusal ≡ 0 → ⊥) → (sheet_memory ≡ lent) × (sheet_write_answer.length ≡ 0)
  unfolding written given
  sheet-write-refused n = go (sheet_refusal t (length lent)) (λ e. n (write-refusal ∙ e))
    where
      go : (r : ℕ) → (r ≡ 0 → ⊥) → (given r (sheet_in t lent) lent ≡ lent) × ((sheet_length_numbers (written r t)).length ≡ 0)
      go zero h = absurd (h refl)
      go (suc r) h = (refl, refl)

  module _ (e : sheet_write_answer.refusal ≡ 0) where
    none : sheet_refusal t (length lent) ≡ 0
    none = sym write-refusal ∙ e

    all : sheet_memory ≡ sheet_of t ++ drop (length (sheet_of t)) lent
    unfolding given sheet_in
    all = ap (λ (r : ℕ). given r (sheet_in t lent) lent) none

    long : sheet_write_answer.length ≡ length (sheet_of t)
    unfolding written
    long = ap (λ (r : ℕ). (sheet_length_numbers (written r t)).length) none

    -- "A sheet made by our rules" stands in front, and "an answer changes only its own length"
    pub sheet-written : take sheet_write_answer.length sheet_memory ≡ sheet_of t
    sheet-written = ap₂ take long all ∙ take-append_seam (sheet_of t) (drop (length (sheet_of t)) lent)

    pub sheet-kept : drop sheet_write_answer.length sheet_memory ≡ drop sheet_write_answer.length lent
    sheet-kept =
        ap₂ drop long all ∙ drop-append_seam (sheet_of t) (drop (length (sheet_of t)) lent) ∙ sym (ap (λ (n : ℕ). drop n lent) long)

    -- 40 bytes for each whole cell
    pub sheet-long : sheet_write_answer.length ≡ 40 * (check_numbers (checked_of t)).cells
    unfolding sheet_of sheet_refusal
    sheet-long =
        long ∙ length-joined (records_of t)
        ∙ ap (λ (n : ℕ). 40 * n) (length-records t ∙ sym (check-cells t (check-refusal t ∙ (both (text_refusal t) _ none).0)))

    -- record k, of as many as checking answers cells, stands from byte 40 k on: the k-th code that listing gives, and what `jgv_neighbour` answers for it
    pub sheet-numbers :
        (k : ℕ) → k < (check_numbers (checked_of t)).cells → NumbersFrom (take sheet_write_answer.length sheet_memory) (40 * k) (get_or (codes_of t) k 0)
    unfolding sheet_refusal
    sheet-numbers k l =
        subst (λ (b : List ℕ). NumbersFrom b (40 * k) (get_or (codes_of t) k 0)) (sym sheet-written)
        (ours-from t (check-refusal t ∙ (both (text_refusal t) _ none).0) k l)

    -- and "always passes"
    pub sheet-passes : sheet_answer t (take sheet_write_answer.length sheet_memory) ≡ record { refusal = 0; place = 0; right = 1; «record» = 0 }
    unfolding sheet_in
    sheet-passes =
        ap (sheet_answer t) (sheet-written ∙ sym (take-append_seam (sheet_of t) (drop (length (sheet_of t)) lent)))
        ∙ ap (sheet_answer t) (ap (take (length (sheet_of t))) (sym in-front))
        ∙ ap sheet_numbers (written-passes t lent none)
      where
        in-front : sheet_in t lent ≡ sheet_of t ++ drop (length (sheet_of t)) lent
        in-front = refl
