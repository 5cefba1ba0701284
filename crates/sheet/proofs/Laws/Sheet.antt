-- What checking a neighbour sheet says is what 02 says (W-211): yes, the first wrong record, and that our own sheet passes. Assumes nothing.
use Rattle.std.proofs.Math.Path.{◌≡◌, refl, sym, ap, ap₂, subst}
use Rattle.std.proofs.Common.{◌∙◌, inl, inr, ⊎_elim, arith, length-append, take_at, drop_at, drop-drop, length-take-le, eqb-true, eq-eqb}
use Rattle.std.specs.Prelude.{◌⊎◌, Bool, ◌&&◌, take, drop, eqb}
use Rattle.std.proofs.Math.Bool.{true, false, cond}
use mathlib.Core.List.{List, [], ◌∷◌, ◌++◌, map, append_assoc}
use Prim.Native.Nat.{ℕ, zero, suc, ◌+◌, ◌*◌, ◌≤◌, ◌<◌}
use Rattle.std.proofs.Math.ListN.{length}
use Rattle.std.proofs.Math.Seq.{take-append_seam}
use Rattle.logic.specs.Lists.{All, Mem}
use Rattle.logic.specs.Laws.Lists.{all-mem}
use Rattle.logic.specs.Laws.Bools.{clash, and_left, and_right, refuted}
use Rattle.logic.specs.Laws.Order.{three_ways}
use Rattle.logic.specs.Laws.Refusal.{both}
use Rattle.logic.specs.Rise.{Above, Rise}
use Rattle.cell.specs.declared.Cell.{Cell}
use Rattle.cell.specs.declared.Arrangement.{Arrangement}
use Rattle.cell.specs.Cell.{IsCell, IsArrangement}
use Rattle.cell.specs.Neighbour.{neighbour_of}
use Rattle.cell.proofs.Laws.Neighbour.{neighbour-is-cell}
use Rattle.code.specs.Code.{code_of, cell_of}
use Rattle.code.proofs.Laws.Code.{cell-code, code-at-most-greatest}
use Rattle.reading.specs.Ground.{whole_cells, Cells}
use Rattle.reading.specs.TextReading.{nodes_of, text_arrangement, is_text}
use Rattle.reading.proofs.Laws.TextReading.{text-arranged}
use Rattle.reader.specs.Check.{text_refusal}
use Rattle.listing.specs.List.{codes_of}
use Rattle.listing.proofs.Laws.List.{listed-rise}
use Rattle.sheet.specs.declared.Record.{Record}
use Rattle.sheet.specs.declared.Judged.TheVariants as judged-as
use Rattle.sheet.specs.Sheet.{record_of, records_of, bytes_of, joined, sheet_of, Words, Neighbours, codes_in, Yes, record_at, FirstWrong, sheet_refusal, sheet_in}
use Rattle.sheet.specs.Verdict.{starts, leading, same, verdict, judged, judged_of}
use Rattle.sheet.proofs.Laws.Bytes.{length-bytes, length-joined, lead-no, lead-yes, lead-none, starts-short, same_true, same-itself, same-append}
use Rattle.sheet.proofs.Laws.Stands.{text-cells}

-- ---- lists that rise and have the same numbers are the same

-- each number of the one list is in the other
abbrev AllIn : (xs ys : List ℕ) → Type 0
AllIn xs ys = All (λ (x : ℕ). Mem x ys) xs

in-above : {n x : ℕ} (ys : List ℕ) → Above n ys → Mem x ys → n < x
in-above [] a i = absurd i
in-above (y ∷ ys) a (inl e) = omega (arith, a.0)
in-above (y ∷ ys) a (inr i) = in-above ys a.1 i

-- numbers above y are not y
others : (y : ℕ) (xs ys : List ℕ) → Above y xs → AllIn xs (y ∷ ys) → AllIn xs ys
others y [] ys a h = tt
others y (x ∷ xs) ys a h = (⊎_elim (λ e. absurd (omega (arith, a.0))) (λ i. i) h.0, others y xs ys a.1 h.1)

first-same : (x y : ℕ) (xs ys : List ℕ) → Above x xs → Above y ys → Mem x (y ∷ ys) → Mem y (x ∷ xs) → x ≡ y
first-same x y xs ys a b (inl e) j = sym e
first-same x y xs ys a b (inr i) (inl e) = e
first-same x y xs ys a b (inr i) (inr j) = let p = in-above ys b i in let q = in-above xs a j in absurd (omega arith)

rise-same : (xs ys : List ℕ) → Rise xs → Rise ys → AllIn xs ys → AllIn ys xs → xs ≡ ys
rise-same [] [] r s h k = refl
rise-same [] (y ∷ ys) r s h k = absurd k.0
rise-same (x ∷ xs) [] r s h k = absurd h.0
rise-same (x ∷ xs) (y ∷ ys) r s h k =
    let e : x ≡ y = first-same x y xs ys r.0 s.0 h.0 k.0 in
    ap₂ ◌∷◌ e
    (rise-same xs ys r.1 s.1
    (others y xs ys (subst (λ (z : ℕ). Above z xs) e r.0) h.1)
    (others x ys xs (subst (λ (z : ℕ). Above z ys) (sym e) s.0) k.1))

all_in : (xs : List ℕ) → AllIn xs xs
all_in xs = all-mem (λ (x : ℕ). Mem x xs) xs (λ x h. h)

-- ---- records with right neighbours

module _ (a : Arrangement) where
  pub record-codes : (cs : List Cell) → codes_in (map (record_of a) cs) ≡ map (code_of a) cs
  unfolding record_of
  record-codes [] = refl
  record-codes (c ∷ cs) = ap (λ (xs : List ℕ). code_of a c ∷ xs) (record-codes cs)

  module _ (g : IsArrangement a) where
    one-record : (r : Record) (c : Cell) → IsCell c → r.code ≡ code_of a c → Neighbours a r → r ≡ record_of a c
    unfolding record_of
    one-record r c v e n =
        let k : cell_of r.code ≡ c = ap cell_of e ∙ cell-code g c v in
        λ i.
        record {
          code = e i;
          up = (n.up ∙ ap (λ (x : Cell). code_of a (neighbour_of a x 0)) k) i;
          right = (n.right ∙ ap (λ (x : Cell). code_of a (neighbour_of a x 1)) k) i;
          down = (n.down ∙ ap (λ (x : Cell). code_of a (neighbour_of a x 2)) k) i;
          left = (n.left ∙ ap (λ (x : Cell). code_of a (neighbour_of a x 3)) k) i;
        }

    all-records : (rs : List Record) (cs : List Cell) → Cells cs → codes_in rs ≡ map (code_of a) cs → All (Neighbours a) rs → rs ≡ map (record_of a) cs
    all-records [] [] v e n = refl
    all-records [] (c ∷ cs) v e n = absurd (omega (arith, ap length e))
    all-records (r ∷ rs) [] v e n = absurd (omega (arith, ap length e))
    all-records (r ∷ rs) (c ∷ cs) v e n =
        let h : r.code ≡ code_of a c = cc in
        let k : codes_in rs ≡ map (code_of a) cs = cc in
        ap₂ ◌∷◌ (one-record r c v.0 h n.0) (all-records rs cs v.1 k n.1)

    right-neighbours : (cs : List Cell) → Cells cs → All (Neighbours a) (map (record_of a) cs)
    unfolding record_of
    right-neighbours [] v = tt
    right-neighbours (c ∷ cs) v =
        let k : c ≡ cell_of (code_of a c) = sym (cell-code g c v.0) in (
          record {
            up = ap (λ (x : Cell). code_of a (neighbour_of a x 0)) k;
            right = ap (λ (x : Cell). code_of a (neighbour_of a x 1)) k;
            down = ap (λ (x : Cell). code_of a (neighbour_of a x 2)) k;
            left = ap (λ (x : Cell). code_of a (neighbour_of a x 3)) k;
          },
          right-neighbours cs v.1,
        )

    pub all_words : (cs : List Cell) → Cells cs → All Words (map (record_of a) cs)
    unfolding record_of
    all_words [] v = tt
    all_words (c ∷ cs) v =
        let n : (d : ℕ) → d < 4 → code_of a (neighbour_of a c d) ≤ 316248778897380863 =
        λ d l. code-at-most-greatest g (neighbour_of a c d) (neighbour-is-cell d g v.0 l) in (
          record {
            code = omega (arith, code-at-most-greatest g c v.0);
            up = omega (arith, n 0 (omega arith));
            right = omega (arith, n 1 (omega arith));
            down = omega (arith, n 2 (omega arith));
            left = omega (arith, n 3 (omega arith));
          },
          all_words cs v.1,
        )

-- ---- "Yes exactly when .."

module _ (t b : List ℕ) (e : is_text t ≡ true) where
  pub yes-made : Yes t b → b ≡ sheet_of t
  unfolding sheet_of records_of codes_of
  yes-made y =
      let k : codes_in y.records ≡ map (code_of (text_arrangement t)) (whole_cells (nodes_of t)) =
      rise-same (codes_in y.records) (codes_of t) y.rising (listed-rise t e) y.other y.each in
      y.bytes ∙ ap joined (all-records (text_arrangement t) (text-arranged t e) y.records (whole_cells (nodes_of t)) (text-cells t e).0 k y.neighbours)

  pub made-yes : b ≡ sheet_of t → Yes t b
  unfolding sheet_of records_of codes_of
  made-yes h =
      let cs = whole_cells (nodes_of t) in
      let a = text_arrangement t in
      let k : codes_in (map (record_of a) cs) ≡ codes_of t = record-codes a cs in
      record {
        records = records_of t;
        words = all_words a (text-arranged t e) cs (text-cells t e).0;
        bytes = h;
        rising = subst Rise (sym k) (listed-rise t e);
        each = subst (AllIn (codes_of t)) (sym k) (all_in (codes_of t));
        other = subst (λ (x : List ℕ). AllIn x (codes_of t)) (sym k) (all_in (codes_of t));
        neighbours = right-neighbours a (text-arranged t e) cs (text-cells t e).0;
      }

-- ---- "the first record that is not the one our rules put there"

pub starts-take : (a b : List ℕ) → starts a b ≡ true → take (length a) b ≡ a
unfolding starts
starts-take [] b e = refl
starts-take (x ∷ a) [] e = clash (sym e)
starts-take (x ∷ a) (y ∷ b) e = ap₂ ◌∷◌ (eqb-true y x (and_left (eqb y x) (starts a b) e)) (starts-take a b (and_right (eqb y x) (starts a b) e))

starts-itself : (a b : List ℕ) → starts a (a ++ b) ≡ true
unfolding starts
starts-itself [] b = refl
starts-itself (x ∷ a) b = rw (eq-eqb x x refl) (starts-itself a b)

take-starts : (a b : List ℕ) → take (length a) b ≡ a → starts a b ≡ true
unfolding starts
take-starts [] b e = refl
take-starts (x ∷ a) [] e = absurd (omega (arith, ap length e))
take-starts (x ∷ a) (y ∷ b) e =
    let h : y ≡ x = cc in
    let k : take (length a) b ≡ a = cc in
    rw (eq-eqb y x h) (take-starts a b k)

later : (j : ℕ) (b : List ℕ) → record_at (suc j) b ≡ record_at j (drop 40 b)
later j b =
    let e : 40 * suc j ≡ 40 + 40 * j = omega arith in
    ap (λ (n : ℕ). take 40 (drop n b)) e ∙ ap (take 40) (sym (drop-drop (40 * j) 40 b))

module _ (r : Record) (rest b : List ℕ) where
  ours-first : take 40 (bytes_of r ++ rest) ≡ bytes_of r
  ours-first = take_at (bytes_of r) rest 40 (length-bytes r)

  ours-later : drop 40 (bytes_of r ++ rest) ≡ rest
  ours-later = drop_at (bytes_of r) rest 40 (length-bytes r)

  first-agrees : starts (bytes_of r) b ≡ true → take 40 b ≡ take 40 (bytes_of r ++ rest)
  first-agrees e = ap (λ (n : ℕ). take n b) (sym (length-bytes r)) ∙ starts-take (bytes_of r) b e ∙ sym ours-first

  first-differs : starts (bytes_of r) b ≡ false → take 40 b ≡ take 40 (bytes_of r ++ rest) → ⊥
  first-differs e h = clash (sym (take-starts (bytes_of r) b (ap (λ (n : ℕ). take n b) (length-bytes r) ∙ h ∙ ours-first)) ∙ e)

  further : {k : ℕ} → starts (bytes_of r) b ≡ true → FirstWrong rest (drop 40 b) k → FirstWrong (bytes_of r ++ rest) b (suc k)
  further {k} e f =
      record {
        before = both-before;
        here = λ h. f.here (sym (later k b) ∙ h ∙ later k (bytes_of r ++ rest) ∙ ap (record_at k) ours-later);
      }
    where
      both-before : (j : ℕ) → j < suc k → record_at j b ≡ record_at j (bytes_of r ++ rest)
      both-before zero l = first-agrees e
      both-before (suc j) l = later j b ∙ f.before j (omega arith) ∙ ap (record_at j) (sym ours-later) ∙ sym (later j (bytes_of r ++ rest))

first_of : (rs : List Record) (b : List ℕ) → same b (joined rs) ≡ false → FirstWrong (joined rs) b (leading rs b)
unfolding joined leading same
first_of [] [] e = clash e
first_of [] (x ∷ b) e = record { before = λ j l. absurd (omega arith); here = λ h. omega (arith, ap length h) }
first_of (r ∷ rs) b e = go (starts (bytes_of r) b) refl (first_of rs (drop 40 b))
  where
    go :
        (p : Bool) → starts (bytes_of r) b ≡ p → (same (drop 40 b) (joined rs) ≡ false → FirstWrong (joined rs) (drop 40 b) (leading rs (drop 40 b))) →
        FirstWrong (bytes_of r ++ joined rs) b (cond p (suc (leading rs (drop 40 b))) 0)
    go true h i =
        let k : same b (bytes_of r ++ joined rs) ≡ same (drop 40 b) (joined rs) =
        same-append (bytes_of r) (joined rs) b ∙ ap₂ (λ (p : Bool) (n : ℕ). p && same (drop n b) (joined rs)) h (length-bytes r) in
        further r (joined rs) b h (i (sym k ∙ e))
    go false h i = record { before = λ j l. absurd (omega arith); here = λ k. first-differs r (joined rs) b h k }

-- there is one first wrong record at most, and none where the bytes are ours
pub one-first : {ours b : List ℕ} {k j : ℕ} → FirstWrong ours b k → FirstWrong ours b j → k ≡ j
one-first {k = k} {j = j} f g =
    ⊎_elim (λ l. absurd (f.here (g.before k l))) (λ h. ⊎_elim (λ e. e) (λ l. absurd (g.here (f.before j l))) h) (three_ways k j)

pub none-wrong : {ours b : List ℕ} {k : ℕ} → FirstWrong ours b k → b ≡ ours → ⊥
none-wrong {k = k} f e = f.here (ap (record_at k) e)

-- ---- what checking answers

module _ (t b : List ℕ) where
  pub right-same : verdict t b ≡ judged-as.Right → b ≡ sheet_of t
  unfolding verdict
  right-same e = go (same b (sheet_of t)) refl e
    where
      go : (p : Bool) → same b (sheet_of t) ≡ p → cond p judged-as.Right (judged-as.Wrong (leading (records_of t) b)) ≡ judged-as.Right → b ≡ sheet_of t
      go true h k = same_true b (sheet_of t) h
      go false h k = let z : ◌≡◌ {A = ℕ} 0 1 = cc in absurd (omega arith)

  pub same-right : b ≡ sheet_of t → verdict t b ≡ judged-as.Right
  unfolding verdict
  same-right e =
      let h : same b (sheet_of t) ≡ true = ap (λ (x : List ℕ). same x (sheet_of t)) e ∙ same-itself (sheet_of t) in
      rw h

  -- "A no names .. the first record that is not the one our rules put there"
  pub wrong_first : {k : ℕ} → verdict t b ≡ judged-as.Wrong k → FirstWrong (sheet_of t) b k
  unfolding verdict sheet_of
  wrong_first {k} e = go (same b (sheet_of t)) refl e
    where
      go :
          (p : Bool) → same b (joined (records_of t)) ≡ p → cond p judged-as.Right (judged-as.Wrong (leading (records_of t) b)) ≡ judged-as.Wrong k →
          FirstWrong (joined (records_of t)) b k
      go true h f = let z : ◌≡◌ {A = ℕ} 0 1 = cc in absurd (omega arith)
      go false h f = let z : leading (records_of t) b ≡ k = cc in subst (FirstWrong (joined (records_of t)) b) z (first_of (records_of t) b h)

  -- "Yes exactly when the records stand in rising order, each whole cell has one, no other has any, and all neighbours are right."
  pub yes-exactly : is_text t ≡ true → (verdict t b ≡ judged-as.Right → Yes t b) × (Yes t b → verdict t b ≡ judged-as.Right)
  yes-exactly e = (λ h. made-yes t b e (right-same h), λ y. same-right (yes-made t b e y))

-- "A sheet made by our rules always passes."
pub made-passes : (t : List ℕ) → text_refusal t ≡ 0 → judged_of t (sheet_of t) ≡ judged-as.Right
unfolding judged_of
made-passes t e = ap (λ (r : ℕ). judged r t (sheet_of t)) e ∙ same-right t (sheet_of t) refl

-- what `write` leaves in the lent bytes passes `check`
pub written-passes : (t b : List ℕ) → sheet_refusal t (length b) ≡ 0 → judged_of t (take (length (sheet_of t)) (sheet_in t b)) ≡ judged-as.Right
unfolding sheet_refusal sheet_in
written-passes t b e =
    ap (judged_of t) (take-append_seam (sheet_of t) (drop (length (sheet_of t)) b)) ∙ made-passes t (both _ _ e).0

-- ---- leading records that agree, and what follows them

pub lead-past : (n : ℕ) (rs : List Record) (c : List ℕ) → n ≤ length rs → leading rs (joined (take n rs) ++ c) ≡ n + leading (drop n rs) c
unfolding joined leading
lead-past zero rs c h = omega arith
lead-past (suc n) [] c h = absurd (omega arith)
lead-past (suc n) (r ∷ rs) c h =
    let j : List ℕ = joined (take n rs) in
    let i = lead-past n rs c (omega arith) in
    ap (leading (r ∷ rs)) (append_assoc (bytes_of r) j c)
    ∙ lead-yes {r = r} {rs = rs} (bytes_of r ++ (j ++ c)) refl (starts-itself (bytes_of r) (j ++ c))
    ∙ ap (λ (x : List ℕ). suc (leading rs x)) (ours-later r (j ++ c) [])
    ∙ omega arith

lead-less : (qs : List Record) (c : List ℕ) → length c < 40 → leading qs c ≡ 0
lead-less [] c l = lead-none {rs = []} c refl
lead-less (q ∷ qs) c l = lead-no {r = q} {rs = qs} c refl (starts-short (bytes_of q) c (omega (arith, length-bytes q)))

-- the first n records of ours, and then fewer bytes than a record has
module _ (t : List ℕ) (n : ℕ) (c : List ℕ) (h : n ≤ length (records_of t)) (l : length c < 40) where
  long : length (joined (take n (records_of t)) ++ c) ≡ 40 * n + length c
  long =
      length-append (joined (take n (records_of t))) c
      ∙ ap (λ (x : ℕ). x + length c) (length-joined (take n (records_of t)) ∙ ap (λ (x : ℕ). 40 * x) (length-take-le n (records_of t) h))

  whole : length (sheet_of t) ≡ 40 * length (records_of t)
  unfolding sheet_of
  whole = length-joined (records_of t)

  not_ours : (n < length (records_of t)) ⊎ (0 < length c) → length (joined (take n (records_of t)) ++ c) ≡ length (sheet_of t) → ⊥
  not_ours (inl k) e = omega (arith, long, whole)
  not_ours (inr k) e = omega (arith, long, whole)

  -- "a missing one at the end is named by the number of records, and a record broken off at the end counts as a wrong one"
  pub cut_short : (n < length (records_of t)) ⊎ (0 < length c) → verdict t (joined (take n (records_of t)) ++ c) ≡ judged-as.Wrong n
  unfolding verdict
  cut_short d =
      let b : List ℕ = joined (take n (records_of t)) ++ c in
      let s : same b (sheet_of t) ≡ false = refuted (same b (sheet_of t)) (λ e. not_ours d (ap length (same_true b (sheet_of t) e))) in
      let z = lead-less (drop n (records_of t)) c l in
      let k : leading (records_of t) b ≡ n = omega (arith, lead-past n (records_of t) c h) in
      ap₂ (λ (p : Bool) (m : ℕ). cond p judged-as.Right (judged-as.Wrong m)) s k
