-- A sheet that comes or goes in parts: the check's last standing tells the verdict on all parts, and the parts put are the sheet. Assumes nothing.
use Rattle.std.specs.Prelude.{◌≡◌, refl, Bool, true, false, ◌&&◌, ◌||◌, not, cond, List, [], ◌∷◌, ◌++◌, ℕ, zero, suc, ◌+◌, ◌*◌, ◌/◌, ◌%◌, ◌≤◌, ◌<◌, take, drop, eqb, ltb, leb}
use Rattle.std.proofs.Common.{sym, ap₂, ◌∙◌, subst, append-nil, append_assoc, arith, length-append, take-append-drop, length-take-le, take_all, take-add, lt-ltb, ltb-true, ltb-false}
use Rattle.std.proofs.Math.Path.{ap}
use Rattle.std.proofs.Math.ListN.{length, length-drop}
use Rattle.std.proofs.lemmas.List.{drop-append-le}
use Rattle.reading.specs.TextReading.{is_text, body_start}
use Rattle.sheet.specs.declared.Record.{Record}
use Rattle.sheet.specs.declared.Standing.{Standing}
use Rattle.sheet.specs.declared.Judged.TheVariants.{Right, Wrong}
use Rattle.sheet.specs.Sheet.{records_of, bytes_of, joined, sheet_of}
use Rattle.sheet.specs.Verdict.{starts, leading, same, verdict}
use Rattle.sheet.specs.Parts.{start_at, told_of, Behind, ours_in, GoesOver, Through, all_bytes, WholeRecords, next_records, PartPut}
use Rattle.sheet.proofs.Laws.Bytes.{length-bytes, length-joined, lead-end, same-ltb, same-done}
use Rattle.sheet.proofs.Laws.Stands.{stands-start}
use Rattle.sheet.proofs.Laws.Sheet.{starts-take, lead-past}

-- ---- the records that agree

pub lead-most : (rs : List Record) (b : List ℕ) → leading rs b ≤ length rs
unfolding leading
lead-most [] b = omega arith
lead-most (r ∷ rs) b = go (starts (bytes_of r) b) (lead-most rs (drop 40 b))
  where
    go : (p : Bool) → leading rs (drop 40 b) ≤ length rs → cond p (suc (leading rs (drop 40 b))) 0 ≤ length (r ∷ rs)
    go true h = omega arith
    go false h = omega arith

empty : (c : List ℕ) → length c ≤ 0 → c ≡ []
empty [] k = refl
empty (x ∷ c) k = absurd (omega arith)

-- where no byte lies behind them, they are all the bytes
pub lead-all : (rs : List Record) (b : List ℕ) → length b ≤ 40 * leading rs b → b ≡ joined (take (leading rs b) rs)
unfolding leading joined
lead-all [] b h = empty b h
lead-all (r ∷ rs) b h = go (starts (bytes_of r) b) refl h (lead-all rs (drop 40 b))
  where
    l : ℕ
    l = leading rs (drop 40 b)

    go :
        (p : Bool) → starts (bytes_of r) b ≡ p → length b ≤ 40 * cond p (suc l) 0 → (length (drop 40 b) ≤ 40 * l → drop 40 b ≡ joined (take l rs)) →
        b ≡ joined (take (cond p (suc l) 0) (r ∷ rs))
    go true e k i =
        sym (take-append-drop 40 b)
        ∙ ap₂ ◌++◌ (ap (λ (n : ℕ). take n b) (sym (length-bytes r)) ∙ starts-take (bytes_of r) b e) (i (omega (arith, length-drop 40 b)))
    go false e k i = empty b (omega arith)

-- ---- a wrong record stays wrong, whatever follows

starts_more : (a b c : List ℕ) → length a ≤ length b → starts a (b ++ c) ≡ starts a b
unfolding starts
starts_more [] b c h = refl
starts_more (x ∷ a) [] c h = absurd (omega arith)
starts_more (x ∷ a) (y ∷ b) c h = ap (λ (p : Bool). eqb y x && p) (starts_more a b c (omega arith))

lead-stays : (rs : List Record) (b c : List ℕ) → length b % 40 ≡ 0 → 40 * leading rs b < length b → leading rs (b ++ c) ≡ leading rs b
unfolding leading
lead-stays [] b c m h = refl
lead-stays (r ∷ rs) b c m h = go (starts (bytes_of r) b) refl h (lead-stays rs (drop 40 b) c)
  where
    l : ℕ
    l = leading rs (drop 40 b)

    go :
        (p : Bool) → starts (bytes_of r) b ≡ p → 40 * cond p (suc l) 0 < length b →
        (length (drop 40 b) % 40 ≡ 0 → 40 * l < length (drop 40 b) → leading rs (drop 40 b ++ c) ≡ l) →
        cond (starts (bytes_of r) (b ++ c)) (suc (leading rs (drop 40 (b ++ c)))) 0 ≡ cond p (suc l) 0
    go true e k i =
        let s : starts (bytes_of r) (b ++ c) ≡ true = starts_more (bytes_of r) b c (omega (arith, length-bytes r)) ∙ e in
        let d : leading rs (drop 40 (b ++ c)) ≡ l =
        ap (leading rs) (drop-append-le 40 b c (omega arith)) ∙ i (omega (arith, length-drop 40 b)) (omega (arith, length-drop 40 b)) in
        ap₂ (λ (q : Bool) (n : ℕ). cond q (suc n) 0) s d
    go false e k i =
        let s : starts (bytes_of r) (b ++ c) ≡ false = starts_more (bytes_of r) b c (omega (arith, length-bytes r)) ∙ e in
        ap (λ (q : Bool). cond q (suc (leading rs (drop 40 (b ++ c)))) 0) s

-- ---- from part to part

pub behind-start : (t : List ℕ) {body : ℕ} → is_text t ≡ true → body ≡ body_start t → Behind t [] (start_at body)
behind-start t e h =
    let z : leading (records_of t) [] ≡ 0 = lead-end (records_of t) refl in
    record { records = sym z; wrong = sym (ap (λ (n : ℕ). ltb (40 * n) 0) z); stands = stands-start t e h }

module _ {t b part : List ℕ} {x y : Standing} (h : Behind t b x) (g : GoesOver t part x y) where
  abbrev rs : List Record
  rs = records_of t

  -- where no wrong record was met, all bytes so far are records of ours
  module _ (e : x.wrong ≡ false) where
    so_far : b ≡ joined (take (leading rs b) rs)
    so_far = lead-all rs b (ltb-false (40 * leading rs b) (length b) (sym h.wrong ∙ e))

    added : leading rs (b ++ part) ≡ leading rs b + ours_in t (leading rs b) part
    added = ap (λ (c : List ℕ). leading rs (c ++ part)) so_far ∙ lead-past (leading rs b) rs part (lead-most rs b)

    behind-right : Behind t (b ++ part) y
    behind-right =
        let l : ℕ = ours_in t x.records part in
        let s : l ≡ ours_in t (leading rs b) part = ap (λ (k : ℕ). ours_in t k part) h.records in
        let a : leading rs (b ++ part) ≡ leading rs b + l = added ∙ ap (λ (n : ℕ). leading rs b + n) (sym s) in
        let m : length b ≡ 40 * leading rs b =
        ap length so_far ∙ length-joined (take (leading rs b) rs) ∙ ap (λ (n : ℕ). 40 * n) (length-take-le (leading rs b) rs (lead-most rs b)) in
        let n : length (b ++ part) ≡ length b + length part = length-append b part in
        let p : y.records ≡ x.records + l = g.records ∙ ap (λ (c : Bool). x.records + cond c 0 l) e in
        let q : y.wrong ≡ ltb (40 * l) (length part) = g.wrong ∙ ap (λ (c : Bool). c || ltb (40 * l) (length part)) e in
        record {
          records = omega (arith, h.records);
          wrong = q ∙ same-ltb (40 * l) (length part) (40 * leading rs (b ++ part)) (length (b ++ part)) (λ k. omega arith) (λ k. omega arith);
          stands = g.stands;
        }

  -- a wrong record of whole ones stays wrong
  behind-wrong : x.wrong ≡ true → length b % 40 ≡ 0 → Behind t (b ++ part) y
  behind-wrong e m =
      let l : ℕ = ours_in t x.records part in
      let k : 40 * leading rs b < length b = ltb-true (40 * leading rs b) (length b) (sym h.wrong ∙ e) in
      let n : leading rs (b ++ part) ≡ leading rs b = lead-stays rs b part m k in
      let p : y.records ≡ x.records + 0 = g.records ∙ ap (λ (c : Bool). x.records + cond c 0 l) e in
      let q : y.wrong ≡ true = g.wrong ∙ ap (λ (c : Bool). c || ltb (40 * l) (length part)) e in
      record {
        records = omega (arith, h.records);
        wrong = q ∙ sym (lt-ltb (40 * leading rs (b ++ part)) (length (b ++ part)) (omega (arith, length-append b part)));
        stands = g.stands;
      }

  pub behind-part : length b % 40 ≡ 0 → Behind t (b ++ part) y
  behind-part m = go x.wrong refl
    where
      go : (c : Bool) → x.wrong ≡ c → Behind t (b ++ part) y
      go true e = behind-wrong e m
      go false e = behind-right e

-- over all parts
pub behind-parts :
    {t : List ℕ} {x y : Standing} (b : List ℕ) (parts : List (List ℕ)) → Behind t b x → length b % 40 ≡ 0 → WholeRecords parts → Through t x parts y →
    Behind t (b ++ all_bytes parts) y
behind-parts {t} {y = y} b [] h m w e = subst (λ (c : List ℕ). Behind t c y) (sym (append-nil b)) (subst (Behind t b) e h)
behind-parts {t} {y = y} b (part ∷ []) h m w (z, g, e) =
    subst (λ (c : List ℕ). Behind t (b ++ c) y) (sym (append-nil part)) (subst (Behind t (b ++ part)) e (behind-part h g m))
behind-parts {t} {y = y} b (part ∷ (next ∷ parts)) h m w (z, g, e) =
    let n : length (b ++ part) % 40 ≡ 0 = whole (length b) (length part) (length (b ++ part)) (length-append b part) m w.0 in
    subst (λ (c : List ℕ). Behind t c y) (append_assoc b part (all_bytes (next ∷ parts)))
    (behind-parts {y = y} (b ++ part) (next ∷ parts) (behind-part h g m) n w.1 e)
  where
    whole : (i j k : ℕ) → k ≡ i + j → i % 40 ≡ 0 → j % 40 ≡ 0 → k % 40 ≡ 0
    whole i j k e p q = omega arith

-- the standing behind all bytes tells the verdict
pub behind-told : {t b : List ℕ} {x : Standing} → Behind t b x → told_of t x ≡ verdict t b
unfolding verdict sheet_of
behind-told {t} {b} {x} h =
    let s : same b (sheet_of t) ≡ (not x.wrong && leb (length (records_of t)) x.records) =
    same-done (records_of t) b ∙ ap₂ (λ (c : Bool) (n : ℕ). not c && leb (length (records_of t)) n) (sym h.wrong) (sym h.records) in
    ap₂ (λ (c : Bool) (n : ℕ). cond c Right (Wrong n)) (sym s) h.records

-- the answer does not depend on the parts, each of whole records but the last
pub parts-told :
    (t : List ℕ) {body : ℕ} (y : Standing) (parts : List (List ℕ)) → is_text t ≡ true → body ≡ body_start t → WholeRecords parts → Through t (start_at body) parts y →
    told_of t y ≡ verdict t (all_bytes parts)
parts-told t y parts e h w g = behind-told (behind-parts {y = y} [] parts (behind-start t e h) refl w g)

-- where the parts so far held whole records, the answer is settled as soon as a wrong one is met
pub wrong_stays : {t b : List ℕ} {x : Standing} (c : List ℕ) → Behind t b x → x.wrong ≡ true → length b % 40 ≡ 0 → verdict t (b ++ c) ≡ Wrong x.records
unfolding verdict sheet_of
wrong_stays {t} {b} {x} c h e m =
    let k : 40 * leading (records_of t) b < length b = ltb-true (40 * leading (records_of t) b) (length b) (sym h.wrong ∙ e) in
    let n : leading (records_of t) (b ++ c) ≡ leading (records_of t) b = lead-stays (records_of t) b c m k in
    let p : ltb (40 * leading (records_of t) (b ++ c)) (length (b ++ c)) ≡ true =
    lt-ltb (40 * leading (records_of t) (b ++ c)) (length (b ++ c)) (omega (arith, length-append b c)) in
    let s : same (b ++ c) (sheet_of t) ≡ false =
    same-done (records_of t) (b ++ c) ∙ ap (λ (q : Bool). not q && leb (length (records_of t)) (leading (records_of t) (b ++ c))) p in
    ap₂ (λ (q : Bool) (l : ℕ). cond q Right (Wrong l)) s (n ∙ sym h.records)

-- ---- parts that are put

joined-append : (rs qs : List Record) → joined (rs ++ qs) ≡ joined rs ++ joined qs
unfolding joined
joined-append [] qs = refl
joined-append (r ∷ rs) qs = ap (λ (x : List ℕ). bytes_of r ++ x) (joined-append rs qs) ∙ sym (append_assoc (bytes_of r) (joined rs) (joined qs))

taken-again : (n : ℕ) (rs : List Record) → take (length (take n rs)) rs ≡ take n rs
taken-again zero rs = refl
taken-again (suc n) [] = refl
taken-again (suc n) (r ∷ rs) = ap (λ (x : List Record). r ∷ x) (taken-again n rs)

take_more : (k n : ℕ) (rs : List Record) → take k rs ++ take n (drop k rs) ≡ take (k + length (take n (drop k rs))) rs
take_more k n rs = ap (λ (x : List Record). take k rs ++ x) (sym (taken-again n (drop k rs))) ∙ sym (take-add k (length (take n (drop k rs))) rs)

none-taken : (n : ℕ) (rs : List Record) → 0 < n → length (take n rs) ≡ 0 → length rs ≡ 0
none-taken zero rs h e = absurd (omega arith)
none-taken (suc n) [] h e = refl
none-taken (suc n) (r ∷ rs) h e = absurd (omega arith)

module _ {t b b' : List ℕ} {x y : Standing} (p : PartPut t x b b' y) where
  -- the parts so far and this one are the records behind it
  pub put-more : joined (take x.records (records_of t)) ++ joined (next_records t x.records (length b)) ≡ joined (take y.records (records_of t))
  put-more =
      sym (joined-append (take x.records (records_of t)) (next_records t x.records (length b)))
      ∙ ap joined (take_more x.records (length b / 40) (records_of t) ∙ ap (λ (n : ℕ). take n (records_of t)) (sym p.records))

  -- where there was room for a record and none was put, they are the sheet
  pub put_all : 40 ≤ length b → y.records ≡ x.records → joined (take x.records (records_of t)) ≡ sheet_of t
  unfolding sheet_of
  put_all h e =
      let l : length (next_records t x.records (length b)) ≡ 0 = omega (arith, p.records) in
      let n : length (drop x.records (records_of t)) ≡ 0 = none-taken (length b / 40) (drop x.records (records_of t)) (omega arith) l in
      ap joined (take_all x.records (records_of t) (omega (arith, length-drop x.records (records_of t))))
