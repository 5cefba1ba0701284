-- A sheet put and printed part by part: what waits are the records of the last part. Assumes nothing.
use mathlib.Core.Path.{◌≡◌, refl, sym, ap, subst, ◌∙◌}
use mathlib.Core.Logic.{◌⊎◌, inl, inr, ⊎_elim}
use mathlib.Core.List.{List, [], ◌∷◌}
use Prim.Native.Nat.{ℕ, zero, suc, ◌-◌, ◌*◌, ◌/◌, ◌≤◌, ◌<◌}
use native.Mathlib.Omega.{arith}
use lib.ListN.{length, take, drop, length-drop}
use lib.Seq.{take_at, take_all}
use Rattle.reader.specs.Check.{text_refusal, place_with}
use Rattle.reader.specs.Laws.Answer.{TextRefused}
use Rattle.report.specs.Put.{Put}
use Rattle.sheet.specs.declared.Record.{Record}
use Rattle.sheet.specs.declared.Standing.{Standing}
use Rattle.sheet.specs.Sheet.{records_of, joined}
use Rattle.sheet.specs.Parts.{next_records, PartPut}
use Rattle.sheet.proofs.Laws.Bytes.{length-joined}
use Rattle.sheet_parts.specs.Printed.{PartsWritten, SheetWritten}

-- ---- the first records of a list

taken-again : (n : ℕ) (rs : List Record) → take (length (take n rs)) rs ≡ take n rs
taken-again zero rs = refl
taken-again (suc n) [] = refl
taken-again (suc n) (r ∷ rs) = ap (λ (x : List Record). r ∷ x) (taken-again n rs)

taken-most : (n : ℕ) (rs : List Record) → (length (take n rs) ≤ n) × (length (take n rs) ≤ length rs)
taken-most zero rs = (omega arith, omega arith)
taken-most (suc n) [] = (omega arith, omega arith)
taken-most (suc n) (r ∷ rs) = let h = taken-most n rs in (omega (arith, h.0), omega (arith, h.1))

taken-some : (n : ℕ) (rs : List Record) → 0 < n → 0 < length rs → 0 < length (take n rs)
taken-some zero rs h k = absurd (omega arith)
taken-some (suc n) [] h k = absurd (omega arith)
taken-some (suc n) (r ∷ rs) h k = omega arith

-- ---- what waits are the records from `first` on, up to k

pub record Waits (t out : List ℕ) (k end : ℕ) : Type 0 where
  pub first : ℕ
  pub bytes : take end out ≡ joined (take (k - first) (drop first (records_of t)))
  pub some : 0 < k → first < k
  pub all : 40 * length (records_of t) ≤ length out → (first ≡ 0) × ((k ≡ 0) ⊎ (k ≡ length (records_of t)))

pub waits_start : (t out : List ℕ) → Waits t out 0 0
unfolding joined
waits_start t out = record { first = 0; bytes = refl; some = λ z. omega arith; all = λ z. (refl, inl refl) }

module _ {t out out' : List ℕ} {x y : Standing} (p : PartPut t x out out' y) (h : x.records < length (records_of t)) (m : 40 ≤ length out) where
  abbrev left : List Record
  left = drop x.records (records_of t)

  pub put_some : x.records < y.records
  put_some = omega (arith, p.records, taken-some (length out / 40) left (omega arith) (omega (arith, length-drop x.records (records_of t))))

  pub put-within : y.records ≤ length (records_of t)
  put-within = omega (arith, p.records, (taken-most (length out / 40) left).1, length-drop x.records (records_of t))

  pub put-fits : 40 * (y.records - x.records) ≤ length out
  put-fits = omega (arith, p.records, (taken-most (length out / 40) left).0)

  pub waits-on : {end : ℕ} → length out' ≡ length out → Waits t out x.records end → Waits t out' y.records (40 * (y.records - x.records))
  waits-on same w =
      let rs : List Record = next_records t x.records (length out) in
      let n : length rs ≡ y.records - x.records = omega (arith, p.records) in
      let l : length (joined rs) ≡ 40 * (y.records - x.records) = length-joined rs ∙ ap (λ (i : ℕ). 40 * i) n in
      record {
        first = x.records;
        bytes =
            ap (take (40 * (y.records - x.records))) p.memory
            ∙ take_at (joined rs) (drop (length (joined rs)) out) (40 * (y.records - x.records)) l
            ∙ ap joined (sym (taken-again (length out / 40) left) ∙ ap (λ (i : ℕ). take i left) n);
        some = λ z. put_some;
        all = λ z. let e = none_before z in (e, inr (all-put z e));
      }
    where
      none_before : 40 * length (records_of t) ≤ length out' → x.records ≡ 0
      none_before z = ⊎_elim (λ e. e) (λ e. absurd (omega arith)) (w.all (omega arith)).1

      all-put : 40 * length (records_of t) ≤ length out' → x.records ≡ 0 → y.records ≡ length (records_of t)
      all-put z e =
          let k : length left ≡ length (records_of t) = length-drop x.records (records_of t) ∙ omega arith in
          let r : length (next_records t x.records (length out)) ≡ length left = ap length (take_all (length out / 40) left (omega arith)) in
          omega (arith, p.records)

pub waits_end : {t out : List ℕ} {k end : ℕ} → k ≡ length (records_of t) → end ≤ length out → Waits t out k end → PartsWritten (records_of t) out end
waits_end {t} {k = k} e h w =
    record {
      from = w.first;
      bytes = w.bytes ∙ ap joined (take_all (k - w.first) (drop w.first (records_of t)) (omega (arith, length-drop w.first (records_of t))));
      some = λ z. omega (arith, w.some (omega arith));
      all = λ z. (w.all z).0;
      fits = h;
    }

-- ---- of any bytes

pub sheet-put : {out : List ℕ} {end : ℕ} (t : List ℕ) → text_refusal t ≡ 0 → PartsWritten (records_of t) out end → SheetWritten (text_refusal t) t out (record { end = end; refusal = 0; place = 0 })
sheet-put {out} {end} t e w = subst (λ (r : ℕ). SheetWritten r t out (record { end = end; refusal = 0; place = 0 })) (sym e) (w, refl, refl)

pub sheet-refused : {t : List ℕ} {r p : ℕ} (out : List ℕ) → TextRefused t r p → SheetWritten (text_refusal t) t out (record { end = 0; refusal = r; place = p })
sheet-refused {t} {r} {p} out u = subst (λ (q : ℕ). SheetWritten q t out (record { end = 0; refusal = r; place = p })) (sym u.refusal) (go r u.some u.place)
  where
    go : (q : ℕ) → (q ≡ 0 → ⊥) → p ≡ place_with q t → SheetWritten q t out (record { end = 0; refusal = q; place = p })
    go zero h k = absurd (h refl)
    go (suc q) h k = (refl, refl, k)

-- ---- a line

pub put_as : {at : ℕ} {a b out later : List ℕ} {end : ℕ} → a ≡ b → Put at a out later end → Put at b out later end
put_as {at} {out = out} {later = later} {end = end} e p = subst (λ (x : List ℕ). Put at x out later end) e p
