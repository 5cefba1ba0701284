-- A sheet beside the walk over the text: records compared, and records put. Assumes nothing.
use Rattle.std.specs.Prelude.{None, Option, Some}
use mathlib.Core.Path.{◌≡◌, refl, sym, ap, ap₂, ◌∙◌, subst}
use mathlib.Core.Bool.{Bool, true, false}
use mathlib.Core.List.{List, [], ◌∷◌, ◌++◌}
use Prim.Native.Nat.{ℕ, zero, suc, ◌+◌, ◌-◌, ◌*◌, ◌/◌, ◌≤◌, ◌<◌}
use native.Mathlib.Omega.{arith}
use lib.ListN.{length, take, drop, length-drop, drop_of_length-le}
use lib.Seq.{sets, sets-eq, length-sets, drop-drop, take-nil}
use lib.Dec.{leb, ltb}
use borrow.Author.Tests.{le-leb, lt-leb}
use Rattle.logic.specs.Laws.Stores.{sets-append}
use Rattle.cell.specs.declared.Arrangement.{Arrangement}
use Rattle.code.specs.Code.{cell_of, arrangement_of}
use Rattle.reading.specs.Ground.{whole_cells}
use Rattle.reading.specs.TextReading.{nodes_of, text_arrangement}
use Rattle.walk.specs.declared.Spot.{Spot}
use Rattle.listing.proofs.Laws.List.{spot_code}
use Rattle.sheet.specs.declared.Record.{Record}
use Rattle.sheet.specs.declared.Standing.{Standing}
use Rattle.sheet.specs.Sheet.{record_of, records_of, bytes_of, joined}
use Rattle.sheet.specs.Verdict.{starts}
use Rattle.sheet.specs.Parts.{Stands, ours_in, next_records, PartPut}
use Rattle.sheet.specs.Internal.Compared.{PartCompared}
use Rattle.sheet.specs.Internal.Next.{NextIs}
use Rattle.sheet.proofs.Laws.Bytes.{length-bytes, length-joined, starts-long, lead-no, lead-yes, lead-none, lead-end}
use Rattle.sheet.proofs.Laws.Stands.{code_there, record_there, Comes, comes, none-comes, length-records}

-- ---- the next whole cell

module _ {t : List ℕ} {k i : ℕ} {s : Spot} (x : Stands t k i s) where
  pub came : {n : Option (Spot × ℕ)} {s' : Spot} {j : ℕ} → NextIs t i s n → n ≡ Some (s', j) → Comes t k j s'
  came e h = let p = subst (NextIs t i s) h e in comes x p.0 p.1

  pub ended : {n : Option (Spot × ℕ)} → NextIs t i s n → n ≡ None → length (whole_cells (nodes_of t)) ≤ k
  ended e h = none-comes x (subst (NextIs t i s) h e)

pub some_left : {t : List ℕ} {k j : ℕ} {s : Spot} → Comes t k j s → false ≡ leb (length (records_of t)) k
some_left {t} {k} c = sym (lt-leb (length (records_of t)) k (omega (arith, c.more, length-records t)))

pub no-left : (t : List ℕ) (k : ℕ) → length (whole_cells (nodes_of t)) ≤ k → true ≡ leb (length (records_of t)) k
no-left t k h = sym (le-leb (length (records_of t)) k (omega (arith, length-records t)))

none_here : (t : List ℕ) (k : ℕ) → length (whole_cells (nodes_of t)) ≤ k → drop k (records_of t) ≡ []
none_here t k h = drop_of_length-le (records_of t) {i = k} (omega (arith, length-records t))

-- the record that was made of the next cell
pub its-code : {a : Arrangement} {x : ℕ} (t : List ℕ) (s : Spot) → x ≡ spot_code a s → a ≡ text_arrangement t → x ≡ code_there t s
its-code t s e f = e ∙ ap (λ (b : Arrangement). spot_code b s) f

pub its-record : {w : Record} {x : ℕ} (t : List ℕ) (s : Spot) → w ≡ record_of (arrangement_of x) (cell_of x) → x ≡ code_there t s → w ≡ record_there t s
its-record t s e f = e ∙ ap (λ (z : ℕ). record_of (arrangement_of z) (cell_of z)) f

-- ---- comparing

-- what holds before the byte at i of a part, with `from` records behind before the part and k now
pub record Over (t part : List ℕ) (from k at i : ℕ) (s : Spot) : Type 0 where
  pub stands : Stands t k at s
  pub within : i ≤ length part
  pub beside : 40 * k ≡ 40 * from + i
  pub count : from + ours_in t from part ≡ k + ours_in t k (drop i part)

pub over-start : {t : List ℕ} {k at : ℕ} {s : Spot} (part : List ℕ) → Stands t k at s → Over t part k k at 0 s
over-start part x = record { stands = x; within = omega arith; beside = omega arith; count = refl }

module _ {t part : List ℕ} {from k at i : ℕ} {s : Spot} (o : Over t part from k at i s) where
  -- the part ends here, or no cell is left, or the next record is another
  pub over-stop :
      {wrong : Bool} (x : Standing) → x.records ≡ from → ours_in t k (drop i part) ≡ 0 → wrong ≡ ltb i (length part) →
      PartCompared t part x (record { spot = s; at = at; records = k; wrong = wrong })
  over-stop x e z w =
      let l : ours_in t x.records part ≡ ours_in t from part = ap (λ (n : ℕ). ours_in t n part) e in
      let n : 40 * ours_in t x.records part ≡ i = omega (arith, o.count, o.beside) in
      record { records = omega (arith, o.count); wrong = w ∙ ap (λ (m : ℕ). ltb m (length part)) (sym n); stands = o.stands }

  pub at-end : length part ≤ i → ours_in t k (drop i part) ≡ 0
  at-end h = lead-end (drop k (records_of t)) (drop_of_length-le part {i = i} h)

  pub none-there : length (whole_cells (nodes_of t)) ≤ k → ours_in t k (drop i part) ≡ 0
  none-there h = lead-none (drop i part) (none_here t k h)

  module _ {j : ℕ} {s' : Spot} {w : Record} {b : Bool} (c : Comes t k j s') (f : w ≡ record_there t s') (e : b ≡ starts (bytes_of w) (drop i part)) where
    next : drop k (records_of t) ≡ w ∷ drop (k + 1) (records_of t)
    next = c.rest ∙ ap (λ (r : Record). r ∷ drop (k + 1) (records_of t)) (sym f)

    pub another : b ≡ false → ours_in t k (drop i part) ≡ 0
    another h = lead-no (drop i part) next (sym e ∙ h)

    module _ (h : b ≡ true) where
      pub fits-there : i + 40 ≤ length part
      fits-there = omega (arith, starts-long (bytes_of w) (drop i part) (sym e ∙ h), length-bytes w, length-drop i part, o.within)

      pub over-on : Over t part from (k + 1) j (i + 40) s'
      over-on =
          let l : ours_in t k (drop i part) ≡ suc (ours_in t (k + 1) (drop (i + 40) part)) =
          lead-yes (drop i part) next (sym e ∙ h) ∙ ap (λ (y : List ℕ). suc (ours_in t (k + 1) y)) (drop-drop 40 i part) in
          record { stands = c.on; within = fits-there; beside = omega (arith, o.beside); count = omega (arith, o.count) }

-- ---- putting

taken-most : (n : ℕ) (rs : List Record) → length (take n rs) ≤ n
taken-most zero rs = omega arith
taken-most (suc n) [] = omega arith
taken-most (suc n) (r ∷ rs) = omega (arith, taken-most n rs)

-- what holds with the buffer filled up to i, `from` records behind before it and k now
pub record Puts (t b₀ b : List ℕ) (from k at i : ℕ) (s : Spot) : Type 0 where
  pub stands : Stands t k at s
  pub within : i ≤ length b₀
  pub long : length b ≡ length b₀
  pub count : from + length (next_records t from (length b₀)) ≡ k + length (next_records t k (length b₀ - i))
  pub put : sets b i (joined (next_records t k (length b₀ - i))) ≡ sets b₀ 0 (joined (next_records t from (length b₀)))

pub puts-start : {t : List ℕ} {k at : ℕ} {s : Spot} (b : List ℕ) → Stands t k at s → Puts t b b k k at 0 s
puts-start {t} {k} b x =
    let z : length b - 0 ≡ length b = omega arith in
    let e : next_records t k (length b - 0) ≡ next_records t k (length b) = ap (next_records t k) z in
    record {
      stands = x;
      within = omega arith;
      long = refl;
      count = omega (arith, ap length e);
      put = ap (λ (rs : List Record). sets b 0 (joined rs)) e;
    }

module _ {t b₀ b : List ℕ} {from k at i : ℕ} {s : Spot} (p : Puts t b₀ b from k at i s) where
  -- nothing more is put
  pub puts-end :
      (x : Standing) → x.records ≡ from → next_records t k (length b₀ - i) ≡ [] →
      PartPut t x b₀ b (record { spot = s; at = at; records = k; wrong = false })
  unfolding joined
  puts-end x e z =
      let rs : List Record = next_records t from (length b₀) in
      let m : length rs ≤ length b₀ / 40 = taken-most (length b₀ / 40) (drop from (records_of t)) in
      let l : length (joined rs) ≡ 40 * length rs = length-joined rs in
      let o : 0 + length (joined rs) ≡ length (joined rs) = omega arith in
      let q : rs ≡ next_records t x.records (length b₀) = ap (λ (n : ℕ). next_records t n (length b₀)) (sym e) in
      record {
        records = omega (arith, p.count, ap length z, ap length q);
        wrong = refl;
        memory =
            sym (ap (λ (r : List Record). sets b i (joined r)) z)
            ∙ p.put
            ∙ sets-eq (joined rs) b₀ 0 (omega arith)
            ∙ ap (λ (n : ℕ). joined rs ++ drop n b₀) o
            ∙ ap (λ (r : List Record). joined r ++ drop (length (joined r)) b₀) q;
        stands = p.stands;
      }

  pub none_more : length (whole_cells (nodes_of t)) ≤ k → next_records t k (length b₀ - i) ≡ []
  none_more h = ap (take ((length b₀ - i) / 40)) (none_here t k h) ∙ take-nil ((length b₀ - i) / 40)

  pub no_room : length b - i < 40 → next_records t k (length b₀ - i) ≡ []
  no_room h =
      let z : (length b₀ - i) / 40 ≡ 0 = omega (arith, p.long) in
      ap (λ (n : ℕ). take n (drop k (records_of t))) z

  module _ (h : 40 ≤ length b - i) where
    pub puts-room : i + 40 ≤ length b
    puts-room = omega arith

    pub puts-on : {j : ℕ} {s' : Spot} {w : Record} {b' : List ℕ} → Comes t k j s' → w ≡ record_there t s' → b' ≡ sets b i (bytes_of w) → Puts t b₀ b' from (k + 1) j (i + 40) s'
    unfolding joined
    puts-on {w = w} {b' = b'} c f e =
        let n : (length b₀ - i) / 40 ≡ suc ((length b₀ - (i + 40)) / 40) = omega (arith, p.long) in
        let rs : List Record = next_records t (k + 1) (length b₀ - (i + 40)) in
        let d : next_records t k (length b₀ - i) ≡ w ∷ rs =
        ap (λ (m : ℕ). take m (drop k (records_of t))) n
        ∙ ap (take (suc ((length b₀ - (i + 40)) / 40))) (c.rest ∙ ap (λ (r : Record). r ∷ drop (k + 1) (records_of t)) (sym f)) in
        record {
          stands = c.on;
          within = omega (arith, p.long);
          long = ap length e ∙ length-sets b i (bytes_of w) ∙ p.long;
          count = omega (arith, p.count, ap length d);
          put =
              ap₂ (λ (y : List ℕ) (m : ℕ). sets y (i + m) (joined rs)) e (sym (length-bytes w))
              ∙ sym (sets-append b i (bytes_of w) (joined rs))
              ∙ sym (ap (λ (r : List Record). sets b i (joined r)) d)
              ∙ p.put;
        }
