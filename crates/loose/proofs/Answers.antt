-- What is answered, from what the heading and the scan tell. Assumes nothing.
use Rattle.std.specs.Prelude.{Err, Ok}
use mathlib.Core.Path.{◌≡◌, refl, sym, ap, ap₂, ◌∙◌}
use mathlib.Core.Bool.{Bool, true, false, ◌&&◌, cond}
use mathlib.Core.List.{List}
use Prim.Native.Nat.{ℕ, ◌+◌, ◌-◌, ◌≤◌, ◌<◌}
use native.Mathlib.Omega.{arith}
use lib.ListN.{length, drop, get_or, length-drop}
use lib.Dec.{leb, ltb, eqb}
use borrow.Author.Tests.{lt-leb, le-leb, lt-ltb, le-ltb, eq-eqb, ne_eqb}
use Rattle.logic.specs.Laws.Bools.{and_none}
use Rattle.cell.specs.declared.Arrangement.{Arrangement}
use Rattle.reading.proofs.Laws.Heading.{lead-length, lead-bounds}
use Rattle.loose.specs.LooseScan.{least_one, greatest_one, lead_one, scan, depth, loose_place}
use Rattle.loose.specs.Look.{not_one, is_loose, loose_refusal, looked}
use Rattle.loose.proofs.Laws.Scan.{scan-most}
use Rattle.loose.proofs.Laws.Look.{refusal-13, refusal-10, refusal-9, refusal-0, version-short, version-early, version-late, version-other}

module _ (t : List ℕ) where
  pub long-answer : 65536 < length t → Err (record { refusal = 13; place = 0 }) ≡ looked (loose_refusal t) t
  unfolding looked
  long-answer h = sym (ap (λ (r : ℕ). looked r t) (refusal-13 t h))

  module _ (h : length t ≤ 65536) where
    nine : {p : ℕ} → not_one t ≡ false → is_loose t ≡ false → p ≡ loose_place t → Err (record { refusal = 9; place = p }) ≡ looked (loose_refusal t) t
    unfolding looked
    nine e f g = ap (λ (p : ℕ). Err (record { refusal = 9; place = p })) g ∙ sym (ap (λ (r : ℕ). looked r t) (refusal-9 t h e f))

    -- ---- the heading is not right

    module _ {right : ℕ} (e : right ≡ lead_one t) (s : right < 7) where
      head-place : not_one t ≡ false → Err (record { refusal = 9; place = right }) ≡ looked (loose_refusal t) t
      unfolding is_loose loose_place
      head-place v =
          nine v (rw (lt-leb 7 (lead_one t) (omega arith)) refl) (e ∙ sym (rw (lt-ltb (lead_one t) 7 (omega arith)) refl))

      pub head-cut : length t < 5 → Err (record { refusal = 9; place = right }) ≡ looked (loose_refusal t) t
      head-cut k = head-place (version-short t k)

      pub head-mark : right < 3 → Err (record { refusal = 9; place = right }) ≡ looked (loose_refusal t) t
      head-mark k = head-place (version-early t (omega arith))

      pub head-turns : 5 ≤ right → Err (record { refusal = 9; place = right }) ≡ looked (loose_refusal t) t
      head-turns k = head-place (version-late t (omega arith))

      pub head-version : 5 ≤ length t → 3 ≤ right → right < 5 → Err (record { refusal = 10; place = 0 }) ≡ looked (loose_refusal t) t
      unfolding looked
      head-version k l m = sym (ap (λ (r : ℕ). looked r t) (refusal-10 t h (version-other t k (omega arith) (omega arith))))

    -- ---- the heading is right

    module _ (l : 7 ≤ lead_one t) where
      pub long : 7 ≤ length t
      long = omega (arith, lead-length least_one greatest_one t)

      pub north-byte : (48 ≤ get_or t 5 0) × (get_or t 5 0 ≤ 51)
      north-byte = lead-bounds least_one greatest_one t 5 (omega arith)

      pub south-byte : (48 ≤ get_or t 6 0) × (get_or t 6 0 ≤ 51)
      south-byte = lead-bounds least_one greatest_one t 6 (omega arith)

      at-scan : loose_place t ≡ 7 + scan 0 false (drop 7 t)
      unfolding loose_place
      at-scan = rw (le-ltb (lead_one t) 7 l) refl

      module _ {q d : ℕ} (e : q ≡ 7 + scan 0 false (drop 7 t)) (f : d ≡ depth 0 false (drop 7 t)) where
        pub stopped : q < length t → Err (record { refusal = 9; place = q }) ≡ looked (loose_refusal t) t
        unfolding is_loose
        stopped k =
            nine (version-late t (omega arith))
            (rw (ne_eqb (scan 0 false (drop 7 t)) (length (drop 7 t)) (λ z. omega (arith, length-drop 7 t))) (and_none (leb 7 (lead_one t))))
            (e ∙ sym at-scan)

        pub left_open : (d ≡ 0 → ⊥) → Err (record { refusal = 9; place = q }) ≡ looked (loose_refusal t) t
        unfolding is_loose
        left_open n =
            nine (version-late t (omega arith))
            (rw (ne_eqb (depth 0 false (drop 7 t)) 0 (λ z. n (f ∙ z)), and_none (eqb (scan 0 false (drop 7 t)) (length (drop 7 t)))) (and_none (leb 7 (lead_one t))))
            (e ∙ sym at-scan)

        all-scanned : length t ≤ q → scan 0 false (drop 7 t) ≡ length (drop 7 t)
        all-scanned k = omega (arith, length-drop 7 t, scan-most (drop 7 t) 0 false)

        pub scanned : length t ≤ q → d ≡ 0 → Ok (record { north = get_or t 5 0 - 48; south = get_or t 6 0 - 48 }) ≡ looked (loose_refusal t) t
        unfolding looked is_loose
        scanned k z =
            sym
            (ap (λ (r : ℕ). looked r t)
            (refusal-0 t h (version-late t (omega arith))
            (ap₂ ◌&&◌ (le-leb 7 (lead_one t) l) (ap₂ ◌&&◌ (eq-eqb _ _ (all-scanned k)) (eq-eqb _ _ (sym f ∙ z))))))
