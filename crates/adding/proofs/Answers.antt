-- The answers of `add`, in the order of its tests. Assumes nothing.
use Rattle.std.specs.Prelude.{Err, Result}
use Rattle.reading.specs.declared.Refused.{Refused}
use mathlib.Core.Path.{◌≡◌, refl, sym, ap, ◌∙◌}
use mathlib.Core.Bool.{Bool, true, false, not}
use mathlib.Core.List.{List}
use Prim.Native.Nat.{ℕ, zero, suc, ◌≤◌, ◌<◌}
use native.Mathlib.Omega.{arith}
use lib.Dec.{ltb}
use lib.ListN.{length, take}
use borrow.Author.Tests.{lt-ltb, le-ltb}
use Rattle.logic.specs.Refusal.{refuse, ◌otherwise◌, given}
use Rattle.logic.specs.Laws.Refusal.{stops, passes}
use Rattle.cell.specs.declared.Arrangement.{Arrangement}
use Rattle.code.specs.Code.{cell_of, is_of, code_refusal}
use Rattle.reading.specs.declared.Profile.{Profile}
use Rattle.reader.specs.Check.{place_with}
use Rattle.reader.specs.Laws.Answer.{TextChecked, TextRefused, checked-arrangement}
use Rattle.asking.specs.Ask.{ask_refusal}
use Rattle.adding.specs.Add.{text_with, keeps_with, size_refusal, with_refusal, add_refusal, added, resized, placed, Gains}

-- neither 15 nor 13 nor 8 has a place
resized-added : (t : List ℕ) (code room : ℕ) → let q = with_refusal t (cell_of code) room in resized q (length (text_with t (cell_of code))) ≡ added q t code
unfolding with_refusal size_refusal resized added ◌otherwise◌
resized-added t code room =
    go (not (keeps_with t (cell_of code))) (ltb 65536 (length (text_with t (cell_of code)))) (ltb room (length (text_with t (cell_of code))))
  where
    n : ℕ
    n = length (text_with t (cell_of code))

    go : (x y z : Bool) → let q = refuse x 15 otherwise refuse y 13 otherwise refuse z 8 in resized q n ≡ added q t code
    go true y z = refl
    go false true z = refl
    go false false true = refl
    go false false false = refl

module _ (bytes : List ℕ) (end code : ℕ) where
  abbrev t : List ℕ
  t = take end bytes

  -- the answer and the bytes afterwards are those of the definition
  abbrev pub Adds : (after : List ℕ) → Result ℕ Refused → Type 0
  Adds after r = (r ≡ added (add_refusal bytes end code) t code) × (after ≡ placed (add_refusal bytes end code) (text_with t (cell_of code)) bytes)

  refusal : {r p : ℕ} → add_refusal bytes end code ≡ r → (r ≡ 0 → ⊥) → p ≡ place_with r t → Adds bytes (Err (record { refusal = r; place = p }))
  unfolding added placed given
  refusal {r = zero} e h k = absurd (h refl)
  refusal {r = suc r} e h k = (
    ap (λ (p : ℕ). Err (record { refusal = suc r; place = p })) k ∙ sym (ap (λ (y : ℕ). added y t code) e),
    sym (ap (λ (y : ℕ). placed y (text_with t (cell_of code)) bytes) e),
  )

  told : {r : ℕ} {a : Result ℕ Refused} → a ≡ Err (record { refusal = r; place = 0 }) → Adds bytes (Err (record { refusal = r; place = 0 })) → Adds bytes a
  told e d = (e ∙ d.0, d.1)

  -- 4, whatever comes next
  pub no_code : {a : Result ℕ Refused} → a ≡ Err (record { refusal = 4; place = 0 }) → code_refusal code ≡ 4 → Adds bytes a
  unfolding add_refusal
  no_code e f = told e (refusal (stops _ _ (λ y. let k : 4 ≡ 0 = sym f ∙ y in omega arith) ∙ f) (λ y. omega arith) refl)

  module _ (f : code_refusal code ≡ 0) where
    -- 13
    pub too_long : {a : Result ℕ Refused} → a ≡ Err (record { refusal = 13; place = 0 }) → 65536 < end → Adds bytes a
    unfolding add_refusal ◌otherwise◌
    too_long e h = told e (refusal (passes _ f ∙ rw (lt-ltb 65536 end h)) (λ y. omega arith) refl)

    module _ (g : end ≤ 65536) where
      -- 8
      pub not-lent : {a : Result ℕ Refused} → a ≡ Err (record { refusal = 8; place = 0 }) → length bytes < end → Adds bytes a
      unfolding add_refusal ◌otherwise◌
      not-lent e h = told e (refusal (passes _ f ∙ rw (le-ltb 65536 end g, lt-ltb (length bytes) end h)) (λ y. omega arith) refl)

      module _ (h : end ≤ length bytes) where
        lent : add_refusal bytes end code ≡ ask_refusal t code otherwise with_refusal t (cell_of code) (length bytes)
        unfolding add_refusal
        lent =
            passes _ f ∙ passes _ (ap (λ (b : Bool). refuse b 13) (le-ltb 65536 end g)) ∙ passes _ (ap (λ (b : Bool). refuse b 8) (le-ltb (length bytes) end h))

        -- the text's
        pub not-read : {q p : ℕ} → TextRefused t q p → Adds bytes (Err (record { refusal = q; place = p }))
        unfolding ask_refusal
        not-read {q} u =
            let k : ask_refusal t code ≡ q = passes _ f ∙ stops _ _ (λ y. u.some (sym u.refusal ∙ y)) ∙ u.refusal in
            refusal (lent ∙ stops _ _ (λ y. u.some (sym k ∙ y)) ∙ k) u.some u.place

        module _ {p : Profile} {n s c y b : ℕ} (r : TextChecked t p n s c y b) where
          last : {o : Bool} → is_of (record { north = n; south = s }) code ≡ o → ask_refusal t code ≡ refuse (not o) 14
          unfolding ask_refusal
          last j =
              passes _ f ∙ passes _ r.allowed ∙ ap (λ (o : Bool). refuse (not o) 14) (ap (λ (a : Arrangement). is_of a code) (sym (checked-arrangement r)) ∙ j)

          -- 14
          pub another : {a : Result ℕ Refused} → a ≡ Err (record { refusal = 14; place = 0 }) → is_of (record { north = n; south = s }) code ≡ false → Adds bytes a
          another e j = told e (refusal (lent ∙ stops _ _ (λ z. let k : 14 ≡ 0 = sym (last j) ∙ z in omega arith) ∙ last j) (λ z. omega arith) refl)

          -- the text with the cell
          pub gained : {after : List ℕ} {a : Result ℕ Refused} → is_of (record { north = n; south = s }) code ≡ true → Gains t (cell_of code) bytes after a → Adds after a
          gained j g =
              let q : add_refusal bytes end code ≡ with_refusal t (cell_of code) (length bytes) = lent ∙ passes _ (last j) in (
                g.answer ∙ resized-added t code (length bytes) ∙ sym (ap (λ (x : ℕ). added x t code) q),
                g.bytes ∙ sym (ap (λ (x : ℕ). placed x (text_with t (cell_of code)) bytes) q),
              )
