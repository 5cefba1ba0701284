-- The answers of `ask`, in the order of its tests. Assumes nothing.
use Rattle.std.specs.Prelude.{Err}
use mathlib.Core.Path.{◌≡◌, refl, sym, ap, ◌∙◌}
use mathlib.Core.Bool.{Bool, true, false, not}
use mathlib.Core.List.{List}
use Prim.Native.Nat.{ℕ, zero, suc}
use native.Mathlib.Omega.{arith}
use Rattle.logic.specs.Refusal.{refuse}
use Rattle.logic.specs.Laws.Refusal.{stops, passes}
use Rattle.cell.specs.declared.Arrangement.{Arrangement}
use Rattle.code.specs.Code.{is_of, code_refusal}
use Rattle.reader.specs.Check.{place_with}
use Rattle.reading.specs.declared.Profile.{Profile}
use Rattle.reader.specs.Laws.Answer.{TextChecked, TextRefused, checked-arrangement}
use Rattle.asking.specs.Ask.{ask_refusal, asked}

refusal : {q r p : ℕ} (t : List ℕ) (code : ℕ) → q ≡ r → (r ≡ 0 → ⊥) → p ≡ place_with r t → Err (record { refusal = r; place = p }) ≡ asked q t code
unfolding asked
refusal {r = zero} t code e h k = absurd (h refl)
refusal {r = suc r} t code e h k = ap (λ (p : ℕ). Err (record { refusal = suc r; place = p })) k ∙ sym (ap (λ (y : ℕ). asked y t code) e)

module _ (t : List ℕ) (code : ℕ) where
  -- 4, whatever comes next
  pub no_code : code_refusal code ≡ 4 → Err (record { refusal = 4; place = 0 }) ≡ asked (ask_refusal t code) t code
  unfolding ask_refusal
  no_code f = refusal t code (stops _ _ (λ y. let k : 4 ≡ 0 = sym f ∙ y in omega arith) ∙ f) (λ y. omega arith) refl

  module _ (f : code_refusal code ≡ 0) where
    -- the text's
    pub not-read : {q p : ℕ} → TextRefused t q p → Err (record { refusal = q; place = p }) ≡ asked (ask_refusal t code) t code
    unfolding ask_refusal
    not-read u = refusal t code (passes _ f ∙ stops _ _ (λ y. u.some (sym u.refusal ∙ y)) ∙ u.refusal) u.some u.place

    module _ {p : Profile} {n s c y b : ℕ} (r : TextChecked t p n s c y b) where
      last : {o : Bool} → is_of (record { north = n; south = s }) code ≡ o → ask_refusal t code ≡ refuse (not o) 14
      unfolding ask_refusal
      last h =
          passes _ f ∙ passes _ r.allowed ∙ ap (λ (o : Bool). refuse (not o) 14) (ap (λ (a : Arrangement). is_of a code) (sym (checked-arrangement r)) ∙ h)

      -- 14
      pub another : is_of (record { north = n; south = s }) code ≡ false → Err (record { refusal = 14; place = 0 }) ≡ asked (ask_refusal t code) t code
      another h = refusal t code (last h) (λ y. omega arith) refl

      -- the answer
      pub answered : is_of (record { north = n; south = s }) code ≡ true → asked 0 t code ≡ asked (ask_refusal t code) t code
      answered h = sym (ap (λ (q : ℕ). asked q t code) (last h))
