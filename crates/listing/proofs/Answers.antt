-- The answers of `list`: a refusal leaves the lent codes as they were. Assumes nothing.
use Rattle.std.specs.Prelude.{Err, Ok}
use mathlib.Core.Path.{◌≡◌, refl, sym, ap, ◌∙◌}
use mathlib.Core.Bool.{Bool}
use mathlib.Core.List.{List}
use Prim.Native.Nat.{ℕ, zero, suc, ◌≤◌, ◌<◌}
use native.Mathlib.Omega.{arith}
use lib.ListN.{length}
use borrow.Author.Tests.{lt-ltb, le-ltb}
use Rattle.logic.specs.Refusal.{refuse, given}
use Rattle.logic.specs.Laws.Refusal.{stops, passes}
use Rattle.reader.specs.Check.{place_with}
use Rattle.reading.specs.declared.Profile.{Profile}
use Rattle.reader.specs.Laws.Answer.{TextChecked, TextRefused}
use Rattle.listing.specs.List.{codes_of, listing_refusal, listed}
use Rattle.listing.proofs.Laws.List.{listed-count}

module _ {t : List ℕ} {p : Profile} {n s c z b : ℕ} (r : TextChecked t p n s c z b) where
  pub counted : c ≡ length (codes_of t)
  counted = r.count ∙ sym (listed-count t)

  pub short : (room : ℕ) → room < c → listing_refusal t room ≡ 8
  unfolding listing_refusal
  short room h =
      let e = counted in
      passes _ r.allowed ∙ ap (λ (b : Bool). refuse b 8) (lt-ltb room (length (codes_of t)) (omega arith))

  pub enough : (room : ℕ) → c ≤ room → listing_refusal t room ≡ 0
  unfolding listing_refusal
  enough room h =
      let e = counted in
      passes _ r.allowed ∙ ap (λ (b : Bool). refuse b 8) (le-ltb room (length (codes_of t)) (omega arith))

pub unread : {t : List ℕ} {r p : ℕ} (room : ℕ) → TextRefused t r p → listing_refusal t room ≡ r
unfolding listing_refusal
unread room u = stops _ _ (λ z. u.some (sym u.refusal ∙ z)) ∙ u.refusal

pub nothing-listed : {q r p : ℕ} (t x codes : List ℕ) → q ≡ r → (r ≡ 0 → ⊥) → p ≡ place_with r t → (Err (record { refusal = r; place = p }) ≡ listed q t) × (codes ≡ given q x codes)
unfolding listed given
nothing-listed {r = zero} t x codes e h k = absurd (h refl)
nothing-listed {r = suc r} t x codes e h k = (ap (λ (p : ℕ). Err (record { refusal = suc r; place = p })) k ∙ sym (ap (λ (y : ℕ). listed y t) e), sym (ap (λ (y : ℕ). given y x codes) e))

pub all_listed : {q c : ℕ} {y x : List ℕ} (t codes : List ℕ) → q ≡ 0 → c ≡ length (codes_of t) → y ≡ x → (Ok c ≡ listed q t) × (y ≡ given q x codes)
unfolding listed given
all_listed {x = x} t codes e h k = (ap Ok h ∙ sym (ap (λ (a : ℕ). listed a t) e), k ∙ sym (ap (λ (a : ℕ). given a x codes) e))
