-- What a caller of listing has: the codes of the text in front of its room, or the refusal. Assumes nothing.
use Rattle.std.specs.Prelude.{◌≡◌, refl, List, ℕ, zero, suc, ◌≤◌, take, drop, Err, Ok, Result}
use Rattle.std.proofs.Common.{sym, ◌∙◌, arith}
use Rattle.std.proofs.Math.Path.{ap}
use Rattle.std.proofs.Math.ListN.{length}
use Rattle.std.proofs.Math.Seq.{take_at}
use Rattle.reading.specs.declared.Refused.{Refused}
use borrow.Author.Tests.{ltb-false}
use Rattle.logic.specs.Refusal.{given}
use Rattle.logic.specs.Laws.Refusal.{both, allowed}
use Rattle.reader.specs.Check.{text_refusal, place_with}
use Rattle.listing.specs.List.{codes_of, codes_in, listing_refusal, listed}
use Rattle.logic.specs.Laws.Answer.{err-is}

listed-as : (q : ℕ) (t : List ℕ) (n : ℕ) → listed q t ≡ Ok n → (q ≡ 0) × (length (codes_of t) ≡ n)
unfolding listed
listed-as zero t n e = (refl, (cc))
listed-as (suc q) t n e = let z : ◌≡◌ {A = ℕ} 0 1 = cc in absurd (omega arith)

not_listed : (q : ℕ) (t : List ℕ) (r p : ℕ) → listed q t ≡ Err (record { refusal = r; place = p }) → (q ≡ r) × (r ≡ 0 → ⊥)
unfolding listed
not_listed zero t r p e = let z : ◌≡◌ {A = ℕ} 0 1 = cc in absurd (omega arith)
not_listed (suc q) t r p e = let k : suc q ≡ r = ap (λ (x : Refused). x.refusal) (err-is e) in (k, λ z. omega arith)

not-listed-at : (q : ℕ) (t : List ℕ) (r p : ℕ) → listed q t ≡ Err (record { refusal = r; place = p }) → p ≡ place_with r t
unfolding listed
not-listed-at zero t r p e = let z : ◌≡◌ {A = ℕ} 0 1 = cc in absurd (omega arith)
not-listed-at (suc q) t r p e =
    let k : suc q ≡ r = ap (λ (x : Refused). x.refusal) (err-is e) in
    let l : place_with (suc q) t ≡ p = ap (λ (x : Refused). x.place) (err-is e) in
    sym l ∙ ap (λ (x : ℕ). place_with x t) k

module _ (t codes : List ℕ) {r : Result ℕ Refused} (e : r ≡ listed (listing_refusal t (length codes)) t) where
  pub listed-allowed : (n : ℕ) → r ≡ Ok n → listing_refusal t (length codes) ≡ 0
  listed-allowed n f = (listed-as (listing_refusal t (length codes)) t n (sym e ∙ f)).0

  -- the text's own refusal comes first
  pub listed-text : (n : ℕ) → r ≡ Ok n → text_refusal t ≡ 0
  unfolding listing_refusal
  listed-text n f = (both (text_refusal t) _ (listed-allowed n f)).0

  -- the codes listed have their room
  pub listed-fits : (n : ℕ) → r ≡ Ok n → n ≤ length codes
  unfolding listing_refusal
  listed-fits n f =
      let k = listed-as (listing_refusal t (length codes)) t n (sym e ∙ f) in
      let l : length (codes_of t) ≤ length codes = ltb-false (length codes) (length (codes_of t)) (allowed 7 _ (both (text_refusal t) _ k.0).1) in
      omega (arith, k.1)

  -- and are the text's
  pub listed-taken : (n : ℕ) (later : List ℕ) → r ≡ Ok n → later ≡ given (listing_refusal t (length codes)) (codes_in t codes) codes → take n later ≡ codes_of t
  unfolding given codes_in
  listed-taken n later f g =
      let k = listed-as (listing_refusal t (length codes)) t n (sym e ∙ f) in
      ap (take n) (g ∙ ap (λ (q : ℕ). given q (codes_in t codes) codes) k.0) ∙ take_at (codes_of t) (drop (length (codes_of t)) codes) n k.1

  pub listed-refused : (q p : ℕ) → r ≡ Err (record { refusal = q; place = p }) → (listing_refusal t (length codes) ≡ q) × (q ≡ 0 → ⊥)
  listed-refused q p f = not_listed (listing_refusal t (length codes)) t q p (sym e ∙ f)

  -- with the refusal's place
  pub listed-place : (q p : ℕ) → r ≡ Err (record { refusal = q; place = p }) → p ≡ place_with q t
  listed-place q p f = not-listed-at (listing_refusal t (length codes)) t q p (sym e ∙ f)
