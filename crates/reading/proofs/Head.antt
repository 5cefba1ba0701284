-- Leading bytes between bounds, byte by byte. Assumes nothing.
use mathlib.Core.Path.{◌≡◌, refl, ◌∙◌}
use mathlib.Core.Bool.{cond}
use mathlib.Core.List.{List, [], ◌∷◌}
use Prim.Native.Nat.{ℕ, suc, ◌+◌, ◌≤◌, ◌<◌}
use native.Mathlib.Omega.{arith}
use native.Mathlib.Numerals.{add-one}
use lib.ListN.{length, drop, get_or, drop_of_length-le}
use lib.Seq.{drop-cons}
use lib.Dec.{leb}
use borrow.Author.Tests.{le-leb, lt-leb}
use Rattle.reading.specs.Heading.{lead}

drop-byte : (s : List ℕ) (i : ℕ) → i < length s → drop i s ≡ get_or s i 0 ∷ drop (i + 1) s
drop-byte s i h = rw (add-one, drop-cons s i 0)

-- what holds before the byte at i, of bounds a and b
pub record Inv (a b t : List ℕ) (i : ℕ) : Type 0 where
  pub short : i ≤ length a
  pub within : i ≤ length t
  pub tied : lead a b t ≡ i + lead (drop i a) (drop i b) (drop i t)

lead-none : (a b : List ℕ) → lead a b [] ≡ 0
unfolding lead
lead-none [] b = refl
lead-none (x ∷ a) [] = refl
lead-none (x ∷ a) (y ∷ b) = refl

module _ {a b t : List ℕ} {i : ℕ} (v : Inv a b t i) where
  pub cut : i ≡ length t → i ≡ lead a b t
  cut e =
      let z : lead (drop i a) (drop i b) (drop i t) ≡ 0 = rw (drop_of_length-le t {i = i} (omega arith)) (lead-none (drop i a) (drop i b)) in
      omega (arith, v.tied)

  pub all : length a ≤ i → i ≡ lead a b t
  unfolding lead
  all e =
      let z : lead (drop i a) (drop i b) (drop i t) ≡ 0 = rw (drop_of_length-le a {i = i} (omega arith)) in
      omega (arith, v.tied, v.short)

  module _ (e₀ : length a ≡ length b) (h : i < length a) (k : i < length t) where
    one : lead (drop i a) (drop i b) (drop i t)
        ≡ cond (leb (get_or a i 0) (get_or t i 0)) (cond (leb (get_or t i 0) (get_or b i 0)) (suc (lead (drop (i + 1) a) (drop (i + 1) b) (drop (i + 1) t))) 0) 0
    unfolding lead
    one = rw (drop-byte a i h, drop-byte b i (omega arith), drop-byte t i k)

    pub low : get_or t i 0 < get_or a i 0 → i ≡ lead a b t
    low e =
        let z : lead (drop i a) (drop i b) (drop i t) ≡ 0 = one ∙ rw (lt-leb (get_or a i 0) (get_or t i 0) e) in
        omega (arith, v.tied)

    module _ (e : get_or a i 0 ≤ get_or t i 0) where
      pub high : get_or b i 0 < get_or t i 0 → i ≡ lead a b t
      high e' =
          let z : lead (drop i a) (drop i b) (drop i t) ≡ 0 = one ∙ rw (le-leb (get_or a i 0) (get_or t i 0) e, lt-leb (get_or t i 0) (get_or b i 0) e') in
          omega (arith, v.tied)

      pub more : get_or t i 0 ≤ get_or b i 0 → Inv a b t (i + 1)
      more e' =
          let z : lead (drop i a) (drop i b) (drop i t) ≡ suc (lead (drop (i + 1) a) (drop (i + 1) b) (drop (i + 1) t)) =
          one ∙ rw (le-leb (get_or a i 0) (get_or t i 0) e, le-leb (get_or t i 0) (get_or b i 0) e') in
          record { short = omega arith; within = omega arith; tied = omega (arith, v.tied) }
