-- Bytes stored behind those kept, as many as there is room for, and the next line feed of a part. Assumes nothing.
use mathlib.Core.Path.{◌≡◌, refl, sym, ap, ap₂, ◌∙◌}
use mathlib.Core.Logic.{◌⊎◌, ⊎_elim}
use mathlib.Core.Bool.{Bool, true, false}
use mathlib.Core.List.{List, [], ◌∷◌, ◌++◌}
use Prim.Native.Nat.{ℕ, zero, suc, ◌+◌, ◌-◌, ◌≤◌, ◌<◌}
use native.Mathlib.Omega.{arith}
use lib.Dec.{eqb}
use lib.ListN.{length, take, drop, get_or, length-drop}
use lib.Seq.{take_all, take-take, take-append-add, drop-drop}
use borrow.Author.Tests.{eqb-true, eqb-false}
use Rattle.lines.specs.Find.{index_of, index_after}
use Rattle.lines.specs.Lines.{Unended}

length-take-most : (n : ℕ) (xs : List ℕ) → length (take n xs) ≤ n
length-take-most zero xs = omega arith
length-take-most (suc n) [] = omega arith
length-take-most (suc n) (x ∷ xs) = omega (arith, length-take-most n xs)

-- all that there is room for
pub cut-there :
    (front xs : List ℕ) (kept count n room : ℕ) → length front ≡ kept → kept ≤ room → (count ≡ n) ⊎ (count ≡ room - kept) → count ≤ n → count ≤ room - kept →
    front ++ take count xs ≡ take room (front ++ take n xs)
cut-there front xs kept count n room f h e a b =
    let m : length front + (room - kept) ≡ room = omega arith in
    ap (λ (l : List ℕ). front ++ l) (sym (⊎_elim all some e)) ∙ sym (take-append-add front (take n xs) (room - kept))
    ∙ ap (λ (j : ℕ). take j (front ++ take n xs)) m
  where
    all : count ≡ n → take (room - kept) (take n xs) ≡ take count xs
    all z =
        let l : length (take n xs) ≤ n = length-take-most n xs in
        take_all (room - kept) (take n xs) (omega arith) ∙ ap (λ (j : ℕ). take j xs) (sym z)

    some : count ≡ room - kept → take (room - kept) (take n xs) ≡ take count xs
    some z = take-take (room - kept) n xs (omega arith) ∙ ap (λ (j : ℕ). take j xs) (sym z)

-- a byte that is not the one looked for is passed over; nothing is left at the end
pub passed_over : (part : List ℕ) (i b : ℕ) → i < length part → eqb (get_or part i 0) b ≡ false → i + index_of b (drop i part) ≡ (i + 1) + index_of b (drop (i + 1) part)
unfolding index_of index_after
passed_over [] i b h e = absurd (omega arith)
passed_over (x ∷ xs) zero b h e =
    let z : index_after (eqb x b) (index_of b xs) ≡ suc (index_of b xs) = ap (λ (t : Bool). index_after t (index_of b xs)) e in omega (arith, z)
passed_over (x ∷ xs) (suc i) b h e =
    let z : i + index_of b (drop i xs) ≡ (i + 1) + index_of b (drop (i + 1) xs) = passed_over xs i b (omega arith) e in
    let k : suc i + 1 ≡ suc (i + 1) = omega arith in
    let n : drop (suc i + 1) (x ∷ xs) ≡ drop (i + 1) xs = ap (λ (j : ℕ). drop j (x ∷ xs)) k in
    let m : index_of b (drop (suc i + 1) (x ∷ xs)) ≡ index_of b (drop (i + 1) xs) = ap (index_of b) n in
    omega (arith, z, m)

pub found_there : (part : List ℕ) (i b : ℕ) → i < length part → eqb (get_or part i 0) b ≡ true → i + index_of b (drop i part) ≡ i
unfolding index_of index_after
found_there [] i b h e = absurd (omega arith)
found_there (x ∷ xs) zero b h e =
    let z : index_after (eqb x b) (index_of b xs) ≡ 0 = ap (λ (t : Bool). index_after t (index_of b xs)) e in omega (arith, z)
found_there (x ∷ xs) (suc i) b h e =
    let z : i + index_of b (drop i xs) ≡ i = found_there xs i b (omega arith) e in omega (arith, z)

pub found_nowhere : (part : List ℕ) (i b : ℕ) → length part ≤ i → index_of b (drop i part) ≡ 0
unfolding index_of
found_nowhere [] zero b h = refl
found_nowhere [] (suc i) b h = refl
found_nowhere (x ∷ xs) zero b h = absurd (omega arith)
found_nowhere (x ∷ xs) (suc i) b h = found_nowhere xs i b (omega arith)

-- up to the first line feed there is none
pub unended-front : (xs : List ℕ) → Unended (take (index_of 10 xs) xs)
unfolding index_of index_after
unended-front [] = tt
unended-front (x ∷ xs) = go (eqb x 10) refl (unended-front xs)
  where
    go : (t : Bool) → eqb x 10 ≡ t → Unended (take (index_of 10 xs) xs) → Unended (take (index_after t (index_of 10 xs)) (x ∷ xs))
    go true e u = tt
    go false e u = (eqb-false x 10 e, u)

-- and there is one
pub ends_there : (xs : List ℕ) → index_of 10 xs < length xs → xs ≡ take (index_of 10 xs) xs ++ (10 ∷ drop (suc (index_of 10 xs)) xs)
unfolding index_of index_after
ends_there [] h = absurd (omega arith)
ends_there (x ∷ xs) h = go (eqb x 10) refl (λ k. ends_there xs k) h
  where
    go :
        (t : Bool) → eqb x 10 ≡ t → (index_of 10 xs < length xs → xs ≡ take (index_of 10 xs) xs ++ (10 ∷ drop (suc (index_of 10 xs)) xs)) →
        index_after t (index_of 10 xs) < suc (length xs) →
        x ∷ xs ≡ take (index_after t (index_of 10 xs)) (x ∷ xs) ++ (10 ∷ drop (suc (index_after t (index_of 10 xs))) (x ∷ xs))
    go true e f k = ap (λ (y : ℕ). y ∷ xs) (eqb-true x 10 e)
    go false e f k = ap (λ (l : List ℕ). x ∷ l) (f (omega arith))

-- a part from a place on, where the next line feed was looked for
module _ (part : List ℕ) (at : ℕ) (h : at ≤ length part) {end : ℕ} (e : end ≡ at + index_of 10 (drop at part)) where
  here : end ≡ at + index_of 10 (drop at part)
  here = e

  count : end - at ≡ index_of 10 (drop at part)
  count = let z : end ≡ at + index_of 10 (drop at part) = here in omega arith

  left : length (drop at part) ≡ length part - at
  left = length-drop at part

  pub line-unended : Unended (take (end - at) (drop at part))
  line-unended = rw count (unended-front (drop at part))

  pub line-ends : end < length part → drop at part ≡ take (end - at) (drop at part) ++ (10 ∷ drop (end + 1) part)
  line-ends l =
      let m : ℕ = index_of 10 (drop at part) in
      let z : end ≡ at + m = here in
      let n : at + suc m ≡ end + 1 = omega arith in
      ends_there (drop at part) (omega (arith, left))
      ∙ ap₂ (λ (j : ℕ) (x : List ℕ). take j (drop at part) ++ (10 ∷ x)) (sym count) (drop-drop (suc m) at part ∙ ap (λ (j : ℕ). drop j part) n)

  -- all that is left
  pub part_left : end ≡ length part → take (end - at) (drop at part) ≡ drop at part
  part_left l = take_all (end - at) (drop at part) (omega (arith, left))
