-- Codes before a place, one at a time, and whether a cell is the ninth of nine siblings. Assumes nothing.
use Rattle.std.specs.Prelude.{Err, Ok, Result}
use Rattle.code.specs.declared.Parts.{Parts}
use mathlib.Core.Path.{◌≡◌, refl, sym, ap, ap₂, ◌∙◌}
use mathlib.Core.Bool.{Bool, true, false, ◌&&◌}
use mathlib.Core.List.{List, [], ◌∷◌, ◌++◌}
use Prim.Native.Nat.{ℕ, zero, suc, ◌+◌, ◌-◌, ◌*◌, ◌/◌, ◌%◌, ◌^◌, ◌≤◌, ◌<◌}
use native.Mathlib.Nat.{pow-suc}
use native.Mathlib.Numerals.{add-one}
use native.Mathlib.Omega.{arith}
use lib.Dec.{eqb, ltb}
use lib.ListN.{length, take, set, get_or}
use lib.Seq.{length-take-le, get_or-take, take-take, take-suc-set}
use borrow.Author.Tests.{lt-ltb, le-ltb, eq-eqb, ne_eqb}
use Rattle.logic.specs.Laws.Bools.{and_none}
use Rattle.cell.specs.declared.Arrangement.{Arrangement}
use Rattle.code.specs.Code.{cell_of, cell_coded, cell_split, split, path_of, is_code, code_refusal}
use Rattle.code.proofs.Laws.Code.{coded-path, code-is-cell, code-passes}
use Rattle.code.specs.Number.{number_of, code_as}
use Rattle.ternary.proofs.Laws.Powers.{nine-le}
use Rattle.gathering.specs.Gather.{follows, merges, gathered_as, gathered}
use Rattle.gathering.proofs.Laws.Gather.{merges-finer, merges-ends, gathered-merges, gathered-stays}
use Rattle.gathering.proofs.Laws.Bare.{number_small}

-- a number of a cell is one of k + 1 digits
pub number-wide : (k n : ℕ) → n < 6 * 9 ^ k → n < 9 ^ (k + 1)
number-wide k n l = let e : 9 ^ (k + 1) ≡ 9 ^ k * 9 = ap (λ (i : ℕ). 9 ^ i) (add-one k) ∙ pow-suc 9 k in omega arith

module _ (a : Arrangement) (k n : ℕ) where
  pub follows-all : (d : ℕ) (xs : List ℕ) → d ≡ 0 → true ≡ follows a k n d xs
  unfolding follows
  follows-all zero xs e = refl
  follows-all (suc d) xs e = absurd (omega arith)

  pub follows-none : (d at : ℕ) (codes : List ℕ) → (d ≡ 0 → ⊥) → at ≡ 0 → false ≡ follows a k n d (take at codes)
  unfolding follows
  follows-none zero at codes h e = absurd (h refl)
  follows-none (suc d) zero codes h e = refl
  follows-none (suc d) (suc at) codes h e = absurd (omega arith)

  module _ (d at : ℕ) (codes : List ℕ) (l : at ≤ length codes) where
    held : length (take at codes) ≡ at
    held = length-take-le at codes l

    last : (at ≡ 0 → ⊥) → get_or (take at codes) (length (take at codes) - 1) 0 ≡ get_or codes (at - 1) 0
    last h =
        let n : at - 1 < at = omega arith in
        ap (λ (i : ℕ). get_or (take at codes) (i - 1) 0) held ∙ get_or-take at codes (at - 1) 0 n

    some : (at ≡ 0 → ⊥) → ltb 0 (length (take at codes)) ≡ true
    some h = lt-ltb 0 (length (take at codes)) (omega (arith, held))

  pub follows-other : (d at : ℕ) (codes : List ℕ) → (d ≡ 0 → ⊥) → (at ≡ 0 → ⊥) → at ≤ length codes → (get_or codes (at - 1) 0 ≡ code_as a k (n - 1) → ⊥) →
      false ≡ follows a k n d (take at codes)
  unfolding follows
  follows-other zero at codes h i l f = absurd (h refl)
  follows-other (suc d) at codes h i l f =
      let xs : List ℕ = take at codes in
      let o : eqb (get_or xs (length xs - 1) 0) (code_as a k (n - 1)) ≡ false = ne_eqb _ _ (λ e. f (sym (last d at codes l i) ∙ e)) in
      sym (ap₂ (λ (x y : Bool). x && (y && follows a k (n - 1) d (take (length xs - 1) xs))) (some d at codes l i) o)

  pub follows-more : (d at : ℕ) (codes : List ℕ) → (d ≡ 0 → ⊥) → (at ≡ 0 → ⊥) → at ≤ length codes → get_or codes (at - 1) 0 ≡ code_as a k (n - 1) →
      follows a k (n - 1) (d - 1) (take (at - 1) codes) ≡ follows a k n d (take at codes)
  unfolding follows
  follows-more zero at codes h i l f = absurd (h refl)
  follows-more (suc d) at codes h i l f =
      let xs : List ℕ = take at codes in
      let o : eqb (get_or xs (length xs - 1) 0) (code_as a k (n - 1)) ≡ true = eq-eqb _ _ (last d at codes l i ∙ f) in
      let j : suc d - 1 ≡ d = omega arith in
      let t : take (length xs - 1) xs ≡ take (at - 1) codes = ap (λ (m : ℕ). take (m - 1) xs) (held d at codes l) ∙ take-take (at - 1) at codes (omega arith) in
      ap₂ (λ (m : ℕ) (y : List ℕ). follows a k (n - 1) m y) j (sym t)
      ∙ sym (ap₂ (λ (x y : Bool). x && (y && follows a k (n - 1) d (take (length xs - 1) xs))) (some d at codes l i) o)

  -- ---- a ninth child

  pub merges-coarse : (xs : List ℕ) → k ≡ 0 → false ≡ merges a k n xs
  unfolding merges
  merges-coarse xs e = sym (ap (λ (b : Bool). b && (eqb (n % 9) 8 && follows a k n 8 xs)) (le-ltb 0 k (omega arith)))

  pub merges-other : (xs : List ℕ) → (n % 9 ≡ 8 → ⊥) → false ≡ merges a k n xs
  unfolding merges
  merges-other xs f = sym (ap (λ (b : Bool). ltb 0 k && (b && follows a k n 8 xs)) (ne_eqb (n % 9) 8 f) ∙ and_none (ltb 0 k))

  pub merges-follows : (xs : List ℕ) → (k ≡ 0 → ⊥) → n % 9 ≡ 8 → follows a k n 8 xs ≡ merges a k n xs
  unfolding merges
  merges-follows xs h e = sym (ap₂ (λ (b d : Bool). b && (d && follows a k n 8 xs)) (lt-ltb 0 k (omega arith)) (eq-eqb (n % 9) 8 e))

-- ---- a cell put behind the codes before a place, or its parent

module _ (a : Arrangement) (k n : ℕ) (codes : List ℕ) (at : ℕ) where
  pub merge-room : at ≤ length codes → merges a k n (take at codes) ≡ true → 8 ≤ at
  merge-room l t = omega (arith, (merges-ends a k n (take at codes) t).0, length-take-le at codes l)

  pub merge-finer : merges a k n (take at codes) ≡ true → 0 < k
  merge-finer t = merges-finer a k n (take at codes) t

  pub merge_on : at ≤ length codes → merges a k n (take at codes) ≡ true → gathered_as a (k - 1) (n / 9) (take (at - 8) codes) ≡ gathered_as a k n (take at codes)
  merge_on l t =
      let e : length (take at codes) ≡ at = length-take-le at codes l in
      sym (gathered-merges a k n (take at codes) t
      ∙ ap (gathered_as a (k - 1) (n / 9)) (ap (λ (i : ℕ). take (i - 8) (take at codes)) e ∙ take-take (at - 8) at codes (omega arith)))

  pub stay-put : {code : ℕ} → at < length codes → merges a k n (take at codes) ≡ false → code ≡ code_as a k n → take (at + 1) (set codes at code) ≡ gathered_as a k n (take at codes)
  stay-put {code} l t e =
      ap (λ (i : ℕ). take i (set codes at code)) (add-one at) ∙ take-suc-set codes at code l ∙ ap (λ (c : ℕ). take at codes ++ (c ∷ [])) e
      ∙ sym (gathered-stays a k n (take at codes) t)

-- ---- a code taken apart

abbrev face_in : Result Parts ℕ → ℕ
face_in (Ok x) = x.face
face_in (Err q) = 0

abbrev resolution_in : Result Parts ℕ → ℕ
resolution_in (Ok x) = x.resolution
resolution_in (Err q) = 0

abbrev path_is : Result Parts ℕ → ℕ
path_is (Ok x) = x.path
path_is (Err q) = 0

abbrev refused_in : Result Parts ℕ → ℕ
refused_in (Ok x) = 0
refused_in (Err q) = 1

module _ (code : ℕ) (i : is_code code ≡ true) {r : Result Parts ℕ} (e : r ≡ split (code_refusal code) code) where
  whole : r ≡ Ok (record { face = (cell_of code).face; resolution = (cell_of code).resolution; path = path_of (cell_of code) })
  unfolding cell_of cell_coded cell_split is_code
  whole =
      e ∙ ap (λ (q : ℕ). split q code) (code-passes code i)
      ∙ ap (λ (p : ℕ). Ok (record { face = code / 16 / 16 / 9 ^ 15; resolution = code / 16 % 16; path = p })) (sym (coded-path (code / 16) i))

  pub never : (q : ℕ) → r ≡ Err q → ⊥
  never q t = let z : ◌≡◌ {A = ℕ} 1 0 = sym (ap refused_in t) ∙ ap refused_in whole in omega arith

  module _ {f k p : ℕ} (t : r ≡ Ok (record { face = f; resolution = k; path = p })) where
    resolved : k ≡ (cell_of code).resolution
    resolved = sym (ap resolution_in t) ∙ ap resolution_in whole

    pub part-fine : k ≤ 15
    part-fine = omega (arith, resolved, (code-is-cell code i).fine)

    module _ {power : ℕ} (w : power ≡ 9 ^ k) where
      number : f * power + p ≡ number_of (cell_of code)
      unfolding number_of
      number =
          ap₂ ◌+◌ (ap₂ ◌*◌ (sym (ap face_in t) ∙ ap face_in whole) (w ∙ ap (λ (j : ℕ). 9 ^ j) resolved)) (sym (ap path_is t) ∙ ap path_is whole)

      pub part_small : f * power + p < 6 * 9 ^ k
      part_small = let g : 9 ^ k ≡ 9 ^ (cell_of code).resolution = ap (λ (j : ℕ). 9 ^ j) resolved in omega (arith, number, number_small (cell_of code) (code-is-cell code i))

      pub part-fits : f * power + p < 1235346792567894
      part-fits = let g : 9 ^ k ≤ 9 ^ 15 = nine-le {i = k} {j = 15} part-fine in omega (arith, part_small)

      pub part-gathered : (a : Arrangement) (xs : List ℕ) → gathered_as a k (f * power + p) xs ≡ gathered a code xs
      part-gathered a xs = ap₂ (λ (j m : ℕ). gathered_as a j m xs) resolved number
