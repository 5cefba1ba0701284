-- The list, corner by corner: each corner of the four that is none of the face adds one code, and it is a new one. Assumes nothing.
use Rattle.std.specs.Prelude.{◌≡◌, Bool, true, false, ◌&&◌, ◌||◌, eqb, ltb}
use Rattle.std.proofs.Math.Path.{refl, sym, ap, subst}
use Rattle.std.proofs.Common.{◌∙◌, inl, inr, eqb-true}
use Rattle.std.proofs.Math.Logic.{⊎_elim}
use Rattle.std.proofs.Math.Bool.{cond}
use mathlib.Core.List.{List, [], ◌∷◌}
use Prim.Native.Nat.{ℕ, zero, suc, ◌+◌, ◌≤◌, ◌<◌}
use native.Mathlib.Omega.{arith}
use Rattle.std.proofs.Math.ListN.{length}
use Rattle.logic.specs.Laws.Bools.{by_cond}
use Rattle.logic.specs.Laws.Order.{lt-or}
use Rattle.logic.specs.Lists.{Mem}
use Rattle.logic.specs.Rise.{Rise}
use Rattle.cell.specs.declared.Cell.{Cell}
use Rattle.cell.specs.declared.Arrangement.{Arrangement}
use Rattle.cell.specs.Cell.{IsCell, IsArrangement}
use Rattle.cell.proofs.Laws.Turns.{four-cases}
use Rattle.code.specs.Code.{code_of}
use Rattle.code.proofs.Laws.Code.{code_one}
use Rattle.track.specs.Track.{inserted}
use Rattle.track.specs.Laws.Track.{holds-old, holds-new, holds-only, inserted-rises}
use Rattle.corner.specs.List.{face_corner, across_corner, with_corner, first_corners, corner_codes}
use Rattle.corner.proofs.Internal.Across.{across-cell, across-apart, face-corners}

-- a corner of the face adds nothing, and any other the code of the cell across
module _ (a : Arrangement) (c : Cell) (d : ℕ) (held : List ℕ) where
  pub adds_none : face_corner c d ≡ true → with_corner a c d held ≡ held
  unfolding with_corner
  adds_none e = ap (λ (t : Bool). cond t held (inserted (code_of a (across_corner a c d)) held)) e

  pub adds_one : face_corner c d ≡ false → with_corner a c d held ≡ inserted (code_of a (across_corner a c d)) held
  unfolding with_corner
  adds_one e = ap (λ (t : Bool). cond t held (inserted (code_of a (across_corner a c d)) held)) e

  by-corner : (P : List ℕ → Type 0) → P held → (face_corner c d ≡ false → P (inserted (code_of a (across_corner a c d)) held)) → P (with_corner a c d held)
  unfolding with_corner
  by-corner P p q = by_cond P (face_corner c d) (λ _. p) q

-- the corners that are none of the face, by the four edges that a cell lies at, up, right, down and left: of a face with two rows or more a cell
-- lies at no two opposite edges
pub tally :
    (u r d l : Bool) → (u ≡ true → d ≡ true → ⊥) → (r ≡ true → l ≡ true → ⊥) →
    cond (l && u) 0 1 + (cond (d && l) 0 1 + (cond (r && d) 0 1 + (cond (u && r) 0 1 + 0))) ≡ cond ((u || d) && (l || r)) 3 4
tally true r true l n m = absurd (n refl refl)
tally true true false true n m = absurd (m refl refl)
tally true true false false n m = refl
tally true false false true n m = refl
tally true false false false n m = refl
tally false true d true n m = absurd (m refl refl)
tally false true true false n m = refl
tally false true false false n m = refl
tally false false true true n m = refl
tally false false true false n m = refl
tally false false false true n m = refl
tally false false false false n m = refl

-- one more code, where it is a new one
new-length : (x : ℕ) (held : List ℕ) → (Mem x held → ⊥) → length (inserted x held) ≡ suc (length held)
unfolding inserted
new-length x [] n = refl
new-length x (y ∷ ys) n =
    by_cond P (ltb y x) (λ _. ap suc (new-length x ys (λ h. n (inr h)))) (λ _. by_cond P (eqb y x) (λ e. absurd (n (inl (eqb-true y x e)))) (λ _. refl))
  where
    P : List ℕ → Type 0
    P l = length l ≡ suc (suc (length ys))

no-shorter : (x : ℕ) (held : List ℕ) → length held ≤ length (inserted x held)
unfolding inserted
no-shorter x [] = omega arith
no-shorter x (y ∷ ys) =
    by_cond P (ltb y x) (λ _. let h = no-shorter x ys in omega arith) (λ _. by_cond P (eqb y x) (λ _. omega arith) (λ _. omega arith))
  where
    P : List ℕ → Type 0
    P l = suc (length ys) ≤ length l

module _ (a : Arrangement) (c : Cell) where
  pub first-rise : (n : ℕ) → Rise (first_corners a c n)
  unfolding first_corners
  first-rise zero = tt
  first-rise (suc n) =
      let l = first_corners a c n in
      by-corner a c n l Rise (first-rise n) (λ _. inserted-rises (code_of a (across_corner a c n)) l (first-rise n))

  pub held_first : (n d : ℕ) → d < n → face_corner c d ≡ false → Mem (code_of a (across_corner a c d)) (first_corners a c n)
  unfolding first_corners
  held_first zero d h e = absurd (omega arith)
  held_first (suc n) d h e =
      let l = first_corners a c n in
      let x = code_of a (across_corner a c d) in
      ⊎_elim
      (λ k. by-corner a c n l (λ (y : List ℕ). Mem x y) (held_first n d k e) (λ _. holds-old (code_of a (across_corner a c n)) l x (held_first n d k e)))
      (λ k.
      let z : d ≡ n = omega arith in
      subst (λ (y : ℕ). Mem x (with_corner a c y l)) z (subst (λ (y : List ℕ). Mem x y) (sym (adds_one a c d l e)) (holds-new x l)))
      (lt-or d n)

  -- a code in the list is that of a cell across one of the corners
  abbrev pub Across : ℕ → ℕ → Type 0
  Across n y = (d : ℕ) × (d < n) × (face_corner c d ≡ false) × (code_of a (across_corner a c d) ≡ y)

  pub first-held : (n y : ℕ) → Mem y (first_corners a c n) → Across n y
  unfolding first_corners
  first-held zero y o = absurd o
  first-held (suc n) y o =
      let l = first_corners a c n in
      let old : Mem y l → Across (suc n) y = λ k. let r = first-held n y k in (r.0, omega (arith, r.1), r.2, r.3) in
      by-corner a c n l (λ (z : List ℕ). Mem y z → Across (suc n) y) old
      (λ e h. ⊎_elim (λ k. (n, omega arith, e, sym k)) old (holds-only (code_of a (across_corner a c n)) l y h)) o

  -- no corner makes the list shorter
  pub grows : (n : ℕ) → length (first_corners a c n) ≤ length (first_corners a c (suc n))
  unfolding first_corners
  grows n =
      let l = first_corners a c n in
      by-corner a c n l (λ (y : List ℕ). length l ≤ length y) (omega arith) (λ _. no-shorter (code_of a (across_corner a c n)) l)

  pub within : (n : ℕ) → n < 4 → length (first_corners a c (suc n)) ≤ length (corner_codes a c)
  unfolding corner_codes
  within n h =
      let p = grows 1 in
      let q = grows 2 in
      let r = grows 3 in
      four-cases (λ (x : ℕ). length (first_corners a c (suc x)) ≤ length (first_corners a c 4)) (omega arith) (omega arith) (omega arith) (omega arith) n h

  module _ (ok : IsArrangement a) (v : IsCell c) where
    -- a corner adds one, unless it is one of the face
    first-length : (n : ℕ) → n < 4 → length (first_corners a c (suc n)) ≡ cond (face_corner c n) 0 1 + length (first_corners a c n)
    unfolding first_corners
    first-length n h = go (face_corner c n) refl
      where
        l : List ℕ
        l = first_corners a c n

        new : face_corner c n ≡ false → Mem (code_of a (across_corner a c n)) l → ⊥
        new e o =
            let r = first-held n _ o in
            let s = across-cell ok v r.0 (omega (arith, r.1)) r.2 in
            let q = across-apart ok v r.0 n (omega (arith, r.1)) h r.2 e (code_one _ _ ok ok s (across-cell ok v n h e) r.3).1 in
            omega (arith, r.1)

        go : (t : Bool) → face_corner c n ≡ t → length (with_corner a c n l) ≡ cond t 0 1 + length l
        go true e = ap length (adds_none a c n l e) ∙ omega arith
        go false e = ap length (adds_one a c n l e) ∙ new-length _ l (new e) ∙ omega arith

    pub total : length (corner_codes a c) ≡ cond (face_corner c 3) 0 1 + (cond (face_corner c 2) 0 1 + (cond (face_corner c 1) 0 1 + (cond (face_corner c 0) 0 1 + 0)))
    unfolding corner_codes first_corners
    total =
        let p = first-length 0 (omega arith) in
        let q = first-length 1 (omega arith) in
        let r = first-length 2 (omega arith) in
        let s = first-length 3 (omega arith) in
        cc

    pub none : c.resolution ≡ 0 → length (corner_codes a c) ≡ 0
    none z =
        let f = face-corners ok v z in
        total ∙ rw (f 3 (omega arith), f 2 (omega arith), f 1 (omega arith), f 0 (omega arith))
