-- A line of more than 42 bytes is no fix: a sign and 19 digits, a space, the same again and a carriage return are 42. Assumes nothing.
use Rattle.std.specs.Prelude.{◌≡◌, refl, Bool, true, false, ◌&&◌, cond, List, [], ◌∷◌, ℕ, suc, ◌+◌, ◌≤◌, eqb, leb, length, take, None, Option, Some, ℤ}
use Rattle.std.proofs.Common.{ap, ◌∙◌, ⊎_elim, arith}
use Rattle.std.proofs.lemmas.Bool.{lt-leb}
use Rattle.logic.specs.Laws.Bools.{by_cond}
use Rattle.logic.specs.Laws.Order.{lt-or}
use Rattle.decimal.specs.Decimal.{whole_in, signed_number, number_in, ahead, behind, trimmed, fix_of, fix_in}

and-false : (a : Bool) → (a && false) ≡ false
and-false true = refl
and-false false = refl

whole_long : (bs : List ℕ) → 20 ≤ length bs → whole_in bs ≡ None
unfolding whole_in
whole_long bs h = rw (lt-leb (length bs) 19 (omega arith), and-false (leb 1 (length bs))) refl

number-long : (bs : List ℕ) → 21 ≤ length bs → number_in bs ≡ None
unfolding number_in signed_number
number-long [] h = refl
number-long (b ∷ bs) h =
    by_cond (λ (x : Option ℤ). x ≡ None) (eqb b 45) (λ _. ap (signed_number true) (whole_long bs (omega arith)))
    (λ _. ap (signed_number false) (whole_long (b ∷ bs) (omega arith)))

parts-length : (stop : ℕ) (bs : List ℕ) → length bs ≤ length (ahead stop bs) + length (behind stop bs) + 1
parts-length stop [] = omega arith
parts-length stop (b ∷ bs) = go (eqb b stop) (parts-length stop bs)
  where
    go :
        (t : Bool) → length bs ≤ length (ahead stop bs) + length (behind stop bs) + 1 →
        suc (length bs) ≤ length (cond t [] (b ∷ ahead stop bs)) + length (cond t bs (behind stop bs)) + 1
    go true h = omega arith
    go false h = omega arith

pub trimmed-length : (bs : List ℕ) → length bs ≤ length (trimmed bs) + 1
trimmed-length [] = omega arith
trimmed-length (b ∷ []) = by_cond (λ (l : List ℕ). 1 ≤ length l + 1) (eqb b 13) (λ _. omega arith) (λ _. omega arith)
trimmed-length (b ∷ c ∷ bs) = omega (arith, trimmed-length (c ∷ bs))

-- and what is left is the first bytes
pub trimmed-take : (bs : List ℕ) → take (length (trimmed bs)) bs ≡ trimmed bs
trimmed-take [] = refl
trimmed-take (b ∷ []) = go (eqb b 13)
  where
    go : (t : Bool) → take (length (cond t [] (b ∷ []))) (b ∷ []) ≡ cond t [] (b ∷ [])
    go true = refl
    go false = refl
trimmed-take (b ∷ c ∷ bs) = ap (λ (l : List ℕ). b ∷ l) (trimmed-take (c ∷ bs))

second-not : (a : Option ℤ) → fix_of a None ≡ None
unfolding fix_of
second-not (Some x) = refl
second-not None = refl

pub fix-long : (line : List ℕ) → 43 ≤ length line → fix_in line ≡ None
unfolding fix_in fix_of
fix-long line h =
    let t : List ℕ = trimmed line in
    let p : length t ≤ length (ahead 32 t) + length (behind 32 t) + 1 = parts-length 32 t in
    let l : length line ≤ length t + 1 = trimmed-length line in
    ⊎_elim (λ a. ap (λ (x : Option ℤ). fix_of x (number_in (behind 32 t))) (number-long (ahead 32 t) a))
    (λ a. ap (fix_of (number_in (ahead 32 t))) (number-long (behind 32 t) (omega arith)) ∙ second-not (number_in (ahead 32 t))) (lt-or 20 (length (ahead 32 t)))
