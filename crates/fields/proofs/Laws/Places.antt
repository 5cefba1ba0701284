-- Reading from a place of the bytes on: a number and what follows it, or the end. Assumes nothing.
use Rattle.std.specs.Prelude.{◌≡◌, refl, Bool, true, false, cond, List, [], ◌∷◌, ℕ, ◌+◌, ◌≤◌, ◌<◌, ltb, length, take, drop, Err, Ok}
use Rattle.std.proofs.Common.{sym, ap, ◌∙◌, arith, drop_of_length-le, drop-drop, drop-cons}
use Rattle.ternary.specs.Digits.{value}
use Rattle.fields.specs.Form.{Form, done, number}
use Rattle.fields.specs.Read.{reach, Read, said, wrong, behind, read_as}
use Rattle.fields.specs.Number.{number_at, by_number}

-- bytes in front of bytes
pub behind-behind : {A : Type 0} (m n : ℕ) (r : Read A) → behind m (behind n r) ≡ behind (m + n) r
behind-behind m n (said y) = refl
behind-behind m n (wrong k) = ap wrong (let e : m + (n + k) ≡ m + n + k = omega arith in e)

pub behind-none : {A : Type 0} (r : Read A) → behind 0 r ≡ r
behind-none (said y) = refl
behind-none (wrong k) = ap wrong (let e : 0 + k ≡ k = omega arith in e)

-- a number, and what follows it
pub number_read : {A : Type 0} (s : List ℕ) (at w least most : ℕ) (next : ℕ → Form A) →
    behind at (read_as (number w least most next) (drop at s)) ≡ by_number (number_at s at w least most) (λ v. behind (at + w) (read_as (next v) (drop (at + w) s)))
unfolding read_as number_at
number_read {A} s at w least most next = go (ltb (reach w least most 0 (drop at s)) w)
  where
    v : ℕ
    v = value 256 (take w (drop at s))

    go : (b : Bool) →
        behind at (cond b (wrong (reach w least most 0 (drop at s))) (behind w (read_as (next (value 256 (take w (drop at s)))) (drop w (drop at s)))))
        ≡ by_number (cond b (Err (at + reach w least most 0 (drop at s))) (Ok (value 256 (take w (drop at s))))) (λ x. behind (at + w) (read_as (next x) (drop (at + w) s)))
    go true = refl
    go false =
        behind-behind at w (read_as (next v) (drop w (drop at s))) ∙ ap (λ (t : List ℕ). behind (at + w) (read_as (next v) t)) (drop-drop w at s)

-- the end, or a byte too many
pub end_read : {A : Type 0} (s : List ℕ) (at : ℕ) (x : A) → length s ≤ at → behind at (read_as (done x) (drop at s)) ≡ said x
unfolding read_as
end_read s at x h = ap (λ (t : List ℕ). behind at (read_as (done x) t)) (drop_of_length-le s h)

pub more-read : {A : Type 0} (s : List ℕ) (at : ℕ) (x : A) → at < length s → behind at (read_as (done x) (drop at s)) ≡ wrong at
unfolding read_as
more-read s at x h = ap (λ (t : List ℕ). behind at (read_as (done x) t)) (drop-cons s at 0 h) ∙ ap wrong (let e : at + 0 ≡ at = omega arith in e)
