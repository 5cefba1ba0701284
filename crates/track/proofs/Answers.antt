-- The answers of `add`: a code at its place changes nothing, a new one goes there where there is room. Assumes nothing.
use Rattle.std.specs.Prelude.{Err, Ok, Result}
use mathlib.Core.Path.{◌≡◌, refl, sym, ap, ap₂, ◌∙◌, subst}
use mathlib.Core.Logic.{⊎_elim}
use mathlib.Core.Bool.{Bool}
use mathlib.Core.List.{List, ◌∷◌, ◌++◌, append_assoc}
use Prim.Native.Nat.{ℕ, ◌+◌, ◌-◌, ◌≤◌, ◌<◌}
use native.Mathlib.Omega.{arith}
use lib.ListN.{length, take, drop, get_or, length-append, length-drop, take-append-drop}
use lib.Seq.{take_at, take-take, take-add, get_or-take, length-take-le, drop_at}
use borrow.Author.Tests.{lt-ltb, le-ltb}
use Rattle.logic.specs.Refusal.{refuse, given}
use Rattle.logic.specs.Rise.{Rise}
use Rattle.logic.specs.Laws.Order.{lt-or}
use Rattle.track.specs.Track.{Held, inserted, number_below, add_refusal, counted, added, held_after, memory}
use Rattle.track.specs.Laws.Track.{inserted-rises}
use Rattle.track.proofs.Laws.{place-within, inserted-held, inserted_new}

refused-8 : (room : ℕ) (held : List ℕ) (code : ℕ) → room < length (inserted code held) → add_refusal room held code ≡ 8
unfolding add_refusal
refused-8 room held code h = ap (λ (b : Bool). refuse b 8) (lt-ltb room (length (inserted code held)) h)

not-refused : (room : ℕ) (held : List ℕ) (code : ℕ) → length (inserted code held) ≤ room → add_refusal room held code ≡ 0
unfolding add_refusal
not-refused room held code h = ap (λ (b : Bool). refuse b 8) (le-ltb room (length (inserted code held)) h)

-- nothing is refused
taken : (codes held : List ℕ) (code n : ℕ) → n ≡ length (inserted code held) → n ≤ length codes → (Ok n ≡ added (length codes) held code) ×
    (inserted code held ++ drop n codes ≡ memory codes held code)
unfolding counted memory given
taken codes held code n e h =
    let z : add_refusal (length codes) held code ≡ 0 = not-refused (length codes) held code (omega arith) in (
      ap Ok e ∙ sym (ap (λ (r : ℕ). counted r (length (inserted code held))) z),
      ap (λ (k : ℕ). inserted code held ++ drop k codes) e ∙ sym
          (ap (λ (r : ℕ). given r (inserted code held ++ drop (length (inserted code held)) codes) codes) z),
    )

-- refused with 8
full : (codes held : List ℕ) (code : ℕ) → length codes < length (inserted code held) → (Err 8 ≡ added (length codes) held code) × (codes ≡ memory codes held code)
unfolding counted memory given
full codes held code h =
    let z : add_refusal (length codes) held code ≡ 8 = refused-8 (length codes) held code h in
    (sym (ap (λ (r : ℕ). counted r (length (inserted code held))) z), sym (ap (λ (r : ℕ). given r (inserted code held ++ drop (length (inserted code held)) codes) codes) z))

-- what is held afterwards rises, and its number is told
held_after_lem : (codes : List ℕ) (count code : ℕ) → Held codes count → Held (memory codes (take count codes) code) (held_after (added (length codes) (take count codes) code) count)
held_after_lem codes count code h =
    ⊎_elim
    (λ l.
    let f = full codes (take count codes) code l in
    subst (λ (x : List ℕ). Held x (held_after (added (length codes) (take count codes) code) count)) f.1
    (subst (λ (a : Result ℕ ℕ). Held codes (held_after a count)) f.0 h))
    (λ l.
    let t = taken codes (take count codes) code (length (inserted code (take count codes))) refl l in
    subst (λ (x : List ℕ). Held x (held_after (added (length codes) (take count codes) code) count)) t.1
    (subst (λ (a : Result ℕ ℕ). Held (inserted code (take count codes) ++ drop (length (inserted code (take count codes))) codes) (held_after a count)) t.0
    (in-front (inserted code (take count codes)) (drop (length (inserted code (take count codes))) codes) (inserted-rises code (take count codes) h.rises))))
    (lt-or (length codes) (length (inserted code (take count codes))))
  where
    in-front : (xs ys : List ℕ) → Rise xs → Held (xs ++ ys) (length xs)
    in-front xs ys r = record { fits = omega (arith, length-append xs ys); rises = subst Rise (sym (take_at xs ys (length xs) refl)) r }

-- so an answer is one of `add`
pub answered : (codes : List ℕ) (count code : ℕ) (r : Result ℕ ℕ) (exit : List ℕ) → Held codes count → (r ≡ added (length codes) (take count codes) code) ×
    (exit ≡ memory codes (take count codes) code) → (r ≡ added (length codes) (take count codes) code) × ((exit ≡ memory codes (take count codes) code) × Held exit (held_after r count))
answered codes count code r exit h e = (
  e.0,
  (
    e.1,
    subst (λ (x : List ℕ). Held x (held_after r count)) (sym e.1) (subst (λ (a : Result ℕ ℕ). Held (memory codes (take count codes) code) (held_after a count)) (sym e.0)
        (held_after_lem codes count code h)),
  ),
)

module _ (codes : List ℕ) (count code place : ℕ) (h : count ≤ length codes) (e : place ≡ number_below code (take count codes)) where
  long : length (take count codes) ≡ count
  long = length-take-le count codes h

  within : place ≤ count
  within = omega (arith, place-within codes count code h)

  -- the code is held
  pub was-held : place < count → get_or codes place 0 ≡ code → (Ok count ≡ added (length codes) (take count codes) code) × (codes ≡ memory codes (take count codes) code)
  was-held l k =
      let n = long in
      let same : inserted code (take count codes) ≡ take count codes =
      inserted-held code (take count codes) (omega arith) (ap (λ (p : ℕ). get_or (take count codes) p 0) (sym e) ∙ get_or-take count codes place 0 l ∙ k) in
      let t = taken codes (take count codes) code count (sym (ap length same ∙ n)) h in
      (t.0, sym (ap (λ (x : List ℕ). x ++ drop count codes) same ∙ take-append-drop count codes) ∙ t.1)

  module _ (new : place < count → get_or codes place 0 ≡ code → ⊥) where
    put : inserted code (take count codes) ≡ take place codes ++ (code ∷ take (count - place) (drop place codes))
    put =
        let n = long in
        let w = within in
        let f : take place (take count codes) ≡ take place codes = take-take place count codes w in
        let k : place + (count - place) ≡ count = omega arith in
        let m : take place codes ++ take (count - place) (drop place codes) ≡ take count codes =
        sym (take-add place (count - place) codes) ∙ ap (λ (x : ℕ). take x codes) k in
        let b : drop place (take count codes) ≡ take (count - place) (drop place codes) =
        ap (drop place) (sym m) ∙ drop_at (take place codes) (take (count - place) (drop place codes)) place (length-take-le place codes (omega arith)) in
        inserted_new code (take count codes) (λ l q. new (omega arith) (sym (get_or-take count codes place 0 (omega arith)) ∙ ap (λ (p : ℕ). get_or (take count codes) p 0) e ∙ q))
        ∙ ap (λ (p : ℕ). take p (take count codes) ++ (code ∷ drop p (take count codes))) (sym e)
        ∙ ap₂ (λ (x y : List ℕ). x ++ (code ∷ y)) f b

    more : length (inserted code (take count codes)) ≡ count + 1
    more =
        let w = within in
        let d : length (drop place codes) ≡ length codes - place = length-drop place codes in
        ap length put
        ∙ length-append (take place codes) (code ∷ take (count - place) (drop place codes))
        ∙ omega (arith, length-take-le place codes (omega arith), length-take-le (count - place) (drop place codes) (omega arith))

    -- there is room for it
    pub was-new : (exit : List ℕ) → count < length codes → exit ≡ take place codes ++ (code ∷ (take (count - place) (drop place codes) ++ drop (count + 1) codes)) →
        (Ok (count + 1) ≡ added (length codes) (take count codes) code) × (exit ≡ memory codes (take count codes) code)
    was-new exit r x =
        let t = taken codes (take count codes) code (count + 1) (sym more) (omega arith) in (
          t.0,
          x ∙ sym (append_assoc (take place codes) (code ∷ take (count - place) (drop place codes)) (drop (count + 1) codes)) ∙ ap
              (λ (y : List ℕ). y ++ drop (count + 1) codes) (sym put) ∙ t.1,
        )

    -- there is none
    pub no_room : length codes ≤ count → (Err 8 ≡ added (length codes) (take count codes) code) × (codes ≡ memory codes (take count codes) code)
    no_room r = full codes (take count codes) code (let m = more in omega arith)
