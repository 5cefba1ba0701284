-- Each refusal is given exactly when 01 says, and 9 comes with the place. Assumes nothing.
use Rattle.std.specs.Prelude.{◌≡◌, ◌⊎◌, ◌&&◌, not, List, [], ◌∷◌, ℕ, suc, ◌+◌, ◌^◌, ◌≤◌, ◌<◌, length, Err, Ok}
use Rattle.std.proofs.Math.Path.{refl, ap}
use Rattle.std.proofs.Common.{sym, ◌∙◌, inl, inr, ⊎_elim, arith}
use Rattle.std.proofs.Math.Bool.{Bool, true, false}
use Rattle.std.proofs.Math.Dec.{leb, ltb}
use borrow.Author.Tests.{ltb-true, ltb-false, leb-true, lt-ltb, le-ltb, le-leb, lt-leb, not-true, not-false}
use Rattle.logic.specs.Laws.Bools.{and_left, and_right, clash}
use Rattle.logic.specs.Laws.Order.{lt-or}
use Rattle.logic.specs.Refusal.{refuse, ◌otherwise◌}
use Rattle.reading.specs.Reading.{Nodes, render}
use Rattle.reading.proofs.Laws.Reading.{eq-or}
use Rattle.reading.specs.declared.Profile.{Profile}
use Rattle.reading.specs.Ground.{whole_cells, size_sum}
use Rattle.reading.specs.Text.{level_of, heading_length, ReadsAs, Accepted}
use Rattle.reading.specs.Place.{Longest, place_of}
use Rattle.reading.specs.Heading.{least, greatest, lead}
use Rattle.reading.proofs.Laws.Place.{place-longest}
use Rattle.reading.proofs.Laws.Heading.{heading-least, lead-head}
use Rattle.reading.proofs.Laws.Fits.{faces-of, depth-most}
use Rattle.reading.specs.Report.{count, size_along}
use Rattle.reading.proofs.Laws.TextReading.{read-text, reads-own, read-accepted}
use Rattle.reading.proofs.Laws.Demand.{count-whole, size-whole}
use Rattle.reading.specs.TextReading.{nodes_of, profile_of, north_of, south_of, is_text, body_start}
use Rattle.reader.specs.Check.{WrongVersion, other_version, text_refusal, answer, checked_of}

-- ---- from the tests to the number, and back

module _ (t : List ℕ) where
  pub refusal-13 : 65536 < length t → text_refusal t ≡ 13
  unfolding text_refusal ◌otherwise◌
  refusal-13 h = rw (lt-ltb 65536 (length t) h)

  module _ (h : length t ≤ 65536) where
    pub refusal-10 : other_version t ≡ true → text_refusal t ≡ 10
    unfolding text_refusal ◌otherwise◌
    refusal-10 e = rw (le-ltb 65536 (length t) h, e)

    pub refusal-9 : other_version t ≡ false → is_text t ≡ false → text_refusal t ≡ 9
    unfolding text_refusal ◌otherwise◌
    refusal-9 e f = rw (le-ltb 65536 (length t) h, e, f)

    pub refusal-0 : other_version t ≡ false → is_text t ≡ true → text_refusal t ≡ 0
    unfolding text_refusal ◌otherwise◌
    refusal-0 e f = rw (le-ltb 65536 (length t) h, e, f)

abbrev first_of : (p q r : Bool) → ℕ
first_of p q r = refuse p 13 otherwise refuse q 10 otherwise refuse r 9

tests-0 : (p q r : Bool) → first_of p q r ≡ 0 → (p ≡ false) × (q ≡ false) × (r ≡ false)
unfolding ◌otherwise◌
tests-0 true q r e = absurd (omega arith)
tests-0 false true r e = absurd (omega arith)
tests-0 false false true e = absurd (omega arith)
tests-0 false false false e = (refl, refl, refl)

tests-9 : (p q r : Bool) → first_of p q r ≡ 9 → (p ≡ false) × (q ≡ false) × (r ≡ true)
unfolding ◌otherwise◌
tests-9 true q r e = absurd (omega arith)
tests-9 false true r e = absurd (omega arith)
tests-9 false false true e = (refl, refl, refl)
tests-9 false false false e = absurd (omega arith)

tests-10 : (p q r : Bool) → first_of p q r ≡ 10 → (p ≡ false) × (q ≡ true)
unfolding ◌otherwise◌
tests-10 true q r e = absurd (omega arith)
tests-10 false true r e = (refl, refl)
tests-10 false false true e = absurd (omega arith)
tests-10 false false false e = absurd (omega arith)

tests-13 : (p q r : Bool) → first_of p q r ≡ 13 → p ≡ true
unfolding ◌otherwise◌
tests-13 true q r e = refl
tests-13 false true r e = absurd (omega arith)
tests-13 false false true e = absurd (omega arith)
tests-13 false false false e = absurd (omega arith)

-- ---- the version

lead-in : (x y z : ℕ) (a b t : List ℕ) → x ≤ z → z ≤ y → lead (x ∷ a) (y ∷ b) (z ∷ t) ≡ suc (lead a b t)
unfolding lead
lead-in x y z a b t h k = rw (le-leb x z h, le-leb z y k)

lead-out : (x y z : ℕ) (a b t : List ℕ) → (z < x) ⊎ (y < z) → x ≤ y → lead (x ∷ a) (y ∷ b) (z ∷ t) ≡ 0
unfolding lead
lead-out x y z a b t (inl h) k = rw (lt-leb x z h)
lead-out x y z a b t (inr h) k = rw (le-leb x z (omega arith), lt-leb z y h)

lead-same : (x z : ℕ) (a b t : List ℕ) → z ≡ x → lead (x ∷ a) (x ∷ b) (z ∷ t) ≡ suc (lead a b t)
lead-same x z a b t e = lead-in x x z a b t (omega arith) (omega arith)

lead-other : (x z : ℕ) (a b t : List ℕ) → (z ≡ x → ⊥) → lead (x ∷ a) (x ∷ b) (z ∷ t) ≡ 0
lead-other x z a b t n = lead-out x x z a b t (⊎_elim (λ h. inl h) (λ h. inr (omega (arith, n))) (lt-or z x)) (omega arith)

module _ (t : List ℕ) where
  -- fewer than five bytes, or three right ones, or five right ones at least
  pub version-short : length t < 5 → other_version t ≡ false
  unfolding other_version
  version-short h = rw (lt-leb 5 (length t) h)

  pub version-early : lead least greatest t < 3 → other_version t ≡ false
  unfolding other_version
  version-early h = rw (lt-leb 3 (lead least greatest t) h) (go (leb 5 (length t)))
    where
      go : (a : Bool) → (a && false) ≡ false
      go true = refl
      go false = refl

  pub version-late : 5 ≤ lead least greatest t → other_version t ≡ false
  unfolding other_version
  version-late h = rw (le-ltb (lead least greatest t) 5 h) (go (leb 5 (length t)) (leb 3 (lead least greatest t)))
    where
      go : (a b : Bool) → (a && (b && false)) ≡ false
      go true true = refl
      go true false = refl
      go false b = refl

  pub version-other : 5 ≤ length t → 3 ≤ lead least greatest t → lead least greatest t < 5 → other_version t ≡ true
  unfolding other_version
  version-other h k l = rw (le-leb 5 (length t) h, le-leb 3 (lead least greatest t) k, lt-ltb (lead least greatest t) 5 l)

  version-tests : other_version t ≡ true → (5 ≤ length t) × (3 ≤ lead least greatest t) × (lead least greatest t < 5)
  unfolding other_version
  version-tests e =
      let p : Bool = leb 5 (length t) in
      let q : Bool = leb 3 (lead least greatest t) in
      let r : Bool = ltb (lead least greatest t) 5 in (
        leb-true _ _ (and_left p (q && r) e),
        leb-true _ _ (and_left q r (and_right p (q && r) e)),
        ltb-true _ _ (and_right q r (and_right p (q && r) e)),
      )

-- the least and the greatest bytes of a heading after one, two, three, four and five
abbrev low₅ : List ℕ
low₅ = 48 ∷ 48 ∷ 97 ∷ []

abbrev high₅ : List ℕ
high₅ = 51 ∷ 51 ∷ 112 ∷ []

abbrev low₄ : List ℕ
low₄ = 1 ∷ low₅

abbrev high₄ : List ℕ
high₄ = 2 ∷ high₅

abbrev low₃ : List ℕ
low₃ = 0 ∷ low₄

abbrev high₃ : List ℕ
high₃ = 0 ∷ high₄

abbrev low₂ : List ℕ
low₂ = 82 ∷ low₃

abbrev high₂ : List ℕ
high₂ = 82 ∷ high₃

abbrev low₁ : List ℕ
low₁ = 86 ∷ low₂

abbrev high₁ : List ℕ
high₁ = 86 ∷ high₂

-- three bytes of a heading are the mark, and two more are version 1 or 2
lead-mark :
    (b₀ b₁ b₂ b₃ b₄ : ℕ) (u : List ℕ) → let n = lead least greatest (b₀ ∷ b₁ ∷ b₂ ∷ b₃ ∷ b₄ ∷ u) in
    3 ≤ n → n < 5 → (b₀ ≡ 67) × (b₁ ≡ 86) × (b₂ ≡ 82) × ((b₃ ≡ 0) × ((b₄ ≡ 1) ⊎ (b₄ ≡ 2)) → ⊥)
lead-mark b₀ b₁ b₂ b₃ b₄ u h k =
    let e₀ : b₀ ≡ 67 = ⊎_elim (λ e. e) (λ n. absurd (omega (arith, lead-other 67 b₀ low₁ high₁ (b₁ ∷ b₂ ∷ b₃ ∷ b₄ ∷ u) n))) (eq-or b₀ 67) in
    let l₀ : lead least greatest (b₀ ∷ b₁ ∷ b₂ ∷ b₃ ∷ b₄ ∷ u) ≡ suc (lead low₁ high₁ (b₁ ∷ b₂ ∷ b₃ ∷ b₄ ∷ u)) =
    lead-same 67 b₀ low₁ high₁ (b₁ ∷ b₂ ∷ b₃ ∷ b₄ ∷ u) e₀ in
    let e₁ : b₁ ≡ 86 = ⊎_elim (λ e. e) (λ n. absurd (omega (arith, lead-other 86 b₁ low₂ high₂ (b₂ ∷ b₃ ∷ b₄ ∷ u) n))) (eq-or b₁ 86) in
    let l₁ : lead low₁ high₁ (b₁ ∷ b₂ ∷ b₃ ∷ b₄ ∷ u) ≡ suc (lead low₂ high₂ (b₂ ∷ b₃ ∷ b₄ ∷ u)) =
    lead-same 86 b₁ low₂ high₂ (b₂ ∷ b₃ ∷ b₄ ∷ u) e₁ in
    let e₂ : b₂ ≡ 82 = ⊎_elim (λ e. e) (λ n. absurd (omega (arith, lead-other 82 b₂ low₃ high₃ (b₃ ∷ b₄ ∷ u) n))) (eq-or b₂ 82) in
    let l₂ : lead low₂ high₂ (b₂ ∷ b₃ ∷ b₄ ∷ u) ≡ suc (lead low₃ high₃ (b₃ ∷ b₄ ∷ u)) =
    lead-same 82 b₂ low₃ high₃ (b₃ ∷ b₄ ∷ u) e₂ in
    let right : (b₄ ≡ 1) ⊎ (b₄ ≡ 2) → lead low₄ high₄ (b₄ ∷ u) ≡ suc (lead low₅ high₅ u) =
    ⊎_elim (λ e. lead-in 1 2 b₄ low₅ high₅ u (omega arith) (omega arith)) (λ e. lead-in 1 2 b₄ low₅ high₅ u (omega arith) (omega arith)) in
    (e₀, e₁, e₂, λ v. omega (arith, lead-same 0 b₃ low₄ high₄ (b₄ ∷ u) v.0, right v.1))

mark-lead :
    (b₃ b₄ : ℕ) (u : List ℕ) → ((b₃ ≡ 0) × ((b₄ ≡ 1) ⊎ (b₄ ≡ 2)) → ⊥) → let n = lead least greatest (67 ∷ 86 ∷ 82 ∷ b₃ ∷ b₄ ∷ u) in (3 ≤ n) × (n < 5)
mark-lead b₃ b₄ u v =
    let l₀ : lead least greatest (67 ∷ 86 ∷ 82 ∷ b₃ ∷ b₄ ∷ u) ≡ 3 + lead low₃ high₃ (b₃ ∷ b₄ ∷ u) =
    omega (
      arith,
      lead-same 67 67 low₁ high₁ (86 ∷ 82 ∷ b₃ ∷ b₄ ∷ u) refl,
      lead-same 86 86 low₂ high₂ (82 ∷ b₃ ∷ b₄ ∷ u) refl,
      lead-same 82 82 low₃ high₃ (b₃ ∷ b₄ ∷ u) refl,
    ) in
    let l₃ : lead low₃ high₃ (b₃ ∷ b₄ ∷ u) < 2 =
    ⊎_elim
    (λ e. omega (
      arith,
      lead-same 0 b₃ low₄ high₄ (b₄ ∷ u) e,
      lead-out 1 2 b₄ low₅ high₅ u (outside (λ f. v (e, f))) (omega arith),
    ))
    (λ n. omega (arith, lead-other 0 b₃ low₄ high₄ (b₄ ∷ u) n)) (eq-or b₃ 0) in
    (omega arith, omega arith)
  where
    outside : ((b₄ ≡ 1) ⊎ (b₄ ≡ 2) → ⊥) → (b₄ < 1) ⊎ (2 < b₄)
    outside n =
        ⊎_elim (λ h. inl h) (λ h. ⊎_elim (λ k. inr k) (λ k. absurd (⊎_elim (λ e. n (inl e)) (λ e. n (inr (omega (arith, e)))) (eq-or b₄ 1))) (lt-or 2 b₄)) (lt-or b₄ 1)

pub version-bytes : (t : List ℕ) → other_version t ≡ true → WrongVersion t
version-bytes [] e = absurd (omega (arith, (version-tests [] e).0))
version-bytes (a ∷ []) e = absurd (omega (arith, (version-tests (a ∷ []) e).0))
version-bytes (a ∷ b ∷ []) e = absurd (omega (arith, (version-tests (a ∷ b ∷ []) e).0))
version-bytes (a ∷ b ∷ c ∷ []) e = absurd (omega (arith, (version-tests (a ∷ b ∷ c ∷ []) e).0))
version-bytes (a ∷ b ∷ c ∷ d ∷ []) e = absurd (omega (arith, (version-tests (a ∷ b ∷ c ∷ d ∷ []) e).0))
version-bytes (a ∷ b ∷ c ∷ d ∷ f ∷ u) e =
    let k = version-tests (a ∷ b ∷ c ∷ d ∷ f ∷ u) e in
    let m = lead-mark a b c d f u k.1 k.2 in
    let e₀ : a ≡ 67 = m.0 in
    let e₁ : b ≡ 86 = m.1 in
    let e₂ : c ≡ 82 = m.2 in
    (d, f, u, (cc), m.3)

pub bytes-version : (t : List ℕ) → WrongVersion t → other_version t ≡ true
bytes-version t v =
    let k = mark-lead v.0 v.1 v.2 v.4 in
    ap other_version v.3 ∙ version-other (67 ∷ 86 ∷ 82 ∷ v.0 ∷ v.1 ∷ v.2) (omega arith) k.0 k.1

-- ---- texts of the grammar

module _ (t : List ℕ) where
  -- 13: "text longer than 65,536 bytes"
  pub long-exactly : (text_refusal t ≡ 13 → 65536 < length t) × (65536 < length t → text_refusal t ≡ 13)
  unfolding text_refusal
  long-exactly = ((λ e. ltb-true _ _ (tests-13 (ltb 65536 (length t)) (other_version t) (not (is_text t)) e)), refusal-13 t)

  -- 10: "five bytes or more, mark right", version "neither 1 nor 2"
  pub version-exactly : (text_refusal t ≡ 10 → (length t ≤ 65536) × WrongVersion t) × ((length t ≤ 65536) × WrongVersion t → text_refusal t ≡ 10)
  unfolding text_refusal
  version-exactly = (
    (λ e.
        let k = tests-10 (ltb 65536 (length t)) (other_version t) (not (is_text t)) e in
        (ltb-false _ _ k.0, version-bytes t k.1)),
    (λ k. refusal-10 t k.0 (bytes-version t k.1)),
  )

  accepted-is : Accepted t → is_text t ≡ true
  accepted-is a = read-text a.4

  pub is-accepted : is_text t ≡ true → Accepted t
  is-accepted e = (profile_of t, north_of t, south_of t, nodes_of t, reads-own t e)

  pub is-not : is_text t ≡ false → Accepted t → ⊥
  is-not e a = clash (sym (accepted-is a) ∙ e)

  -- a text of the grammar has version 1 or 2
  pub accepted-version : Accepted t → other_version t ≡ false
  accepted-version a =
      let r = a.4 in
      let h : heading_length a.0 ≤ lead least greatest t =
      rw r.body.all (lead-head a.0 a.1 a.2 (render (level_of a.0) a.3) r.profiled r.north r.south) in
      let k = heading-least a.0 in
      version-late t (omega arith)

  -- demand 3: "accepts it exactly when it is a text of 01's grammar"
  pub accepted-exactly : (text_refusal t ≡ 0 → (length t ≤ 65536) × Accepted t) × ((length t ≤ 65536) × Accepted t → text_refusal t ≡ 0)
  unfolding text_refusal
  accepted-exactly = (
    (λ e.
        let k = tests-0 (ltb 65536 (length t)) (other_version t) (not (is_text t)) e in
        (ltb-false _ _ k.0, is-accepted (not-false (is_text t) k.2))),
    (λ k. refusal-0 t k.0 (accepted-version k.1) (accepted-is k.1)),
  )

  -- 9: "text not of the grammar", where neither 13 nor 10 comes before
  pub grammar-exactly :
      (text_refusal t ≡ 9 → (length t ≤ 65536) × (WrongVersion t → ⊥) × (Accepted t → ⊥))
      × ((length t ≤ 65536) × (WrongVersion t → ⊥) × (Accepted t → ⊥) → text_refusal t ≡ 9)
  unfolding text_refusal
  grammar-exactly = (
    (λ e.
        let k = tests-9 (ltb 65536 (length t)) (other_version t) (not (is_text t)) e in
        (ltb-false _ _ k.0, (λ v. clash (sym (bytes-version t v) ∙ k.1)), is-not (not-true (is_text t) k.2))),
    (λ k. refusal-9 t k.0 (no-version (other_version t) refl k.1) (no_text (is_text t) refl k.2)),
  )
    where
      no-version : (b : Bool) → other_version t ≡ b → (WrongVersion t → ⊥) → other_version t ≡ false
      no-version true e n = absurd (n (version-bytes t e))
      no-version false e n = e

      no_text : (b : Bool) → is_text t ≡ b → (Accepted t → ⊥) → is_text t ≡ false
      no_text true e n = absurd (n (is-accepted e))
      no_text false e n = e

  -- "For 9 the place is the length of the longest leading part that some accepted text begins with"
  pub grammar-place : text_refusal t ≡ 9 → (checked_of t ≡ Err (record { refusal = 9; place = place_of t })) × Longest t (place_of t) × (Accepted t → ⊥)
  unfolding checked_of
  grammar-place e = (ap (λ (r : ℕ). answer r t) e, place-longest t, (grammar-exactly.0 e).2)

  -- ---- the number and the sum are those of the reading

  module _ (h : length t ≤ 65536) {p : Profile} {n s : ℕ} {ns : Nodes} (r : ReadsAs p n s t ns) where
    -- "the number of whole cells and the sum of sizes that the reader reports are those of that reading"
    pub accepted-answer : checked_of t ≡ Ok (record { profile = p; arrangement = record { north = n; south = s }; cells = length (whole_cells ns); size = size_sum (whole_cells ns); body = body_start t })
    unfolding checked_of nodes_of profile_of north_of south_of
    accepted-answer =
        ap (λ (x : ℕ). answer x t) (accepted-exactly.1 (h, (p, n, s, ns, r))) ∙ rw (read-accepted r)

    -- as the reader counts them
    pub counted-answer : Ok (record { profile = p; arrangement = record { north = n; south = s }; cells = count ns; size = size_along (9 ^ 15) ns; body = body_start t }) ≡ checked_of t
    counted-answer =
        rw (
          count-whole (faces-of p) (depth-most p r.profiled) r.body,
          size-whole (faces-of p) (depth-most p r.profiled) r.body,
        ) (sym accepted-answer)
