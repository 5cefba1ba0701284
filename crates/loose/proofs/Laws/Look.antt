-- Exactly the looser texts are not refused, and each refusal is given exactly when the paper says. Assumes nothing.
use Rattle.std.specs.Prelude.{◌≡◌, ◌&&◌, cond, ◌⊎◌, ◌↔◌, List, [], ◌∷◌, ◌++◌, ℕ, suc, ◌+◌, ◌-◌, ◌≤◌, ◌<◌, eqb, length, drop, get_or}
use Rattle.std.proofs.Math.Path.{refl}
use Rattle.std.proofs.Common.{sym, ap, ap₂, ◌∙◌, ⊎_elim, arith}
use Rattle.std.proofs.Math.Bool.{Bool, true, false, not}
use Rattle.std.proofs.Math.Logic.{inl, inr}
use Rattle.std.proofs.Math.Dec.{leb, ltb}
use borrow.Author.Tests.{le-leb, lt-leb, leb-true, eq-eqb, eqb-true, lt-ltb, le-ltb, ltb-true, ltb-false, not-true, not-false}
use Rattle.logic.specs.Refusal.{refuse, ◌otherwise◌}
use Rattle.logic.specs.Laws.Order.{lt-or}
use Rattle.logic.specs.Laws.Bools.{clash, and_left, and_right, and_none, refuted}
use Rattle.reading.specs.declared.Level.TheVariants.{Faces}
use Rattle.reading.specs.declared.Profile.TheVariants.{Full}
use Rattle.reading.specs.Reading.{Nodes, render}
use Rattle.reading.specs.Text.{heading}
use Rattle.reading.specs.Heading.{lead}
use Rattle.reading.proofs.Laws.Heading.{lead-bounds}
use Rattle.loose.specs.LooseText.{LooseAs, LooseText, OtherThanOne}
use Rattle.loose.specs.LooseScan.{least_one, greatest_one, lead_one, scan, depth, loose_nodes}
use Rattle.loose.specs.Look.{loose_north, loose_south, IsLoose, not_one, is_loose, loose_refusal}
use Rattle.loose.proofs.Laws.Heading.{lead-one, head-north, head-south, head-one}
use Rattle.loose.proofs.Laws.Scan.{body-scanned, loose-body}
use Rattle.loose.proofs.Laws.Reading.{loose-nodes}

-- ---- exactly the looser texts

pub loose-text : {n s : ℕ} {t : List ℕ} {ns : Nodes} → LooseAs n s t ns → is_loose t ≡ true
unfolding is_loose
loose-text {n} {s} {t} {ns} r =
    let l : lead_one t ≡ 7 = ap lead_one r.all ∙ lead-one n s (render Faces ns) r.north r.south in
    let k = body-scanned (drop 7 t) ns (record { loose = r.loose; all = ap (drop 7) r.all }) in
    ap₂ ◌&&◌ (le-leb 7 (lead_one t) (omega arith)) (ap₂ ◌&&◌ (eq-eqb _ _ k.0) (eq-eqb _ _ k.1))

-- a looser text is read as its reading
pub loose-read : {n s : ℕ} {t : List ℕ} {ns : Nodes} → LooseAs n s t ns → (loose_north t ≡ n) × (loose_south t ≡ s) × (loose_nodes (drop 7 t) ≡ ns)
loose-read {n} {s} {t} {ns} r = (
  ap (λ (x : List ℕ). get_or x 5 0 - 48) r.all ∙ omega arith,
  ap (λ (x : List ℕ). get_or x 6 0 - 48) r.all ∙ omega arith,
  loose-nodes (record { loose = r.loose; all = ap (drop 7) r.all }),
)

pub is-loose : (t : List ℕ) → is_loose t ≡ true → IsLoose t
unfolding is_loose
is-loose t e =
    let l : 7 ≤ lead_one t = leb-true _ _ (and_left (leb 7 (lead_one t)) _ e) in
    let m = and_right (leb 7 (lead_one t)) _ e in
    let over : Bool = eqb (scan 0 false (drop 7 t)) (length (drop 7 t)) in
    let b = loose-body (drop 7 t) (eqb-true _ _ (and_left over _ m)) (eqb-true _ _ (and_right over _ m)) in
    let q : loose_nodes (drop 7 t) ≡ b.0 = loose-nodes b.1 in
    let r : LooseAs (loose_north t) (loose_south t) t b.0 =
    record {
      north = head-north t l;
      south = head-south t l;
      loose = b.1.loose;
      all = head-one t l ∙ ap (λ (x : List ℕ). heading Full (loose_north t) (loose_south t) ++ x) b.1.all;
    } in
    rw q r

-- ---- the version

module _ (t : List ℕ) where
  pub version-short : length t < 5 → not_one t ≡ false
  unfolding not_one
  version-short h = rw (lt-leb 5 (length t) h)

  pub version-early : lead_one t < 3 → not_one t ≡ false
  unfolding not_one
  version-early h = rw (lt-leb 3 (lead_one t) h) (and_none (leb 5 (length t)))

  pub version-late : 5 ≤ lead_one t → not_one t ≡ false
  unfolding not_one
  version-late h = rw (le-ltb (lead_one t) 5 h, and_none (leb 3 (lead_one t))) (and_none (leb 5 (length t)))

  pub version-other : 5 ≤ length t → 3 ≤ lead_one t → lead_one t < 5 → not_one t ≡ true
  unfolding not_one
  version-other h k l = rw (le-leb 5 (length t) h, le-leb 3 (lead_one t) k, lt-ltb (lead_one t) 5 l)

  version-tests : not_one t ≡ true → (5 ≤ length t) × (3 ≤ lead_one t) × (lead_one t < 5)
  unfolding not_one
  version-tests e =
      let p : Bool = leb 5 (length t) in
      let q : Bool = leb 3 (lead_one t) in
      let r : Bool = ltb (lead_one t) 5 in (
        leb-true _ _ (and_left p (q && r) e),
        leb-true _ _ (and_left q r (and_right p (q && r) e)),
        ltb-true _ _ (and_right q r (and_right p (q && r) e)),
      )

-- behind the mark and the version
version-right : (u : List ℕ) → 5 ≤ lead_one (67 ∷ 86 ∷ 82 ∷ 0 ∷ 1 ∷ u)
unfolding lead
version-right u = omega arith

version-three : (d e : ℕ) (u : List ℕ) → 3 ≤ lead_one (67 ∷ 86 ∷ 82 ∷ d ∷ e ∷ u)
unfolding lead
version-three d e u = omega arith

version-wrong : (d e : ℕ) (u : List ℕ) → ((d ≡ 0) × (e ≡ 1) → ⊥) → lead_one (67 ∷ 86 ∷ 82 ∷ d ∷ e ∷ u) < 5
version-wrong d e u n =
    let t : List ℕ = 67 ∷ 86 ∷ 82 ∷ d ∷ e ∷ u in
    ⊎_elim (λ h. h)
    (λ h.
    let a = lead-bounds least_one greatest_one t 3 (omega arith) in
    let b = lead-bounds least_one greatest_one t 4 (omega arith) in
    absurd (n (omega (arith, a), omega (arith, b))))
    (lt-or (lead_one t) 5)

pub version-bytes : (t : List ℕ) → not_one t ≡ true → OtherThanOne t
version-bytes [] e = absurd (omega (arith, (version-tests [] e).0))
version-bytes (a ∷ []) e = absurd (omega (arith, (version-tests (a ∷ []) e).0))
version-bytes (a ∷ b ∷ []) e = absurd (omega (arith, (version-tests (a ∷ b ∷ []) e).0))
version-bytes (a ∷ b ∷ c ∷ []) e = absurd (omega (arith, (version-tests (a ∷ b ∷ c ∷ []) e).0))
version-bytes (a ∷ b ∷ c ∷ d ∷ []) e = absurd (omega (arith, (version-tests (a ∷ b ∷ c ∷ d ∷ []) e).0))
version-bytes (a ∷ b ∷ c ∷ d ∷ f ∷ u) e =
    let t : List ℕ = a ∷ b ∷ c ∷ d ∷ f ∷ u in
    let k = version-tests t e in
    let e₀ : a ≡ 67 = omega (arith, lead-bounds least_one greatest_one t 0 (omega arith)) in
    let e₁ : b ≡ 86 = omega (arith, lead-bounds least_one greatest_one t 1 (omega arith)) in
    let e₂ : c ≡ 82 = omega (arith, lead-bounds least_one greatest_one t 2 (omega arith)) in (
      d,
      f,
      u,
      (cc),
      (λ v.
          let e₃ : d ≡ 0 = v.0 in
          let e₄ : f ≡ 1 = v.1 in
          let q : a ∷ b ∷ c ∷ d ∷ f ∷ u ≡ 67 ∷ 86 ∷ 82 ∷ 0 ∷ 1 ∷ u = cc in
          omega (arith, version-right u, ap lead_one q)),
    )

pub bytes-version : (t : List ℕ) → OtherThanOne t → not_one t ≡ true
bytes-version t v =
    ap not_one v.3
    ∙ version-other (67 ∷ 86 ∷ 82 ∷ v.0 ∷ v.1 ∷ v.2) (omega arith) (version-three v.0 v.1 v.2) (version-wrong v.0 v.1 v.2 v.4)

-- ---- the refusals

first_of : Bool → Bool → Bool → ℕ
first_of p q r = refuse p 13 otherwise refuse q 10 otherwise refuse r 9

tests-0 : (p q r : Bool) → first_of p q r ≡ 0 → (p ≡ false) × (q ≡ false) × (r ≡ false)
unfolding first_of ◌otherwise◌
tests-0 true q r e = absurd (omega arith)
tests-0 false true r e = absurd (omega arith)
tests-0 false false true e = absurd (omega arith)
tests-0 false false false e = (refl, refl, refl)

tests-9 : (p q r : Bool) → first_of p q r ≡ 9 → (p ≡ false) × (q ≡ false) × (r ≡ true)
unfolding first_of ◌otherwise◌
tests-9 true q r e = absurd (omega arith)
tests-9 false true r e = absurd (omega arith)
tests-9 false false true e = (refl, refl, refl)
tests-9 false false false e = absurd (omega arith)

tests-10 : (p q r : Bool) → first_of p q r ≡ 10 → (p ≡ false) × (q ≡ true)
unfolding first_of ◌otherwise◌
tests-10 true q r e = absurd (omega arith)
tests-10 false true r e = (refl, refl)
tests-10 false false true e = absurd (omega arith)
tests-10 false false false e = absurd (omega arith)

tests-13 : (p q r : Bool) → first_of p q r ≡ 13 → p ≡ true
unfolding first_of ◌otherwise◌
tests-13 true q r e = refl
tests-13 false true r e = absurd (omega arith)
tests-13 false false true e = absurd (omega arith)
tests-13 false false false e = absurd (omega arith)

module _ (t : List ℕ) where
  by_tests : {p q r : Bool} → ltb 65536 (length t) ≡ p → not_one t ≡ q → not (is_loose t) ≡ r → loose_refusal t ≡ first_of p q r
  unfolding loose_refusal first_of
  by_tests e f g = rw (e, f, g)

  pub refusal-13 : 65536 < length t → loose_refusal t ≡ 13
  unfolding first_of ◌otherwise◌
  refusal-13 h = by_tests (lt-ltb 65536 (length t) h) refl refl

  module _ (h : length t ≤ 65536) where
    pub refusal-10 : not_one t ≡ true → loose_refusal t ≡ 10
    unfolding first_of ◌otherwise◌
    refusal-10 e = by_tests (le-ltb 65536 (length t) h) e refl

    pub refusal-9 : not_one t ≡ false → is_loose t ≡ false → loose_refusal t ≡ 9
    unfolding first_of ◌otherwise◌
    refusal-9 e f = by_tests (le-ltb 65536 (length t) h) e (ap not f)

    pub refusal-0 : not_one t ≡ false → is_loose t ≡ true → loose_refusal t ≡ 0
    unfolding first_of ◌otherwise◌
    refusal-0 e f = by_tests (le-ltb 65536 (length t) h) e (ap not f)

  -- 13: "text longer than 65,536 bytes"
  pub long-exactly : (loose_refusal t ≡ 13) ↔ (65536 < length t)
  long-exactly = ((λ e. ltb-true _ _ (tests-13 _ _ _ (sym (by_tests refl refl refl) ∙ e))), refusal-13)

  -- 10: "five bytes or more, mark right, version not 1"
  pub version-exactly : (loose_refusal t ≡ 10) ↔ ((length t ≤ 65536) × OtherThanOne t)
  version-exactly = (
    (λ e. let k = tests-10 _ _ _ (sym (by_tests refl refl refl) ∙ e) in (ltb-false _ _ k.0, version-bytes t k.1)),
    (λ k. refusal-10 k.0 (bytes-version t k.1)),
  )

  -- a looser text has version 1
  loose-version : LooseText t → not_one t ≡ false
  loose-version a =
      let r = a.3 in
      version-late t (omega (arith, ap lead_one r.all, lead-one a.0 a.1 (render Faces a.2) r.north r.south))

  as_read : is_loose t ≡ true → LooseText t
  as_read e = (loose_north t, loose_south t, loose_nodes (drop 7 t), is-loose t e)

  -- "Accept this looser body"
  pub loose-exactly : (loose_refusal t ≡ 0) ↔ ((length t ≤ 65536) × LooseText t)
  loose-exactly = (
    (λ e. let k = tests-0 _ _ _ (sym (by_tests refl refl refl) ∙ e) in (ltb-false _ _ k.0, as_read (not-false (is_loose t) k.2))),
    (λ k. refusal-0 k.0 (loose-version k.1) (loose-text k.1.3)),
  )

  -- "9 for bodies outside the looser form", where neither 13 nor 10 comes before
  pub grammar-exactly : (loose_refusal t ≡ 9) ↔ ((length t ≤ 65536) × (OtherThanOne t → ⊥) × (LooseText t → ⊥))
  grammar-exactly = (
    (λ e.
        let k = tests-9 _ _ _ (sym (by_tests refl refl refl) ∙ e) in
        (ltb-false _ _ k.0, (λ v. clash (sym (bytes-version t v) ∙ k.1)), (λ a. clash (sym (loose-text a.3) ∙ not-true (is_loose t) k.2)))),
    (λ k. refusal-9 k.0 (refuted (not_one t) (λ e. k.1 (version-bytes t e))) (refuted (is_loose t) (λ e. k.2 (as_read e)))),
  )

  -- no other number is given
  pub refusal-only : (loose_refusal t ≡ 0) ⊎ ((loose_refusal t ≡ 13) ⊎ ((loose_refusal t ≡ 10) ⊎ (loose_refusal t ≡ 9)))
  unfolding first_of ◌otherwise◌
  refusal-only = go (ltb 65536 (length t)) (not_one t) (not (is_loose t)) (by_tests refl refl refl)
    where
      go :
          (p q r : Bool) → loose_refusal t ≡ first_of p q r →
          (loose_refusal t ≡ 0) ⊎ ((loose_refusal t ≡ 13) ⊎ ((loose_refusal t ≡ 10) ⊎ (loose_refusal t ≡ 9)))
      go true q r e = inr (inl e)
      go false true r e = inr (inr (inl e))
      go false false true e = inr (inr (inr e))
      go false false false e = inl e

  -- what a looser text is, where nothing is refused
  pub loose-own : loose_refusal t ≡ 0 → IsLoose t
  loose-own e = let k = tests-0 _ _ _ (sym (by_tests refl refl refl) ∙ e) in is-loose t (not-false (is_loose t) k.2)

  pub loose-short : loose_refusal t ≡ 0 → length t ≤ 65536
  loose-short e = (loose-exactly.0 e).0
