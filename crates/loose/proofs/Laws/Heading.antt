-- The bytes that pass the test of the heading are exactly the headings of version 1, and what passes in part begins one. Assumes nothing.
use Rattle.std.specs.Prelude.{◌≡◌, refl, Bool, true, false, cond, List, [], ◌∷◌, ◌++◌, ℕ, zero, suc, ◌+◌, ◌-◌, ◌≤◌, ◌<◌, length, drop, take, get_or, leb}
use Rattle.std.proofs.Common.{sym, ap, ◌∙◌, arith, le-leb, leb-true}
use Rattle.reading.specs.declared.Profile.TheVariants.{Full}
use Rattle.reading.specs.Text.{heading}
use Rattle.reading.specs.Heading.{lead}
use Rattle.reading.proofs.Laws.Heading.{lead-length, lead-bounds}
use Rattle.loose.specs.LooseScan.{least_one, greatest_one, lead_one}

-- a heading is all leading part
pub lead-one : (n s : ℕ) (x : List ℕ) → n ≤ 3 → s ≤ 3 → lead_one (heading Full n s ++ x) ≡ 7
unfolding lead
lead-one n s x h k =
    rw (le-leb 48 (48 + n) (omega arith), le-leb (48 + n) 51 (omega arith), le-leb 48 (48 + s) (omega arith), le-leb (48 + s) 51 (omega arith)) refl

seven-bytes :
    (t : List ℕ) → 7 ≤ length t →
    t ≡ get_or t 0 0 ∷ get_or t 1 0 ∷ get_or t 2 0 ∷ get_or t 3 0 ∷ get_or t 4 0 ∷ get_or t 5 0 ∷ get_or t 6 0 ∷ drop 7 t
seven-bytes [] h = absurd (omega arith)
seven-bytes (a ∷ []) h = absurd (omega arith)
seven-bytes (a ∷ b ∷ []) h = absurd (omega arith)
seven-bytes (a ∷ b ∷ c ∷ []) h = absurd (omega arith)
seven-bytes (a ∷ b ∷ c ∷ d ∷ []) h = absurd (omega arith)
seven-bytes (a ∷ b ∷ c ∷ d ∷ e ∷ []) h = absurd (omega arith)
seven-bytes (a ∷ b ∷ c ∷ d ∷ e ∷ f ∷ []) h = absurd (omega arith)
seven-bytes (a ∷ b ∷ c ∷ d ∷ e ∷ f ∷ g ∷ t) h = refl

-- what a text that begins with a heading of version 1 is made of
module _ (t : List ℕ) (h : 7 ≤ lead_one t) where
  bound : (i : ℕ) → i < 7 → (get_or least_one i 0 ≤ get_or t i 0) × (get_or t i 0 ≤ get_or greatest_one i 0)
  bound i k = lead-bounds least_one greatest_one t i (omega arith)

  pub head-north : get_or t 5 0 - 48 ≤ 3
  head-north = omega (arith, bound 5 (omega arith))

  pub head-south : get_or t 6 0 - 48 ≤ 3
  head-south = omega (arith, bound 6 (omega arith))

  pub head-one : t ≡ heading Full (get_or t 5 0 - 48) (get_or t 6 0 - 48) ++ drop 7 t
  head-one =
      let all = seven-bytes t (omega (arith, lead-length least_one greatest_one t)) in
      let e₀ : get_or t 0 0 ≡ 67 = omega (arith, bound 0 (omega arith)) in
      let e₁ : get_or t 1 0 ≡ 86 = omega (arith, bound 1 (omega arith)) in
      let e₂ : get_or t 2 0 ≡ 82 = omega (arith, bound 2 (omega arith)) in
      let e₃ : get_or t 3 0 ≡ 0 = omega (arith, bound 3 (omega arith)) in
      let e₄ : get_or t 4 0 ≡ 1 = omega (arith, bound 4 (omega arith)) in
      let e₅ : get_or t 5 0 ≡ 48 + (get_or t 5 0 - 48) = omega (arith, bound 5 (omega arith)) in
      let e₆ : get_or t 6 0 ≡ 48 + (get_or t 6 0 - 48) = omega (arith, bound 6 (omega arith)) in
      cc

-- ---- the leading part, and the least bytes behind it

filled-lead : (a b t : List ℕ) → lead a b a ≡ length a → lead a b (take (lead a b t) t ++ drop (lead a b t) a) ≡ length a
unfolding lead
filled-lead [] b t h = refl
filled-lead (x ∷ a) [] t h = h
filled-lead (x ∷ a) (y ∷ b) [] h = h
filled-lead (x ∷ a) (y ∷ b) (z ∷ t) h = go (leb x z) (leb z y) refl refl (filled-lead a b t)
  where
    behind : (p q : Bool) → cond p (cond q (suc (lead a b a)) 0) 0 ≡ suc (length a) → lead a b a ≡ length a
    behind true true e = omega arith
    behind true false e = absurd (omega arith)
    behind false q e = absurd (omega arith)

    go :
        (p q : Bool) → leb x z ≡ p → leb z y ≡ q → (lead a b a ≡ length a → lead a b (take (lead a b t) t ++ drop (lead a b t) a) ≡ length a) →
        lead (x ∷ a) (y ∷ b) (take (cond p (cond q (suc (lead a b t)) 0) 0) (z ∷ t) ++ drop (cond p (cond q (suc (lead a b t)) 0) 0) (x ∷ a)) ≡ suc (length a)
    go true true e k f = rw (e, k) (ap suc (f (behind (leb x x) (leb x y) h)))
    go true false e k f = h
    go false q e k f = h

abbrev pub filled_one : List ℕ → List ℕ
filled_one t = take (lead_one t) t ++ drop (lead_one t) least_one

pub filled-one : (t : List ℕ) → lead_one (filled_one t) ≡ 7
unfolding lead
filled-one t = filled-lead least_one greatest_one t refl
