-- The first refusal that applies: what a chain of tests answers, and when a number is given. Assumes nothing.
use Rattle.std.specs.Prelude.{◌≡◌, refl, ◌↔◌, ◌⊎◌, Bool, true, false, ◌&&◌, ◌||◌, not, cond, List, [], ◌∷◌, ◌++◌, ℕ, suc, ◌≤◌, ◌<◌, ℤ, ◌≤ℤ◌, ◌<ℤ◌, T, leb, ltb, eqb}
use Rattle.std.proofs.Common.{sym, ◌∙◌, inl, inr, ⊎_elim, arith, ltb-true, ltb-false, leb-true, leb-false, eqb-true, eq-eqb}
use Rattle.std.specs.Int.Signed.{le_z, lt_z}
use Rattle.std.proofs.lemmas.Bool.{eqb-false, not-true, not-false}
use Rattle.logic.specs.Laws.Bools.{and_left, and_right, clash}
use Rattle.logic.specs.Refusal.{refuse, ◌otherwise◌}
use Rattle.logic.specs.Laws.Refusal.{stops, passes}
use Rattle.entries.specs.Order.{Chain, numbers, First, FirstOf, Choice, Applies, NoneOf, absent, distinct, once}

-- ---- a test and its condition

pub record Decides (t : Bool) (C : Type 0) : Type 0 where
  pub holds : t ≡ true → C
  pub fails : t ≡ false → C → ⊥

-- the last test
pub last : {t : Bool} {C : Type 0} (q : ℕ) → Decides t C → FirstOf ((suc q, C) ∷ []) (refuse t (suc q))
last {t = true} q d = record { first = inl (d.holds refl, refl) }
last {t = false} q d = record { first = inr (d.fails refl, refl) }

-- tests in front of others, which may use that their conditions do not hold
append : (xs ys : Chain) (p r : ℕ) → absent 0 (numbers xs) ≡ true → First xs p → (NoneOf xs → First ys r) → First (xs ++ ys) (p otherwise r)
append [] ys p r z e f = rw (passes r e) (f tt)
append (x ∷ xs) ys p r z (inl h) f =
    let n : p ≡ 0 → ⊥ = λ e. eqb-false 0 x.0 (not-true (eqb 0 x.0) (and_left (not (eqb 0 x.0)) (absent 0 (numbers xs)) z)) (sym e ∙ h.1) in
    inl (h.0, stops p r n ∙ h.1)
append (x ∷ xs) ys p r z (inr h) f =
    inr (h.0, append xs ys p r (and_right (not (eqb 0 x.0)) (absent 0 (numbers xs)) z) h.1 (λ n. f (h.0, n)))

pub then : {xs ys : Chain} {p r : ℕ} → FirstOf xs p → absent 0 (numbers xs) ≡ true → (NoneOf xs → FirstOf ys r) → FirstOf (xs ++ ys) (p otherwise r)
then {xs} {ys} {p} {r} h z f = record { first = append xs ys p r z h.first (λ n. (f n).first) }

-- two tests that give one number
pub twice : {s t : Bool} {A B : Type 0} (q : ℕ) → Decides s A → Decides t B → FirstOf ((suc q, A ⊎ B) ∷ []) (refuse s (suc q) otherwise refuse t (suc q))
unfolding ◌otherwise◌
twice {s = true} q d e = record { first = inl (inl (d.holds refl), refl) }
twice {s = false} {t = true} q d e = record { first = inl (inr (e.holds refl), refl) }
twice {s = false} {t = false} q d e = record { first = inr (⊎_elim (d.fails refl) (e.fails refl), refl) }

-- ---- tests

pub lt-decides : (a b : ℕ) → Decides (ltb a b) (a < b)
lt-decides a b = record { holds = ltb-true a b; fails = λ e h. let k = ltb-false a b e in omega arith }

pub le-decides : (a b : ℕ) → Decides (leb a b) (a ≤ b)
le-decides a b = record { holds = leb-true a b; fails = λ e h. let k = leb-false a b e in omega arith }

pub eq-decides : (a b : ℕ) → Decides (eqb a b) (a ≡ b)
eq-decides a b = record { holds = eqb-true a b; fails = eqb-false a b }

passed : (t : Bool) → t ≡ true → T t
passed true e = tt
passed false e = clash (sym e)

failed : (t : Bool) → t ≡ false → T t → ⊥
failed true e h = clash e
failed false e h = h

pub lt_z-decides : (a b : ℤ) → Decides (lt_z a b) (a <ℤ b)
lt_z-decides a b = record { holds = λ e. record { lt = passed (lt_z a b) e }; fails = λ e h. failed (lt_z a b) e h.lt }

pub le_z-decides : (a b : ℤ) → Decides (le_z a b) (a ≤ℤ b)
le_z-decides a b = record { holds = λ e. record { le = passed (le_z a b) e }; fails = λ e h. failed (le_z a b) e h.le }

pub not-decides : {t : Bool} {A : Type 0} → Decides t A → Decides (not t) (A → ⊥)
not-decides {t} d = record { holds = λ e h. d.fails (not-true t e) h; fails = λ e n. n (d.holds (not-false t e)) }

pub and-decides : {s t : Bool} {A B : Type 0} → Decides s A → Decides t B → Decides (s && t) (A × B)
and-decides {s = true} d e = record { holds = λ h. (d.holds refl, e.holds h); fails = λ h k. e.fails h k.1 }
and-decides {s = false} d e = record { holds = λ h. clash (sym h); fails = λ h k. d.fails refl k.0 }

pub or-decides : {s t : Bool} {A B : Type 0} → Decides s A → Decides t B → Decides (s || t) (A ⊎ B)
or-decides {s = true} d e = record { holds = λ h. inl (d.holds refl); fails = λ h. clash h }
or-decides {s = false} d e = record { holds = λ h. inr (e.holds h); fails = λ h. ⊎_elim (d.fails refl) (e.fails h) }

-- ---- when a number is given

-- a number that does not stand in the chain is not given
not-given : (xs : Chain) (q r : ℕ) → absent q (numbers xs) ≡ true → (q ≡ 0 → ⊥) → First xs r → r ≡ q → ⊥
not-given [] q r a z f e = z (sym e ∙ f)
not-given (x ∷ xs) q r a z (inl h) e =
    eqb-false q x.0 (not-true (eqb q x.0) (and_left (not (eqb q x.0)) (absent q (numbers xs)) a)) (sym e ∙ h.1)
not-given (x ∷ xs) q r a z (inr h) e = not-given xs q r (and_right (not (eqb q x.0)) (absent q (numbers xs)) a) z h.1 e

-- it is given exactly when it applies
module _ (q : ℕ) (z : q ≡ 0 → ⊥) where
  given-applies : (xs : Chain) (r : ℕ) → once q (numbers xs) ≡ true → First xs r → r ≡ q → Applies xs q
  given-applies [] r o f e = absurd (z (sym e ∙ f))
  given-applies (x ∷ xs) r o (inl h) e = go (eqb x.0 q) (eq-eqb x.0 q (sym h.1 ∙ e))
    where
      go : (t : Bool) → t ≡ true → Choice t x.1 ((x.1 → ⊥) × Applies xs q)
      go true i = h.0
      go false i = clash (sym i)
  given-applies (x ∷ xs) r o (inr h) e = go (eqb x.0 q) o (λ a. given-applies xs r a h.1 e)
    where
      go :
          (t : Bool) → cond t (absent q (numbers xs)) (once q (numbers xs)) ≡ true → (once q (numbers xs) ≡ true → Applies xs q) →
          Choice t x.1 ((x.1 → ⊥) × Applies xs q)
      go true a k = absurd (not-given xs q r a z h.1 e)
      go false a k = (h.0, k a)

  applies-given : (xs : Chain) (r : ℕ) → First xs r → Applies xs q → r ≡ q
  applies-given [] r f a = absurd a
  applies-given (x ∷ xs) r (inl h) a = go (eqb x.0 q) refl a
    where
      go : (t : Bool) → eqb x.0 q ≡ t → Choice t x.1 ((x.1 → ⊥) × Applies xs q) → r ≡ q
      go true i c = h.1 ∙ eqb-true x.0 q i
      go false i c = absurd (c.0 h.0)
  applies-given (x ∷ xs) r (inr h) a = go (eqb x.0 q) a (λ k. applies-given xs r h.1 k)
    where
      go : (t : Bool) → Choice t x.1 ((x.1 → ⊥) × Applies xs q) → (Applies xs q → r ≡ q) → r ≡ q
      go true c k = absurd (h.0 c)
      go false c k = k c.1

-- a refusal that stands once is given exactly when its condition holds and none before it in the order
pub given-once : {xs : Chain} {r : ℕ} (q : ℕ) → FirstOf xs r → once (suc q) (numbers xs) ≡ true → (r ≡ suc q) ↔ Applies xs (suc q)
given-once {xs} {r} q f o = (given-applies (suc q) (λ e. omega arith) xs r o f.first, applies-given (suc q) (λ e. omega arith) xs r f.first)

distinct-once : (q : ℕ) (ns : List ℕ) → distinct ns ≡ true → once q ns ≡ true
distinct-once q [] d = refl
distinct-once q (n ∷ ns) d = go (eqb n q) refl (distinct-once q ns (and_right (absent n ns) (distinct ns) d))
  where
    go : (t : Bool) → eqb n q ≡ t → once q ns ≡ true → cond t (absent q ns) (once q ns) ≡ true
    go true i k = rw (eqb-true n q i) at (and_left (absent n ns) (distinct ns) d)
    go false i k = k

pub given-exactly : {xs : Chain} {r : ℕ} (q : ℕ) → FirstOf xs r → distinct (numbers xs) ≡ true → (r ≡ suc q) ↔ Applies xs (suc q)
given-exactly {xs} q f d = given-once q f (distinct-once (suc q) (numbers xs) d)

-- and nothing is refused exactly when none applies
none_of : (xs : Chain) (r : ℕ) → absent 0 (numbers xs) ≡ true → First xs r → (r ≡ 0) ↔ NoneOf xs
none_of [] r p f = (λ e. tt, λ u. f)
none_of (x ∷ xs) r p (inl h) =
    (λ e. absurd (eqb-false 0 x.0 (not-true (eqb 0 x.0) (and_left (not (eqb 0 x.0)) (absent 0 (numbers xs)) p)) (sym e ∙ h.1)), λ n. absurd (n.0 h.0))
none_of (x ∷ xs) r p (inr h) =
    let k = none_of xs r (and_right (not (eqb 0 x.0)) (absent 0 (numbers xs)) p) h.1 in
    (λ e. (h.0, k.0 e), λ n. k.1 n.1)

pub none-exactly : {xs : Chain} {r : ℕ} → FirstOf xs r → absent 0 (numbers xs) ≡ true → (r ≡ 0) ↔ NoneOf xs
none-exactly {xs} {r} f p = none_of xs r p f.first
