-- What each test of the functions makes of the answer. Assumes nothing.
use mathlib.Core.Path.{◌≡◌, refl, sym, ap, ◌∙◌}
use mathlib.Core.Bool.{Bool, true, false}
use Prim.Native.Nat.{ℕ, ◌+◌, ◌-◌, ◌≤◌, ◌<◌}
use native.Mathlib.Omega.{arith}
use lib.Dec.{leb, ltb}
use borrow.Author.Tests.{ltb-true, ltb-false, lt-ltb, le-ltb, le-leb, lt-leb, eq-eqb, ne_eqb}
use Rattle.logic.specs.Refusal.{refuse, ◌otherwise◌, given}
use Rattle.logic.specs.Laws.Refusal.{stops, given-none, given-value}
use Rattle.history.specs.declared.History.{History}
use Rattle.history.specs.Settings.{none, is_kept, next_refusal, read_refusal}
use Rattle.history.specs.History.{answer, placed, read_of}

-- ---- answers

pub refused : {r q : ℕ} (new old : History) → q ≡ r → (r ≡ 0 → ⊥) → record { refusal = r; history = old } ≡ answer q new old
unfolding answer
refused {r} {q} new old e h =
    λ i. record { refusal = sym e i; history = sym (given-none q new old (λ z. h (sym e ∙ z))) i }

pub accepted : {q : ℕ} (new old : History) → q ≡ 0 → record { refusal = 0; history = new } ≡ answer q new old
unfolding answer
accepted {q} new old e = λ i. record { refusal = sym e i; history = sym (given-value new old e) i }

-- the first refusal that is one, of two
pub at_once : {r q : ℕ} (n : ℕ) → r ≡ q → (r ≡ 0 → ⊥) → q otherwise n ≡ r
at_once {r} {q} n e h = ap (λ (x : ℕ). x otherwise n) (sym e) ∙ stops r n h

-- ---- revisions

pub stale : (newest from : ℕ) → (from ≡ newest → ⊥) → next_refusal newest from ≡ 16
unfolding next_refusal ◌otherwise◌
stale newest from h = rw (ne_eqb from newest h)

pub latest : (newest from : ℕ) → from ≡ newest → next_refusal newest from ≡ refuse (leb 65535 newest) 17
unfolding next_refusal ◌otherwise◌
latest newest from h = rw (eq-eqb from newest h)

pub not-kept : (newest r : ℕ) → is_kept newest r ≡ false → read_refusal newest r ≡ 18
unfolding read_refusal
not-kept newest r e = rw e

pub is-kept : (newest r : ℕ) → is_kept newest r ≡ true → read_refusal newest r ≡ 0
unfolding read_refusal
is-kept newest r e = rw e

pub not_made : (newest r : ℕ) → newest < r → is_kept newest r ≡ false
unfolding is_kept
not_made newest r h = rw (lt-leb r newest h)

pub made : (newest r : ℕ) → r ≤ newest → ltb (newest - r) 32 ≡ is_kept newest r
unfolding is_kept
made newest r h = rw (le-leb r newest h) (go (ltb (newest - r) 32) refl)
  where
    go : (b : Bool) → ltb (newest - r) 32 ≡ b → b ≡ ltb newest (r + 32)
    go true e = let k : newest - r < 32 = ltb-true _ _ e in sym (lt-ltb newest (r + 32) (omega arith))
    go false e = let k : 32 ≤ newest - r = ltb-false _ _ e in sym (le-ltb newest (r + 32) (omega arith))

pub unread : (h : History) (r : ℕ) → is_kept h.newest r ≡ false → record { refusal = 18; settings = none } ≡ read_of h r
unfolding read_of given
unread h r e = ap (λ (x : ℕ). record { refusal = x; settings = given x (placed h r) none }) (sym (not-kept h.newest r e))

pub is_read : (h : History) (r : ℕ) → is_kept h.newest r ≡ true → record { refusal = 0; settings = placed h r } ≡ read_of h r
unfolding read_of given
is_read h r e = ap (λ (x : ℕ). record { refusal = x; settings = given x (placed h r) none }) (sym (is-kept h.newest r e))
