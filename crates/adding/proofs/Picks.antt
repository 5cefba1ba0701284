-- The edits by their tests. Assumes nothing.
use mathlib.Core.Path.{◌≡◌, sym, ap, ◌∙◌}
use Prim.Native.Nat.{ℕ, ◌+◌, ◌≤◌, ◌<◌}
use native.Mathlib.Omega.{arith}
use borrow.Author.Tests.{lt-ltb, le-ltb, eq-eqb, ne_eqb}
use Rattle.adding.specs.declared.Edit.TheVariants.{Put, Cut, Full}
use Rattle.adding.specs.Internal.Find.{whole_as, put_as}

pub put-more : (i k count w n : ℕ) → k + 1 < count → Put i k ≡ put_as i k count w n
unfolding put_as
put-more i k count w n h = sym (rw (lt-ltb (k + 1) count h))

pub put_full : (i k count w n r : ℕ) → count ≤ k + 1 → r ≡ n → w + 1 + r ≡ 9 → Full (i + r) ≡ put_as i k count w n
unfolding put_as
put_full i k count w n r h e f = ap (λ (x : ℕ). Full (i + x)) e ∙ sym (rw (le-ltb (k + 1) count h, eq-eqb (w + 1 + n) 9 (omega arith)))

pub put_last : (i k count w n r : ℕ) → count ≤ k + 1 → r ≡ n → (w + 1 + r ≡ 9 → ⊥) → Put i k ≡ put_as i k count w n
unfolding put_as
put_last i k count w n r h e f = sym (rw (le-ltb (k + 1) count h, ne_eqb (w + 1 + n) 9 (λ z. f (omega arith))))

pub whole-full : (i e w n r : ℕ) → r ≡ n → w + 1 + r ≡ 9 → Full (e + r) ≡ whole_as i e w n
unfolding whole_as
whole-full i e w n r q f = ap (λ (x : ℕ). Full (e + x)) q ∙ sym (rw (eq-eqb (w + 1 + n) 9 (omega arith)))

pub whole-cut : (i e w n r : ℕ) → r ≡ n → (w + 1 + r ≡ 9 → ⊥) → Cut (i + 1) e ≡ whole_as i e w n
unfolding whole_as
whole-cut i e w n r q f = sym (rw (ne_eqb (w + 1 + n) 9 (λ z. f (omega arith))))
