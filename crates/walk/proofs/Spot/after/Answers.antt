-- `walk::Spot::after` meets its contract: a number of at most 16 digits of base nine. Assumes nothing.
use mathlib.Core.Path.{◌≡◌, refl}
use mathlib.Core.Bool.{true}
use Prim.Native.Nat.{ℕ, ◌+◌, ◌*◌, ◌/◌, ◌^◌, ◌≤◌, ◌<◌}
use native.Mathlib.Omega.{arith}
use borrow.Author.Tests.{eq-eqb, ne_eqb, ltb-true}
use Rattle.ternary.proofs.Laws.Powers.{nine-le}
use Rattle.walk.specs.declared.Spot.{Spot}
use Rattle.walk.specs.Walk.{spot, Fits, number_in, after, goes_on}
use Rattle.walk.proofs.Spot.after.Goals as goal
use Rattle.walk.proofs.Spot.after.Goals.{After-number_in}

small : (s : Spot) → Fits s → s.number < 1853020188851841
small s f =
    let g : 9 ^ (s.resolution + 1) ≤ 9 ^ 16 = nine-le {i = s.resolution + 1} {j = 16} (omega (arith, f.fine)) in
    omega (arith, f.small)

-- what is allowed at each byte
module _ (s : Spot) (b : ℕ) where
  at-shut : b ≡ 41 → goes_on s b ≡ true → 0 < s.resolution
  unfolding goes_on
  at-shut e g = ltb-true 0 s.resolution (rw e at g)

  at_name : (b ≡ 40 → ⊥) → (b ≡ 41 → ⊥) → goes_on s b ≡ true → number_in b < 9
  unfolding goes_on
  at_name e f g = ltb-true (number_in b) 9 (rw (ne_eqb b 40 e, ne_eqb b 41 f) at g)

-- the first cell beside it has that number
stands : (k n f m : ℕ) → n ≡ m → f ≡ m / 9 * 9 → ◌≡◌ {A = Spot} (record { resolution = k; number = n; first = f }) (spot k m)
stands k n f m e g = λ i. record { resolution = k; number = e i; first = g i }

name : (c : After-number_in) → number_in c.args.b < 9
name c =
    let a = c.args in
    at_name a.self a.b c.if-b-eq40.false c.if-b-eq41.false c.requires.1

pub overflow_mul-child : goal.overflow_mul-child
overflow_mul-child c = let a = c.args in omega (arith, small a.self c.requires.0)

pub returns-then-b-eq40 : goal.returns-then-b-eq40
unfolding after
returns-then-b-eq40 c =
    let a = c.args in
    rw (eq-eqb a.b 40 c.if-b-eq40.true) (stands (a.self.resolution + 1) (a.self.number * 9) (a.self.number * 9) (a.self.number * 9) refl (omega arith))

pub overflow_sub-result : goal.overflow_sub-result
overflow_sub-result c = let a = c.args in omega (arith, at-shut a.self a.b c.if-b-eq41.true c.requires.1)

pub returns-then-b-eq41 : goal.returns-then-b-eq41
unfolding after
returns-then-b-eq41 c = let a = c.args in rw (ne_eqb a.b 40 c.if-b-eq40.false, eq-eqb a.b 41 c.if-b-eq41.true)

pub overflow_add-result-2 : goal.overflow_add-result-2
overflow_add-result-2 c =
    let a = c.args in
    let p = c.requires.0 in
    omega (arith, small a.self p, p.beside, name (goal.at.overflow_add-result-2 c).After-number_in, c.number_in.ensures)

pub returns : goal.returns
unfolding after
returns c =
    let a = c.args in
    let p = c.requires.0 in
    rw (ne_eqb a.b 40 c.if-b-eq40.false, ne_eqb a.b 41 c.if-b-eq41.false)
    (stands a.self.resolution (a.self.first + c.number_in.result) a.self.first (a.self.number / 9 * 9 + number_in a.b) (omega (arith, p.beside, c.number_in.ensures))
    (omega (arith, p.beside, name (goal.at.returns c).After-number_in)))
