-- `shape::cap_shape` meets its contract: off the first diagonal no cell is the middle one. Assumes nothing.
use mathlib.Core.Path.{◌≡◌, sym}
use mathlib.Core.Bool.{false, ◌&&◌}
use Prim.Native.Nat.{ℕ, ◌+◌, ◌*◌}
use native.Mathlib.Omega.{arith}
use lib.Dec.{eqb}
use borrow.Author.Tests.{eq-eqb, ne_eqb}
use Rattle.logic.specs.Laws.Bools.{not-both}
use Rattle.shape.specs.Shape.{cap_shape}
use Rattle.shape.proofs.cap_shape.Goals as goal

-- the middle cell has the same row and column
not-middle : (m i j : ℕ) → (i ≡ j → ⊥) → (eqb (2 * i + 1) m && eqb (2 * j + 1) m) ≡ false
not-middle m i j h = not-both (2 * i + 1) m (2 * j + 1) m (λ p q. h (omega arith))

pub returns-then-row-m : goal.returns-then-row-m
unfolding cap_shape
returns-then-row-m c = simp (eq-eqb _ _ c.if-row-m.true, sym c.if-row-column.true)

pub returns-then-row-column : goal.returns-then-row-column
unfolding cap_shape
returns-then-row-column c = simp (ne_eqb _ _ c.if-row-m.false, eq-eqb _ _ c.if-row-column.true)

pub returns-then-row-column-2 : goal.returns-then-row-column-2
unfolding cap_shape
returns-then-row-column-2 c =
    let a = c.args in
    simp (not-middle a.m a.row a.column c.if-row-column.false, ne_eqb _ _ c.if-row-column.false, eq-eqb _ _ c.if-row-column-2.true)

pub returns : goal.returns
unfolding cap_shape
returns c =
    let a = c.args in
    simp (not-middle a.m a.row a.column c.if-row-column.false, ne_eqb _ _ c.if-row-column.false, ne_eqb _ _ c.if-row-column-2.false)
