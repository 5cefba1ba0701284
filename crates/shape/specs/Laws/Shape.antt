-- Each cell is of exactly one shape, the one computed. Assumes nothing.
use Rattle.std.specs.Prelude.{◌≡◌, refl, true, false, ◌&&◌, ◌||◌, ◌+◌, ◌*◌, ◌^◌, ltb}
use Rattle.std.proofs.Common.{sym, ap₂, ◌∙◌, inl, inr, ⊎_elim}
use native.Mathlib.Omega.{arith}
use Rattle.std.proofs.Math.Dec.{eqb}
use borrow.Author.Tests.{ltb-true, ltb-false, eqb-true, eqb-false, eq-eqb}
use Rattle.logic.specs.Laws.Bools.{and_left, and_right, or-either, or_left, or_right, by_cond, clash}
use Rattle.cell.specs.declared.Cell.{Cell}
use Rattle.shape.specs.declared.Shape.{Shape}
use Rattle.shape.specs.declared.Shape.TheVariants.{Quad, Cap, Dart, SkewQuad}
use Rattle.shape.specs.Shape.{Belt, Middle, Diagonal, Is, cap_shape, shape_of}

-- two shapes of one cell are one shape
pub one-shape : (c : Cell) (s t : Shape) → Is s c → Is t c → s ≡ t
one-shape c Quad Quad a b = refl
one-shape c Quad Cap a b = absurd (b.0 a)
one-shape c Quad Dart a b = absurd (b.0 a)
one-shape c Quad SkewQuad a b = absurd (b.0 a)
one-shape c Cap Quad a b = absurd (a.0 b)
one-shape c Cap Cap a b = refl
one-shape c Cap Dart a b = absurd (b.1 a.1)
one-shape c Cap SkewQuad a b = absurd (b.1 a.1)
one-shape c Dart Quad a b = absurd (a.0 b)
one-shape c Dart Cap a b = absurd (a.1 b.1)
one-shape c Dart Dart a b = refl
one-shape c Dart SkewQuad a b = absurd (b.2 a.2)
one-shape c SkewQuad Quad a b = absurd (a.0 b)
one-shape c SkewQuad Cap a b = absurd (a.1 b.1)
one-shape c SkewQuad Dart a b = absurd (a.2 b.2)
one-shape c SkewQuad SkewQuad a b = refl

module _ (c : Cell) where
  -- a test that failed on one side or the other
  not-middle : (eqb (2 * c.row + 1) (3 ^ c.resolution) && eqb (2 * c.column + 1) (3 ^ c.resolution)) ≡ false → Middle c → ⊥
  not-middle e h = clash (sym (ap₂ ◌&&◌ (eq-eqb _ _ h.row) (eq-eqb _ _ h.column)) ∙ e)

  diagonal : (eqb c.row c.column || eqb (c.row + c.column + 1) (3 ^ c.resolution)) ≡ true → Diagonal c
  diagonal e =
      ⊎_elim (λ h. inl (eqb-true c.row c.column h)) (λ h. inr (eqb-true (c.row + c.column + 1) (3 ^ c.resolution) h)) (or-either (eqb c.row c.column) _ e)

  not-diagonal : (eqb c.row c.column || eqb (c.row + c.column + 1) (3 ^ c.resolution)) ≡ false → Diagonal c → ⊥
  not-diagonal e =
      ⊎_elim (λ h. eqb-false c.row c.column (or_left (eqb c.row c.column) _ e) h)
      (λ h. eqb-false (c.row + c.column + 1) (3 ^ c.resolution) (or_right (eqb c.row c.column) _ e) h)

  cap-is : (Belt c → ⊥) → Is (cap_shape (3 ^ c.resolution) c.row c.column) c
  unfolding cap_shape
  cap-is b =
      by_cond (λ (s : Shape). Is s c) (eqb (2 * c.row + 1) (3 ^ c.resolution) && eqb (2 * c.column + 1) (3 ^ c.resolution))
      (λ e. (b, record { row = eqb-true _ _ (and_left _ (eqb (2 * c.column + 1) (3 ^ c.resolution)) e); column = eqb-true _ _ (and_right (eqb (2 * c.row + 1) (3 ^ c.resolution)) _ e) }))
      (λ e. by_cond (λ (s : Shape). Is s c) (eqb c.row c.column || eqb (c.row + c.column + 1) (3 ^ c.resolution))
      (λ f. (b, not-middle e, diagonal f))
      (λ f. (b, not-middle e, not-diagonal f)))

  -- a cell is of the shape computed
  pub shape_is : Is (shape_of c) c
  unfolding shape_of
  shape_is =
      by_cond (λ (s : Shape). Is s c) (ltb c.face 1) (λ e. cap-is (λ b. let h = ltb-true c.face 1 e in omega (arith, b.from)))
      (λ e. by_cond (λ (s : Shape). Is s c) (ltb c.face 5)
      (λ f. let h = ltb-false c.face 1 e in let k = ltb-true c.face 5 f in record { from = h; to = omega arith })
      (λ f. cap-is (λ b. let h = ltb-false c.face 5 f in omega (arith, b.to))))

  -- and of no other
  pub only-shape : (s : Shape) → Is s c → s ≡ shape_of c
  only-shape s h = one-shape c s (shape_of c) h shape_is
