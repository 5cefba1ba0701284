-- What W-212 says of straight lines, for every arrangement, cell and direction. Assumes nothing.
use Rattle.std.specs.Prelude.{◌≡◌}
use Rattle.std.proofs.Math.Path.{refl, sym, ap}
use Rattle.std.proofs.Common.{subst, ◌∙◌}
use Prim.Native.Nat.{ℕ, zero, suc, ◌+◌, ◌-◌, ◌^◌, ◌≤◌, ◌<◌}
use native.Mathlib.Omega.{arith}
use Rattle.cell.specs.declared.Cell.{Cell}
use Rattle.cell.specs.declared.Arrangement.{Arrangement}
use Rattle.cell.specs.Cell.{IsCell, IsArrangement}
use Rattle.cell.specs.Neighbour.{rows, neighbour_of, back_of}
use Rattle.cell.specs.Line.{Heading, IsHeading, Entered, opposite, onward, line, line_length, reversed}
use Rattle.cell.proofs.Laws.Neighbour.{neighbour-is-cell, neighbour-resolution, back-small, back-returns, back-back, different}
use Rattle.cell.proofs.Laws.Faces.{IsWay, way}
use Rattle.cell.proofs.Laws.Crossing.{left_of, behind_of, seen, left-small, behind-small, opposite-twice}
use Rattle.cell.proofs.Laws.Course.{on, round-on, apart-on}

-- "from any cell, in any direction"
pub any-heading : (c : Cell) (d : ℕ) → IsCell c → d < 4 → IsHeading (record { cell = c; direction = d })
any-heading c d v l = record { cell = v; direction = l }

module _ {a : Arrangement} (ok : IsArrangement a) where
  -- "leaving each by the edge opposite the one they entered by": that edge leads back to the cell that was left, and it is the only one
  pub entered : {h : Heading} → IsHeading h → Entered a h (opposite (onward a h).direction)
  unfolding onward
  entered {h} v =
      let d = h.direction in
      let e = opposite-twice (back_of a h.cell d) (back-small a h.cell d) in
      (omega arith, ap (neighbour_of a (neighbour_of a h.cell d)) e ∙ back-returns d ok v.cell v.direction)

  pub entered-once : {h : Heading} (e : ℕ) → IsHeading h → Entered a h e → (onward a h).direction ≡ opposite e
  unfolding onward
  entered-once {h} e v (l, p) =
      let d = h.direction in
      let r = back-returns d ok v.cell v.direction in
      ap opposite (different _ e ok (neighbour-is-cell d ok v.cell v.direction) (back-small a h.cell d) l (r ∙ sym p))

  pub onward-heading : {h : Heading} → IsHeading h → IsHeading (onward a h)
  unfolding onward
  onward-heading {h} v = record { cell = neighbour-is-cell h.direction ok v.cell v.direction; direction = omega arith }

  line-heading : {h : Heading} (n : ℕ) → IsHeading h → IsHeading (line a h n)
  unfolding line
  line-heading zero v = v
  line-heading (suc n) v = onward-heading (line-heading n v)

  -- "visits .. cells of its resolution k"
  pub line-cell : {h : Heading} (n : ℕ) → IsHeading h → IsCell (line a h n).cell
  line-cell n v = (line-heading n v).cell

  pub line-resolution : (h : Heading) (n : ℕ) → (line a h n).cell.resolution ≡ h.cell.resolution
  unfolding line
  line-resolution h zero = refl
  line-resolution h (suc n) = neighbour-resolution a _ _ ∙ line-resolution h n

  -- each move is to the neighbour in the direction in which the cell is left, and the next is left by the edge opposite the one it was entered by
  pub line-move :
      {h : Heading} (n : ℕ) → IsHeading h →
      ((line a h (suc n)).cell ≡ neighbour_of a (line a h n).cell (line a h n).direction) × Entered a (line a h n) (opposite (line a h (suc n)).direction)
  unfolding line
  line-move n v = (refl, entered (line-heading n v))

  module _ {h : Heading} (v : IsHeading h) where
    stands :
        on h.cell.resolution (way h.cell.face h.direction) (left_of h.cell h.direction) (behind_of h.cell h.direction) ≡ h
    stands = λ i. record { cell = sym (seen v.cell h.direction v.direction) i; direction = h.direction }

    whole : IsWay (way h.cell.face h.direction)
    whole = record { faced = v.cell.faced; directed = v.direction }

    -- "and then stands on the first again", in the same direction
    pub line-again : line a h (line_length h) ≡ h
    line-again =
        subst (λ (x : Heading). line a x (line_length h) ≡ x) stands
        (round-on ok h.cell.resolution _ (left-small v.cell h.direction) whole _ (behind-small v.cell h.direction))

    first-apart : (n : ℕ) → 0 < n → n < line_length h → (line a h n).cell ≡ h.cell → ⊥
    first-apart n p q =
        subst (λ (x : Heading). (line a x n).cell ≡ x.cell → ⊥) stands
        (apart-on ok h.cell.resolution _ (left-small v.cell h.direction) whole _ (behind-small v.cell h.direction) n p q)

  -- so many moves, and then so many more
  line-add : (h : Heading) (n i : ℕ) → line a h (i + n) ≡ line a (line a h n) i
  unfolding line
  line-add h n zero = let e : 0 + n ≡ n = omega arith in ap (line a h) e
  line-add h n (suc i) = let e : suc i + n ≡ suc (i + n) = omega arith in ap (line a h) e ∙ ap (onward a) (line-add h n i)

  -- "visits 4 x 3^k different cells"
  pub line-different : {h : Heading} (i j : ℕ) → IsHeading h → i < j → j < line_length h → (line a h i).cell ≡ (line a h j).cell → ⊥
  line-different {h} i j v p q e =
      let r : rows (line a h i).cell ≡ rows h.cell = ap (λ (y : ℕ). 3 ^ y) (line-resolution h i) in
      let s : j - i + i ≡ j = omega arith in
      let f : line a (line a h i) (j - i) ≡ line a h j = sym (line-add h i (j - i)) ∙ ap (line a h) s in
      first-apart (line-heading i v) (j - i) (omega arith) (omega arith) (ap (λ (y : Heading). y.cell) f ∙ sym e)

  -- after a move and reversed, the next move leads back
  back-again : {h : Heading} → IsHeading h → onward a (reversed (onward a h)) ≡ reversed h
  unfolding onward
  back-again {h} v =
      let c = h.cell in
      let d = h.direction in
      let e = opposite-twice (back_of a c d) (back-small a c d) in
      let p : neighbour_of a (neighbour_of a c d) (opposite (opposite (back_of a c d))) ≡ c = rw e (back-returns d ok v.cell v.direction) in
      let q : opposite (back_of a (neighbour_of a c d) (opposite (opposite (back_of a c d)))) ≡ opposite d =
      rw e (ap opposite (back-back d ok v.cell v.direction)) in
      λ i. record { cell = p i; direction = q i }

  -- reversed after i + j moves, i moves lead back to the heading after j
  return : {h : Heading} (i j : ℕ) → IsHeading h → line a (reversed (line a h (i + j))) i ≡ reversed (line a h j)
  unfolding line
  return {h} zero j v = let e : 0 + j ≡ j = omega arith in ap (λ (x : ℕ). reversed (line a h x)) e
  return {h} (suc i) j v =
      let e : suc i + j ≡ i + suc j = omega arith in
      ap (λ (x : ℕ). onward a (line a (reversed (line a h x)) i)) e ∙ ap (onward a) (return i (suc j) v) ∙ back-again (line-heading j v)

  -- "flying it backwards visits the same cells in reverse"
  pub line-reversed : {h : Heading} (i : ℕ) → IsHeading h → i ≤ line_length h → line a (reversed h) i ≡ reversed (line a h (line_length h - i))
  line-reversed {h} i v l =
      let e : i + (line_length h - i) ≡ line_length h = omega arith in
      ap (λ (x : Heading). line a (reversed x) i) (sym (line-again v) ∙ ap (line a h) (sym e)) ∙ return i (line_length h - i) v

  -- of the cells alone
  pub same-cells : {h : Heading} (i : ℕ) → IsHeading h → i ≤ line_length h → (line a (reversed h) i).cell ≡ (line a h (line_length h - i)).cell
  same-cells i v l = ap (λ (x : Heading). x.cell) (line-reversed i v l)
