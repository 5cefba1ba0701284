-- Where a straight line stands after any number of moves: it crosses a face in 3^k moves, and four faces in turn. Assumes nothing.
use Rattle.std.specs.Prelude.{◌≡◌}
use Rattle.std.proofs.Common.{sym, ◌∙◌, mod-lt, div-add-mod', div-lt_iff_lt-mul, add-one}
use Rattle.std.proofs.Math.Path.{ap}
use Rattle.std.proofs.Math.Logic.{⊎_elim}
use Prim.Native.Nat.{ℕ, zero, suc, ◌+◌, ◌-◌, ◌*◌, ◌/◌, ◌%◌, ◌^◌, ◌<◌}
use Rattle.std.proofs.Math.Nat.{suc-mul}
use native.Mathlib.Omega.{arith}
use Rattle.logic.specs.Laws.Order.{lt-or}
use Rattle.ternary.proofs.Laws.Powers.{power_pos}
use Rattle.cell.specs.declared.Cell.{Cell}
use Rattle.cell.specs.declared.Arrangement.{Arrangement}
use Rattle.cell.specs.Cell.{IsArrangement}
use Rattle.cell.specs.Neighbour.{back_of}
use Rattle.cell.proofs.Internal.Seams.{Leads}
use Rattle.cell.specs.Line.{Heading, opposite, onward, line}
use Rattle.cell.proofs.Laws.Faces.{Way, IsWay, next_face, face_after, next_way, way-after, fourth, others}
use Rattle.cell.proofs.Laws.Crossing.{last, behind_of, in_face, in-face-face, in-face-behind, ahead, crosses}

-- the heading with so many cells of the face to the left and behind
abbrev pub on : (k : ℕ) → Way → (left behind : ℕ) → Heading
on k w l b = record { cell = in_face k w l b; direction = w.direction }

moved : {a : Arrangement} {c x : Cell} {d e : ℕ} → Leads a c d x (opposite e) → e < 4 → onward a (record { cell = c; direction = d }) ≡ record { cell = x; direction = e }
unfolding onward
moved {a} {c} {x} {d} {e} s h =
    let q : opposite (back_of a c d) ≡ e = ap opposite s.back ∙ omega arith in
    λ i. record { cell = s.there i; direction = q i }

module _ {a : Arrangement} (ok : IsArrangement a) (k l : ℕ) (hl : l < 3 ^ k) where
  -- a move inside a face, and one across its edge
  pub on-ahead : {w : Way} → IsWay w → (b : ℕ) → suc b < 3 ^ k → onward a (on k w l b) ≡ on k w l (suc b)
  on-ahead {w} v b h = moved (rw add-one at (ahead k w v l b hl (omega arith) a (omega arith))) v.directed

  pub on-across : {w : Way} → IsWay w → (b : ℕ) → suc b ≡ 3 ^ k → onward a (on k w l b) ≡ on k (next_face a w) l 0
  on-across {w} v b h = moved (crosses a k l b hl (omega arith) w v) (next_way ok v).directed

  -- after n moves, s edges lie behind, and r cells of the face
  course : {w : Way} → IsWay w → (b n s r : ℕ) → b < 3 ^ k → r < 3 ^ k → b + n ≡ s * 3 ^ k + r → line a (on k w l b) n ≡ on k (face_after a s w) l r
  unfolding line face_after
  course {w} v b zero zero r hb hr e = let q : b ≡ r = omega arith in ap (λ (x : ℕ). on k w l x) q
  course {w} v b zero (suc s) r hb hr e = let q = suc-mul s (3 ^ k) in absurd (omega arith)
  course {w} v b (suc n) s (suc r) hb hr e =
      ap (onward a) (course v b n s r hb (omega arith) (omega arith)) ∙ on-ahead (way-after ok v s) r hr
  course {w} v b (suc n) zero zero hb hr e = absurd (omega arith)
  course {w} v b (suc n) (suc s) zero hb hr e =
      let q = suc-mul s (3 ^ k) in
      ap (onward a) (course v b n s (last k) hb (omega arith) (omega arith)) ∙ on-across (way-after ok v s) (last k) (omega arith)

  module _ {w : Way} (v : IsWay w) (b : ℕ) (hb : b < 3 ^ k) where
    -- four faces on, the line stands where it stood
    pub round-on : line a (on k w l b) (4 * 3 ^ k) ≡ on k w l b
    round-on = course v b (4 * 3 ^ k) 4 b hb hb (omega arith) ∙ ap (λ (x : Way). on k x l b) (fourth ok v)

    one_place : (r : ℕ) → r < 3 ^ k → in_face k w l r ≡ in_face k w l b → r ≡ b
    one_place r hr e =
        sym (in-face-behind k w v l r hl hr) ∙ ap (λ (c : Cell). behind_of c w.direction) e ∙ in-face-behind k w v l b hl hb

    -- in the same face another number of cells is behind
    elsewhere : (n s r : ℕ) → 0 < n → n < 4 * 3 ^ k → s < 5 → r < 3 ^ k → b + n ≡ s * 3 ^ k + r → in_face k (face_after a s w) l r ≡ in_face k w l b → ⊥
    unfolding face_after
    elsewhere n zero r p q hs hr e x = let o = one_place r hr x in omega arith
    elsewhere n (suc s) r p q hs hr e x =
        ⊎_elim
        (λ h. others ok v s h (sym (in-face-face k (face_after a (suc s) w) l r) ∙ ap (λ (c : Cell). c.face) x ∙ in-face-face k w l b))
        (λ h.
        let f : suc s ≡ 4 = omega arith in
        let g : face_after a (suc s) w ≡ w = ap (λ (y : ℕ). face_after a y w) f ∙ fourth ok v in
        let o = one_place r hr (ap (λ (y : Way). in_face k y l r) (sym g) ∙ x) in
        let z : suc s * 3 ^ k ≡ 4 * 3 ^ k = ap (λ (y : ℕ). y * 3 ^ k) f in
        omega arith)
        (lt-or s 3)

    pub apart-on : (n : ℕ) → 0 < n → n < 4 * 3 ^ k → (line a (on k w l b) n).cell ≡ in_face k w l b → ⊥
    apart-on n p q e =
        let s = (b + n) / 3 ^ k in
        let r = (b + n) % 3 ^ k in
        let z = power_pos k in
        let hr : r < 3 ^ k = mod-lt (b + n) z in
        let hs : s < 5 = (div-lt_iff_lt-mul {k = 3 ^ k} {x = b + n} {y = 5} z).1 (omega arith) in
        let d : s * 3 ^ k + r ≡ b + n = div-add-mod' (b + n) (3 ^ k) in
        elsewhere n s r p q hs hr (sym d) (ap (λ (h : Heading). h.cell) (sym (course v b n s r hb hr (sym d))) ∙ e)
