-- A cell's box: no edge of it is anything but a finite number, and the frame that grows over codes holds the box of each. Assumes nothing.
use Rattle.std.specs.Prelude.{◌≡◌, refl, Bool, true, false, ◌||◌, List, [], ◌∷◌, map, ℕ, ◌*◌, ◌≤◌, ℤ, nat_abs, Float}
use Rattle.std.proofs.Common.{arith}
use Rattle.std.specs.Float.{nan, inf, fin}
use Rattle.std.specs.Float.Ieee.{is_nan}
use Rattle.std.specs.Float.Ieee.Exact.{HasValue}
use Rattle.logic.specs.Lists.{All}
use Rattle.cell.specs.declared.Cell.{Cell}
use Rattle.cell.specs.declared.Arrangement.{Arrangement}
use Rattle.cell.specs.Cell.{IsCell, IsArrangement}
use Rattle.code.specs.Code.{cell_of, arrangement_of, is_code}
use Rattle.code.proofs.Laws.Code.{code-is-cell, code-arranged}
use Rattle.plane.proofs.Laws.Small.{left-within, right-within, top_within, bottom-within}
use Rattle.metres.specs.Metres.{is_side, metres_of}
use Rattle.metres.proofs.Laws.Metres.{metres-near}
use Rattle.plotter.specs.declared.Frame.{Frame}
use Rattle.plotter.specs.Plotter.{box_of, box_in, has_nan, frame_over, Holds, EdgesOf}
use Rattle.plotter.proofs.Laws.Frame.{over-own, over-each, over-edges}

finite : (r : Float) (s : Bool) (a c : ℕ) → HasValue r s a c → is_nan r ≡ false
unfolding is_nan
finite nan s a c h = absurd h
finite (inf t) s a c h = absurd h
finite (fin t m e) s a c h = refl

number : (x : ℤ) (side : Float) → is_side side ≡ true → nat_abs x ≤ 4 * 28697814 → is_nan (metres_of x side) ≡ false
number x side e h = finite (metres_of x side) _ _ _ (metres-near x side (omega arith) e).value

none_is : (a b c d : Bool) → a ≡ false → b ≡ false → c ≡ false → d ≡ false → (a || (b || (c || d))) ≡ false
none_is a b c d p q r s = rw (p, q, r, s) refl

pub box-numbers : (side : Float) (a : Arrangement) (c : Cell) → is_side side ≡ true → IsArrangement a → IsCell c → has_nan (box_of side a c) ≡ false
unfolding has_nan box_of
box-numbers side a c e g v =
    none_is _ _ _ _ (number _ side e (left-within g v)) (number _ side e (bottom-within v)) (number _ side e (right-within g v)) (number _ side e (top_within v))

-- ---- over codes

-- a side that is taken, and a code
pub code-box : (side : Float) (code : ℕ) → is_side side ≡ true → is_code code ≡ true → has_nan (box_in side code) ≡ false
code-box side code e h = box-numbers side (arrangement_of code) (cell_of code) e (code-arranged code) (code-is-cell code h)

boxes-numbers : (side : Float) (codes : List ℕ) → is_side side ≡ true → All (λ (code : ℕ). is_code code ≡ true) codes →
    All (λ (f : Frame). has_nan f ≡ false) (map (box_in side) codes)
boxes-numbers side [] e h = tt
boxes-numbers side (code ∷ codes) e h = (code-box side code e h.0, boxes-numbers side codes e h.1)

module _ (side : Float) (code : ℕ) (codes : List ℕ) (e : is_side side ≡ true) (h : is_code code ≡ true) (hs : All (λ (c : ℕ). is_code c ≡ true) codes) where
  -- the frame of a code, grown by further ones, holds the box of each
  pub cells-held : All (Holds (frame_over (box_in side code) (map (box_in side) codes))) (map (box_in side) (code ∷ codes))
  cells-held =
      let p = code-box side code e h in
      let q = boxes-numbers side codes e hs in
      (over-own (box_in side code) (map (box_in side) codes) p q, over-each (box_in side code) (map (box_in side) codes) p q)

  -- and each of its edges is an edge of one of them
  pub cells-edges : EdgesOf (frame_over (box_in side code) (map (box_in side) codes)) (map (box_in side) (code ∷ codes))
  cells-edges = over-edges (box_in side code) (map (box_in side) codes)
