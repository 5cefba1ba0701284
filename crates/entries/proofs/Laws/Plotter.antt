-- The plotter's entries (02, W-214): each refuses with the first of its numbers whose condition holds; a code's box is its square in metres, and each
-- number is within one part in 2^51 of the exact one. Assumes nothing.
use Rattle.std.specs.Prelude.{◌≡◌, refl, ◌↔◌, ◌⊎◌, Bool, true, false, not, ◌||◌, List, [], ◌∷◌, ◌++◌, ℕ, zero, suc, ◌<◌, ℤ, pos, ◌+ℤ◌, ◌-ℤ◌, Float, Result}
use Rattle.std.proofs.Math.Path.{sym, ap}
use Rattle.std.proofs.Common.{◌∙◌, subst, arith}
use Rattle.std.specs.Float.{nan, inf, fin}
use Rattle.std.specs.Float.Ieee.{eq, is_nan}
use Rattle.std.proofs.lemmas.Bool.{not-false}
use Rattle.logic.specs.Lists.{All}
use Rattle.logic.specs.Refusal.{refuse, ◌otherwise◌, given}
use Rattle.logic.specs.Laws.Bools.{clash}
use Rattle.logic.specs.Laws.Refusal.{passes, both, allowed, given-value}
use Rattle.cell.specs.declared.Arrangement.{Arrangement}
use Rattle.cell.specs.Cell.{IsArrangement, arrangement_refusal}
use Rattle.code.specs.Code.{cell_of, arrangement_of, code_refusal}
use Rattle.code.proofs.Laws.Code.{a-code, code-is-cell, code-arranged}
use Rattle.code.proofs.Laws.Exact.{NoCell}
use Rattle.plane.specs.Plane.{left_of, right_of, top_of, bottom_of, square_of, in_image, point_refusal}
use Rattle.plane.proofs.Laws.Plane.{point-allowed, refused-outside}
use Rattle.plane.proofs.Laws.Small.{left-within, right-within, top_within, bottom-within, image-within}
use Rattle.metres.specs.Metres.{is_side, IsSide, side_refusal, metres_of, NearExact}
use Rattle.metres.proofs.Laws.Metres.{side-exactly, metres-near}
use Rattle.plotter.specs.declared.Frame.{Frame}
use Rattle.plotter.specs.declared.Mark.{Mark}
use Rattle.plotter.specs.Plotter.{mark, point_mark, mark_of_point, box_of, box_in, box_mark, box_refusal, mark_of_code, framed, first_frame, grown, has_nan, grow_refusal, grown_frame, Holds, EdgesOf}
use Rattle.plotter.proofs.Laws.Frame.{grown-own, grown-other, over-edges, tie-left, tie-right}
use Rattle.plotter.proofs.Laws.Box.{code-box}
use Rattle.entries.specs.declared.SquareAnswer.{SquareAnswer}
use Rattle.entries.specs.declared.MarkAnswer.{MarkAnswer}
use Rattle.entries.specs.declared.FrameAnswer.{FrameAnswer}
use Rattle.entries.specs.Entries.{arrangement, placed_answer, a_square, no_square, cell_square}
use Rattle.entries.specs.Order.{Chain, FirstOf, numbers, order, in_order}
use Rattle.entries.specs.Refusals.{OnImage}
use Rattle.entries.specs.Plotter.{zero_metres, mark_numbers, frame_numbers, point_marked, code_marked, frame_begun, frame_grown, NanEdge, mark_point_tests, box_tests, grow_tests}
use Rattle.entries.proofs.Laws.Order.{Decides, last, then, twice, not-decides, or-decides, given-exactly}
use Rattle.entries.proofs.Laws.First.{image, arrangement-first, code-first}

-- ---- the refusal in an answer

mark-refusal : (r : ℕ) (m : Mark) → (mark_numbers m).refusal ≡ 0 → (mark_numbers (mark r m)).refusal ≡ r
mark-refusal zero m e = e
mark-refusal (suc r) m e = refl

frame-refusal : (r : ℕ) (f : Frame) → (frame_numbers (framed r f)).refusal ≡ r
frame-refusal zero f = refl
frame-refusal (suc r) f = refl

-- ---- what the tests decide

side : (s : Float) → Decides (is_side s) (IsSide s)
side s = record { holds = (side-exactly s).0; fails = λ e h. clash (sym ((side-exactly s).1 h) ∙ e) }

side-first : (s : Float) → FirstOf ((19, IsSide s → ⊥) ∷ []) (side_refusal s)
unfolding side_refusal
side-first s = last 18 (not-decides (side s))

is-nan : (x : Float) → is_nan x ≡ true → x ≡ nan
unfolding is_nan
is-nan nan e = refl
is-nan (inf s) e = clash (sym e)
is-nan (fin s m k) e = clash (sym e)

nan_is : is_nan nan ≡ true
unfolding is_nan
nan_is = refl

one-nan : (x : Float) → Decides (is_nan x) (x ≡ nan)
one-nan x = record { holds = is-nan x; fails = λ e h. clash (sym (ap is_nan h ∙ nan_is) ∙ e) }

nan-edge : (f : Frame) → Decides (has_nan f) (NanEdge f)
unfolding has_nan
nan-edge f = or-decides (one-nan f.left) (or-decides (one-nan f.bottom) (or-decides (one-nan f.right) (one-nan f.top)))

side-passed : (s : Float) → side_refusal s ≡ 0 → is_side s ≡ true
unfolding side_refusal
side-passed s e = not-false _ (allowed 18 (not (is_side s)) e)

-- ---- the entries

-- jgv_mark_point
pub mark-point-first : (s : Float) (n m : ℕ) (x y : ℤ) → FirstOf (mark_point_tests s n m x y) (point_marked s n m x y).refusal
unfolding point_marked mark_of_point point_refusal ◌otherwise◌
mark-point-first s n m x y =
    subst (FirstOf (mark_point_tests s n m x y)) (sym (mark-refusal _ (point_mark s x y) refl))
    (then (side-first s) refl (λ _. then (arrangement-first n m) refl (λ _. last 6 (not-decides (image n m x y)))))

box-first : (s : Float) (code : ℕ) → FirstOf (box_tests s code) (box_refusal s code)
unfolding box_refusal
box-first s code = then (side-first s) refl (λ _. code-first code)

-- jgv_mark_code
pub mark-code-first : (s : Float) (code : ℕ) → FirstOf (box_tests s code) (code_marked s code).refusal
unfolding code_marked mark_of_code
mark-code-first s code = subst (FirstOf (box_tests s code)) (sym (mark-refusal (box_refusal s code) (box_mark (box_in s code)) refl)) (box-first s code)

-- jgv_frame_first
pub frame-first-first : (s : Float) (code : ℕ) → FirstOf (box_tests s code) (frame_begun s code).refusal
unfolding frame_begun first_frame
frame-first-first s code = subst (FirstOf (box_tests s code)) (sym (frame-refusal (box_refusal s code) (box_in s code))) (box-first s code)

-- jgv_frame_grow
frame-first : (s : Float) (f : Frame) → FirstOf ((19, (IsSide s → ⊥) ⊎ NanEdge f) ∷ []) (side_refusal s otherwise refuse (has_nan f) 19)
unfolding side_refusal
frame-first s f = twice 18 (not-decides (side s)) (nan-edge f)

joined : (p q r : ℕ) → (p otherwise q) otherwise r ≡ p otherwise q otherwise r
unfolding ◌otherwise◌
joined zero q r = refl
joined (suc p) q r = refl

pub frame-grow-first : (s : Float) (f : Frame) (code : ℕ) → FirstOf (grow_tests s f code) (frame_grown s f code).refusal
unfolding frame_grown grown_frame grow_refusal
frame-grow-first s f code =
    subst (FirstOf (grow_tests s f code))
    (joined (side_refusal s) (refuse (has_nan f) 19) (code_refusal code) ∙ sym (frame-refusal (grow_refusal s f code) (grown f (box_in s code))))
    (then (frame-first s f) refl (λ _. code-first code))

-- "before all others"
module _ (s : Float) (n m code : ℕ) (x y : ℤ) (f : Frame) where
  pub in-order-plotter :
      All (λ (ns : List ℕ). in_order order ns ≡ true) (numbers (mark_point_tests s n m x y) ∷ numbers (box_tests s code) ∷ numbers (grow_tests s f code) ∷ [])
  unfolding in_order
  in-order-plotter = (refl, (refl, (refl, tt)))

  -- 19
  pub nineteen-point : ((point_marked s n m x y).refusal ≡ 19) ↔ (IsSide s → ⊥)
  nineteen-point = given-exactly 18 (mark-point-first s n m x y) refl

  pub nineteen-code : ((code_marked s code).refusal ≡ 19) ↔ (IsSide s → ⊥)
  nineteen-code = given-exactly 18 (mark-code-first s code) refl

  pub nineteen-first : ((frame_begun s code).refusal ≡ 19) ↔ (IsSide s → ⊥)
  nineteen-first = given-exactly 18 (frame-first-first s code) refl

  pub nineteen-grow : ((frame_grown s f code).refusal ≡ 19) ↔ ((IsSide s → ⊥) ⊎ NanEdge f)
  nineteen-grow = given-exactly 18 (frame-grow-first s f code) refl

-- ---- "The box's edges are the square's edges in metres", over what jgv_square answers

-- left, bottom, right and top of a square
abbrev pub in_metres : Float → SquareAnswer → MarkAnswer
in_metres s q =
    record {
      refusal = 0;
      kind = 2;
      numbers = metres_of q.left s ∷ metres_of (q.top -ℤ q.side) s ∷ metres_of (q.left +ℤ q.side) s ∷ metres_of q.top s ∷ [];
    }

module _ (s : Float) (code : ℕ) (e : (code_marked s code).refusal ≡ 0) where
  allowed-box : box_refusal s code ≡ 0
  unfolding code_marked mark_of_code
  allowed-box = sym (mark-refusal (box_refusal s code) (box_mark (box_in s code)) refl) ∙ e

  square-is : cell_square code ≡ a_square (square_of (arrangement_of code) (cell_of code))
  unfolding cell_square placed_answer box_refusal
  square-is = given-value _ (no_square (code_refusal code)) (both (side_refusal s) (code_refusal code) allowed-box).1

  pub box-square : code_marked s code ≡ in_metres s (cell_square code)
  unfolding code_marked mark_of_code box_of square_of right_of bottom_of
  box-square = ap (λ (r : ℕ). mark_numbers (mark r (box_mark (box_in s code)))) allowed-box ∙ sym (ap (in_metres s) square-is)

-- ---- "a point in metres"

pub point-metres : (s : Float) (n m : ℕ) (x y : ℤ) → (point_marked s n m x y).refusal ≡ 0 →
    point_marked s n m x y ≡ record { refusal = 0; kind = 1; numbers = metres_of x s ∷ metres_of y s ∷ zero_metres ∷ zero_metres ∷ [] }
unfolding point_marked mark_of_point
point-metres s n m x y e =
    ap (λ (r : ℕ). mark_numbers (mark r (point_mark s x y))) (sym (mark-refusal (side_refusal s otherwise point_refusal (arrangement n m) 0 x y) (point_mark s x y) refl) ∙ e)

-- ---- frames, over what the entries answer

-- the edges in an answer, as a frame to hand in
abbrev pub frame_in : FrameAnswer → Frame
frame_in r = record { left = r.left; bottom = r.bottom; right = r.right; top = r.top }

-- "The first frame is a cell's box": the four numbers that jgv_mark_code answers
pub frame-box : (s : Float) (code : ℕ) → (frame_begun s code).refusal ≡ 0 →
    ((code_marked s code).refusal ≡ 0) × ((code_marked s code).numbers ≡ (frame_begun s code).left ∷ (frame_begun s code).bottom ∷ (frame_begun s code).right ∷ (frame_begun s code).top ∷ [])
unfolding frame_begun first_frame code_marked mark_of_code
frame-box s code e = go (box_refusal s code) (box_in s code) e
  where
    go : (r : ℕ) (f : Frame) → (frame_numbers (framed r f)).refusal ≡ 0 →
        ((mark_numbers (mark r (box_mark f))).refusal ≡ 0)
        × ((mark_numbers (mark r (box_mark f))).numbers
        ≡ (frame_numbers (framed r f)).left ∷ (frame_numbers (framed r f)).bottom ∷ (frame_numbers (framed r f)).right ∷ (frame_numbers (framed r f)).top ∷ [])
    go zero f e = (refl, refl)
    go (suc r) f e = absurd (omega arith)

-- "A frame grows to hold the box of each further cell": the answer holds the frame that was handed in, and the first frame of the code
module _ (s : Float) (f : Frame) (code : ℕ) (e : (frame_grown s f code).refusal ≡ 0) where
  grow-passes : grow_refusal s f code ≡ 0
  unfolding frame_grown grown_frame
  grow-passes = sym (frame-refusal (grow_refusal s f code) (grown f (box_in s code))) ∙ e

  grown-is : frame_in (frame_grown s f code) ≡ grown f (box_in s code)
  unfolding frame_grown grown_frame
  grown-is = ap (λ (r : ℕ). frame_in (frame_numbers (framed r (grown f (box_in s code))))) grow-passes

  begun-passes : box_refusal s code ≡ 0
  unfolding grow_refusal box_refusal
  begun-passes =
      let p = both (side_refusal s) (refuse (has_nan f) 19 otherwise code_refusal code) grow-passes in
      passes (code_refusal code) p.0 ∙ (both (refuse (has_nan f) 19) (code_refusal code) p.1).1

  begun-is : frame_in (frame_begun s code) ≡ box_in s code
  unfolding frame_begun first_frame
  begun-is = ap (λ (r : ℕ). frame_in (frame_numbers (framed r (box_in s code)))) begun-passes

  numbers-own : has_nan f ≡ false
  unfolding grow_refusal
  numbers-own = allowed 18 (has_nan f) (both (refuse (has_nan f) 19) (code_refusal code) (both (side_refusal s) (refuse (has_nan f) 19 otherwise code_refusal code) grow-passes).1).0

  numbers-box : has_nan (box_in s code) ≡ false
  unfolding box_refusal side_refusal
  numbers-box =
      let p = both (side_refusal s) (code_refusal code) begun-passes in
      code-box s code (not-false _ (allowed 18 (not (is_side s)) p.0)) (a-code code p.1)

  pub grown-holds : Holds (frame_in (frame_grown s f code)) f × Holds (frame_in (frame_grown s f code)) (frame_in (frame_begun s code))
  grown-holds = (
    subst (λ (g : Frame). Holds g f) (sym grown-is) (grown-own f (box_in s code) numbers-own numbers-box),
    subst (λ (g : Frame). Holds g (frame_in (frame_begun s code))) (sym grown-is)
        (subst (Holds (grown f (box_in s code))) (sym begun-is) (grown-other f (box_in s code) numbers-own numbers-box)),
  )

  -- and each of its edges is one of theirs
  pub grown-edges : EdgesOf (frame_in (frame_grown s f code)) (f ∷ frame_in (frame_begun s code) ∷ [])
  grown-edges =
      subst (λ (g : Frame). EdgesOf g (f ∷ frame_in (frame_begun s code) ∷ [])) (sym grown-is)
      (subst (λ (b : Frame). EdgesOf (grown f (box_in s code)) (f ∷ b ∷ [])) (sym begun-is) (over-edges f (box_in s code ∷ [])))

  -- "on a tie the frame's"
  pub grown-tie : eq (frame_begun s code).left f.left ≡ true → (frame_grown s f code).left ≡ f.left
  grown-tie h = ap (λ (g : Frame). g.left) grown-is ∙ tie-left f (box_in s code) (sym (ap (λ (g : Frame). eq g.left f.left) begun-is) ∙ h)

  pub grown-tie-right : eq f.right (frame_begun s code).right ≡ true → (frame_grown s f code).right ≡ f.right
  grown-tie-right h = ap (λ (g : Frame). g.right) grown-is ∙ tie-right f (box_in s code) (sym (ap (λ (g : Frame). eq f.right g.right) begun-is) ∙ h)

-- ---- each number "is within one part in 2^51 of the exact one", over what the entries answer

module _ (s : Float) (n m : ℕ) (x y : ℤ) (e : (point_marked s n m x y).refusal ≡ 0) where
  point-passes : (side_refusal s ≡ 0) × (point_refusal (arrangement n m) 0 x y ≡ 0)
  unfolding point_marked mark_of_point
  point-passes =
      both (side_refusal s) (point_refusal (arrangement n m) 0 x y)
      (sym (mark-refusal (side_refusal s otherwise point_refusal (arrangement n m) 0 x y) (point_mark s x y) refl) ∙ e)

  pub point-near : NearExact x s (metres_of x s) × NearExact y s (metres_of y s)
  point-near =
      let g = (point-allowed (arrangement n m) 0 x y point-passes.1).0 in
      let w = image-within g x y (inside g (in_image (arrangement n m) x y) refl) in
      let i = side-passed s point-passes.0 in
      (metres-near x s (omega (arith, w.0)) i, metres-near y s (omega (arith, w.1)) i)
    where
      inside : IsArrangement (arrangement n m) → (b : Bool) → in_image (arrangement n m) x y ≡ b → b ≡ true
      inside g true f = refl
      inside g false f = let h = (refused-outside {k = 0} x y g (omega arith)).1 f in absurd (omega (arith, point-passes.1))

module _ (s : Float) (code : ℕ) (e : (code_marked s code).refusal ≡ 0) where
  pub box-near :
      let a = arrangement_of code in
      let c = cell_of code in
      NearExact (left_of a c) s (metres_of (left_of a c) s)
      × NearExact (bottom_of c) s (metres_of (bottom_of c) s)
      × NearExact (right_of a c) s (metres_of (right_of a c) s)
      × NearExact (top_of c) s (metres_of (top_of c) s)
  unfolding box_refusal
  box-near =
      let p = both (side_refusal s) (code_refusal code) (allowed-box s code e) in
      let i = side-passed s p.0 in
      let g = code-arranged code in
      let v = code-is-cell code (a-code code p.1) in (
        metres-near _ s (omega (arith, left-within g v)) i,
        metres-near _ s (omega (arith, bottom-within v)) i,
        metres-near _ s (omega (arith, right-within g v)) i,
        metres-near _ s (omega (arith, top_within v)) i,
      )
