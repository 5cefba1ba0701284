-- Marks and frames for the plotter (02, W-214): what is answered of a planar point and of a code, and how a frame grows. Assumes nothing.
use Rattle.std.specs.Prelude.{◌≡◌, Bool, true, ◌||◌, cond, List, [], ◌∷◌, ℕ, zero, suc, ℤ, Float, Err, Ok, Result}
use Rattle.std.specs.Float.Ieee.{lt, le, is_nan}
use Rattle.logic.specs.Lists.{Any}
use Rattle.logic.specs.Refusal.{refuse, ◌otherwise◌}
use Rattle.cell.specs.declared.Cell.{Cell}
use Rattle.cell.specs.declared.Arrangement.{Arrangement}
use Rattle.code.specs.Code.{cell_of, arrangement_of, code_refusal}
use Rattle.plane.specs.Plane.{left_of, right_of, top_of, bottom_of, point_refusal}
use Rattle.metres.specs.Metres.{side_refusal, metres_of}
use Rattle.plotter.specs.declared.Frame.{Frame}
use Rattle.plotter.specs.declared.Mark.{Mark}
use Rattle.plotter.specs.declared.Mark.TheVariants.{Point, Box, Nothing}
use Rattle.plotter.specs.declared.Around.{Around}
use Rattle.plotter.specs.declared.Around.TheVariants as around-as

-- ---- a mark is "either a point in metres, a box with its four edges, or nothing with the refusal"

abbrev pub mark : (refusal : ℕ) → Mark → Mark
mark zero m = m
mark (suc r) m = Nothing (suc r)

abbrev pub point_mark : Float → (x y : ℤ) → Mark
point_mark side x y = Point (metres_of x side) (metres_of y side)

-- 19, then 5 and 7 as for the cell of the point at resolution 0
unfoldable pub mark_of_point : Float → Arrangement → (x y : ℤ) → Mark
mark_of_point side a x y = mark (side_refusal side otherwise point_refusal a 0 x y) (point_mark side x y)

-- the four edges of a cell's square in metres
unfoldable pub box_of : Float → Arrangement → Cell → Frame
box_of side a c =
    record {
      left = metres_of (left_of a c) side;
      bottom = metres_of (bottom_of c) side;
      right = metres_of (right_of a c) side;
      top = metres_of (top_of c) side;
    }

abbrev pub box_mark : Frame → Mark
box_mark f = Box f.left f.bottom f.right f.top

abbrev pub box_in : Float → (code : ℕ) → Frame
box_in side code = box_of side (arrangement_of code) (cell_of code)

-- 19, then 4
unfoldable pub box_refusal : Float → (code : ℕ) → ℕ
box_refusal side code = side_refusal side otherwise code_refusal code

unfoldable pub mark_of_code : Float → (code : ℕ) → Mark
unfolding box_refusal box_of
mark_of_code side code = mark (box_refusal side code) (box_mark (box_in side code))

-- ---- frames

abbrev pub framed : (refusal : ℕ) → Frame → Result Frame ℕ
framed zero f = Ok f
framed (suc r) f = Err (suc r)

-- "The first frame is a cell's box."
unfoldable pub first_frame : Float → (code : ℕ) → Result Frame ℕ
unfolding box_refusal box_of
first_frame side code = framed (box_refusal side code) (box_in side code)

-- "each edge becomes the one further out, on a tie the frame's"
abbrev pub lower : Float → Float → Float
lower own other = cond (lt other own) other own

abbrev pub higher : Float → Float → Float
higher own other = cond (lt own other) other own

unfoldable pub grown : Frame → Frame → Frame
grown f g =
    record { left = lower f.left g.left; bottom = lower f.bottom g.bottom; right = higher f.right g.right; top = higher f.top g.top }

-- "a frame handed in with an edge that is not a number"
unfoldable pub has_nan : Frame → Bool
has_nan f = is_nan f.left || (is_nan f.bottom || (is_nan f.right || is_nan f.top))

-- 19 of the side or the frame, "before all others"
unfoldable pub grow_refusal : Float → Frame → (code : ℕ) → ℕ
unfolding has_nan
grow_refusal side f code = side_refusal side otherwise refuse (has_nan f) 19 otherwise code_refusal code

unfoldable pub grown_frame : Float → Frame → (code : ℕ) → Result Frame ℕ
unfolding grow_refusal grown box_of
grown_frame side f code = framed (grow_refusal side f code) (grown f (box_in side code))

-- ---- "A frame grows to hold the box of each further cell": the frame after a list of boxes
abbrev pub frame_over : Frame → List Frame → Frame
frame_over f [] = f
frame_over f (g ∷ gs) = frame_over (grown f g) gs

-- ---- the frame around the cells of codes: the first one's, grown by each further one; none where there is no code

abbrev pub further : Float → Result Frame ℕ → (code : ℕ) → Result Frame ℕ
further side (Ok f) code = grown_frame side f code
further side (Err r) code = Err r

abbrev pub grown_by : Float → Result Frame ℕ → List ℕ → Result Frame ℕ
grown_by side f [] = f
grown_by side f (code ∷ codes) = grown_by side (further side f code) codes

abbrev pub as_around : Result Frame ℕ → Around
as_around (Ok f) = around-as.Edges f
as_around (Err r) = around-as.Refused r

abbrev pub no_cells : (refusal : ℕ) → Around
no_cells zero = around-as.Nothing
no_cells (suc r) = around-as.Refused (suc r)

unfoldable pub frame_around : Float → List ℕ → Around
frame_around side [] = no_cells (side_refusal side)
frame_around side (code ∷ codes) = as_around (grown_by side (first_frame side code) codes)

-- the frame has the other one inside
pub record Holds (f g : Frame) : Type 0 where
  pub left : le f.left g.left ≡ true
  pub bottom : le f.bottom g.bottom ≡ true
  pub right : le g.right f.right ≡ true
  pub top : le g.top f.top ≡ true

-- each edge of the frame is an edge of one of these
pub record EdgesOf (f : Frame) (gs : List Frame) : Type 0 where
  pub left : Any (λ (g : Frame). f.left ≡ g.left) gs
  pub bottom : Any (λ (g : Frame). f.bottom ≡ g.bottom) gs
  pub right : Any (λ (g : Frame). f.right ≡ g.right) gs
  pub top : Any (λ (g : Frame). f.top ≡ g.top) gs
