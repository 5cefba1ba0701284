-- The answers of the plotter's entries (02, W-214) as numbers, and 01's table of refusals for them. Assumes nothing.
use Rattle.std.specs.Prelude.{◌≡◌, ◌⊎◌, false, List, [], ◌∷◌, ℕ, ◌<◌, ℤ, pos, Float, Err, Ok, Result}
use Rattle.std.specs.Float.{fin, nan}
use Rattle.code.proofs.Laws.Exact.{NoCell}
use Rattle.metres.specs.Metres.{IsSide}
use Rattle.plotter.specs.declared.Frame.{Frame}
use Rattle.plotter.specs.declared.Mark.{Mark}
use Rattle.plotter.specs.declared.Mark.TheVariants as mark-as
use Rattle.plotter.specs.Plotter.{mark_of_point, mark_of_code, first_frame, grown_frame}
use Rattle.entries.specs.declared.MarkAnswer.{MarkAnswer}
use Rattle.entries.specs.declared.FrameAnswer.{FrameAnswer}
use Rattle.entries.specs.Entries.{arrangement}
use Rattle.entries.specs.Order.{Chain}
use Rattle.entries.specs.Refusals.{OnImage}

-- "Other answers are 0."
abbrev pub zero_metres : Float
zero_metres = fin false 0 (pos 0)

-- ---- each case as numbers: 1 for "a point in metres", 2 for "a box with its four edges", 0 for "nothing with the refusal"

abbrev pub mark_numbers : Mark → MarkAnswer
mark_numbers (mark-as.Point x y) = record { refusal = 0; kind = 1; numbers = x ∷ y ∷ zero_metres ∷ zero_metres ∷ [] }
mark_numbers (mark-as.Box left bottom right top) = record { refusal = 0; kind = 2; numbers = left ∷ bottom ∷ right ∷ top ∷ [] }
mark_numbers (mark-as.Nothing refusal) = record { refusal = refusal; kind = 0; numbers = zero_metres ∷ zero_metres ∷ zero_metres ∷ zero_metres ∷ [] }

abbrev pub frame_numbers : Result Frame ℕ → FrameAnswer
frame_numbers (Ok f) = record { refusal = 0; left = f.left; bottom = f.bottom; right = f.right; top = f.top }
frame_numbers (Err refusal) = record { refusal = refusal; left = zero_metres; bottom = zero_metres; right = zero_metres; top = zero_metres }

-- ---- what the entries answer

unfoldable pub point_marked : (side : Float) (n s : ℕ) (x y : ℤ) → MarkAnswer
point_marked side n s x y = mark_numbers (mark_of_point side (arrangement n s) x y)

unfoldable pub code_marked : (side : Float) (code : ℕ) → MarkAnswer
code_marked side code = mark_numbers (mark_of_code side code)

unfoldable pub frame_begun : (side : Float) (code : ℕ) → FrameAnswer
frame_begun side code = frame_numbers (first_frame side code)

unfoldable pub frame_grown : (side : Float) → Frame → (code : ℕ) → FrameAnswer
frame_grown side frame code = frame_numbers (grown_frame side frame code)

-- ---- 19: "a side out of range or not a number, or a frame handed in with an edge that is not a number, before all others"

abbrev pub NanEdge : Frame → Type 0
NanEdge f = (f.left ≡ nan) ⊎ ((f.bottom ≡ nan) ⊎ ((f.right ≡ nan) ⊎ (f.top ≡ nan)))

abbrev pub mark_point_tests : (side : Float) (n s : ℕ) (x y : ℤ) → Chain
mark_point_tests side n s x y = (19, IsSide side → ⊥) ∷ (5, (3 < n) ⊎ (3 < s)) ∷ (7, OnImage n s x y → ⊥) ∷ []

abbrev pub box_tests : (side : Float) (code : ℕ) → Chain
box_tests side code = (19, IsSide side → ⊥) ∷ (4, NoCell code) ∷ []

abbrev pub grow_tests : (side : Float) → Frame → (code : ℕ) → Chain
grow_tests side f code = (19, (IsSide side → ⊥) ⊎ NanEdge f) ∷ (4, NoCell code) ∷ []
