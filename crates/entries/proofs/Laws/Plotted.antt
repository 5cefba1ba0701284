-- What the plotter's entries answer (02, W-214): nothing but zeros beside a refusal, and a table of questions, number by number. Assumes nothing.
use Rattle.std.specs.Prelude.{◌≡◌, refl, true, false, List, [], ◌∷◌, map, ℕ, zero, suc, ◌*◌, ◌^◌, ℤ, pos, negsuc, neg_ℤ, Float}
use Rattle.std.specs.Float.{nan, inf, fin}
use Rattle.std.specs.Float.Ieee.{round, of_int, mul, div, lt, eq, le, is_nan}
use Rattle.logic.specs.Refusal.{◌otherwise◌}
use Rattle.ternary.specs.Digits.{value}
use Rattle.ternary.specs.Weave.{row_in, column_in}
use Rattle.cell.specs.Cell.{arrangement_refusal}
use Rattle.code.specs.Code.{cell_coded, is_cell_code, cell_of, arrangement_of, is_code, code_refusal}
use Rattle.plane.specs.Plane.{face_left, face_top, left_of, right_of, top_of, bottom_of, in_belt, in_north, in_south, in_image, point_refusal}
use Rattle.metres.specs.Metres.{is_side, side_refusal, metres_of}
use Rattle.plotter.specs.declared.Frame.{Frame}
use Rattle.plotter.specs.declared.Mark.{Mark}
use Rattle.plotter.specs.Plotter.{mark, point_mark, mark_of_point, box_of, box_in, box_mark, box_refusal, mark_of_code, framed, first_frame, grown, has_nan, grow_refusal, grown_frame}
use Rattle.entries.specs.declared.MarkAnswer.{MarkAnswer}
use Rattle.entries.specs.declared.FrameAnswer.{FrameAnswer}
use Rattle.entries.specs.Entries.{arrangement}
use Rattle.entries.specs.Plotter.{mark_numbers, frame_numbers, point_marked, code_marked, frame_begun, frame_grown}

-- ---- "nothing with the refusal", "Other answers are 0."

abbrev pub no_mark : (refusal : ℕ) → MarkAnswer
no_mark r = record { refusal = r; kind = 0; numbers = fin false 0 (pos 0) ∷ fin false 0 (pos 0) ∷ fin false 0 (pos 0) ∷ fin false 0 (pos 0) ∷ [] }

abbrev pub no_frame : (refusal : ℕ) → FrameAnswer
no_frame r = record { refusal = r; left = fin false 0 (pos 0); bottom = fin false 0 (pos 0); right = fin false 0 (pos 0); top = fin false 0 (pos 0) }

none-marked : (r : ℕ) (m : Mark) → (mark_numbers m).refusal ≡ 0 → ((mark_numbers (mark r m)).refusal ≡ 0 → ⊥) → mark_numbers (mark r m) ≡ no_mark (mark_numbers (mark r m)).refusal
none-marked zero m e h = absurd (h e)
none-marked (suc r) m e h = refl

none-framed : (r : ℕ) (f : Frame) → ((frame_numbers (framed r f)).refusal ≡ 0 → ⊥) → frame_numbers (framed r f) ≡ no_frame (frame_numbers (framed r f)).refusal
none-framed zero f h = absurd (h refl)
none-framed (suc r) f h = refl

pub no-point : (s : Float) (n m : ℕ) (x y : ℤ) → ((point_marked s n m x y).refusal ≡ 0 → ⊥) → point_marked s n m x y ≡ no_mark (point_marked s n m x y).refusal
unfolding point_marked mark_of_point
no-point s n m x y h = none-marked (side_refusal s otherwise point_refusal (arrangement n m) 0 x y) (point_mark s x y) refl h

pub no-box : (s : Float) (code : ℕ) → ((code_marked s code).refusal ≡ 0 → ⊥) → code_marked s code ≡ no_mark (code_marked s code).refusal
unfolding code_marked mark_of_code
no-box s code h = none-marked (box_refusal s code) (box_mark (box_in s code)) refl h

pub no-first : (s : Float) (code : ℕ) → ((frame_begun s code).refusal ≡ 0 → ⊥) → frame_begun s code ≡ no_frame (frame_begun s code).refusal
unfolding frame_begun first_frame
no-first s code h = none-framed (box_refusal s code) (box_in s code) h

pub no-grown : (s : Float) (f : Frame) (code : ℕ) → ((frame_grown s f code).refusal ≡ 0 → ⊥) → frame_grown s f code ≡ no_frame (frame_grown s f code).refusal
unfolding frame_grown grown_frame
no-grown s f code h = none-framed (grow_refusal s f code) (grown f (box_in s code)) h

-- ---- questions as a table: what is asked; then refusal and kind, or the refusal alone of a frame; then the four doubles

pub data Asks : Type 0 where
  point : (side : Float) (n s : ℕ) (x y : ℤ) (answers : List ℕ) (doubles : List Float) → Asks
  code : (side : Float) (code : ℕ) (answers : List ℕ) (doubles : List Float) → Asks
  first : (side : Float) (code : ℕ) (answers : List ℕ) (doubles : List Float) → Asks
  grow : (side left bottom right top : Float) (code : ℕ) (answers : List ℕ) (doubles : List Float) → Asks

pub data Told : Type 0 where
  told : (answers : List ℕ) (doubles : List Float) → Told

abbrev of_mark : MarkAnswer → Told
of_mark r = told (r.refusal ∷ r.kind ∷ []) r.numbers

abbrev of_frame : FrameAnswer → Told
of_frame r = told (r.refusal ∷ []) (r.left ∷ r.bottom ∷ r.right ∷ r.top ∷ [])

unfoldable pub plotted : Asks → Told
plotted (point side n s x y answers doubles) = of_mark (point_marked side n s x y)
plotted (code side c answers doubles) = of_mark (code_marked side c)
plotted (first side c answers doubles) = of_frame (frame_begun side c)
plotted (grow side left bottom right top c answers doubles) = of_frame (frame_grown side (record { left = left; bottom = bottom; right = right; top = top }) c)

unfoldable pub plot_said : Asks → Told
plot_said (point side n s x y answers doubles) = told answers doubles
plot_said (code side c answers doubles) = told answers doubles
plot_said (first side c answers doubles) = told answers doubles
plot_said (grow side left bottom right top c answers doubles) = told answers doubles

-- 0.0 and -0.0, whole numbers, halves
abbrev o : Float
o = fin false 0 (pos 0)

abbrev minus_o : Float
minus_o = fin true 0 (pos 0)

abbrev one : Float
one = fin false 1 (pos 0)

abbrev two : Float
two = fin false 1 (pos 1)

abbrev half : Float
half = fin false 1 (negsuc 0)

abbrev minus_half : Float
minus_half = fin true 1 (negsuc 0)

abbrev zeros : List Float
zeros = o ∷ o ∷ o ∷ o ∷ []

pub asks : List Asks
asks =
    -- side 12345.678: the quotient first, a reciprocal or one rounding would give other doubles for both
    point (fin false 848388532111147 (negsuc 35)) 0 0 (pos 45570526) (neg_ℤ (pos 7103840)) (0 ∷ 1 ∷ [])
    (fin false 2694387221317475 (negsuc 36) ∷ fin true 6720307145292615 (negsuc 40) ∷ o ∷ o ∷ []) ∷
    point one 0 0 (pos 0) (pos 0) (0 ∷ 1 ∷ []) zeros ∷  -- zero for zero
    point (fin false 1 (pos 30)) 0 0 (pos 28697814) (pos 0) (0 ∷ 1 ∷ []) (fin false 1 (pos 30) ∷ o ∷ o ∷ o ∷ []) ∷  -- 2^30
    point (fin false 4503599627370497 (negsuc 21)) 0 0 (pos 0) (pos 0) (19 ∷ 0 ∷ []) zeros ∷  -- the next double above 2^30
    point (fin false 9007199254740991 (negsuc 52)) 0 0 (pos 0) (pos 0) (19 ∷ 0 ∷ []) zeros ∷  -- the next double below 1
    point (inf false) 0 0 (pos 0) (pos 0) (19 ∷ 0 ∷ []) zeros ∷
    point (fin true 1 (pos 0)) 0 0 (pos 0) (pos 0) (19 ∷ 0 ∷ []) zeros ∷  -- -1
    point nan 4 0 (pos (4 * 28697814)) (pos 0) (19 ∷ 0 ∷ []) zeros ∷  -- before 5 and 7
    point one 4 0 (pos (4 * 28697814)) (pos 0) (5 ∷ 0 ∷ []) zeros ∷  -- before 7
    point one 0 0 (pos (4 * 28697814)) (pos 0) (7 ∷ 0 ∷ []) zeros ∷
    code two 105416259632460288 (0 ∷ 2 ∷ []) (two ∷ fin true 1 (pos 0) ∷ fin false 1 (pos 2) ∷ one ∷ []) ∷  -- P: left 2, bottom -1, right 4, top 1
    code one 6 (0 ∷ 2 ∷ []) (one ∷ half ∷ two ∷ fin false 3 (negsuc 0) ∷ []) ∷  -- N at (1, 2)
    code one 263540649081150726 (0 ∷ 2 ∷ []) (two ∷ fin true 3 (negsuc 0) ∷ fin false 3 (pos 0) ∷ minus_half ∷ []) ∷  -- S at (1, 2)
    code one (2 ^ 63) (4 ∷ 0 ∷ []) zeros ∷
    code nan (2 ^ 63) (19 ∷ 0 ∷ []) zeros ∷  -- before 4
    first one 52708129816230144 (0 ∷ []) (o ∷ minus_half ∷ one ∷ half ∷ []) ∷  -- O
    first half 52708129816230144 (19 ∷ []) zeros ∷
    first one (2 ^ 63) (4 ∷ []) zeros ∷
    grow one minus_o (fin true 1 (negsuc 1)) half (inf false) 52708129816230144 (0 ∷ []) (minus_o ∷ minus_half ∷ one ∷ inf false ∷ []) ∷  -- on a tie -0.0 stays; an infinite edge is a number
    grow one two (inf true) (fin false 3 (pos 0)) o 52708129816230144 (0 ∷ []) (o ∷ inf true ∷ fin false 3 (pos 0) ∷ half ∷ []) ∷
    grow one nan o o o (2 ^ 63) (19 ∷ []) zeros ∷  -- before 4
    grow one o nan o o (2 ^ 63) (19 ∷ []) zeros ∷
    grow one o o nan o (2 ^ 63) (19 ∷ []) zeros ∷
    grow one o o o nan (2 ^ 63) (19 ∷ []) zeros ∷
    grow half o o o o 52708129816230144 (19 ∷ []) zeros ∷
    grow one o o o o (2 ^ 63) (4 ∷ []) zeros ∷
    []

pub asks-plotted : map plotted asks ≡ map plot_said asks
unfolding
    asks plotted plot_said point_marked code_marked frame_begun frame_grown ◌otherwise◌ value row_in column_in arrangement_refusal cell_coded is_cell_code cell_of
    arrangement_of is_code code_refusal face_left face_top left_of right_of top_of bottom_of in_belt in_north in_south in_image point_refusal is_side side_refusal metres_of mark_of_point box_of
    box_refusal mark_of_code first_frame grown has_nan grow_refusal grown_frame round of_int mul div lt eq le is_nan
asks-plotted = refl
