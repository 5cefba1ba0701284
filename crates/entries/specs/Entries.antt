-- What each public entry answers, for every input: the first refusal that applies, in 01's order, or the answer; zeros beside a refusal.
-- Assumes nothing.
use Rattle.std.specs.Prelude.{List, [], ◌∷◌, ℕ, ℤ, pos, ltb, length, Err, Ok, Result}
use Rattle.logic.specs.Refusal.{refuse, ◌otherwise◌, given}
use Rattle.cell.specs.declared.Cell.{Cell}
use Rattle.cell.specs.declared.Arrangement.{Arrangement}
use Rattle.cell.specs.Cell.{cell_refusal, arrangement_refusal, found}
use Rattle.cell.specs.Hierarchy.{parent_of, parent_refusal, child_of, child_refusal}
use Rattle.cell.specs.Neighbour.{neighbour_of}
use Rattle.code.specs.Code.{code_of, cell_of, arrangement_of, code_refusal, size_of, coded, refusal_in, code_in}
use Rattle.name.specs.Name.{name_refusal, name_code, name_of, code_name_refusal, named}
use Rattle.plane.specs.declared.Square.{Square}
use Rattle.plane.specs.declared.Point.{Point}
use Rattle.plane.specs.declared.Vertices.{Vertices}
use Rattle.plane.specs.Plane.{square_of, nucleus_of, vertices_of, point_refusal, point_cell}
use Rattle.locate.specs.Fix.{fix_cell, fix_refusal}
use Rattle.authalic.specs.Authalic.{sine_refusal}
use Rattle.authalic.specs.Computed.{authalic_sine}
use Rattle.geodetic.specs.GeodeticFix.{geodetic_refusal, geodetic_cell}
use Rattle.nucleus.specs.declared.Fix.{Fix}
use Rattle.nucleus.specs.Nucleus.{ground_nucleus}
use Rattle.shape.specs.Shape.{shape_of, shape_number}
use Rattle.corner.specs.Corner.{corner_number}
use Rattle.corner.specs.List.{codes_at, corners_refusal, cornered}
use Rattle.entries.specs.declared.CodeAnswer.{CodeAnswer}
use Rattle.entries.specs.declared.CellAnswer.{CellAnswer}
use Rattle.entries.specs.declared.NameAnswer.{NameAnswer}
use Rattle.entries.specs.declared.SizeAnswer.{SizeAnswer}
use Rattle.entries.specs.declared.ShapeAnswer.{ShapeAnswer}
use Rattle.entries.specs.declared.CountAnswer.{CountAnswer}
use Rattle.entries.specs.declared.SquareAnswer.{SquareAnswer}
use Rattle.entries.specs.declared.PointAnswer.{PointAnswer}
use Rattle.entries.specs.declared.FixAnswer.{FixAnswer}
use Rattle.entries.specs.declared.ZAnswer.{ZAnswer}
use Rattle.entries.specs.declared.VerticesAnswer.{VerticesAnswer}

abbrev cell : ℕ → ℕ → ℕ → ℕ → Cell
cell face resolution row column = record { face = face; resolution = resolution; row = row; column = column }

abbrev pub arrangement : ℕ → ℕ → Arrangement
arrangement n s = record { north = n; south = s }

-- "Other answers are 0.": a number, or 0 beside a refusal
abbrev pub or_zero : (refusal number : ℕ) → ℕ
or_zero refusal number = given refusal number 0

-- ---- codes

-- a code, or its refusal, as numbers
abbrev pub coded_answer : Result ℕ ℕ → CodeAnswer
coded_answer coded = record { refusal = refusal_in coded; code = code_in coded }

unfoldable pub code_answer : (refusal code : ℕ) → CodeAnswer
code_answer refusal code = coded_answer (coded refusal code)

unfoldable pub code_of_cell : (n s face resolution row column : ℕ) → CodeAnswer
code_of_cell n s face resolution row column =
    code_answer (arrangement_refusal (arrangement n s) otherwise cell_refusal (cell face resolution row column)) (code_of (arrangement n s) (cell face resolution row column))

unfoldable pub name_answer : (n s : ℕ) → List ℕ → CodeAnswer
name_answer n s name = code_answer (arrangement_refusal (arrangement n s) otherwise name_refusal name) (name_code (arrangement n s) name)

-- the parent, a child and a neighbour of a code's cell are of the code's arrangement
unfoldable pub parent_code : ℕ → CodeAnswer
parent_code code = code_answer (code_refusal code otherwise parent_refusal (cell_of code)) (code_of (arrangement_of code) (parent_of (cell_of code)))

unfoldable pub child_code : (code digit : ℕ) → CodeAnswer
child_code code digit =
    code_answer (refuse (ltb 8 digit) 3 otherwise code_refusal code otherwise child_refusal (cell_of code) digit) (code_of (arrangement_of code) (child_of (cell_of code) digit))

unfoldable pub neighbour_code : (code direction : ℕ) → CodeAnswer
neighbour_code code direction =
    code_answer (refuse (ltb 3 direction) 3 otherwise code_refusal code) (code_of (arrangement_of code) (neighbour_of (arrangement_of code) (cell_of code) direction))

unfoldable pub point_code : (n s resolution : ℕ) (x y : ℤ) → CodeAnswer
point_code n s resolution x y =
    code_answer (point_refusal (arrangement n s) resolution x y) (code_of (arrangement n s) (point_cell (arrangement n s) resolution x y))

unfoldable pub fix_code : (n s resolution : ℕ) (longitude z : ℤ) → CodeAnswer
fix_code n s resolution longitude z =
    code_answer (fix_refusal (arrangement n s) resolution longitude z) (code_of (arrangement n s) (fix_cell (arrangement n s) resolution longitude z))

-- that of the fix with z (02 W-203)
unfoldable pub geodetic_code : (n s resolution : ℕ) (longitude sine : ℤ) (eccentricity : ℕ) → CodeAnswer
geodetic_code n s resolution longitude sine eccentricity =
    code_answer (geodetic_refusal (arrangement n s) resolution longitude sine eccentricity)
    (code_of (arrangement n s) (geodetic_cell (arrangement n s) resolution longitude sine eccentricity))

-- ---- other answers

-- an arrangement and a cell, or the refusal, as numbers
abbrev pub cell_numbers : Arrangement → Result Cell ℕ → CellAnswer
cell_numbers a (Ok c) =
    record { refusal = 0; n = a.north; s = a.south; face = c.face; resolution = c.resolution; row = c.row; column = c.column }
cell_numbers a (Err refusal) =
    record { refusal = refusal; n = 0; s = 0; face = 0; resolution = 0; row = 0; column = 0 }

unfoldable pub code_cell : ℕ → CellAnswer
code_cell code = cell_numbers (arrangement_of code) (found (code_refusal code) (cell_of code))

-- an arrangement and the length of a name, or the refusal, as numbers
abbrev pub name_numbers : Arrangement → Result ℕ ℕ → NameAnswer
name_numbers a (Ok length) = record { refusal = 0; n = a.north; s = a.south; length = length }
name_numbers a (Err refusal) = record { refusal = refusal; n = 0; s = 0; length = 0 }

unfoldable pub written_name : (code room : ℕ) → NameAnswer
written_name code room = name_numbers (arrangement_of code) (named (code_name_refusal code room) (length (name_of (cell_of code))))

unfoldable pub cell_size : ℕ → SizeAnswer
cell_size code = record { refusal = code_refusal code; size = or_zero (code_refusal code) (size_of (cell_of code)) }

-- quad 0, cap 1, dart 2, skew quad 3
unfoldable pub cell_shape : ℕ → ShapeAnswer
cell_shape code = record { refusal = code_refusal code; shape = or_zero (code_refusal code) (shape_number (shape_of (cell_of code))) }

unfoldable pub corner_count : ℕ → CountAnswer
corner_count code = record { refusal = code_refusal code; count = or_zero (code_refusal code) (corner_number (cell_of code)) }

-- how many codes were listed, or the refusal, as numbers
abbrev pub corner_numbers : Result ℕ ℕ → CountAnswer
corner_numbers (Ok count) = record { refusal = 0; count = count }
corner_numbers (Err refusal) = record { refusal = refusal; count = 0 }

unfoldable pub corner_cells : (code room : ℕ) → CountAnswer
corner_cells code room = corner_numbers (cornered (corners_refusal code room) (length (codes_at code)))

-- ---- the plane

-- what a code's arrangement and cell give, or the refusal and zeros
unfoldable pub placed_answer {ℓ} : {A : Type ℓ} (code : ℕ) → (Arrangement → Cell → A) → (ℕ → A) → A
placed_answer code value none = given (code_refusal code) (value (arrangement_of code) (cell_of code)) (none (code_refusal code))

abbrev pub no_square : ℕ → SquareAnswer
no_square refusal = record { refusal = refusal; left = pos 0; top = pos 0; side = pos 0 }

abbrev pub a_square : Square → SquareAnswer
a_square square = record { refusal = 0; left = square.left; top = square.top; side = square.side }

unfoldable pub cell_square : ℕ → SquareAnswer
cell_square code = placed_answer code (λ a c. a_square (square_of a c)) no_square

abbrev pub no_point : ℕ → PointAnswer
no_point refusal = record { refusal = refusal; x = pos 0; y = pos 0 }

abbrev pub a_point : Point → PointAnswer
a_point point = record { refusal = 0; x = point.x; y = point.y }

unfoldable pub cell_nucleus : ℕ → PointAnswer
cell_nucleus code = placed_answer code (λ a c. a_point (nucleus_of a c)) no_point

abbrev pub no_vertices : ℕ → VerticesAnswer
no_vertices refusal = record { refusal = refusal; x = pos 0 ∷ pos 0 ∷ pos 0 ∷ pos 0 ∷ []; y = pos 0 ∷ pos 0 ∷ pos 0 ∷ pos 0 ∷ [] }

abbrev pub the_vertices : Vertices → VerticesAnswer
the_vertices vertices = record { refusal = 0; x = vertices.x; y = vertices.y }

unfoldable pub cell_vertices : ℕ → VerticesAnswer
cell_vertices code = placed_answer code (λ a c. the_vertices (vertices_of a c)) no_vertices

-- ---- the ground

abbrev pub no_fix : ℕ → FixAnswer
no_fix refusal = record { refusal = refusal; longitude = pos 0; z = pos 0 }

abbrev pub a_fix : Fix → FixAnswer
a_fix fix = record { refusal = 0; longitude = fix.longitude; z = fix.z }

unfoldable pub ground_fix : ℕ → FixAnswer
ground_fix code = placed_answer code (λ a c. a_fix (ground_nucleus a c)) no_fix

-- our answer to W-203
unfoldable pub geodetic_z : (sine : ℤ) (eccentricity : ℕ) → ZAnswer
geodetic_z sine eccentricity =
    record { refusal = sine_refusal sine eccentricity; z = given (sine_refusal sine eccentricity) (authalic_sine sine eccentricity) (pos 0) }
