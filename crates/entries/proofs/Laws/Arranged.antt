-- The arrangement stays with a code (02, W-210), over what the entries answer: a code is of the n and s that it was made with, or of the code that it
-- was made from, and what is told of a code is told in its own arrangement. Assumes nothing.
use Rattle.std.specs.Prelude.{◌≡◌, Bool, true, ◌&&◌, not, List, [], ◌∷◌, ℤ, ◌+ℤ◌, ◌-ℤ◌, ltb, length, Ok}
use Rattle.std.proofs.Math.Path.{refl, sym, ap, ap₂}
use Rattle.std.proofs.Common.{◌∙◌}
use Prim.Native.Nat.{ℕ, zero, suc, ◌+◌, ◌-◌, ◌^◌, ◌<◌}
use native.Mathlib.Omega.{arith}
use Rattle.std.proofs.Math.IntN.{pos}
use borrow.Author.Tests.{ltb-false, le-ltb, eq-eqb, not-false}
use Rattle.ternary.specs.Digits.{value}
use Rattle.logic.specs.Lists.{All}
use Rattle.logic.specs.Laws.Bools.{and_left, and_right}
use Rattle.logic.specs.Refusal.{refuse, ◌otherwise◌, given}
use Rattle.logic.specs.Laws.Refusal.{both, allowed, passes, given-value}
use Rattle.cell.specs.declared.Cell.{Cell}
use Rattle.cell.specs.declared.Arrangement.{Arrangement}
use Rattle.cell.specs.Cell.{IsCell, IsArrangement, cell_refusal, arrangement_refusal, found}
use Rattle.cell.proofs.Laws.Cell.{is-cell, cell-is, is-arrangement, arrangement-is}
use Rattle.cell.specs.Hierarchy.{parent_of, parent_refusal, child_of, child_refusal}
use Rattle.cell.proofs.Laws.Hierarchy.{parent-allowed, child-allowed}
use Rattle.cell.specs.Neighbour.{neighbour_of, leaves, turn_of, out_of_belt, into_north, into_south}
use Rattle.cell.proofs.Internal.Seams.{leads-belt}
use Rattle.cell.proofs.Laws.Neighbour.{neighbour-is-cell}
use Rattle.code.specs.Code.{cell_code, code_of, cell_of, arrangement_of, is_code, is_of, code_refusal, coded}
use Rattle.code.proofs.Laws.Code.{a-code, code-is-cell, code-cell, code-arranged, code-passes, cell-has-code, cell-code, arrangement-code, of-arrangement}
use Rattle.name.specs.Name.{name_of, name_code, name_refusal, code_name_refusal, named}
use Rattle.name.specs.Laws.Name.{accepted, name-code-is, code-name, name-code}
use Rattle.plane.specs.Plane.{right_of, bottom_of, nucleus_x, nucleus_y, square_of, nucleus_of, vertices_of, point_refusal, point_cell}
use Rattle.plane.proofs.Laws.Plane.{point-allowed, owner-found, nucleus-owned}
use Rattle.locate.specs.Fix.{fix_refusal, fix_cell}
use Rattle.locate.proofs.Laws.Fix.{fix-allowed}
use Rattle.geodetic.specs.GeodeticFix.{geodetic_refusal, geodetic_cell}
use Rattle.geodetic.proofs.Laws.GeodeticFix.{geodetic-allowed}
use Rattle.nucleus.specs.Nucleus.{ground_nucleus}
use Rattle.nucleus.specs.Laws.Nucleus.{again}
use Rattle.reading.specs.TextReading.{profile_of, north_of, south_of, text_arrangement}
use Rattle.reading.specs.Text.{version_of, depth_of}
use Rattle.reader.specs.Check.{text_refusal, answer, checked_of}
use Rattle.listing.specs.List.{listing_refusal}
use Rattle.asking.specs.Ask.{ask_refusal}
use Rattle.writing.specs.Write.{all_codes, all_of}
use Rattle.writing.proofs.Laws.List.{good-list}
use Rattle.entries.specs.declared.SquareAnswer.{SquareAnswer}
use Rattle.entries.specs.declared.PointAnswer.{PointAnswer}
use Rattle.entries.specs.declared.VerticesAnswer.{VerticesAnswer}
use Rattle.entries.specs.declared.FixAnswer.{FixAnswer}
use Rattle.entries.specs.declared.CodeAnswer.{CodeAnswer}
use Rattle.entries.specs.declared.CellAnswer.{CellAnswer}
use Rattle.entries.specs.Entries.{arrangement, code_answer, code_of_cell, name_answer, parent_code, child_code, neighbour_code, point_code, fix_code, cell_numbers, code_cell}
use Rattle.entries.specs.Entries.{name_numbers, written_name, placed_answer, cell_square, cell_nucleus, cell_vertices, ground_fix, a_square, no_square, a_point, no_point}
use Rattle.entries.specs.Entries.{the_vertices, no_vertices, a_fix, no_fix, geodetic_code}
use Rattle.entries.specs.Texts.{check_numbers}
use Rattle.entries.proofs.Laws.First.{list-refusal, ask-refusal}
use Rattle.entries.proofs.Laws.Texts.{write_answer, turned, listed-good, list_answer, listed_codes, relisted, ask_answer}

-- ---- an answer that is not refused

made : (r code : ℕ) → (code_answer r code).refusal ≡ 0 → (r ≡ 0) × ((code_answer r code).code ≡ code)
unfolding code_answer coded
made zero code e = (refl, refl)
made (suc r) code e = absurd (omega arith)

makes : {r : ℕ} (code : ℕ) → r ≡ 0 → code_answer r code ≡ record { refusal = 0; code = code }
unfolding code_answer coded
makes code e = ap (λ (q : ℕ). code_answer q code) e

-- ---- what jgv_code_cell tells

read_cell : {a : Arrangement} {c : Cell} → IsArrangement a → IsCell c → code_cell (code_of a c) ≡ cell_numbers a (Ok c)
unfolding code_cell found
read_cell {a} {c} g v =
    ap₂ (λ (r : ℕ) (x : Cell). cell_numbers (arrangement_of (code_of a c)) (found r x)) (code-passes (code_of a c) (cell-has-code g c v)) (cell-code g c v)
    ∙ ap (λ (b : Arrangement). cell_numbers b (Ok c)) (arrangement-code g c v)

cell-refusal : (code : ℕ) → (code_cell code).refusal ≡ code_refusal code
unfolding code_cell found
cell-refusal code = go (code_refusal code)
  where
    go : (r : ℕ) → (cell_numbers (arrangement_of code) (found r (cell_of code))).refusal ≡ r
    go zero = refl
    go (suc r) = refl

-- jgv_code_cell tells these n and s of a code
pub record Says (n s code : ℕ) : Type 0 where
  pub taken : (code_cell code).refusal ≡ 0
  pub north : (code_cell code).n ≡ n
  pub south : (code_cell code).s ≡ s

says : {a : Arrangement} {c : Cell} {code : ℕ} → IsArrangement a → IsCell c → code ≡ code_of a c → Says a.north a.south code
says {a} {c} g v e =
    let k = ap code_cell e ∙ read_cell g v in
    record { taken = ap (λ (x : CellAnswer). x.refusal) k; north = ap (λ (x : CellAnswer). x.n) k; south = ap (λ (x : CellAnswer). x.s) k }

-- ---- "A code becomes 16 times the old code, plus 4n + s": of N0, whose old code is 1
pub cell-weights : code_of_cell 1 2 0 1 0 0 ≡ record { refusal = 0; code = 22 }
unfolding code_of_cell code_answer coded arrangement_refusal cell_refusal ◌otherwise◌ code_of cell_code value
cell-weights = refl

-- ---- made with n and s

module _ (n s : ℕ) where
  -- what jgv_cell_code is given, jgv_code_cell gives back
  pub cell-again :
      (f k i j : ℕ) → (code_of_cell n s f k i j).refusal ≡ 0 →
      code_cell (code_of_cell n s f k i j).code ≡ record { refusal = 0; n = n; s = s; face = f; resolution = k; row = i; column = j }
  unfolding code_of_cell
  cell-again f k i j e =
      let c : Cell = record { face = f; resolution = k; row = i; column = j } in
      let m = made (arrangement_refusal (arrangement n s) otherwise cell_refusal c) (code_of (arrangement n s) c) e in
      let p = both _ _ m.0 in
      ap code_cell m.1 ∙ read_cell (is-arrangement p.0) (is-cell p.1)

  pub name-says : (bytes : List ℕ) → (name_answer n s bytes).refusal ≡ 0 → Says n s (name_answer n s bytes).code
  unfolding name_answer
  name-says bytes e =
      let a : Arrangement = arrangement n s in
      let m = made (arrangement_refusal a otherwise name_refusal bytes) (name_code a bytes) e in
      let p = both _ _ m.0 in
      let g = is-arrangement p.0 in
      let f = accepted bytes p.1 in
      let v = code-is-cell (name_code a bytes) (name-code-is bytes g f) in
      says g v (m.1 ∙ ap (name_code a) (sym (code-name bytes g f)) ∙ name-code a (cell_of (name_code a bytes)))

  pub point-says : (k : ℕ) (x y : ℤ) → (point_code n s k x y).refusal ≡ 0 → Says n s (point_code n s k x y).code
  unfolding point_code
  point-says k x y e =
      let a : Arrangement = arrangement n s in
      let m = made (point_refusal a k x y) (code_of a (point_cell a k x y)) e in
      let v = point-allowed a k x y m.0 in
      says v.0 v.1 m.1

  pub fix-says : (k : ℕ) (L z : ℤ) → (fix_code n s k L z).refusal ≡ 0 → Says n s (fix_code n s k L z).code
  unfolding fix_code
  fix-says k L z e =
      let a : Arrangement = arrangement n s in
      let m = made (fix_refusal a k L z) (code_of a (fix_cell a k L z)) e in
      let v = fix-allowed a k L z m.0 in
      says v.0 v.1 m.1

  pub geodetic-says : (k : ℕ) (L S : ℤ) (E : ℕ) → (geodetic_code n s k L S E).refusal ≡ 0 → Says n s (geodetic_code n s k L S E).code
  unfolding geodetic_code
  geodetic-says k L S E e =
      let a : Arrangement = arrangement n s in
      let m = made (geodetic_refusal a k L S E) (code_of a (geodetic_cell a k L S E)) e in
      let v = geodetic-allowed a k L S E m.0 in
      says v.0 v.1 m.1

-- ---- made from a code

module _ (code : ℕ) where
  -- what is told of a code that is a cell's
  module _ (e : code_refusal code ≡ 0) where
    is : is_code code ≡ true
    is = a-code code e

    told : code_cell code ≡ cell_numbers (arrangement_of code) (Ok (cell_of code))
    unfolding code_cell found
    told = ap (λ (r : ℕ). cell_numbers (arrangement_of code) (found r (cell_of code))) e

    -- a code of its arrangement is of the n and s that are told of it
    kept : {c : Cell} {x : ℕ} → IsCell c → x ≡ code_of (arrangement_of code) c → Says (code_cell code).n (code_cell code).s x
    kept v h =
        let k = says (code-arranged code) v h in
        record {
          taken = k.taken;
          north = k.north ∙ sym (ap (λ (x : CellAnswer). x.n) told);
          south = k.south ∙ sym (ap (λ (x : CellAnswer). x.s) told);
        }

  pub parent-says : (parent_code code).refusal ≡ 0 → Says (code_cell code).n (code_cell code).s (parent_code code).code
  unfolding parent_code
  parent-says e =
      let m = made (code_refusal code otherwise parent_refusal (cell_of code)) (code_of (arrangement_of code) (parent_of (cell_of code))) e in
      let p = both _ _ m.0 in
      kept p.0 (parent-allowed (cell_of code) p.1) m.1

  pub child-says : (digit : ℕ) → (child_code code digit).refusal ≡ 0 → Says (code_cell code).n (code_cell code).s (child_code code digit).code
  unfolding child_code
  child-says digit e =
      let m = made (refuse (ltb 8 digit) 3 otherwise code_refusal code otherwise child_refusal (cell_of code) digit) (code_of (arrangement_of code) (child_of (cell_of code) digit)) e in
      let p = both _ _ (both (refuse (ltb 8 digit) 3) _ m.0).1 in
      kept p.0 (child-allowed (cell_of code) digit p.1) m.1

  pub neighbour-says : (d : ℕ) → (neighbour_code code d).refusal ≡ 0 → Says (code_cell code).n (code_cell code).s (neighbour_code code d).code
  unfolding neighbour_code
  neighbour-says d e =
      let m = made (refuse (ltb 3 d) 3 otherwise code_refusal code) (code_of (arrangement_of code) (neighbour_of (arrangement_of code) (cell_of code) d)) e in
      let p = both (refuse (ltb 3 d) 3) (code_refusal code) m.0 in
      let l = ltb-false 3 d (allowed 2 _ p.0) in
      kept p.1 (neighbour-is-cell d (code-arranged code) (code-is-cell code (is p.1)) (omega arith)) m.1

  -- "a code's name .. come with them": jgv_code_name tells the same n and s
  pub name-tells : (room : ℕ) → (written_name code room).refusal ≡ 0 → ((written_name code room).n ≡ (code_cell code).n) × ((written_name code room).s ≡ (code_cell code).s)
  unfolding written_name code_name_refusal named
  name-tells room e = go (code_name_refusal code room) refl e
    where
      go :
          (r : ℕ) → code_name_refusal code room ≡ r → (name_numbers (arrangement_of code) (named r (length (name_of (cell_of code))))).refusal ≡ 0 →
          ((name_numbers (arrangement_of code) (named r (length (name_of (cell_of code))))).n ≡ (code_cell code).n)
          × ((name_numbers (arrangement_of code) (named r (length (name_of (cell_of code))))).s ≡ (code_cell code).s)
      go zero z f =
          let t = told (both (code_refusal code) _ z).0 in (sym (ap (λ (x : CellAnswer). x.n) t), sym (ap (λ (x : CellAnswer). x.s) t))
      go (suc r) z f = absurd (omega arith)

  -- ---- told of a code, in its arrangement

  module _ (e : (code_cell code).refusal ≡ 0) where
    good : code_refusal code ≡ 0
    good = sym (cell-refusal code) ∙ e

    numbers : code_cell code ≡ cell_numbers (arrangement_of code) (Ok (cell_of code))
    numbers = told good

    cell : IsCell (cell_of code)
    cell = code-is-cell code (is good)

    own : code_of (arrangement_of code) (cell_of code) ≡ code
    own = code-cell code (is good)

    -- what jgv_code_cell gives, jgv_cell_code makes the code of again
    pub code-again :
        code_of_cell (code_cell code).n (code_cell code).s (code_cell code).face (code_cell code).resolution (code_cell code).row (code_cell code).column ≡
        record { refusal = 0; code = code }
    unfolding code_of_cell
    code-again =
        ap (λ (x : CellAnswer). code_of_cell x.n x.s x.face x.resolution x.row x.column) numbers
        ∙ makes (code_of (arrangement_of code) (cell_of code)) (passes _ (arrangement-is (code-arranged code)) ∙ cell-is cell)
        ∙ ap (λ (x : ℕ). record { refusal = 0; code = x }) own

    -- the middle of the cell, in the plane, is owned by it in the code's arrangement
    pub nucleus-again :
        point_code (code_cell code).n (code_cell code).s (code_cell code).resolution (cell_nucleus code).x (cell_nucleus code).y ≡ record { refusal = 0; code = code }
    unfolding point_code point_refusal cell_nucleus placed_answer nucleus_of
    nucleus-again =
        let a : Arrangement = arrangement_of code in
        let c : Cell = cell_of code in
        let o = owner-found a c (nucleus_x a c) (nucleus_y c) cell (nucleus-owned a c) in
        let p = given-value (a_point (nucleus_of a c)) (no_point (code_refusal code)) good in
        let r : point_refusal a c.resolution (nucleus_x a c) (nucleus_y c) ≡ 0 =
        passes _ (arrangement-is (code-arranged code)) ∙ passes _ (ap (λ (t : Bool). refuse t 2) (le-ltb 15 c.resolution cell.fine)) ∙ ap (λ (t : Bool). refuse (not t) 7) o.0 in
        ap₂ (λ (x : CellAnswer) (y : PointAnswer). point_code x.n x.s x.resolution y.x y.y) numbers p
        ∙ makes (code_of a (point_cell a c.resolution (nucleus_x a c) (nucleus_y c))) r
        ∙ ap (λ (x : ℕ). record { refusal = 0; code = x }) (ap (code_of a) o.1 ∙ own)

    -- and on the ground its fix is in it
    pub ground-again :
        fix_code (code_cell code).n (code_cell code).s (code_cell code).resolution (ground_fix code).longitude (ground_fix code).z ≡ record { refusal = 0; code = code }
    unfolding fix_code fix_refusal ground_fix placed_answer
    ground-again =
        let a : Arrangement = arrangement_of code in
        let c : Cell = cell_of code in
        let f = ground_nucleus a c in
        let o = again (code-arranged code) cell in
        let p = given-value (a_fix f) (no_fix (code_refusal code)) good in
        let r : fix_refusal a c.resolution f.longitude f.z ≡ 0 =
        passes _ (arrangement-is (code-arranged code)) ∙ passes _ (ap (λ (t : Bool). refuse t 2) (le-ltb 15 c.resolution cell.fine)) ∙ ap (λ (t : Bool). refuse (not t) 6) o.0 in
        ap₂ (λ (x : CellAnswer) (y : FixAnswer). fix_code x.n x.s x.resolution y.longitude y.z) numbers p
        ∙ makes (code_of a (fix_cell a c.resolution f.longitude f.z)) r
        ∙ ap (λ (x : ℕ). record { refusal = 0; code = x }) (ap (code_of a) o.1 ∙ own)

    -- the square has that middle
    pub square-middle :
        ((cell_nucleus code).x ≡ (cell_square code).left +ℤ pos (3 ^ (15 - (code_cell code).resolution)))
        × ((cell_nucleus code).y ≡ (cell_square code).top -ℤ pos (3 ^ (15 - (code_cell code).resolution)))
    unfolding cell_nucleus cell_square placed_answer nucleus_of square_of nucleus_x nucleus_y
    square-middle =
        let a : Arrangement = arrangement_of code in
        let c : Cell = cell_of code in
        let p = given-value (a_point (nucleus_of a c)) (no_point (code_refusal code)) good in
        let q = given-value (a_square (square_of a c)) (no_square (code_refusal code)) good in
        let k = ap (λ (x : CellAnswer). x.resolution) numbers in (
          ap (λ (x : PointAnswer). x.x) p ∙ sym (ap₂ (λ (x : SquareAnswer) (m : ℕ). x.left +ℤ pos (3 ^ (15 - m))) q k),
          ap (λ (x : PointAnswer). x.y) p ∙ sym (ap₂ (λ (x : SquareAnswer) (m : ℕ). x.top -ℤ pos (3 ^ (15 - m))) q k),
        )

    -- and the vertices are its corners
    pub square-corners :
        let q = cell_square code in
        let right : ℤ = q.left +ℤ q.side in
        let bottom : ℤ = q.top -ℤ q.side in
        ((cell_vertices code).x ≡ q.left ∷ right ∷ right ∷ q.left ∷ []) × ((cell_vertices code).y ≡ q.top ∷ q.top ∷ bottom ∷ bottom ∷ [])
    unfolding cell_vertices cell_square placed_answer vertices_of square_of right_of bottom_of
    square-corners =
        let a : Arrangement = arrangement_of code in
        let c : Cell = cell_of code in
        let p = given-value (the_vertices (vertices_of a c)) (no_vertices (code_refusal code)) good in
        let q = given-value (a_square (square_of a c)) (no_square (code_refusal code)) good in (
          ap (λ (x : VerticesAnswer). x.x) p ∙ sym (ap (λ (x : SquareAnswer). x.left ∷ (x.left +ℤ x.side) ∷ (x.left +ℤ x.side) ∷ x.left ∷ []) q),
          ap (λ (x : VerticesAnswer). x.y) p ∙ sym (ap (λ (x : SquareAnswer). x.top ∷ x.top ∷ (x.top -ℤ x.side) ∷ (x.top -ℤ x.side) ∷ []) q),
        )

    -- the cell of a neighbour's code
    step-told : (d : ℕ) {x : Cell} → d < 4 → neighbour_of (arrangement_of code) (cell_of code) d ≡ x → code_cell (neighbour_code code d).code ≡ cell_numbers (arrangement_of code) (Ok x)
    unfolding neighbour_code
    step-told d {x} l h =
        let a : Arrangement = arrangement_of code in
        let y : Cell = neighbour_of a (cell_of code) d in
        let z : refuse (ltb 3 d) 3 ≡ 0 = ap (λ (t : Bool). refuse t 3) (le-ltb 3 d (omega arith)) in
        ap (λ (r : CodeAnswer). code_cell r.code) (makes (code_of a y) (passes _ z ∙ good))
        ∙ read_cell (code-arranged code) (neighbour-is-cell d (code-arranged code) cell l)
        ∙ ap (λ (r : Cell). cell_numbers a (Ok r)) h

    -- "N lies above face n": from the top row of face n the step up leads into N's last row, in the same column, and of the same n and s
    pub up-from-n :
        (code_cell code).face ≡ 1 + (code_cell code).n → (code_cell code).row ≡ 0 →
        code_cell (neighbour_code code 0).code ≡
        record {
          refusal = 0;
          n = (code_cell code).n;
          s = (code_cell code).s;
          face = 0;
          resolution = (code_cell code).resolution;
          row = 3 ^ (code_cell code).resolution - 1;
          column = (code_cell code).column;
        }
    unfolding leaves out_of_belt into_north
    up-from-n f i =
        let a : Arrangement = arrangement_of code in
        let c : Cell = cell_of code in
        let l : a.north < 4 = omega (arith, (code-arranged code).northern) in
        let t : turn_of a.north a.north ≡ 0 = omega arith in
        let g : c.face ≡ 1 + a.north = sym (ap (λ (x : CellAnswer). x.face) numbers) ∙ f ∙ ap (λ (x : CellAnswer). 1 + x.n) numbers in
        let r : c.row ≡ 0 = sym (ap (λ (x : CellAnswer). x.row) numbers) ∙ i in
        step-told 0 (omega arith) ((leads-belt a c 0 a.north l g (eq-eqb c.row 0 r)).there ∙ ap (into_north c) t)
        ∙ sym (ap (λ (x : CellAnswer). record {
          refusal = 0;
          n = x.n;
          s = x.s;
          face = 0;
          resolution = x.resolution;
          row = 3 ^ x.resolution - 1;
          column = x.column;
        }) numbers)

    -- "S lies below face s": from the last row of face s the step down leads into S's first row
    pub down-from-s :
        (code_cell code).face ≡ 1 + (code_cell code).s → (code_cell code).row + 1 ≡ 3 ^ (code_cell code).resolution →
        code_cell (neighbour_code code 2).code ≡
        record {
          refusal = 0;
          n = (code_cell code).n;
          s = (code_cell code).s;
          face = 5;
          resolution = (code_cell code).resolution;
          row = 0;
          column = (code_cell code).column;
        }
    unfolding leaves out_of_belt into_south
    down-from-s f i =
        let a : Arrangement = arrangement_of code in
        let c : Cell = cell_of code in
        let l : a.south < 4 = omega (arith, (code-arranged code).southern) in
        let t : turn_of a.south a.south ≡ 0 = omega arith in
        let g : c.face ≡ 1 + a.south = sym (ap (λ (x : CellAnswer). x.face) numbers) ∙ f ∙ ap (λ (x : CellAnswer). 1 + x.s) numbers in
        let r : c.row + 1 ≡ 3 ^ c.resolution =
        sym (ap (λ (x : CellAnswer). x.row + 1) numbers) ∙ i ∙ ap (λ (x : CellAnswer). 3 ^ x.resolution) numbers in
        step-told 2 (omega arith) ((leads-belt a c 2 a.south l g (eq-eqb (c.row + 1) (3 ^ c.resolution) r)).there ∙ ap (into_south c) t)
        ∙ sym (ap (λ (x : CellAnswer). record { refusal = 0; n = x.n; s = x.s; face = 5; resolution = x.resolution; row = 0; column = x.column }) numbers)

-- ---- coverage texts

all_say : {a : Arrangement} → IsArrangement a → (codes : List ℕ) → all_codes codes ≡ true → all_of a codes ≡ true → All (Says a.north a.south) codes
unfolding all_codes all_of
all_say g [] i o = tt
all_say {a} g (c ∷ cs) i o =
    let t = and_left (is_code c) (all_codes cs) i in
    let b = of-arrangement a c (and_left (is_of a c) (all_of a cs) o) in (
      says g (code-is-cell c t) (sym (code-cell c t) ∙ ap (λ (r : Arrangement). code_of r (cell_of c)) b),
      all_say g cs (and_right (is_code c) (all_codes cs) i) (and_right (is_of a c) (all_of a cs) o),
    )

-- jgv_coverage_write takes only codes that say the n and s that it is given
pub written-says : (version depth n s : ℕ) (codes lent : List ℕ) → (write_answer version depth n s codes lent).refusal ≡ 0 → All (Says n s) codes
written-says version depth n s codes lent e =
    let g = good-list (arrangement n s) codes (listed-good version depth n s codes lent e) in
    all_say (is-arrangement (turned version depth n s codes lent e)) codes g.coded g.own

module _ (t : List ℕ) where
  -- the n and s that jgv_coverage_check tells of a text
  abbrev pub InHeading : ℕ → Type 0
  InHeading = Says (check_numbers (checked_of t)).n (check_numbers (checked_of t)).s

  module _ (e : text_refusal t ≡ 0) where
    heading-north : (check_numbers (checked_of t)).n ≡ north_of t
    unfolding checked_of
    heading-north = ap (λ (r : ℕ). (check_numbers (answer r t)).n) e

    heading-south : (check_numbers (checked_of t)).s ≡ south_of t
    unfolding checked_of
    heading-south = ap (λ (r : ℕ). (check_numbers (answer r t)).s) e

  -- jgv_coverage_list gives codes that say them
  pub listed-says : (lent : List ℕ) → (list_answer t lent).refusal ≡ 0 → All InHeading (listed_codes t lent)
  unfolding listing_refusal
  listed-says lent e =
      let z = both (text_refusal t) _ (sym (list-refusal (listing_refusal t (length lent)) t) ∙ e) in
      rw (heading-north z.0, heading-south z.0)
      (written-says (version_of (profile_of t)) (depth_of (profile_of t)) (north_of t) (south_of t) (listed_codes t lent) t (relisted t lent e t (omega arith)).0)

  -- and jgv_coverage_ask takes only a code that says them
  pub asked-says : (code : ℕ) → (ask_answer t code).refusal ≡ 0 → InHeading code
  unfolding ask_refusal
  asked-says code e =
      let p = both (code_refusal code) _ (sym (ask-refusal t (ask_refusal t code) code) ∙ e) in
      let q = both (text_refusal t) _ p.1 in
      let i = a-code code p.0 in
      let b = of-arrangement (text_arrangement t) code (not-false _ (allowed 13 _ q.1)) in
      rw (heading-north q.0, heading-south q.0, sym (ap (λ (r : Arrangement). r.north) b), sym (ap (λ (r : Arrangement). r.south) b))
      (says (code-arranged code) (code-is-cell code i) (sym (code-cell code i)))
