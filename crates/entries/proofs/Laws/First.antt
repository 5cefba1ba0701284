-- Each entry refuses with the first of its numbers whose condition holds, and with 0 where none does (01 "Refusal numbers": "Order where several
-- apply"). Assumes nothing.
use Rattle.std.specs.Prelude.{◌≡◌, ◌↔◌, ◌⊎◌, Bool, true, false, ◌&&◌, not, List, [], ◌∷◌, map, ℤ, pos, neg_ℤ, leb, ltb, eqb, length, drop, take}
use Rattle.std.proofs.Math.Path.{refl, ap, ap₂, subst}
use Rattle.std.proofs.Common.{sym, ◌∙◌, inl, inr, ⊎_elim, le-ltb}
use Prim.Native.Nat.{ℕ, zero, suc, ◌+◌, ◌*◌, ◌^◌, ◌<◌, ◌≤◌}
use native.Mathlib.Omega.{arith}
use Rattle.std.proofs.lemmas.Bool.{not-true, not-false}
use Rattle.logic.specs.Lists.{Any, All, Pairwise}
use Rattle.logic.specs.Rise.{Rise}
use Rattle.logic.specs.Laws.Bools.{and_left, and_right, clash, by_cond}
use Rattle.logic.specs.Laws.Lists.{all_map}
use Rattle.logic.specs.Laws.Order.{lt-or}
use Rattle.logic.specs.Refusal.{refuse, ◌otherwise◌, given}
use Rattle.logic.specs.Laws.Refusal.{passes}
use Rattle.cell.specs.declared.Cell.{Cell}
use Rattle.cell.specs.declared.Arrangement.{Arrangement}
use Rattle.cell.specs.Cell.{cell_refusal, arrangement_refusal, found}
use Rattle.cell.proofs.Laws.Cell.{cell-is}
use Rattle.cell.specs.Neighbour.{neighbour_of}
use Rattle.cell.specs.Hierarchy.{parent_of, parent_refusal, child_of, child_refusal}
use Rattle.code.specs.Code.{code_of, cell_of, cell_code, arrangement_of, is_code, is_of, code_refusal, coded}
use Rattle.code.proofs.Laws.Code.{code-is-cell, code-cell, code-order, of-arrangement, arrangement-of}
use Rattle.code.proofs.Laws.Exact.{NoCell, no_cell, some-cell}
use Rattle.corner.specs.List.{codes_at, corners_refusal, cornered}
use Rattle.name.specs.Name.{name_of, first_letter, is_digit, all_digits, name_refusal, name_code, code_name_refusal, named}
use Rattle.plane.specs.Plane.{square_of, nucleus_of, vertices_of, point_refusal, point_cell, in_image, in_belt, in_north, in_south, face_side, half, three_halves}
use Rattle.locate.specs.Fix.{InRange, fix_refusal, fix_cell, in_range}
use Rattle.locate.proofs.Laws.Fix.{within-range, range-holds}
use Rattle.authalic.specs.Authalic.{Geodetic, is_geodetic, sine_refusal}
use Rattle.authalic.proofs.Laws.Authalic.{geodetic-tests, geodetic-range}
use Rattle.geodetic.specs.GeodeticFix.{GeodeticRange, in_geodetic_range, geodetic_refusal, geodetic_cell}
use Rattle.geodetic.proofs.Laws.GeodeticFix.{range-tests, range-of}
use Rattle.reading.specs.Ground.{Apart, Rising, Covers, Cells}
use Rattle.reading.specs.Fewest.{FewestOf}
use Rattle.reading.specs.declared.Profile.{Profile}
use Rattle.reading.specs.Reading.{render}
use Rattle.reading.specs.Text.{IsProfile, level_of, ReadsAs, Accepted}
use Rattle.reading.proofs.Laws.Heading.{turn-bytes}
use Rattle.reading.specs.Written.{keeps, Allows}
use Rattle.reading.proofs.Laws.Written.{TextOf, keeps-exactly}
use Rattle.reading.proofs.Laws.Allowed.{keeps-fewest}
use Rattle.reading.specs.TextReading.{nodes_of, profile_of, north_of, south_of, text_arrangement, is_text}
use Rattle.reading.proofs.Laws.TextReading.{reads-own}
use Rattle.reader.specs.Check.{WrongVersion, other_version, text_refusal, answer, checked_of}
use Rattle.reader.specs.Laws.Check.{version-bytes, bytes-version, is-accepted, is-not}
use Rattle.listing.specs.List.{listing_refusal, listed, codes_of}
use Rattle.asking.specs.Ask.{ask_refusal, asked}
use Rattle.writing.specs.Write.{all_codes, all_of, Another, ordered, codes_refusal, asks_for, is_version, fit_refusal, write_refusal, text_of, written}
use Rattle.writing.proofs.Laws.List.{codes-cells, tested, good-list, list-good}
use Rattle.nucleus.specs.Nucleus.{ground_nucleus}
use Rattle.entries.specs.declared.SquareAnswer.{SquareAnswer}
use Rattle.entries.specs.declared.PointAnswer.{PointAnswer}
use Rattle.entries.specs.declared.VerticesAnswer.{VerticesAnswer}
use Rattle.entries.specs.declared.FixAnswer.{FixAnswer}
use Rattle.entries.specs.Entries.{arrangement, code_answer, code_of_cell, name_answer, parent_code, child_code, point_code, fix_code, geodetic_code, neighbour_code}
use Rattle.entries.specs.Entries.{code_cell, cell_numbers, name_numbers, written_name, cell_size, cell_shape, corner_count, placed_answer, cell_square, cell_nucleus}
use Rattle.entries.specs.Entries.{cell_vertices, ground_fix, a_square, no_square, a_point, no_point, the_vertices, no_vertices, a_fix, no_fix, geodetic_z, corner_numbers}
use Rattle.entries.specs.Entries.{corner_cells}
use Rattle.entries.specs.Texts.{check_numbers, list_numbers, ask_numbers, written_numbers}
use Rattle.entries.specs.Order.{Chain, NoneOf, FirstOf}
use Rattle.entries.proofs.Laws.Order.{Decides, last, then, twice, lt-decides, le-decides, eq-decides, lt_z-decides, le_z-decides, not-decides, and-decides, or-decides}
use Rattle.entries.specs.Refusals.{NoLetter, NoDigit, OnImage, arrangement_tests, code_tests, text_tests, cell_tests, name_tests, code_name_tests}
use Rattle.entries.specs.Refusals.{corners_tests, parent_tests, child_tests, point_tests, fix_tests, neighbour_tests, turns_of, list_tests, ask_tests, write_tests, z_tests}
use Rattle.entries.specs.Refusals.{geodetic_tests}

-- ---- what the tests decide

-- two tests that both pass, or not
pub not-and : (s t : Bool) {A B : Type 0} → Decides (not s) A → Decides (not t) B → Decides (not (s && t)) (A ⊎ B)
not-and true t d e = record { holds = λ h. inr (e.holds h); fails = λ h. ⊎_elim (d.fails refl) (e.fails h) }
not-and false t d e = record { holds = λ h. inl (d.holds refl); fails = λ h. clash h }

pub above : (a b : ℕ) → Decides (not (leb a b)) (b < a)
above a b =
    let d = le-decides a b in
    record { holds = λ e. ⊎_elim (λ h. h) (λ h. absurd (d.fails (not-true _ e) h)) (lt-or b a); fails = λ e h. let k = d.holds (not-false _ e) in omega arith }

outside : (a b c : ℕ) → Decides (not (leb a c && leb c b)) ((c < a) ⊎ (b < c))
outside a b c = not-and (leb a c) (leb c b) (above a c) (above c b)

letter : (bs : List ℕ) → Decides (not (first_letter bs)) (NoLetter bs)
unfolding first_letter
letter [] = record { holds = λ e. tt; fails = λ e. clash e }
letter (b ∷ bs) = outside 78 83 b

digits : (bs : List ℕ) → Decides (not (all_digits bs)) (Any NoDigit bs)
unfolding all_digits
digits [] = record { holds = λ e. clash (sym e); fails = λ e h. h }
digits (b ∷ bs) = not-and (is_digit b) (all_digits bs) (outside 48 56 b) (digits bs)

pub cell-of : (code : ℕ) → Decides (not (is_code code)) (NoCell code)
cell-of code = record { holds = λ e. no_cell code (not-true _ e); fails = λ e. some-cell code (not-false _ e) }

cells_of : (codes : List ℕ) → Decides (not (all_codes codes)) (Any NoCell codes)
unfolding all_codes
cells_of [] = record { holds = λ e. clash (sym e); fails = λ e h. h }
cells_of (c ∷ cs) = not-and (is_code c) (all_codes cs) (cell-of c) (cells_of cs)

of-another : (a : Arrangement) (codes : List ℕ) → Decides (not (all_of a codes)) (Another a codes)
unfolding all_of
of-another a [] = record { holds = λ e. clash (sym e); fails = λ e h. h }
of-another a (c ∷ cs) = not-and (is_of a c) (all_of a cs) (not-decides own) (of-another a cs)
  where
    own : Decides (is_of a c) (arrangement_of c ≡ a)
    own = record { holds = of-arrangement a c; fails = λ e g. clash (sym (arrangement-of a c g) ∙ e) }

pub version : (t : List ℕ) → Decides (other_version t) (WrongVersion t)
version t = record { holds = version-bytes t; fails = λ e h. clash (sym (bytes-version t h) ∙ e) }

pub grammar : (t : List ℕ) → Decides (is_text t) (Accepted t)
grammar t = record { holds = is-accepted t; fails = is-not t }

-- what does not fail passes
pub passed : {t : Bool} {A : Type 0} → Decides t A → ((A → ⊥) → ⊥) → t ≡ true
passed {t = true} d n = refl
passed {t = false} d n = absurd (n (d.fails refl))

pub missed : (t : Bool) {A : Type 0} → Decides (not t) A → (A → ⊥) → t ≡ true
missed true d n = refl
missed false d n = absurd (n (d.holds refl))

-- ---- numbers that several entries give

pub arrangement-first : (n s : ℕ) → FirstOf (arrangement_tests n s) (arrangement_refusal (arrangement n s))
unfolding arrangement_refusal
arrangement-first n s = twice 4 (lt-decides 3 n) (lt-decides 3 s)

pub code-first : (code : ℕ) → FirstOf (code_tests code) (code_refusal code)
unfolding code_refusal
code-first code = last 3 (cell-of code)

pub text-first : (t : List ℕ) → FirstOf (text_tests t) (text_refusal t)
unfolding text_refusal
text-first t = then (last 12 (lt-decides 65536 (length t))) refl (λ _. then (last 9 (version t)) refl (λ _. last 8 (not-decides (grammar t))))

-- ---- the refusal in an answer

pub code-refusal : (r code : ℕ) → (code_answer r code).refusal ≡ r
unfolding code_answer coded
code-refusal zero code = refl
code-refusal (suc r) code = refl

coded-first : {xs : Chain} {r : ℕ} (code : ℕ) → FirstOf xs r → FirstOf xs (code_answer r code).refusal
coded-first {xs} {r} code f = subst (FirstOf xs) (sym (code-refusal r code)) f

-- ---- the entries

-- jgv_cell_code
pub cell-code-first : (n s f k i j : ℕ) → FirstOf (cell_tests n s f k i j) (code_of_cell n s f k i j).refusal
unfolding code_of_cell cell_refusal
cell-code-first n s f k i j =
    coded-first (code_of (arrangement n s) (record { face = f; resolution = k; row = i; column = j }))
    (then (arrangement-first n s) refl
    (λ _. then (last 1 (lt-decides 15 k)) refl (λ _. then (last 0 (lt-decides 5 f)) refl (λ _. twice 2 (le-decides (3 ^ k) i) (le-decides (3 ^ k) j)))))

-- jgv_name_code
pub name-code-first : (n s : ℕ) (bs : List ℕ) → FirstOf (name_tests n s bs) (name_answer n s bs).refusal
unfolding name_answer name_refusal
name-code-first n s bs =
    coded-first (name_code (arrangement n s) bs)
    (then (arrangement-first n s) refl
    (λ _. then (last 1 (lt-decides 16 (length bs))) refl (λ _. then (last 0 (letter bs)) refl (λ _. last 2 (digits (drop 1 bs))))))

pub name-refusal : (n s : ℕ) (bs : List ℕ) → (name_answer n s bs).refusal ≡ arrangement_refusal (arrangement n s) otherwise name_refusal bs
unfolding name_answer
name-refusal n s bs = code-refusal (arrangement_refusal (arrangement n s) otherwise name_refusal bs) (name_code (arrangement n s) bs)

-- jgv_point_code
pub image : (n s : ℕ) (x y : ℤ) → Decides (in_image (arrangement n s) x y) (OnImage n s x y)
unfolding in_image in_belt in_north in_south
image n s x y =
    or-decides
    (or-decides
    (and-decides (and-decides (le_z-decides (pos 0) x) (lt_z-decides x (pos (4 * face_side)))) (and-decides (le_z-decides (neg_ℤ (pos half)) y) (le_z-decides y (pos half))))
    (and-decides (and-decides (lt_z-decides (pos (n * face_side)) x) (lt_z-decides x (pos ((n + 1) * face_side))))
    (and-decides (lt_z-decides (pos half) y) (lt_z-decides y (pos three_halves)))))
    (and-decides (and-decides (lt_z-decides (pos (s * face_side)) x) (lt_z-decides x (pos ((s + 1) * face_side))))
    (and-decides (lt_z-decides (neg_ℤ (pos three_halves)) y) (lt_z-decides y (neg_ℤ (pos half)))))

pub point-code-first : (n s k : ℕ) (x y : ℤ) → FirstOf (point_tests n s k x y) (point_code n s k x y).refusal
unfolding point_code point_refusal
point-code-first n s k x y =
    coded-first (code_of (arrangement n s) (point_cell (arrangement n s) k x y))
    (then (arrangement-first n s) refl (λ _. then (last 1 (lt-decides 15 k)) refl (λ _. last 6 (not-decides (image n s x y)))))

-- jgv_fix_code
range : (L z : ℤ) → Decides (in_range L z) (InRange L z)
range L z = record { holds = range-holds; fails = λ e w. clash (sym (within-range w) ∙ e) }

pub fix-code-first : (n s k : ℕ) (L z : ℤ) → FirstOf (fix_tests n s k L z) (fix_code n s k L z).refusal
unfolding fix_code fix_refusal
fix-code-first n s k L z =
    coded-first (code_of (arrangement n s) (fix_cell (arrangement n s) k L z))
    (then (arrangement-first n s) refl (λ _. then (last 1 (lt-decides 15 k)) refl (λ _. last 5 (not-decides (range L z)))))

-- jgv_geodetic_z
geodetic : (S : ℤ) (E : ℕ) → Decides (is_geodetic S E) (Geodetic S E)
geodetic S E = record { holds = geodetic-range; fails = λ e g. clash (sym (geodetic-tests g) ∙ e) }

pub z-first : (S : ℤ) (E : ℕ) → FirstOf (z_tests S E) (geodetic_z S E).refusal
unfolding geodetic_z sine_refusal
z-first S E = last 5 (not-decides (geodetic S E))

-- jgv_geodetic_code
geodetic-fix : (L S : ℤ) (E : ℕ) → Decides (in_geodetic_range L S E) (GeodeticRange L S E)
geodetic-fix L S E = record { holds = range-of; fails = λ e g. clash (sym (range-tests g) ∙ e) }

pub geodetic-code-first : (n s k : ℕ) (L S : ℤ) (E : ℕ) → FirstOf (geodetic_tests n s k L S E) (geodetic_code n s k L S E).refusal
unfolding geodetic_code geodetic_refusal
geodetic-code-first n s k L S E =
    coded-first (code_of (arrangement n s) (geodetic_cell (arrangement n s) k L S E))
    (then (arrangement-first n s) refl (λ _. then (last 1 (lt-decides 15 k)) refl (λ _. last 5 (not-decides (geodetic-fix L S E)))))

-- jgv_neighbour
pub neighbour-first : (code d : ℕ) → FirstOf (neighbour_tests code d) (neighbour_code code d).refusal
unfolding neighbour_code
neighbour-first code d =
    coded-first (code_of (arrangement_of code) (neighbour_of (arrangement_of code) (cell_of code) d))
    (then (last 2 (lt-decides 3 d)) refl (λ _. code-first code))

-- jgv_parent
-- what jgv_corner_cells answers beside a refusal
pub corners-refusal : (r count : ℕ) → (corner_numbers (cornered r count)).refusal ≡ r
unfolding cornered
corners-refusal zero count = refl
corners-refusal (suc r) count = refl

module _ (code : ℕ) where
  -- what no longer refuses a code
  real : (NoCell code → ⊥) → cell_refusal (cell_of code) ≡ 0
  real n = cell-is (code-is-cell code (missed (is_code code) (cell-of code) n))

  pub parent-first : FirstOf (parent_tests code) (parent_code code).refusal
  unfolding parent_code parent_refusal
  parent-first =
      coded-first (code_of (arrangement_of code) (parent_of (cell_of code)))
      (then (code-first code) refl
      (λ n. subst (FirstOf ((12, (cell_of code).resolution ≡ 0) ∷ [])) (sym (passes (refuse (eqb (cell_of code).resolution 0) 12) (real n.0)))
      (last 11 (eq-decides (cell_of code).resolution 0))))

  -- jgv_child
  pub child-first : (digit : ℕ) → FirstOf (child_tests code digit) (child_code code digit).refusal
  unfolding child_code child_refusal
  child-first digit =
      let twelve : ℕ = refuse (eqb (cell_of code).resolution 15) 12 in
      coded-first (code_of (arrangement_of code) (child_of (cell_of code) digit))
      (then (last 2 (lt-decides 8 digit)) refl
      (λ d. then (code-first code) refl
      (λ n.
      let z : refuse (ltb 8 digit) 3 ≡ 0 = ap (λ (t : Bool). refuse t 3) (le-ltb 8 digit (omega (arith, d.0))) in
      subst (FirstOf ((12, (cell_of code).resolution ≡ 15) ∷ []))
      (sym (passes (refuse (ltb 8 digit) 3 otherwise twelve) (real n.0) ∙ passes twelve z))
      (last 11 (eq-decides (cell_of code).resolution 15)))))

  -- jgv_code_cell
  pub code-cell-first : FirstOf (code_tests code) (code_cell code).refusal
  unfolding code_cell found
  code-cell-first = subst (FirstOf (code_tests code)) (sym (go (code_refusal code))) (code-first code)
    where
      go : (r : ℕ) → (cell_numbers (arrangement_of code) (found r (cell_of code))).refusal ≡ r
      go zero = refl
      go (suc r) = refl

  -- jgv_size, jgv_shape, jgv_corner_count
  pub size-first : FirstOf (code_tests code) (cell_size code).refusal
  unfolding cell_size
  size-first = code-first code

  pub shape-first : FirstOf (code_tests code) (cell_shape code).refusal
  unfolding cell_shape
  shape-first = code-first code

  pub corner-first : FirstOf (code_tests code) (corner_count code).refusal
  unfolding corner_count
  corner-first = code-first code

  -- jgv_corner_cells
  pub corners-first : (room : ℕ) → FirstOf (corners_tests code room) (corner_cells code room).refusal
  unfolding corner_cells corners_refusal
  corners-first room =
      subst (FirstOf (corners_tests code room)) (sym (corners-refusal (corners_refusal code room) (length (codes_at code))))
      (then (code-first code) refl (λ _. last 7 (lt-decides room (length (codes_at code)))))

  -- jgv_code_name
  pub code-name-first : (room : ℕ) → FirstOf (code_name_tests code room) (written_name code room).refusal
  unfolding written_name code_name_refusal named
  code-name-first room =
      subst (FirstOf (code_name_tests code room)) (sym (go (code_name_refusal code room)))
      (then (code-first code) refl (λ _. last 7 (lt-decides room (length (name_of (cell_of code))))))
    where
      go : (r : ℕ) → (name_numbers (arrangement_of code) (named r (length (name_of (cell_of code))))).refusal ≡ r
      go zero = refl
      go (suc r) = refl

-- jgv_square, jgv_nucleus, jgv_vertices, jgv_ground_nucleus
of-given : {A : Type 0} (of : A → ℕ) (r : ℕ) {x none : A} → of x ≡ 0 → of none ≡ r → of (given r x none) ≡ r
unfolding given
of-given of zero e f = e
of-given of (suc r) e f = f

placed_first :
    {A : Type 0} (of : A → ℕ) (code : ℕ) (value : Arrangement → Cell → A) (none : ℕ → A) → ((a : Arrangement) (c : Cell) → of (value a c) ≡ 0) →
    ((r : ℕ) → of (none r) ≡ r) → FirstOf (code_tests code) (of (placed_answer code value none))
unfolding placed_answer
placed_first of code v none e f =
    subst (FirstOf (code_tests code)) (sym (of-given of (code_refusal code) (e (arrangement_of code) (cell_of code)) (f (code_refusal code)))) (code-first code)

module _ (code : ℕ) where
  pub square-first : FirstOf (code_tests code) (cell_square code).refusal
  unfolding cell_square
  square-first = placed_first (λ (x : SquareAnswer). x.refusal) code (λ a c. a_square (square_of a c)) no_square (λ a c. refl) (λ r. refl)

  pub nucleus-first : FirstOf (code_tests code) (cell_nucleus code).refusal
  unfolding cell_nucleus
  nucleus-first = placed_first (λ (x : PointAnswer). x.refusal) code (λ a c. a_point (nucleus_of a c)) no_point (λ a c. refl) (λ r. refl)

  pub vertices-first : FirstOf (code_tests code) (cell_vertices code).refusal
  unfolding cell_vertices
  vertices-first = placed_first (λ (x : VerticesAnswer). x.refusal) code (λ a c. the_vertices (vertices_of a c)) no_vertices (λ a c. refl) (λ r. refl)

  pub ground-first : FirstOf (code_tests code) (ground_fix code).refusal
  unfolding ground_fix
  ground-first = placed_first (λ (x : FixAnswer). x.refusal) code (λ a c. a_fix (ground_nucleus a c)) no_fix (λ a c. refl) (λ r. refl)

-- jgv_coverage_check
answer-refusal : (r : ℕ) (t : List ℕ) → (check_numbers (answer r t)).refusal ≡ r
answer-refusal zero t = refl
answer-refusal (suc r) t = refl

pub check-refusal : (t : List ℕ) → (check_numbers (checked_of t)).refusal ≡ text_refusal t
unfolding checked_of
check-refusal t = answer-refusal (text_refusal t) t

pub check-first : (t : List ℕ) → FirstOf (text_tests t) (check_numbers (checked_of t)).refusal
check-first t = subst (FirstOf (text_tests t)) (sym (check-refusal t)) (text-first t)

-- jgv_coverage_list
pub list-refusal : (r : ℕ) (t : List ℕ) → (list_numbers (listed r t)).refusal ≡ r
unfolding listed
list-refusal zero t = refl
list-refusal (suc r) t = refl

pub list-first : (t : List ℕ) (room : ℕ) → FirstOf (list_tests t room) (list_numbers (listed (listing_refusal t room) t)).refusal
unfolding listing_refusal
list-first t room =
    subst (FirstOf (list_tests t room)) (sym (list-refusal (listing_refusal t room) t))
    (then (text-first t) refl (λ _. last 7 (lt-decides room (length (codes_of t)))))

-- n and s by their digits
pub digits-tell : (n s n' s' : ℕ) → (48 + n) ∷ (48 + s) ∷ [] ≡ (48 + n') ∷ (48 + s') ∷ [] → (n ≡ n') × (s ≡ s')
digits-tell n s n' s' e =
    let i : 48 + n ≡ 48 + n' = cc in
    let j : 48 + s ≡ 48 + s' = cc in
    (omega arith, omega arith)

-- jgv_coverage_ask
module _ (t : List ℕ) where
  -- a text that is not one not of the grammar is of the grammar
  pub of-grammar : ((Accepted t → ⊥) → ⊥) → Accepted t
  of-grammar n = is-accepted t (passed (grammar t) n)

  -- a text that is no longer refused has a reading
  read : NoneOf (text_tests t) → ReadsAs (profile_of t) (north_of t) (south_of t) t (nodes_of t)
  read n = reads-own t (passed (grammar t) n.1.1.0)

  -- its n and s stand behind the version
  pub turns-told : NoneOf (text_tests t) → take 2 (drop 5 t) ≡ (48 + north_of t) ∷ (48 + south_of t) ∷ []
  turns-told k =
      ap (λ (x : List ℕ). take 2 (drop 5 x)) (read k).body.all ∙ turn-bytes (north_of t) (south_of t) (render (level_of (profile_of t)) (nodes_of t)) (profile_of t)

  -- "the heading's"
  pub headed : (code : ℕ) → NoneOf (text_tests t) → Decides (is_of (text_arrangement t) code) (take 2 (drop 5 t) ≡ turns_of code)
  unfolding is_of
  headed code k =
      let n : ℕ = (arrangement_of code).north in
      let s : ℕ = (arrangement_of code).south in
      let h = turns-told k in
      let d = and-decides (eq-decides n (north_of t)) (eq-decides s (south_of t)) in
      record {
        holds = λ e. let p = d.holds e in h ∙ ap₂ (λ (x y : ℕ). (48 + x) ∷ (48 + y) ∷ []) (sym p.0) (sym p.1);
        fails = λ e q. d.fails e (digits-tell n s (north_of t) (south_of t) (sym q ∙ h));
      }

  pub ask-refusal : (r code : ℕ) → (ask_numbers (asked r t code)).refusal ≡ r
  unfolding asked
  ask-refusal zero code = refl
  ask-refusal (suc r) code = refl

  pub ask-first : (code : ℕ) → FirstOf (ask_tests t code) (ask_numbers (asked (ask_refusal t code) t code)).refusal
  unfolding ask_refusal
  ask-first code =
      subst (FirstOf (ask_tests t code)) (sym (ask-refusal (ask_refusal t code) code))
      (then (code-first code) refl (λ _. then (text-first t) refl (λ k. last 13 (not-decides (headed code k)))))

-- jgv_coverage_write

-- what holds of the values of a list
module _ {A B : Type 0} (f : A → B) where
  map-all : (P : B → Type 0) (Q : A → Type 0) → ((x : A) → P (f x) → Q x) → (xs : List A) → All P (map f xs) → All Q xs
  map-all P Q g [] h = tt
  map-all P Q g (x ∷ xs) h = (g x h.0, map-all P Q g xs h.1)

  map-pairs : (R : B → B → Type 0) (S : A → A → Type 0) → ((x y : A) → R (f x) (f y) → S x y) → (xs : List A) → Pairwise R (map f xs) → Pairwise S xs
  map-pairs R S g [] h = tt
  map-pairs R S g (x ∷ xs) h = (map-all (R (f x)) (S x) (g x) xs h.0, map-pairs R S g xs h.1)

  pairs-map : (R : B → B → Type 0) (S : A → A → Type 0) → ((x y : A) → S x y → R (f x) (f y)) → (xs : List A) → Pairwise S xs → Pairwise R (map f xs)
  pairs-map R S g [] h = tt
  pairs-map R S g (x ∷ xs) h = (all_map (S x) (R (f x)) f (g x) xs h.0, pairs-map R S g xs h.1)

codes-back : (a : Arrangement) (codes : List ℕ) → all_codes codes ≡ true → all_of a codes ≡ true → map (code_of a) (map cell_of codes) ≡ codes
unfolding all_codes all_of
codes-back a [] e o = refl
codes-back a (c ∷ cs) e o =
    let g : arrangement_of c ≡ a = of-arrangement a c (and_left (is_of a c) (all_of a cs) o) in
    ap₂ ◌∷◌ (ap (λ (r : Arrangement). code_of r (cell_of c)) (sym g) ∙ code-cell c (and_left (is_code c) (all_codes cs) e))
    (codes-back a cs (and_right (is_code c) (all_codes cs) e) (and_right (is_of a c) (all_of a cs) o))

module _ (a : Arrangement) (codes : List ℕ) (e : all_codes codes ≡ true) (o : all_of a codes ≡ true) where
  rise-cells : Rise codes → Rising (map cell_of codes)
  rise-cells h =
      map-pairs (code_of a) (λ (x y : ℕ). x < y) (λ (c d : Cell). cell_code c < cell_code d) (λ c d. (code-order a c d).0) (map cell_of codes) (rw (codes-back a codes e o) h)

  cells-rise : Rising (map cell_of codes) → Rise codes
  cells-rise h =
      rw (codes-back a codes e o) at
      (pairs-map (code_of a) (λ (x y : ℕ). x < y) (λ (c d : Cell). cell_code c < cell_code d) (λ c d. (code-order a c d).1) (map cell_of codes) h)

  in-rising-order : Decides (ordered codes) (Rise codes × Apart (map cell_of codes))
  unfolding ◌otherwise◌
  in-rising-order =
      record {
        holds = λ r. let g = good-list a codes (tested a codes e o r) in (cells-rise g.rising, g.apart);
        fails = λ r h. off (tested a codes e o r) (list-good a codes (record { coded = e; own = o; rising = rise-cells h.0; apart = h.1 }));
      }
    where
      off : codes_refusal a codes ≡ 11 → codes_refusal a codes ≡ 0 → ⊥
      off p q = omega arith

-- a list of codes of one arrangement that is not one out of order is in order
pub of-order :
    (a : Arrangement) (codes : List ℕ) → (Any NoCell codes → ⊥) → (Another a codes → ⊥) → ((Rise codes × Apart (map cell_of codes) → ⊥) → ⊥) →
    Rise codes × Apart (map cell_of codes)
of-order a codes e o n =
    let d = in-rising-order a codes (missed (all_codes codes) (cells_of codes) e) (missed (all_of a codes) (of-another a codes) o) in
    d.holds (passed d n)

-- where all are codes
order-first :
    (a : Arrangement) (codes : List ℕ) → (Any NoCell codes → ⊥) →
    FirstOf ((14, Another a codes) ∷ (11, Rise codes × Apart (map cell_of codes) → ⊥) ∷ []) (codes_refusal a codes)
unfolding codes_refusal
order-first a codes n =
    let e : all_codes codes ≡ true = missed (all_codes codes) (cells_of codes) n in
    subst (FirstOf ((14, Another a codes) ∷ (11, Rise codes × Apart (map cell_of codes) → ⊥) ∷ []))
    (sym (passes _ (ap (λ (b : Bool). refuse (not b) 4) e)))
    (then (last 13 (of-another a codes)) refl
    (λ m. last 10 (not-decides (in-rising-order a codes e (missed (all_of a codes) (of-another a codes) m.0)))))

-- a version is 1 or 2, or it is not
asked-version : (version : ℕ) → Decides (is_version version) ((version ≡ 1) ⊎ (version ≡ 2))
unfolding is_version
asked-version version = or-decides (eq-decides version 1) (eq-decides version 2)

pub of-version : (version : ℕ) → (((version ≡ 1) ⊎ (version ≡ 2) → ⊥) → ⊥) → (version ≡ 1) ⊎ (version ≡ 2)
of-version version n = (asked-version version).holds (passed (asked-version version) n)

pub asked-profile : (version depth : ℕ) → (15 < depth → ⊥) → IsProfile (asks_for version depth)
asked-profile version depth n =
    by_cond IsProfile (eqb version 1) (λ _. tt) (λ _. ⊎_elim (λ h. absurd (n h)) (λ h. h) (lt-or 15 depth))

turned : (n s : ℕ) → ((3 < n) ⊎ (3 < s) → ⊥) → (n ≤ 3) × (s ≤ 3)
turned n s h = (⊎_elim (λ k. absurd (h (inl k))) (λ k. k) (lt-or 3 n), ⊎_elim (λ k. absurd (h (inr k))) (λ k. k) (lt-or 3 s))

-- "outside the profile exactly when the fewest cells of its ground break it"
module _ (p : Profile) (n s : ℕ) (codes : List ℕ) (q : IsProfile p) (a : (3 < n) ⊎ (3 < s) → ⊥) (c : Any NoCell codes → ⊥) where
  in-profile : Decides (keeps p (map cell_of codes)) (TextOf p n s (map cell_of codes))
  in-profile =
      let k = keeps-exactly p n s (map cell_of codes) q (turned n s a).0 (turned n s a).1 (codes-cells codes (missed (all_codes codes) (cells_of codes) c)) in
      record { holds = k.0; fails = λ e h. clash (sym (k.1 h) ∙ e) }

  pub of-profile : ((TextOf p n s (map cell_of codes) → ⊥) → ⊥) → TextOf p n s (map cell_of codes)
  of-profile m = in-profile.holds (passed in-profile m)

  pub text-allowed : (few : List Cell) → FewestOf (Covers (map cell_of codes)) few → TextOf p n s (map cell_of codes) ↔ All (Allows p) few
  text-allowed few f =
      let g : Cells (map cell_of codes) = codes-cells codes (missed (all_codes codes) (cells_of codes) c) in
      let e = keeps-exactly p n s (map cell_of codes) q (turned n s a).0 (turned n s a).1 g in
      let k = keeps-fewest p (map cell_of codes) few g f in
      ((λ t. k.0 (e.1 t)), (λ h. e.0 (k.1 h)))

pub write-refusal : (r n : ℕ) → (written_numbers (written r n)).refusal ≡ r
unfolding written
write-refusal zero n = refl
write-refusal (suc r) n = refl

pub write-first :
    (version depth n s : ℕ) (codes : List ℕ) (room : ℕ) → let a : Arrangement = arrangement n s in
    FirstOf (write_tests version depth n s codes room)
    (written_numbers (written (write_refusal version depth a codes room) (length (text_of (asks_for version depth) a codes)))).refusal
unfolding write_refusal fit_refusal
write-first version depth n s codes room =
    let p : Profile = asks_for version depth in
    let z : ℕ = length (text_of p (arrangement n s) codes) in
    subst (FirstOf (write_tests version depth n s codes room)) (sym (write-refusal (write_refusal version depth (arrangement n s) codes room) z))
    (then (arrangement-first n s) refl
    (λ a. then (last 1 (lt-decides 15 depth)) refl
    (λ d. then (last 3 (cells_of codes)) refl
    (λ c. then (last 9 (not-decides (asked-version version))) refl
    (λ _. then (order-first (arrangement n s) codes c.0) refl
    (λ _. then (last 14 (not-decides (in-profile p n s codes (asked-profile version depth d.0) a.0 c.0))) refl
    (λ _. then (last 12 (lt-decides 65536 z)) refl (λ _. last 7 (lt-decides room z)))))))))
