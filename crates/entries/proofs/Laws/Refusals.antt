-- 01's table "Refusal numbers": each number is given exactly when its condition holds and none of those before it in the order, over what the entries
-- answer; and the numbers of each entry stand in 01's order. Assumes nothing.
use Rattle.std.specs.Prelude.{◌≡◌, ◌↔◌, ◌⊎◌, true, List, [], ◌∷◌, map, ℕ, ◌^◌, ◌≤◌, ◌<◌, ℤ, length, drop, take}
use Rattle.std.proofs.Math.Path.{refl}
use Rattle.std.proofs.Common.{sym, ◌∙◌, subst}
use Rattle.logic.specs.Lists.{All, Any}
use Rattle.logic.specs.Rise.{Rise}
use Rattle.logic.specs.Laws.Refusal.{both, passes}
use Rattle.cell.specs.declared.Cell.{Cell}
use Rattle.cell.specs.Cell.{IsCell, IsArrangement, arrangement_refusal}
use Rattle.cell.proofs.Laws.Cell.{is-arrangement, arrangement-is}
use Rattle.code.specs.Code.{cell_of}
use Rattle.code.proofs.Laws.Code.{code-is-cell}
use Rattle.code.proofs.Laws.Exact.{NoCell}
use Rattle.name.specs.Name.{name_of, name_code, name_refusal}
use Rattle.corner.specs.List.{codes_at}
use Rattle.name.specs.Laws.Name.{accepted, name-accepted, name-code-is, code-name}
use Rattle.reading.specs.Ground.{Covers, Apart}
use Rattle.reading.specs.Fewest.{FewestOf}
use Rattle.reading.specs.Text.{Accepted}
use Rattle.reading.specs.Written.{Allows}
use Rattle.reading.proofs.Laws.Written.{TextOf}
use Rattle.reader.specs.Check.{WrongVersion, checked_of}
use Rattle.listing.specs.List.{listing_refusal, listed, codes_of}
use Rattle.asking.specs.Ask.{ask_refusal, asked}
use Rattle.writing.specs.Write.{Another, asks_for, write_refusal, text_of, written}
use Rattle.locate.specs.Fix.{InRange}
use Rattle.authalic.specs.Authalic.{Geodetic}
use Rattle.geodetic.specs.GeodeticFix.{GeodeticRange}
use Rattle.entries.specs.Entries.{arrangement, code_of_cell, name_answer, parent_code, child_code, point_code, fix_code, neighbour_code, code_cell, written_name}
use Rattle.entries.specs.Entries.{cell_square, geodetic_z, geodetic_code, corner_cells}
use Rattle.entries.specs.Texts.{check_numbers, list_numbers, ask_numbers, written_numbers}
use Rattle.entries.specs.Order.{order, order_in_writing, numbers, in_order, NoneOf}
use Rattle.entries.proofs.Laws.Order.{given-exactly, none-exactly}
use Rattle.entries.specs.Refusals.{NoLetter, NoDigit, OnImage, code_tests, text_tests, cell_tests, name_tests, code_name_tests, parent_tests, child_tests}
use Rattle.entries.specs.Refusals.{corners_tests, point_tests, fix_tests, neighbour_tests, turns_of, list_tests, ask_tests, write_tests, z_tests, geodetic_tests}
use Rattle.entries.proofs.Laws.First.{name-refusal, cell-code-first, name-code-first, point-code-first, fix-code-first, neighbour-first, parent-first}
use Rattle.entries.proofs.Laws.First.{child-first, code-cell-first, code-name-first, corners-first, square-first, check-first, list-first, ask-first, write-first}
use Rattle.entries.proofs.Laws.First.{of-grammar, of-order, of-version, asked-profile, of-profile, z-first, geodetic-code-first, text-allowed}

-- ---- "Order where several apply"

module _ (n s k f i j code digit room version depth : ℕ) (x y : ℤ) (bytes codes : List ℕ) where
  pub in_order_lem :
      All (λ (ns : List ℕ). in_order order ns ≡ true)
      (numbers (cell_tests n s f k i j) ∷
      numbers (code_tests code) ∷
      numbers (name_tests n s bytes) ∷
      numbers (code_name_tests code room) ∷
      numbers (corners_tests code room) ∷
      numbers (parent_tests code) ∷
      numbers (child_tests code digit) ∷
      numbers (point_tests n s k x y) ∷
      numbers (fix_tests n s k x y) ∷
      numbers (z_tests x room) ∷
      numbers (geodetic_tests n s k x y room) ∷
      numbers (neighbour_tests code digit) ∷
      numbers (text_tests bytes) ∷
      numbers (list_tests bytes room) ∷
      numbers (ask_tests bytes code) ∷ [])
  unfolding in_order
  in_order_lem = (refl, (refl, (refl, (refl, (refl, (refl, (refl, (refl, (refl, (refl, (refl, (refl, (refl, (refl, (refl, tt)))))))))))))))

  -- "in writing, 13 is judged on the text of a good list, so there it comes last but for 8"
  pub in-order-writing : in_order order_in_writing (numbers (write_tests version depth n s codes room)) ≡ true
  unfolding in_order
  in-order-writing = refl

-- ---- of a cell's numbers

module _ (n s face k row column : ℕ) where
  -- 5: "n or s given as a number above 3"
  pub five-cell : ((code_of_cell n s face k row column).refusal ≡ 5) ↔ ((3 < n) ⊎ (3 < s))
  five-cell = given-exactly 4 (cell-code-first n s face k row column) refl

  -- 2: "resolution above 15"
  pub two-cell : ((code_of_cell n s face k row column).refusal ≡ 2) ↔ (((3 < n) ⊎ (3 < s) → ⊥) × (15 < k))
  two-cell = given-exactly 1 (cell-code-first n s face k row column) refl

  -- 1: "face above 5"
  pub one_cell : ((code_of_cell n s face k row column).refusal ≡ 1) ↔ (((3 < n) ⊎ (3 < s) → ⊥) × ((15 < k → ⊥) × (5 < face)))
  one_cell = given-exactly 0 (cell-code-first n s face k row column) refl

  -- 3: "row or column not below 3^k"
  pub three-cell :
      ((code_of_cell n s face k row column).refusal ≡ 3)
      ↔ (((3 < n) ⊎ (3 < s) → ⊥) × ((15 < k → ⊥) × ((5 < face → ⊥) × ((3 ^ k ≤ row) ⊎ (3 ^ k ≤ column)))))
  three-cell = given-exactly 2 (cell-code-first n s face k row column) refl

-- ---- of a name

module _ (n s : ℕ) (bytes : List ℕ) where
  -- 5: "n or s given as a number above 3"
  pub five-name : ((name_answer n s bytes).refusal ≡ 5) ↔ ((3 < n) ⊎ (3 < s))
  five-name = given-exactly 4 (name-code-first n s bytes) refl

  -- 2: "name over 16 bytes"
  pub two-name : ((name_answer n s bytes).refusal ≡ 2) ↔ (((3 < n) ⊎ (3 < s) → ⊥) × (16 < length bytes))
  two-name = given-exactly 1 (name-code-first n s bytes) refl

  -- 1: "empty name, first byte not N to S"
  pub one_name : ((name_answer n s bytes).refusal ≡ 1) ↔ (((3 < n) ⊎ (3 < s) → ⊥) × ((16 < length bytes → ⊥) × NoLetter bytes))
  one_name = given-exactly 0 (name-code-first n s bytes) refl

  -- 3: "later name byte not 0 to 8"
  pub three-name :
      ((name_answer n s bytes).refusal ≡ 3)
      ↔ (((3 < n) ⊎ (3 < s) → ⊥) × ((16 < length bytes → ⊥) × ((NoLetter bytes → ⊥) × Any NoDigit (drop 1 bytes))))
  three-name = given-exactly 2 (name-code-first n s bytes) refl

  -- so a name is accepted in an arrangement exactly when it is some cell's
  pub accepted-name : ((name_answer n s bytes).refusal ≡ 0) ↔ (IsArrangement (arrangement n s) × ((c : Cell) × IsCell c × (name_of c ≡ bytes)))
  accepted-name = (to, from)
    where
      to : (name_answer n s bytes).refusal ≡ 0 → IsArrangement (arrangement n s) × ((c : Cell) × IsCell c × (name_of c ≡ bytes))
      to e =
          let code : ℕ = name_code (arrangement n s) bytes in
          let k = both (arrangement_refusal (arrangement n s)) (name_refusal bytes) (sym (name-refusal n s bytes) ∙ e) in
          let g = is-arrangement k.0 in
          let a = accepted bytes k.1 in
          (g, (cell_of code, code-is-cell code (name-code-is bytes g a), code-name bytes g a))

      from : IsArrangement (arrangement n s) × ((c : Cell) × IsCell c × (name_of c ≡ bytes)) → (name_answer n s bytes).refusal ≡ 0
      from h =
          let c = h.1 in
          name-refusal n s bytes ∙ passes (name_refusal bytes) (arrangement-is h.0)
          ∙ subst (λ (bs : List ℕ). name_refusal bs ≡ 0) c.2 (name-accepted c.0 c.1)

-- ---- of a code

module _ (code : ℕ) where
  -- 4: "a code is no cell's"
  pub four-code : ((code_cell code).refusal ≡ 4) ↔ NoCell code
  four-code = given-exactly 3 (code-cell-first code) refl

  pub four-square : ((cell_square code).refusal ≡ 4) ↔ NoCell code
  four-square = given-exactly 3 (square-first code) refl

  -- 3: "direction above 3"
  pub three-direction : (d : ℕ) → ((neighbour_code code d).refusal ≡ 3) ↔ (3 < d)
  three-direction d = given-exactly 2 (neighbour-first code d) refl

  pub four-neighbour : (d : ℕ) → ((neighbour_code code d).refusal ≡ 4) ↔ ((3 < d → ⊥) × NoCell code)
  four-neighbour d = given-exactly 3 (neighbour-first code d) refl

  -- 12: "parent at resolution 0"
  pub twelve-parent : ((parent_code code).refusal ≡ 12) ↔ ((NoCell code → ⊥) × ((cell_of code).resolution ≡ 0))
  twelve-parent = given-exactly 11 (parent-first code) refl

  -- 3: "child digit above 8"
  pub three-child : (digit : ℕ) → ((child_code code digit).refusal ≡ 3) ↔ (8 < digit)
  three-child digit = given-exactly 2 (child-first code digit) refl

  -- 12: "child at 15"
  pub twelve-child : (digit : ℕ) → ((child_code code digit).refusal ≡ 12) ↔ ((8 < digit → ⊥) × ((NoCell code → ⊥) × ((cell_of code).resolution ≡ 15)))
  twelve-child digit = given-exactly 11 (child-first code digit) refl

  -- 8: "lent buffer shorter than the answer", a name
  pub eight-name : (room : ℕ) → ((written_name code room).refusal ≡ 8) ↔ ((NoCell code → ⊥) × (room < length (name_of (cell_of code))))
  eight-name room = given-exactly 7 (code-name-first code room) refl

  -- the same two of the list of cells at a corner
  pub four-corners : (room : ℕ) → ((corner_cells code room).refusal ≡ 4) ↔ NoCell code
  four-corners room = given-exactly 3 (corners-first code room) refl

  pub eight-corners : (room : ℕ) → ((corner_cells code room).refusal ≡ 8) ↔ ((NoCell code → ⊥) × (room < length (codes_at code)))
  eight-corners room = given-exactly 7 (corners-first code room) refl

-- ---- in an arrangement

module _ (n s : ℕ) where
  -- 5: "n or s given as a number above 3"
  pub five-fix : (k : ℕ) (L z : ℤ) → ((fix_code n s k L z).refusal ≡ 5) ↔ ((3 < n) ⊎ (3 < s))
  five-fix k L z = given-exactly 4 (fix-code-first n s k L z) refl

  pub five-point : (k : ℕ) (x y : ℤ) → ((point_code n s k x y).refusal ≡ 5) ↔ ((3 < n) ⊎ (3 < s))
  five-point k x y = given-exactly 4 (point-code-first n s k x y) refl

  -- 2: "resolution above 15"
  pub two-fix : (k : ℕ) (L z : ℤ) → ((fix_code n s k L z).refusal ≡ 2) ↔ (((3 < n) ⊎ (3 < s) → ⊥) × (15 < k))
  two-fix k L z = given-exactly 1 (fix-code-first n s k L z) refl

  pub two-point : (k : ℕ) (x y : ℤ) → ((point_code n s k x y).refusal ≡ 2) ↔ (((3 < n) ⊎ (3 < s) → ⊥) × (15 < k))
  two-point k x y = given-exactly 1 (point-code-first n s k x y) refl

  -- 6: "L or z out of range"
  pub six-fix : (k : ℕ) (L z : ℤ) → ((fix_code n s k L z).refusal ≡ 6) ↔ (((3 < n) ⊎ (3 < s) → ⊥) × ((15 < k → ⊥) × (InRange L z → ⊥)))
  six-fix k L z = given-exactly 5 (fix-code-first n s k L z) refl

  -- nothing is refused exactly when none of the conditions holds; so of every entry, by `none-exactly`
  pub zero-fix : (k : ℕ) (L z : ℤ) → ((fix_code n s k L z).refusal ≡ 0) ↔ NoneOf (fix_tests n s k L z)
  zero-fix k L z = none-exactly (fix-code-first n s k L z) refl

  -- 6: "also for S or E out of range" (02, W-203), after 5 and 2
  pub five-geodetic : (k : ℕ) (L S : ℤ) (E : ℕ) → ((geodetic_code n s k L S E).refusal ≡ 5) ↔ ((3 < n) ⊎ (3 < s))
  five-geodetic k L S E = given-exactly 4 (geodetic-code-first n s k L S E) refl

  pub two-geodetic : (k : ℕ) (L S : ℤ) (E : ℕ) → ((geodetic_code n s k L S E).refusal ≡ 2) ↔ (((3 < n) ⊎ (3 < s) → ⊥) × (15 < k))
  two-geodetic k L S E = given-exactly 1 (geodetic-code-first n s k L S E) refl

  pub six-geodetic :
      (k : ℕ) (L S : ℤ) (E : ℕ) → ((geodetic_code n s k L S E).refusal ≡ 6) ↔ (((3 < n) ⊎ (3 < s) → ⊥) × ((15 < k → ⊥) × (GeodeticRange L S E → ⊥)))
  six-geodetic k L S E = given-exactly 5 (geodetic-code-first n s k L S E) refl

  -- 7: "planar point outside the image"
  pub seven-point : (k : ℕ) (x y : ℤ) → ((point_code n s k x y).refusal ≡ 7) ↔ (((3 < n) ⊎ (3 < s) → ⊥) × ((15 < k → ⊥) × (OnImage n s x y → ⊥)))
  seven-point k x y = given-exactly 6 (point-code-first n s k x y) refl

-- ---- of a sine

-- 6: "also for S or E out of range" (02, W-203)
pub six-z : (S : ℤ) (E : ℕ) → ((geodetic_z S E).refusal ≡ 6) ↔ (Geodetic S E → ⊥)
six-z S E = given-exactly 5 (z-first S E) refl

-- ---- of a text that is read

module _ (t : List ℕ) where
  -- 13: "text longer than 65,536 bytes, read .."
  pub thirteen-check : ((check_numbers (checked_of t)).refusal ≡ 13) ↔ (65536 < length t)
  thirteen-check = given-exactly 12 (check-first t) refl

  -- 10: "five bytes or more, mark right", version "neither 1 nor 2"
  pub ten-check : ((check_numbers (checked_of t)).refusal ≡ 10) ↔ ((65536 < length t → ⊥) × WrongVersion t)
  ten-check = given-exactly 9 (check-first t) refl

  -- 9: "text not of the grammar"
  pub nine-check : ((check_numbers (checked_of t)).refusal ≡ 9) ↔ ((65536 < length t → ⊥) × ((WrongVersion t → ⊥) × (Accepted t → ⊥)))
  nine-check = given-exactly 8 (check-first t) refl

  -- 8: "lent buffer shorter than the answer", a list
  pub eight-list :
      (room : ℕ) →
      ((list_numbers (listed (listing_refusal t room) t)).refusal ≡ 8)
      ↔ ((65536 < length t → ⊥) × ((WrongVersion t → ⊥) × (Accepted t × (room < length (codes_of t)))))
  eight-list room =
      let k = given-exactly 7 (list-first t room) refl in (
        (λ e. let a = k.0 e in (a.0, (a.1.0, (of-grammar t a.1.1.0, a.1.1.1)))),
        (λ a. k.1 (a.0, (a.1.0, ((λ n. n a.1.1.0), a.1.1.1)))),
      )

-- ---- asking

module _ (t : List ℕ) (code : ℕ) where
  -- what jgv_coverage_ask refuses
  abbrev refused_ask : ℕ
  refused_ask = (ask_numbers (asked (ask_refusal t code) t code)).refusal

  -- 4: "a code is no cell's"
  pub four-ask : (refused_ask ≡ 4) ↔ NoCell code
  four-ask = given-exactly 3 (ask-first t code) refl

  -- 14: "asked arrangement differs from the heading's", the asked one being the code's
  pub fourteen-ask :
      (refused_ask ≡ 14) ↔ ((NoCell code → ⊥) × ((65536 < length t → ⊥) × ((WrongVersion t → ⊥) × (Accepted t × (take 2 (drop 5 t) ≡ turns_of code → ⊥)))))
  fourteen-ask =
      let k = given-exactly 13 (ask-first t code) refl in (
        (λ e. let a = k.0 e in let b = a.1 in (a.0, (b.0, (b.1.0, (of-grammar t b.1.1.0, b.1.1.1))))),
        (λ a. let b = a.1 in k.1 (a.0, (b.0, (b.1.0, ((λ m. m b.1.1.0), b.1.1.1))))),
      )

-- ---- writing

module _ (version depth n s : ℕ) (codes : List ℕ) (room : ℕ) where
  -- the length of the text, and what jgv_coverage_write refuses
  abbrev long : ℕ
  long = length (text_of (asks_for version depth) (arrangement n s) codes)

  abbrev refused_write : ℕ
  refused_write = (written_numbers (written (write_refusal version depth (arrangement n s) codes room) long)).refusal

  -- what none of 5, 2 and 4 says: n and s are at most 3, the depth is at most 15, and all are codes
  abbrev Asked : Type 0 → Type 0
  Asked More = ((3 < n) ⊎ (3 < s) → ⊥) × ((15 < depth → ⊥) × ((Any NoCell codes → ⊥) × More))

  -- and what none of 10, 14 and 11 says: a good list, for a version that there is
  abbrev Listed : Type 0 → Type 0
  Listed More =
      Asked (((version ≡ 1) ⊎ (version ≡ 2)) × ((Another (arrangement n s) codes → ⊥) × ((Rise codes × Apart (map cell_of codes)) × More)))

  -- 5: "n or s given as a number above 3"
  pub five-write : (refused_write ≡ 5) ↔ ((3 < n) ⊎ (3 < s))
  five-write = given-exactly 4 (write-first version depth n s codes room) refl

  -- 2: "also for an asked depth above 15, at version 1 too"
  pub two-write : (refused_write ≡ 2) ↔ (((3 < n) ⊎ (3 < s) → ⊥) × (15 < depth))
  two-write = given-exactly 1 (write-first version depth n s codes room) refl

  -- 4: "a code is no cell's"
  pub four-write : (refused_write ≡ 4) ↔ (((3 < n) ⊎ (3 < s) → ⊥) × ((15 < depth → ⊥) × Any NoCell codes))
  four-write = given-exactly 3 (write-first version depth n s codes room) refl

  -- 10: "neither 1 nor 2, asked of the writer too"
  pub ten-write : (refused_write ≡ 10) ↔ Asked ((version ≡ 1) ⊎ (version ≡ 2) → ⊥)
  ten-write = given-exactly 9 (write-first version depth n s codes room) refl

  -- 14: "also for a list .. of another arrangement, still before 11"
  pub fourteen-write : (refused_write ≡ 14) ↔ Asked (((version ≡ 1) ⊎ (version ≡ 2)) × Another (arrangement n s) codes)
  fourteen-write =
      let k = given-exactly 13 (write-first version depth n s codes room) refl in (
        (λ e. let a = k.0 e in let b = a.1.1 in (a.0, (a.1.0, (b.0, (of-version version b.1.0, b.1.1))))),
        (λ a. let b = a.1.1 in k.1 (a.0, (a.1.0, (b.0, ((λ m. m b.1.0), b.1.1))))),
      )

  -- 11: "list not strictly rising, or one cell inside another"
  pub eleven-write :
      (refused_write ≡ 11)
      ↔ Asked (((version ≡ 1) ⊎ (version ≡ 2)) × ((Another (arrangement n s) codes → ⊥) × (Rise codes × Apart (map cell_of codes) → ⊥)))
  eleven-write =
      let k = given-exactly 10 (write-first version depth n s codes room) refl in (
        (λ e. let a = k.0 e in let b = a.1.1 in (a.0, (a.1.0, (b.0, (of-version version b.1.0, b.1.1))))),
        (λ a. let b = a.1.1 in k.1 (a.0, (a.1.0, (b.0, ((λ m. m b.1.0), b.1.1))))),
      )

  -- 15: "list outside the profile": no accepted text of the heading has its ground
  pub fifteen-write : (refused_write ≡ 15) ↔ Listed (TextOf (asks_for version depth) n s (map cell_of codes) → ⊥)
  fifteen-write =
      let k = given-exactly 14 (write-first version depth n s codes room) refl in (
        (λ e.
            let a = k.0 e in
            let b = a.1.1 in
            let c = b.1.1 in
            (a.0, (a.1.0, (b.0, (of-version version b.1.0, (c.0, (of-order (arrangement n s) codes b.0 c.0 c.1.0, c.1.1))))))),
        (λ a.
            let b = a.1.1 in
            let c = b.1.1 in
            k.1 (a.0, (a.1.0, (b.0, ((λ m. m b.1.0), (c.0, ((λ m. m c.1.0), c.1.1))))))),
      )

  -- "A good list is outside the profile exactly when the fewest cells of its ground break it"
  pub fifteen-cells :
      (few : List Cell) → FewestOf (Covers (map cell_of codes)) few → (refused_write ≡ 15) ↔ Listed (All (Allows (asks_for version depth)) few → ⊥)
  fifteen-cells few f =
      let k : ((3 < n) ⊎ (3 < s) → ⊥) → (15 < depth → ⊥) → (Any NoCell codes → ⊥) → TextOf (asks_for version depth) n s (map cell_of codes) ↔ All (Allows (asks_for version depth)) few =
      λ a d c. text-allowed (asks_for version depth) n s codes (asked-profile version depth d) a c few f in (
        (λ e.
            let a = fifteen-write.0 e in
            let b = a.1.1 in
            (a.0, (a.1.0, (b.0, (b.1.0, (b.1.1.0, (b.1.1.1.0, (λ h. b.1.1.1.1 ((k a.0 a.1.0 b.0).1 h))))))))),
        (λ a.
            let b = a.1.1 in
            fifteen-write.1
            (a.0, (a.1.0, (b.0, (b.1.0, (b.1.1.0, (b.1.1.1.0, (λ t. b.1.1.1.1 ((k a.0 a.1.0 b.0).0 t))))))))),
      )

  -- behind 15
  module _ {More : Type 0} where
    inside : ((3 < n) ⊎ (3 < s) → ⊥) × ((15 < depth → ⊥) × ((Any NoCell codes → ⊥) × ((((version ≡ 1) ⊎ (version ≡ 2) → ⊥) → ⊥)
        × ((Another (arrangement n s) codes → ⊥) × (((Rise codes × Apart (map cell_of codes) → ⊥) → ⊥)
        × (((TextOf (asks_for version depth) n s (map cell_of codes) → ⊥) → ⊥) × More))))))
        → Listed (TextOf (asks_for version depth) n s (map cell_of codes) × More)
    inside a =
        let b = a.1.1 in
        let c = b.1.1 in
        let t = of-profile (asks_for version depth) n s codes (asked-profile version depth a.1.0) a.0 b.0 c.1.1.0 in
        (a.0, (a.1.0, (b.0, (of-version version b.1.0, (c.0, (of-order (arrangement n s) codes b.0 c.0 c.1.0, (t, c.1.1.1)))))))

    outside : Listed (TextOf (asks_for version depth) n s (map cell_of codes) × More)
        → ((3 < n) ⊎ (3 < s) → ⊥) × ((15 < depth → ⊥) × ((Any NoCell codes → ⊥) × ((((version ≡ 1) ⊎ (version ≡ 2) → ⊥) → ⊥)
        × ((Another (arrangement n s) codes → ⊥) × (((Rise codes × Apart (map cell_of codes) → ⊥) → ⊥)
        × (((TextOf (asks_for version depth) n s (map cell_of codes) → ⊥) → ⊥) × More))))))
    outside a =
        let b = a.1.1 in
        let c = b.1.1 in
        (a.0, (a.1.0, (b.0, ((λ m. m b.1.0), (c.0, ((λ m. m c.1.0), ((λ m. m c.1.1.0), c.1.1.1)))))))

  -- 13: "text longer than 65,536 bytes, .. to be written", "judged on the text of a good list"
  pub thirteen-write : (refused_write ≡ 13) ↔ Listed (TextOf (asks_for version depth) n s (map cell_of codes) × (65536 < long))
  thirteen-write = let k = given-exactly 12 (write-first version depth n s codes room) refl in ((λ e. inside (k.0 e)), (λ a. k.1 (outside a)))

  -- 8: "lent buffer shorter than the answer", a text
  pub eight-write : (refused_write ≡ 8) ↔ Listed (TextOf (asks_for version depth) n s (map cell_of codes) × ((65536 < long → ⊥) × (room < long)))
  eight-write = let k = given-exactly 7 (write-first version depth n s codes room) refl in ((λ e. inside (k.0 e)), (λ a. k.1 (outside a)))
