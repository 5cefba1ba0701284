-- Names and cells: every name is one cell's and every cell has one name, and a name begins another exactly when the one's cell has the other's inside.
-- Assumes nothing.
use Rattle.std.specs.Prelude.{◌≡◌, refl, List, [], ◌∷◌, ◌++◌, map, length}
use Rattle.std.proofs.Common.{sym, ap₂, ◌∙◌, inl, inr, append_assoc, append-nil, mul_comm, mul_assoc, add-mul, zero-mul, div-one, length-append}
use Rattle.std.proofs.Math.Path.{ap}
use Rattle.std.proofs.lemmas.List.{map-append, length-map}
use Prim.Native.Nat.{ℕ, zero, suc, ◌+◌, ◌-◌, ◌*◌, ◌/◌, ◌%◌, ◌^◌, ◌<◌}
use Rattle.std.proofs.Math.Nat.{pow-suc, div-div-eq-div-mul, div-eq_of_lt, mul-add-div_right}
use native.Mathlib.Omega.{arith}
use Rattle.logic.specs.Laws.Lists.{all_map, any-map}
use Rattle.ternary.specs.Digits.{value, Below}
use Rattle.ternary.proofs.Laws.Digits.{value-snoc, value-below, value-one}
use Rattle.ternary.proofs.Laws.Powers.{power-add, power_pos}
use Rattle.cell.specs.declared.Cell.{Cell}
use Rattle.cell.specs.Cell.{IsCell}
use Rattle.code.specs.Code.{digits_of}
use Rattle.code.proofs.Laws.Code.{length-digits-of, digits-of-below}
use Rattle.code.specs.Inside.{Inside}
use Rattle.reading.specs.Ground.{cell_named, Finest, Covers, SameGround, Cells}
use Rattle.reading.specs.Prefix.{Name, numbers_of, Prefix, Covered, FinestName, SameNames, IsName, AreNames}
use Rattle.reading.proofs.Laws.Ground.{below-digs, digs-below}

-- ---- a digit is 3 times that of the row plus that of the column

-- the part of a digit that is the row's or the column's, and that of the two numbers which it is a digit of
record Part (f : ℕ → ℕ) (of : (i j : ℕ) → ℕ) : Type 0 where
  small : (d : ℕ) → d < 9 → f d < 3
  front : (i j : ℕ) → of (i / 3) (j / 3) ≡ of i j / 3
  last : (i j : ℕ) → f (3 * (i % 3) + j % 3) ≡ of i j % 3

rows : Part (λ d. d / 3) (λ i j. i)
rows = record { small = λ d h. omega arith; front = λ i j. refl; last = λ i j. omega arith }

columns : Part (λ d. d % 3) (λ i j. j)
columns = record { small = λ d h. omega arith; front = λ i j. refl; last = λ i j. omega arith }

module _ {f : ℕ → ℕ} {of : (i j : ℕ) → ℕ} (P : Part f of) where
  parts_below : (ds : List ℕ) → Below 9 ds → Below 3 (map f ds)
  parts_below [] h = tt
  parts_below (d ∷ ds) h = (P.small d h.0, parts_below ds h.1)

  parts-small : (ds : List ℕ) → Below 9 ds → value 3 (map f ds) < 3 ^ length ds
  parts-small ds h = let e = length-map ds f in rw e at (value-below 3 (map f ds) (parts_below ds h))

  -- the parts of a cell's digits make its row, or its column
  parts-digits : (k i j : ℕ) → of i j < 3 ^ k → value 3 (map f (digits_of k i j)) ≡ of i j
  unfolding digits_of value
  parts-digits zero i j h = omega arith
  parts-digits (suc k) i j h =
      let ds = digits_of k (i / 3) (j / 3) in
      let d = 3 * (i % 3) + j % 3 in
      let a = P.front i j in
      let e : value 3 (map f ds) ≡ of (i / 3) (j / 3) = parts-digits k (i / 3) (j / 3) (omega (arith, pow-suc 3 k)) in
      ap (value 3) (map-append f ds (d ∷ [])) ∙ value-snoc 3 (map f ds) (f d) ∙ omega (arith, P.last i j)

  -- and no other digits do
  parts-back : (ds : List ℕ) (i j : ℕ) → Below 9 ds → of i j ≡ value 3 (map f ds) → map f (digits_of (length ds) i j) ≡ map f ds
  parts-back ds i j b e =
      let es : List ℕ = digits_of (length ds) i j in
      let m : length es ≡ length ds = length-digits-of (length ds) i j in
      value-one 3 (map f es) (map f ds) (parts_below es (digits-of-below (length ds) i j)) (parts_below ds b)
      (length-map es f ∙ m ∙ sym (length-map ds f))
      (parts-digits (length ds) i j (omega (arith, parts-small ds b)) ∙ e)

both-parts : (ds es : List ℕ) → map (λ d. d / 3) ds ≡ map (λ d. d / 3) es → map (λ d. d % 3) ds ≡ map (λ d. d % 3) es → ds ≡ es
both-parts [] [] p q = refl
both-parts [] (e ∷ es) p q = absurd (omega (arith, ap length p))
both-parts (d ∷ ds) [] p q = absurd (omega (arith, ap length p))
both-parts (d ∷ ds) (e ∷ es) p q =
    let i : d / 3 ≡ e / 3 = cc in
    let j : d % 3 ≡ e % 3 = cc in
    ap₂ ◌∷◌ (omega arith) (both-parts ds es (cc) (cc))

-- ---- a name is a cell's

pub named-cell : (q : Name) → IsName 6 15 q → IsCell (cell_named q)
unfolding cell_named
named-cell [] n = absurd n
named-cell (f ∷ ds) n = record { fine = n.1; faced = omega (arith, n.0); rowed = parts-small rows ds n.2; columned = parts-small columns ds n.2 }

-- ---- a cell has a name

pub cell-is-named : (x : Cell) → IsCell x → IsName 6 15 (numbers_of x)
unfolding numbers_of
cell-is-named x v =
    (omega (arith, v.faced), omega (arith, v.fine, length-digits-of x.resolution x.row x.column), digits-of-below x.resolution x.row x.column)

pub cell-named : (x : Cell) → IsCell x → cell_named (numbers_of x) ≡ x
unfolding cell_named numbers_of
cell-named x v =
    λ i. record {
      face = x.face;
      resolution = length-digits-of x.resolution x.row x.column i;
      row = parts-digits rows x.resolution x.row x.column v.rowed i;
      column = parts-digits columns x.resolution x.row x.column v.columned i;
    }

-- ---- and no other

pub name-named : (q : Name) → IsName 6 15 q → numbers_of (cell_named q) ≡ q
unfolding cell_named numbers_of
name-named [] n = absurd n
name-named (f ∷ ds) n =
    let k : ℕ = length ds in
    let i : ℕ = value 3 (map (λ d. d / 3) ds) in
    let j : ℕ = value 3 (map (λ d. d % 3) ds) in
    ap (λ (x : List ℕ). f ∷ x) (both-parts (digits_of k i j) ds (parts-back rows ds i j n.2 refl) (parts-back columns ds i j n.2 refl))

pub only-name : {x : Cell} (q : Name) → IsName 6 15 q → cell_named q ≡ x → q ≡ numbers_of x
only-name q n e = sym (name-named q n) ∙ ap numbers_of e

-- ---- what lies inside has the name in front

-- the last r digits, and the digits of the row and the column without theirs
digits_append : (k r i j : ℕ) → digits_of (k + r) i j ≡ digits_of k (i / 3 ^ r) (j / 3 ^ r) ++ digits_of r i j
unfolding digits_of
digits_append k zero i j =
    let e : k + 0 ≡ k = omega arith in
    ap (λ (x : ℕ). digits_of x i j) e ∙ sym (append-nil (digits_of k (i / 1) (j / 1)) ∙ ap₂ (digits_of k) (div-one i) (div-one j))
digits_append k (suc r) i j =
    let e : k + suc r ≡ suc (k + r) = omega arith in
    let t : 3 * 3 ^ r ≡ 3 ^ suc r = mul_comm 3 (3 ^ r) ∙ sym (pow-suc 3 r) in
    let d : List ℕ = (3 * (i % 3) + j % 3) ∷ [] in
    let f : (x : ℕ) → x / 3 / 3 ^ r ≡ x / 3 ^ suc r = λ x. div-div-eq-div-mul x 3 (3 ^ r) ∙ ap (λ (y : ℕ). x / y) t in
    ap (λ (x : ℕ). digits_of x i j) e
    ∙ ap (λ (x : List ℕ). x ++ d) (digits_append k r (i / 3) (j / 3))
    ∙ append_assoc (digits_of k (i / 3 / 3 ^ r) (j / 3 / 3 ^ r)) (digits_of r (i / 3) (j / 3)) d
    ∙ ap₂ (λ (x y : ℕ). digits_of k x y ++ digits_of (suc r) i j) (f i) (f j)

prefix-append : (q p : Name) → Prefix q (q ++ p)
prefix-append [] p = tt
prefix-append (a ∷ q) p = (refl, prefix-append q p)

pub inside-prefix : (c x : Cell) → Inside c x → Prefix (numbers_of c) (numbers_of x)
unfolding numbers_of
inside-prefix c x i =
    let r : ℕ = x.resolution - c.resolution in
    let k : x.resolution ≡ c.resolution + r = omega (arith, i.finer) in
    let e : digits_of x.resolution x.row x.column ≡ digits_of c.resolution c.row c.column ++ digits_of r x.row x.column =
    ap (λ (y : ℕ). digits_of y x.row x.column) k
    ∙ digits_append c.resolution r x.row x.column
    ∙ ap₂ (λ (a b : ℕ). digits_of c.resolution a b ++ digits_of r x.row x.column) i.row i.column in
    (sym i.face, rw e (prefix-append (digits_of c.resolution c.row c.column) (digits_of r x.row x.column)))

-- ---- what has the name in front lies inside

rest_of : (q p : Name) → Prefix q p → (s : Name) × (p ≡ q ++ s)
rest_of [] p h = (p, refl)
rest_of (a ∷ q) [] h = absurd h
rest_of (a ∷ q) (b ∷ p) h = let e = rest_of q p h.1 in (e.0, ap₂ ◌∷◌ (sym h.0) e.1)

below_rest : (b : ℕ) (ds es : List ℕ) → Below b (ds ++ es) → Below b es
below_rest b [] es h = h
below_rest b (d ∷ ds) es h = below_rest b ds es h.1

value-append : (ds es : List ℕ) → value 3 (ds ++ es) ≡ value 3 ds * 3 ^ length es + value 3 es
unfolding value
value-append [] es = omega (arith, zero-mul (3 ^ length es))
value-append (d ∷ ds) es =
    let n = length ds in
    let m = length es in
    let p : d * 3 ^ length (ds ++ es) ≡ d * 3 ^ n * 3 ^ m =
    ap (λ (x : ℕ). d * 3 ^ x) (length-append ds es) ∙ ap (λ (x : ℕ). d * x) (power-add n m) ∙ sym (mul_assoc d (3 ^ n) (3 ^ m)) in
    let q : value 3 (ds ++ es) ≡ value 3 ds * 3 ^ m + value 3 es = value-append ds es in
    let r : (d * 3 ^ n + value 3 ds) * 3 ^ m ≡ d * 3 ^ n * 3 ^ m + value 3 ds * 3 ^ m = add-mul (d * 3 ^ n) (value 3 ds) (3 ^ m) in
    omega arith

-- a number without its last digits is the value of the digits in front
value-front : (ds es : List ℕ) → Below 3 es → value 3 (ds ++ es) / 3 ^ length es ≡ value 3 ds
value-front ds es h =
    ap (λ (x : ℕ). x / 3 ^ length es) (value-append ds es)
    ∙ mul-add-div_right (power_pos (length es)) (value 3 ds) (value 3 es)
    ∙ (let z = div-eq_of_lt (value-below 3 es h) in omega arith)

-- of digits that others begin, the row or the column is the others', with more digits
parts-front :
    {f : ℕ → ℕ} {of : (i j : ℕ) → ℕ} (P : Part f of) (k m i j i' j' : ℕ) (es : List ℕ) → digits_of m i' j' ≡ digits_of k i j ++ es → length es ≡ m - k →
    of i j < 3 ^ k → of i' j' < 3 ^ m → of i' j' / 3 ^ (m - k) ≡ of i j
parts-front {f} {of} P k m i j i' j' es e n h h' =
    let ds : List ℕ = digits_of k i j in
    let b : Below 9 es = below_rest 9 ds es (rw e at (digits-of-below m i' j')) in
    let x : value 3 (map f ds ++ map f es) ≡ of i' j' = ap (value 3) (sym (map-append f ds es) ∙ ap (map f) (sym e)) ∙ parts-digits P m i' j' h' in
    ap₂ (λ (y z : ℕ). y / 3 ^ z) (sym x) (sym n ∙ sym (length-map es f)) ∙ value-front (map f ds) (map f es) (parts_below P es b) ∙ parts-digits P k i j h

pub prefix-inside : (c x : Cell) → IsCell c → IsCell x → Prefix (numbers_of c) (numbers_of x) → Inside c x
unfolding numbers_of
prefix-inside c x v w h =
    let ds : List ℕ = digits_of c.resolution c.row c.column in
    let xs : List ℕ = digits_of x.resolution x.row x.column in
    let k = rest_of ds xs h.1 in
    let es : List ℕ = k.0 in
    let e : xs ≡ ds ++ es = k.1 in
    let m : length ds ≡ c.resolution = length-digits-of c.resolution c.row c.column in
    let l : length xs ≡ x.resolution = length-digits-of x.resolution x.row x.column in
    let n : length es ≡ x.resolution - c.resolution = omega (arith, ap length e, length-append ds es) in
    record {
      face = sym h.0;
      finer = omega (arith, ap length e, length-append ds es);
      row = parts-front rows c.resolution x.resolution c.row c.column x.row x.column es e n v.rowed w.rowed;
      column = parts-front columns c.resolution x.resolution c.row c.column x.row x.column es e n v.columned w.columned;
    }

-- ---- lists of cells and of names

pub covers-covered : (qs : List Cell) (x : Cell) → Covers qs x → Covered (map numbers_of qs) (numbers_of x)
covers-covered qs x = any-map (λ (q : Cell). Inside q x) (λ (q : Name). Prefix q (numbers_of x)) numbers_of (λ q. inside-prefix q x) qs

pub covered-covers : (qs : List Cell) (x : Cell) → Cells qs → IsCell x → Covered (map numbers_of qs) (numbers_of x) → Covers qs x
covered-covers [] x c w h = h
covered-covers (q ∷ qs) x c w (inl h) = inl (prefix-inside q x c.0 w h)
covered-covers (q ∷ qs) x c w (inr h) = inr (covered-covers qs x c.1 w h)

pub cells-named : (qs : List Name) → AreNames 6 15 qs → Cells (map cell_named qs)
cells-named = all_map (IsName 6 15) IsCell cell_named named-cell

pub names-named : (qs : List Name) → AreNames 6 15 qs → map numbers_of (map cell_named qs) ≡ qs
names-named [] n = refl
names-named (q ∷ qs) n = ap₂ ◌∷◌ (name-named q n.0) (names-named qs n.1)

pub names-of-cells : (qs : List Cell) → Cells qs → AreNames 6 15 (map numbers_of qs)
names-of-cells = all_map IsCell (IsName 6 15) numbers_of cell-is-named

-- ---- ground

pub finest-named : (p : Name) → FinestName 6 15 p → Finest (cell_named p) × (numbers_of (cell_named p) ≡ p)
unfolding cell_named
finest-named [] h = absurd h
finest-named (x ∷ p) h =
    let e = digs-below 15 p h.1 in
    let n : IsName 6 15 (x ∷ p) = (h.0, omega (arith, e.0), e.1) in
    (record { cell = named-cell (x ∷ p) n; finest = e.0 }, name-named (x ∷ p) n)

-- cells of one ground have names of one ground
pub ground-names : (qs ps : List Cell) → Cells qs → Cells ps → SameGround qs ps → SameNames 6 15 (map numbers_of qs) (map numbers_of ps)
ground-names qs ps a b f p h =
    let k = finest-named p h in
    let y : Cell = cell_named p in
    let g = f y k.0 in (
      (λ c. rw k.1 at (covers-covered ps y (g.0 (covered-covers qs y a k.0.cell (rw k.1 c))))),
      (λ c. rw k.1 at (covers-covered qs y (g.1 (covered-covers ps y b k.0.cell (rw k.1 c))))),
    )

-- a finest cell has a finest name
pub finest-name : (x : Cell) → Finest x → FinestName 6 15 (numbers_of x)
unfolding numbers_of
finest-name x f =
    let ds : List ℕ = digits_of x.resolution x.row x.column in
    let e : length ds ≡ 15 = length-digits-of x.resolution x.row x.column ∙ f.finest in
    (omega (arith, f.cell.faced), rw e at (below-digs ds (digits-of-below x.resolution x.row x.column)))

-- cells whose names cover the same have the same ground
pub names-ground : (qs ps : List Cell) → Cells qs → Cells ps → SameNames 6 15 (map numbers_of qs) (map numbers_of ps) → SameGround qs ps
names-ground qs ps a b f x v =
    let k = f (numbers_of x) (finest-name x v) in (
      (λ h. covered-covers ps x b v.cell (k.0 (covers-covered qs x h))),
      (λ h. covered-covers qs x a v.cell (k.1 (covers-covered ps x h))),
    )
