-- The letters and digits of a reading name cells, whose codes rise strictly in the order they stand: a parent before what is inside it. Assumes nothing.
use Rattle.std.specs.Prelude.{◌≡◌, refl, ◌⊎◌, List, [], ◌∷◌, ◌++◌, map, ℕ, zero, suc, ◌+◌, ◌-◌, ◌*◌, ◌^◌, ◌≤◌, ◌<◌, length}
use Rattle.std.proofs.Common.{ap, inl, inr, ⊎_elim, suc-mul, zero-mul, mul-le-mul_right, arith}
use Rattle.logic.specs.Lists.{All, Pairwise}
use Rattle.logic.specs.Laws.Lists.{all_append, all_map, all-each}
use Rattle.ternary.specs.Digits.{value, Below}
use Rattle.ternary.proofs.Laws.Powers.{nine-pos}
use Rattle.cell.specs.declared.Cell.{Cell}
use Rattle.cell.specs.Cell.{IsCell}
use Rattle.code.specs.Code.{cell_code}
use Rattle.code.proofs.Laws.Inside.{start-code}
use Rattle.reading.specs.declared.Level.{Level}
use Rattle.reading.specs.declared.Level.TheVariants.{Digits}
use Rattle.reading.specs.Reading.{Nodes, end, whole, listed, OfFaces, many, room, Good}
use Rattle.reading.proofs.Laws.Reading.{room-le, six-faces}
use Rattle.reading.specs.Ground.{Cells, Rising}
use Rattle.reading.specs.Prefix.{Name, numbers_of, IsName, AreNames}
use Rattle.reading.specs.Text.{Reads}
use Rattle.reading.proofs.Laws.Named.{cells-named, names-named}
use Rattle.reading.proofs.Laws.Rising.{From, from_less, rank, rank-cons, rank-end, start-rank, length-name, name_below}
use Rattle.reading.proofs.Laws.Fewest.{name-longer}
use Rattle.reading.specs.Letters.{letters, letter_cells}

-- ---- the order of names: at the first number that differs q has the smaller one, or p goes on where q ends

abbrev Sooner : (q p : Name) → Type 0
Sooner [] [] = ⊥
Sooner [] (b ∷ p) = Unit {0}
Sooner (a ∷ q) [] = ⊥
Sooner (a ∷ q) (b ∷ p) = (a < b) ⊎ ((a ≡ b) × Sooner q p)

-- ---- the names stand in this order

letters-from : (ns : Nodes) (l : Level) (d lo : ℕ) → Good l d lo ns → All (From lo) (letters ns)
letters-from end l d lo g = tt
letters-from (whole c ns) l d lo g =
    (g.0, all-each (From (suc c)) (From lo) (from_less lo (suc c) (omega arith)) (letters ns) (letters-from ns l d (suc c) g.2))
letters-from (listed c is ns) l d lo g = (
  g.0,
  all_append (From lo) (map (λ (q : Name). c ∷ q) (letters is)) (letters ns)
      (all_map (From 0) (From lo) (λ q. c ∷ q) (λ q h. g.0) (letters is) (letters-from is Digits (room l c d - 1) 0 g.5))
      (all-each (From (suc c)) (From lo) (from_less lo (suc c) (omega arith)) (letters ns) (letters-from ns l d (suc c) g.6)),
)

sooner-from : (c : ℕ) (q p : Name) → From (suc c) p → Sooner (c ∷ q) p
sooner-from c q [] h = absurd h
sooner-from c q (x ∷ p) h = inl h

-- a parent before what is inside it
sooner-child : (c : ℕ) (p : Name) → From 0 p → Sooner (c ∷ []) (c ∷ p)
sooner-child c [] h = absurd h
sooner-child c (x ∷ p) h = inr (refl, tt)

-- what is sooner than the names in a list, and than those behind it
sooner-list :
    (c : ℕ) (q : Name) (P : Name → Type 0) → ((p : Name) → P p → Sooner (c ∷ q) (c ∷ p)) → (a b : List Name) → All P a → All (From (suc c)) b →
    All (Sooner (c ∷ q)) (map (λ (p : Name). c ∷ p) a ++ b)
sooner-list c q P h a b g f =
    all_append (Sooner (c ∷ q)) (map (λ (p : Name). c ∷ p) a) b (all_map P (Sooner (c ∷ q)) (λ p. c ∷ p) h a g)
    (all-each (From (suc c)) (Sooner (c ∷ q)) (sooner-from c q) b f)

row_list : (c : ℕ) (a b : List Name) → Pairwise Sooner a → All (From (suc c)) b → Pairwise Sooner b → Pairwise Sooner (map (λ (q : Name). c ∷ q) a ++ b)
row_list c [] b g f h = h
row_list c (q ∷ a) b g f h = (sooner-list c q (Sooner q) (λ p k. inr (refl, k)) a b g.0 f, row_list c a b g.1 f h)

letters-row : (ns : Nodes) (l : Level) (d lo : ℕ) → Good l d lo ns → Pairwise Sooner (letters ns)
letters-row end l d lo g = tt
letters-row (whole c ns) l d lo g =
    (all-each (From (suc c)) (Sooner (c ∷ [])) (sooner-from c []) (letters ns) (letters-from ns l d (suc c) g.2), letters-row ns l d (suc c) g.2)
letters-row (listed c is ns) l d lo g =
    let later : All (From (suc c)) (letters ns) = letters-from ns l d (suc c) g.6 in
    let inner : All (From 0) (letters is) = letters-from is Digits (room l c d - 1) 0 g.5 in (
      sooner-list c [] (From 0) (sooner-child c) (letters is) (letters ns) inner later,
      row_list c (letters is) (letters ns) (letters-row is Digits (room l c d - 1) 0 g.5) later (letters-row ns l d (suc c) g.6),
    )

-- ---- and so do the codes

sooner-rank :
    (r : ℕ) (q p : Name) → Below 9 q → length q ≤ r → length p ≤ r → Sooner q p →
    (rank r q < rank r p) ⊎ ((rank r q ≤ rank r p) × (length q < length p))
unfolding rank value
sooner-rank r [] [] b h k f = absurd f
sooner-rank r [] (y ∷ p) b h k f = inr (omega (arith, zero-mul (9 ^ (r - 0))), omega arith)
sooner-rank r (x ∷ q) [] b h k f = absurd f
sooner-rank zero (x ∷ q) (y ∷ p) b h k f = absurd (omega arith)
sooner-rank (suc r) (x ∷ q) (y ∷ p) b h k f =
    let i = rank-cons r x q (omega arith) in
    let j = rank-cons r y p (omega arith) in
    ⊎_elim
    (λ g.
    let s = rank-end r q b.1 (omega arith) in
    let n = nine-pos (r - length q) in
    let t : suc x * 9 ^ r ≤ y * 9 ^ r = mul-le-mul_right (9 ^ r) g in
    let u : suc x * 9 ^ r ≡ x * 9 ^ r + 9 ^ r = suc-mul x (9 ^ r) in
    inl (omega arith))
    (λ g.
    let t : x * 9 ^ r ≡ y * 9 ^ r = ap (λ (n : ℕ). n * 9 ^ r) g.0 in
    ⊎_elim (λ s. inl (omega arith)) (λ s. inr (omega (arith, s.0), omega (arith, s.1))) (sooner-rank r q p b.1 (omega arith) (omega arith) g.1))
    f

sooner-code : (c x : Cell) → IsCell c → IsCell x → Sooner (numbers_of c) (numbers_of x) → cell_code c < cell_code x
sooner-code c x v w f =
    let m = length-name c in
    let n = length-name x in
    let i = start-code c v in
    let j = start-code x w in
    let p = start-rank c v in
    let q = start-rank x w in
    ⊎_elim (λ s. omega (arith, v.fine)) (λ s. omega (arith, s.0, s.1))
    (sooner-rank 16 (numbers_of c) (numbers_of x) (name_below c v) (omega (arith, v.fine)) (omega (arith, w.fine)) f)

sooner-rising : (c : Cell) (qs : List Cell) → IsCell c → Cells qs → All (Sooner (numbers_of c)) (map numbers_of qs) → All (λ (x : Cell). cell_code c < cell_code x) qs
sooner-rising c [] v k f = tt
sooner-rising c (x ∷ qs) v k f = (sooner-code c x v k.0 f.0, sooner-rising c qs v k.1 f.1)

row-rising : (qs : List Cell) → Cells qs → Pairwise Sooner (map numbers_of qs) → Rising qs
row-rising [] k f = tt
row-rising (c ∷ qs) k f = (sooner-rising c qs k.0 k.1 f.0, row-rising qs k.1 f.1)

-- ---- they name cells

pub letters-good : (ns : Nodes) (l : Level) (d lo r : ℕ) → Good l d lo ns → d ≤ r → AreNames (many l) r (letters ns)
letters-good end l d lo r g h = tt
letters-good (whole c ns) l d lo r g h = ((g.1, omega arith, tt), letters-good ns l d (suc c) r g.2 h)
letters-good (listed c is ns) l d lo zero g h = absurd (omega (arith, room-le l c d))
letters-good (listed c is ns) l d lo (suc r) g h = (
  (g.1, omega arith, tt),
  all_append (IsName (many l) (suc r)) (map (λ (q : Name). c ∷ q) (letters is)) (letters ns)
      (all_map (IsName 9 r) (IsName (many l) (suc r)) (λ q. c ∷ q) (name-longer c (many l) r g.1) (letters is)
      (letters-good is Digits (room l c d - 1) 0 r g.5 (omega (arith, room-le l c d))))
      (letters-good ns l d (suc c) (suc r) g.6 h),
)

module _ {h : List ℕ} {l : Level} {d : ℕ} {t : List ℕ} {ns : Nodes} (f : OfFaces l) (m : d ≤ 15) (r : Reads h l d t ns) where
  faces-letters : AreNames 6 15 (letters ns)
  faces-letters = rw (six-faces l f) at (letters-good ns l d 0 15 r.good m)

  -- The letters and digits of a text name cells, and their codes rise strictly in the order they stand.
  pub letter-cells : Cells (letter_cells ns) × Rising (letter_cells ns)
  unfolding letter_cells
  letter-cells =
      let k : Cells (letter_cells ns) = cells-named (letters ns) faces-letters in
      (k, row-rising (letter_cells ns) k (rw (names-named (letters ns) faces-letters) (letters-row ns l d 0 r.good)))
