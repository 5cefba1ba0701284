-- The names of a reading stand in rising order: the finest cells of each come before those of the next. Assumes nothing.
use Rattle.std.specs.Prelude.{◌≡◌, refl, List, [], ◌∷◌, ◌++◌, map, ℕ, zero, suc, ◌+◌, ◌-◌, ◌*◌, ◌^◌, ◌≤◌, ◌<◌, length}
use Rattle.std.proofs.Common.{sym, ap, ◌∙◌, inl, inr, ⊎_elim, add-mul, mul_assoc, suc-mul, mul-le-mul_right, arith}
use Rattle.logic.specs.Lists.{All, Pairwise}
use Rattle.logic.specs.Rise.{Above, Rise}
use Rattle.logic.specs.Laws.Lists.{all_append, all_map, all-each}
use Rattle.ternary.specs.Digits.{value, Below}
use Rattle.ternary.proofs.Laws.Digits.{value-below}
use Rattle.ternary.proofs.Laws.Powers.{nine-add}
use Rattle.cell.specs.declared.Cell.{Cell}
use Rattle.cell.specs.declared.Arrangement.{Arrangement}
use Rattle.cell.specs.Cell.{IsCell}
use Rattle.code.specs.Code.{digits_of, path_of, cell_code, code_of, size_of}
use Rattle.code.proofs.Laws.Code.{length-digits-of, digits-of-below, code-order}
use Rattle.code.specs.Inside.{Inside, start_of, end_of}
use Rattle.code.proofs.Laws.Inside.{start-code, size-pos, inside-within}
use Rattle.reading.specs.declared.Level.{Level}
use Rattle.reading.specs.declared.Level.TheVariants.{Digits}
use Rattle.reading.specs.Reading.{Nodes, end, whole, listed, room, Good, names}
use Rattle.reading.specs.Ground.{Cells, Rising, Apart}
use Rattle.reading.specs.Prefix.{Name, numbers_of, Ahead, AheadAll, InOrder}

-- ---- the names rise

-- it begins with this number or a later one
abbrev pub From : ℕ → Name → Type 0
From lo [] = ⊥
From lo (x ∷ q) = lo ≤ x

pub from_less : (lo hi : ℕ) → lo ≤ hi → (q : Name) → From hi q → From lo q
from_less lo hi h [] g = g
from_less lo hi h (x ∷ q) g = omega arith

names-from : (ns : Nodes) (l : Level) (d lo : ℕ) → Good l d lo ns → All (From lo) (names ns)
names-from end l d lo g = tt
names-from (whole c ns) l d lo g =
    (g.0, all-each (From (suc c)) (From lo) (from_less lo (suc c) (omega arith)) (names ns) (names-from ns l d (suc c) g.2))
names-from (listed c is ns) l d lo g =
    all_append (From lo) (map (λ (q : Name). c ∷ q) (names is)) (names ns)
    (all_map (From 0) (From lo) (λ q. c ∷ q) (λ q h. g.0) (names is) (names-from is Digits (room l c d - 1) 0 g.5))
    (all-each (From (suc c)) (From lo) (from_less lo (suc c) (omega arith)) (names ns) (names-from ns l d (suc c) g.6))

ahead-from : (c : ℕ) (q p : Name) → From (suc c) p → Ahead (c ∷ q) p
ahead-from c q [] h = absurd h
ahead-from c q (x ∷ p) h = inl h

rise-list : (c : ℕ) (a b : List Name) → InOrder a → All (From (suc c)) b → InOrder b → InOrder (map (λ (q : Name). c ∷ q) a ++ b)
rise-list c [] b g f h = h
rise-list c (q ∷ a) b g f h = (
  all_append (Ahead (c ∷ q)) (map (λ (p : Name). c ∷ p) a) b (all_map (Ahead q) (Ahead (c ∷ q)) (λ p. c ∷ p) (λ p k. inr (refl, k)) a g.0)
      (all-each (From (suc c)) (Ahead (c ∷ q)) (ahead-from c q) b f),
  rise-list c a b g.1 f h,
)

pub names-rise : (ns : Nodes) (l : Level) (d lo : ℕ) → Good l d lo ns → InOrder (names ns)
names-rise end l d lo g = tt
names-rise (whole c ns) l d lo g =
    (all-each (From (suc c)) (Ahead (c ∷ [])) (ahead-from c []) (names ns) (names-from ns l d (suc c) g.2), names-rise ns l d (suc c) g.2)
names-rise (listed c is ns) l d lo g =
    rise-list c (names is) (names ns) (names-rise is Digits (room l c d - 1) 0 g.5) (names-from ns l d (suc c) g.6) (names-rise ns l d (suc c) g.6)

-- ---- numbers with zeros behind them, r numbers in all

unfoldable pub rank : ℕ → Name → ℕ
rank r q = value 9 q * 9 ^ (r - length q)

nine-rest : (r n : ℕ) → n ≤ r → 9 ^ n * 9 ^ (r - n) ≡ 9 ^ r
nine-rest r n h = let s : n + (r - n) ≡ r = omega arith in sym (nine-add n (r - n)) ∙ ap (λ (x : ℕ). 9 ^ x) s

-- the first number counts 9^r of the others
pub rank-cons : (r a : ℕ) (q : Name) → length q ≤ r → rank (suc r) (a ∷ q) ≡ a * 9 ^ r + rank r q
unfolding rank value
rank-cons r a q h =
    let n = length q in
    let e : suc r - suc n ≡ r - n = omega arith in
    ap (λ (x : ℕ). (a * 9 ^ n + value 9 q) * 9 ^ x) e
    ∙ add-mul (a * 9 ^ n) (value 9 q) (9 ^ (r - n))
    ∙ ap (λ (x : ℕ). x + value 9 q * 9 ^ (r - n)) (mul_assoc a (9 ^ n) (9 ^ (r - n)) ∙ ap (λ (x : ℕ). a * x) (nine-rest r n h))

pub rank-end : (r : ℕ) (q : Name) → Below 9 q → length q ≤ r → rank r q + 9 ^ (r - length q) ≤ 9 ^ r
unfolding rank
rank-end r q b h =
    let n = length q in
    let m : suc (value 9 q) * 9 ^ (r - n) ≤ 9 ^ n * 9 ^ (r - n) = mul-le-mul_right (9 ^ (r - n)) (value-below 9 q b) in
    let s : suc (value 9 q) * 9 ^ (r - n) ≡ value 9 q * 9 ^ (r - n) + 9 ^ (r - n) = suc-mul (value 9 q) (9 ^ (r - n)) in
    let e = nine-rest r n h in
    omega arith

ahead-rank : (r : ℕ) (q p : Name) → Below 9 q → length q ≤ r → length p ≤ r → Ahead q p → rank r q + 9 ^ (r - length q) ≤ rank r p
ahead-rank r [] p b h k f = absurd f
ahead-rank r (x ∷ q) [] b h k f = absurd f
ahead-rank zero (x ∷ q) (y ∷ p) b h k f = absurd (omega arith)
ahead-rank (suc r) (x ∷ q) (y ∷ p) b h k f =
    let e : suc r - suc (length q) ≡ r - length q = omega arith in
    let z : 9 ^ (suc r - suc (length q)) ≡ 9 ^ (r - length q) = ap (λ (n : ℕ). 9 ^ n) e in
    let i = rank-cons r x q (omega arith) in
    let j = rank-cons r y p (omega arith) in
    ⊎_elim
    (λ g.
    let s = rank-end r q b.1 (omega arith) in
    let t : suc x * 9 ^ r ≤ y * 9 ^ r = mul-le-mul_right (9 ^ r) g in
    let u : suc x * 9 ^ r ≡ x * 9 ^ r + 9 ^ r = suc-mul x (9 ^ r) in
    omega arith)
    (λ g.
    let s = ahead-rank r q p b.1 (omega arith) (omega arith) g.1 in
    let t : x * 9 ^ r ≡ y * 9 ^ r = ap (λ (n : ℕ). n * 9 ^ r) g.0 in
    omega arith)
    f

-- ---- the finest cells of a cell ahead come before the other's

pub start-rank : (c : Cell) → IsCell c → start_of c ≡ rank 16 (numbers_of c)
unfolding start_of path_of rank numbers_of
start-rank c v =
    let ds = digits_of c.resolution c.row c.column in
    let n : length ds ≡ c.resolution = length-digits-of c.resolution c.row c.column in
    ap (λ (k : ℕ). c.face * 9 ^ 15 + value 9 ds * 9 ^ (15 - k)) (sym n) ∙ sym (rank-cons 15 c.face ds (omega (arith, v.fine)))

pub length-name : (c : Cell) → length (numbers_of c) ≡ suc c.resolution
unfolding numbers_of
length-name c = ap suc (length-digits-of c.resolution c.row c.column)

pub name_below : (c : Cell) → IsCell c → Below 9 (numbers_of c)
unfolding numbers_of
name_below c v = (omega (arith, v.faced), digits-of-below c.resolution c.row c.column)

pub ahead_before : (c x : Cell) → IsCell c → IsCell x → Ahead (numbers_of c) (numbers_of x) → end_of c ≤ start_of x
unfolding end_of size_of
ahead_before c x v w f =
    let m = length-name c in
    let n = length-name x in
    let e : 9 ^ (16 - length (numbers_of c)) ≡ 9 ^ (15 - c.resolution) = ap (λ (k : ℕ). 9 ^ k) (omega arith) in
    let k = ahead-rank 16 (numbers_of c) (numbers_of x) (name_below c v) (omega (arith, v.fine)) (omega (arith, w.fine)) f in
    omega (arith, start-rank c v, start-rank x w)

-- ---- cells whose names rise

module _ (c x : Cell) (v : IsCell c) (w : IsCell x) (h : end_of c ≤ start_of x) where
  pub code-before : cell_code c < cell_code x
  unfolding end_of
  code-before = omega (arith, v.fine, size-pos c, start-code c v, start-code x w)

  pub apart-before : (Inside c x → ⊥) × (Inside x c → ⊥)
  unfolding end_of
  apart-before = (
    (λ i. let k = inside-within c x v w i in omega (arith, size-pos x, k.to)),
    (λ i. let k = inside-within x c w v i in omega (arith, size-pos c, k.from)),
  )

-- what holds of a cell and one whose finest cells come after, holds of any two
module _ (R : Cell → Cell → Type 0) (h : (c x : Cell) → IsCell c → IsCell x → end_of c ≤ start_of x → R c x) where
  ahead-each : (c : Cell) (qs : List Cell) → IsCell c → Cells qs → AheadAll (numbers_of c) (map numbers_of qs) → All (R c) qs
  ahead-each c [] v k f = tt
  ahead-each c (x ∷ qs) v k f = (h c x v k.0 (ahead_before c x v k.0 f.0), ahead-each c qs v k.1 f.1)

  rise-each : (qs : List Cell) → Cells qs → InOrder (map numbers_of qs) → Pairwise R qs
  rise-each [] k f = tt
  rise-each (c ∷ qs) k f = (ahead-each c qs k.0 k.1 f.0, rise-each qs k.1 f.1)

pub rise-rising : (qs : List Cell) → Cells qs → InOrder (map numbers_of qs) → Rising qs
rise-rising = rise-each (λ c x. cell_code c < cell_code x) code-before

pub rise-apart : (qs : List Cell) → Cells qs → InOrder (map numbers_of qs) → Apart qs
rise-apart = rise-each (λ c x. (Inside c x → ⊥) × (Inside x c → ⊥)) apart-before

-- ---- and so do their codes, in an arrangement

below_all : (a : Arrangement) (c : Cell) (cs : List Cell) → All (λ (p : Cell). cell_code c < cell_code p) cs → Above (code_of a c) (map (code_of a) cs)
below_all a c [] h = tt
below_all a c (p ∷ cs) h = ((code-order a c p).1 h.0, below_all a c cs h.1)

pub codes-rise : (a : Arrangement) (cs : List Cell) → Rising cs → Rise (map (code_of a) cs)
codes-rise a [] h = tt
codes-rise a (c ∷ cs) h = (below_all a c cs h.0, codes-rise a cs h.1)
