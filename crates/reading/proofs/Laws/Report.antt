-- What checking reports is the number of the names, and the sum of the sizes of their cells; and how large it gets. Assumes nothing.
use Rattle.std.specs.Prelude.{◌≡◌, refl, List, [], ◌∷◌, ◌++◌, map, ℕ, zero, suc, ◌+◌, ◌-◌, ◌*◌, ◌/◌, ◌^◌, ◌≤◌, length}
use Rattle.std.proofs.Common.{sym, ap, ap₂, ◌∙◌, arith, pow-suc, mul-le-mul_right, suc-mul, zero-mul, length-append}
use Rattle.std.proofs.lemmas.List.{map-append, length-map}
use Rattle.std.proofs.lemmas.Simd.{map-map}
use Rattle.cell.specs.declared.Cell.{Cell}
use Rattle.code.specs.Code.{size_of}
use Rattle.reading.specs.declared.Level.{Level}
use Rattle.reading.specs.declared.Level.TheVariants.{Digits}
use Rattle.reading.specs.Reading.{Nodes, end, whole, listed, many, room, render, Good, names}
use Rattle.reading.proofs.Laws.Reading.{room-le}
use Rattle.reading.specs.Prefix.{Name}
use Rattle.reading.specs.Ground.{size_sum}
use Rattle.reading.specs.Report.{count, size_along}

pub count-names : (ns : Nodes) → count ns ≡ length (names ns)
count-names end = refl
count-names (whole c ns) = omega (arith, count-names ns)
count-names (listed c is ns) =
    omega (arith, count-names is, count-names ns, length-append (map (λ (q : Name). c ∷ q) (names is)) (names ns), length-map (names is) (λ (q : Name). c ∷ q))

-- ---- sizes

pub sum-append : (a b : List Cell) → size_sum (a ++ b) ≡ size_sum a + size_sum b
unfolding size_sum
sum-append [] b = omega arith
sum-append (q ∷ a) b = omega (arith, sum-append a b)

-- of cells that are a ninth as large with each digit more
pub along-sum :
    (ns : Nodes) (l : Level) (d lo r : ℕ) (f : Name → Cell) → ((c : ℕ) (q : Name) (k : ℕ) → length q + k ≡ r → size_of (f (c ∷ q)) ≡ 9 ^ k) →
    Good l d lo ns → d ≤ r → size_along (9 ^ r) ns ≡ size_sum (map f (names ns))
unfolding size_sum
along-sum end l d lo r f e g h = refl
along-sum (whole c ns) l d lo r f e g h = ap₂ ◌+◌ (sym (e c [] r (omega arith))) (along-sum ns l d (suc c) r f e g.2 h)
along-sum (listed c is ns) l d lo zero f e g h = absurd (omega (arith, room-le l c d))
along-sum (listed c is ns) l d lo (suc r) f e g h =
    let ninth : 9 ^ suc r / 9 ≡ 9 ^ r = omega (arith, pow-suc 9 r) in
    ap₂ ◌+◌ (ap (λ (z : ℕ). size_along z is) ninth ∙ along-sum is Digits (room l c d - 1) 0 r (λ q. f (c ∷ q)) (λ b q k i. e c (b ∷ q) k (omega arith)) g.5
    (omega (arith, room-le l c d)))
    (along-sum ns l d (suc c) (suc r) f e g.6 h)
    ∙ ap (λ (x : List Cell). size_sum x + size_sum (map f (names ns))) (sym (map-map f (λ (q : Name). c ∷ q) (names is)))
    ∙ sym (sum-append (map f (map (λ (q : Name). c ∷ q) (names is))) (map f (names ns)))
    ∙ ap size_sum (sym (map-append f (map (λ (q : Name). c ∷ q) (names is)) (names ns)))

-- ---- bounds

-- no more whole cells than bytes
pub count_most : (ns : Nodes) (l : Level) → count ns ≤ length (render l ns)
count_most end l = omega arith
count_most (whole c ns) l = omega (arith, count_most ns l)
count_most (listed c is ns) l = omega (arith, count_most is Digits, count_most ns l, length-append (render Digits is) (41 ∷ render l ns))

-- no more than the level holds
pub size-most : (ns : Nodes) (l : Level) (d lo z : ℕ) → Good l d lo ns → lo ≤ many l → size_along z ns + lo * z ≤ many l * z
size-most end l d lo z g h = omega (arith, mul-le-mul_right z h)
size-most (whole c ns) l d lo z g h = omega (arith, size-most ns l d (suc c) z g.2 g.1, mul-le-mul_right z g.0, suc-mul c z)
size-most (listed c is ns) l d lo z g h =
    omega (
      arith,
      size-most is Digits (room l c d - 1) 0 (z / 9) g.5 (omega arith),
      size-most ns l d (suc c) z g.6 g.1,
      mul-le-mul_right z g.0,
      suc-mul c z,
      zero-mul (z / 9),
    )
