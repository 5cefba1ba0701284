-- The ground nucleus (01 "From a fix to a cell"): "the real longitude and z that these rules, taken over real numbers, send to the nucleus, each
-- then floored to a whole unit". Both are fractions: the longitude lies e/d units east of -1,800,000,000, and z is u/v. Assumes nothing.
use Rattle.std.specs.Prelude.{◌≡◌, Bool, ◌&&◌, cond, ℕ, ◌+◌, ◌-◌, ◌*◌, ◌/◌, ◌%◌, ◌^◌, ◌≤◌, ◌<◌, ℤ, pos, negsuc, neg_ℤ, nat_abs, ◌+ℤ◌, ◌-ℤ◌, ◌*ℤ◌, ◌<ℤ◌, eqb}
use Rattle.std.proofs.Math.IntN.{sub_ℕ}
use Rattle.std.specs.Int.Signed.{le_z, lt_z}
use Rattle.cell.specs.declared.Cell.{Cell}
use Rattle.cell.specs.declared.Arrangement.{Arrangement}
use Rattle.cell.specs.Neighbour.{by_face, belt, turn_of, rows}
use Rattle.locate.specs.Fix.{CapPoint, quarter, turned_north, turned_south}
use Rattle.nucleus.specs.declared.Fix.{Fix}

-- ---- what it is: the rules of `Fix`, without their floors, over fractions

-- c and a, of a longitude that lies e/d units east: the quotient, and d times the remainder
abbrev pub quotient : (e d : ℕ) → ℕ
quotient e d = e / (d * quarter)

abbrev pub remainder : (e d : ℕ) → ℕ
remainder e d = e % (d * quarter)

-- belt: column a m / 900,000,000 and row m (2 x 10^18 - 3z) / (4 x 10^18) are j + 1/2 and i + 1/2, each equation times its denominators
pub record SentToBelt (c : Cell) (e d : ℕ) (u : ℤ) (v : ℕ) : Type 0 where
  pub face : belt (quotient e d) ≡ c.face
  pub near : 3 * nat_abs u ≤ 2 * 10 ^ 18 * v
  pub column : 2 * (remainder e d * rows c) ≡ d * quarter * (2 * c.column + 1)
  pub row : pos (2 * rows c) *ℤ (pos (2 * 10 ^ 18 * v) -ℤ pos 3 *ℤ u) ≡ pos (4 * 10 ^ 18 * v * (2 * c.row + 1))

-- caps: h = g/f with h^2 = 3 (1 - |z|/10^18), and the turned point (p, q), in multiples of h / (2 x 900,000,000 d), has
-- m (1/2 + p) = j + 1/2 and m (1/2 - q) = i + 1/2. One of p and q is h/2 or -h/2, so h is a fraction.
pub record SentToCap (c : Cell) (x : CapPoint) (d : ℕ) (u : ℤ) (v g f : ℕ) : Type 0 where
  pub positive : 0 < f
  pub far : 2 * 10 ^ 18 * v < 3 * nat_abs u
  pub within : nat_abs u ≤ 10 ^ 18 * v
  pub height : g * g * (10 ^ 18 * v) ≡ 3 * (10 ^ 18 * v - nat_abs u) * (f * f)
  pub column : pos (rows c * (d * quarter * f)) +ℤ pos (rows c * g) *ℤ x.0 ≡ pos ((2 * c.column + 1) * (d * quarter * f))
  pub row : pos (rows c * (d * quarter * f)) -ℤ pos (rows c * g) *ℤ x.1 ≡ pos ((2 * c.row + 1) * (d * quarter * f))

-- the start (t h, -h/2) or (t h, h/2), turned as often as the rules turn it, in the same multiples
unfoldable pub north_point : (n e d : ℕ) → CapPoint
north_point n e d = turned_north (turn_of (quotient e d) n) (sub_ℕ (2 * remainder e d) (d * quarter), neg_ℤ (pos (d * quarter)))

unfoldable pub south_point : (s e d : ℕ) → CapPoint
south_point s e d = turned_south (turn_of (quotient e d) s) (sub_ℕ (2 * remainder e d) (d * quarter), pos (d * quarter))

-- the rules send the fractions e/d, u/v to the middle of the cell. Laws/Nucleus shows that they send no others there, but at a pole, where every
-- longitude will do
pub record Sent (a : Arrangement) (c : Cell) (e d : ℕ) (u : ℤ) (v : ℕ) : Type 0 where
  pub longitude : 0 < d
  pub sine : 0 < v
  pub range : e < 4 * (d * quarter)
  pub middle :
      by_face c.face
      ((pos 0 <ℤ u) × ((g : ℕ) × (f : ℕ) × SentToCap c (north_point a.north e d) d u v g f))
      (λ b. SentToBelt c e d u v)
      ((u <ℤ pos 0) × ((g : ℕ) × (f : ℕ) × SentToCap c (south_point a.south e d) d u v g f))

-- floor(u / v), towards minus infinity: u = -(n + 1) gives -(n / v + 1)
unfoldable pub floor_z : ℤ → ℕ → ℤ
floor_z (pos n) v = pos (n / v)
floor_z (negsuc n) v = negsuc (n / v)

-- ---- the computing form. Laws/Nucleus shows that it is what the rules send there, floored

-- the belt: a = 450,000,000 (2j + 1) / m, and z = 2 x 10^18 (m - (2i + 1)) / (3m)
unfoldable pub belt_longitude : (m c j : ℕ) → ℤ
belt_longitude m c j = sub_ℕ (c * quarter + 450000000 * (2 * j + 1) / m) 1800000000

unfoldable pub belt_z : (m i : ℕ) → ℤ
unfolding floor_z
belt_z m i = floor_z (sub_ℕ (2 * 10 ^ 18 * m) (2 * 10 ^ 18 * (2 * i + 1))) (3 * m)

-- A cap. A cell's middle lies (x.0, x.1) / 2m of the face's side from its centre, with two whole numbers. Before the turns it was (u, -h) in the
-- north and (u, h) in the south, with -h ≤ u < h: so m times the rules' h is h, and t is u / 2h. With e = u + h, a = 450,000,000 e / h.
unfoldable pub cap_longitude : (n turns h e : ℕ) → ℤ
cap_longitude n turns h e = sub_ℕ ((n + turns) % 4 * quarter + 450000000 * e / h) 1800000000

-- z = 10^18 (3 m m - h h) / (3 m m), in the south its opposite
unfoldable pub north_z : (m h : ℕ) → ℤ
unfolding floor_z
north_z m h = floor_z (sub_ℕ (10 ^ 18 * (3 * (m * m))) (10 ^ 18 * (h * h))) (3 * (m * m))

unfoldable pub south_z : (m h : ℕ) → ℤ
unfolding floor_z
south_z m h = floor_z (sub_ℕ (10 ^ 18 * (h * h)) (10 ^ 18 * (3 * (m * m)))) (3 * (m * m))

-- the middle of a cell of a cap, from the face's centre, in units of 1/2m of its side
unfoldable pub middle_of : (m i j : ℕ) → CapPoint
middle_of m i j = (sub_ℕ (2 * j + 1) m, sub_ℕ m (2 * i + 1))

-- a start's triangle: (u, -h) with -h ≤ u < h in the north, (u, h) in the south; "On a seam .. the western edge .. of the eastern one"
unfoldable pub starts_north : CapPoint → Bool
starts_north x = le_z x.1 x.0 && lt_z x.0 (neg_ℤ x.1)

unfoldable pub starts_south : CapPoint → Bool
starts_south x = le_z (neg_ℤ x.1) x.0 && lt_z x.0 x.1

-- the first of 0 to 3 that passes a test, or 3
unfoldable pub first_of : (ℕ → Bool) → ℕ
first_of test = cond (test 0) 0 (cond (test 1) 1 (cond (test 2) 2 3))

-- how often a start was turned: the turn back in one cap is the turn of the other
unfoldable pub turns_north : CapPoint → ℕ
unfolding first_of starts_north
turns_north x = first_of (λ r. starts_north (turned_south r x))

unfoldable pub turns_south : CapPoint → ℕ
unfolding first_of starts_south
turns_south x = first_of (λ r. starts_south (turned_north r x))

-- the height of a start, and the place along it
abbrev pub tall_of : CapPoint → ℕ
tall_of y = nat_abs y.1

abbrev pub along_of : CapPoint → ℕ
along_of y = nat_abs (y.0 +ℤ pos (tall_of y))

-- the centre of a cap
unfoldable pub centred : CapPoint → Bool
centred x = eqb (nat_abs x.0) 0 && eqb (nat_abs x.1) 0

abbrev pub fix : ℤ → ℤ → Fix
fix longitude z = record { longitude = longitude; z = z }

-- "a polar nucleus gets -1,800,000,000"
unfoldable pub north_nucleus : (n m : ℕ) → CapPoint → Fix
unfolding centred turns_north cap_longitude north_z
north_nucleus n m x =
    cond (centred x) (fix (neg_ℤ (pos 1800000000)) (pos (10 ^ 18)))
    (let r : ℕ = turns_north x in let y : CapPoint = turned_south r x in fix (cap_longitude n r (tall_of y) (along_of y)) (north_z m (tall_of y)))

unfoldable pub south_nucleus : (s m : ℕ) → CapPoint → Fix
unfolding centred turns_south cap_longitude south_z
south_nucleus s m x =
    cond (centred x) (fix (neg_ℤ (pos 1800000000)) (neg_ℤ (pos (10 ^ 18))))
    (let r : ℕ = turns_south x in let y : CapPoint = turned_north r x in fix (cap_longitude s r (tall_of y) (along_of y)) (south_z m (tall_of y)))

unfoldable pub ground_nucleus : Arrangement → Cell → Fix
unfolding north_nucleus south_nucleus middle_of belt_longitude belt_z
ground_nucleus a c =
    by_face c.face
    (north_nucleus a.north (rows c) (middle_of (rows c) c.row c.column))
    (λ b. fix (belt_longitude (rows c) b c.column) (belt_z (rows c) c.row))
    (south_nucleus a.south (rows c) (middle_of (rows c) c.row c.column))
