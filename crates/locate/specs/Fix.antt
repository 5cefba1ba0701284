-- The cell of a fix, as 01 "From a fix to a cell" has it, over unbounded numbers. Assumes nothing.
use Rattle.std.specs.Prelude.{◌≡◌, Bool, ◌&&◌, not, cond, ℕ, zero, suc, ◌+◌, ◌-◌, ◌*◌, ◌/◌, ◌%◌, ◌^◌, ℤ, pos, neg_ℤ, nat_abs, ◌+ℤ◌, ◌-ℤ◌, ◌*ℤ◌, ◌≤ℤ◌, leb, ltb}
use Rattle.std.proofs.Math.IntN.{sub_ℕ}
use Rattle.std.specs.Int.Signed.{le_z, lt_z}
use Rattle.logic.specs.Refusal.{refuse, ◌otherwise◌}
use Rattle.cell.specs.declared.Cell.{Cell}
use Rattle.cell.specs.declared.Arrangement.{Arrangement}
use Rattle.cell.specs.Cell.{arrangement_refusal}
use Rattle.cell.specs.Neighbour.{belt, turn_of}
use Rattle.root.specs.Floor.{root_floor}

-- "a longitude L, -1,800,000,000 <= L < 1,800,000,000 .., and z, .. from -10^18 to 10^18"; and 1,800,000,000 too, since "two receivers report the
-- antimeridian as +1,800,000,000" (02, W-201)
pub record InRange (L z : ℤ) : Type 0 where
  pub west : neg_ℤ (pos 1800000000) ≤ℤ L
  pub east : L ≤ℤ pos 1800000000
  pub low : neg_ℤ (pos (10 ^ 18)) ≤ℤ z
  pub high : z ≤ℤ pos (10 ^ 18)

-- the same as a test (Laws/Fix, `six-exactly`)
unfoldable pub in_range : (L z : ℤ) → Bool
in_range L z =
    (le_z (neg_ℤ (pos 1800000000)) L && le_z L (pos 1800000000)) && (le_z (neg_ℤ (pos (10 ^ 18))) z && le_z z (pos (10 ^ 18)))

-- "Let c be the quotient and a the remainder of L + 1,800,000,000 by 900,000,000.": the place of a longitude, modulo a full turn, so that
-- 1,800,000,000 "is read as -1,800,000,000" (W-201)
unfoldable pub east_of : ℤ → ℕ
east_of L = nat_abs (L +ℤ pos 1800000000) % 3600000000

abbrev pub quarter : ℕ
quarter = 900000000

-- ---- "Belt, 3|z| <= 2 x 10^18"

unfoldable pub is_belt : ℤ → Bool
is_belt z = leb (3 * nat_abs z) (2 * 10 ^ 18)

-- 2 x 10^18 - 3z
unfoldable pub offset_of : ℤ → ℕ
offset_of z = nat_abs (pos (2 * 10 ^ 18) -ℤ pos 3 *ℤ z)

-- "face c of O to R, column floor(a m / 900,000,000), row floor(m (2 x 10^18 - 3z) / (4 x 10^18))"
unfoldable pub belt_cell : (k east offset : ℕ) → Cell
belt_cell k east offset =
    record {
      face = belt (east / quarter);
      resolution = k;
      row = 3 ^ k * offset / (4 * 10 ^ 18);
      column = east % quarter * 3 ^ k / quarter;
    }

-- ---- the caps. A point (u, v) is kept as the two multiples of h / 1,800,000,000, which are whole numbers

abbrev pub CapPoint : Type 0
CapPoint = ℤ × ℤ

-- "h = sqrt(3 (10^18 - z)) / 10^9": this is (10^9 h)^2, with |z| for z
unfoldable pub height_of : ℤ → ℕ
height_of z = 3 * (10 ^ 18 - nat_abs z)

-- "t = a/900,000,000 - 1/2. Start at (u, v) = (t h, -h/2)", in the south "a start of (t h, +h/2)"
unfoldable pub start_north : ℕ → CapPoint
start_north a = (sub_ℕ (2 * a) quarter, neg_ℤ (pos quarter))

unfoldable pub start_south : ℕ → CapPoint
start_south a = (sub_ℕ (2 * a) quarter, pos quarter)

-- "Turn .. times by (u, v) -> (-v, u)", in the south "by (u, v) -> (v, -u)"
unfoldable pub turned_north : ℕ → CapPoint → CapPoint
turned_north zero x = x
turned_north (suc j) x = turned_north j (neg_ℤ x.1, x.0)

unfoldable pub turned_south : ℕ → CapPoint → CapPoint
turned_south zero x = x
turned_south (suc j) x = turned_south j (x.1, neg_ℤ x.0)

-- "For the end (p, q): column floor(m (1/2 + p)), row floor(m (1/2 - q))"
unfoldable pub cap_cell : (face k radicand : ℕ) → CapPoint → Cell
cap_cell face k radicand x =
    record { face = face; resolution = k; row = root_floor (3 ^ k) radicand (neg_ℤ x.1); column = root_floor (3 ^ k) radicand x.0 }

-- "Turn (c - n) mod 4 times", "face N"
unfoldable pub north_cell : (n k east radicand : ℕ) → Cell
unfolding cap_cell turned_north start_north
north_cell n k east radicand = cap_cell 0 k radicand (turned_north (turn_of (east / quarter) n) (start_north (east % quarter)))

-- "turns (c - s) mod 4", "face S"
unfoldable pub south_cell : (s k east radicand : ℕ) → Cell
unfolding cap_cell turned_south start_south
south_cell s k east radicand = cap_cell 5 k radicand (turned_south (turn_of (east / quarter) s) (start_south (east % quarter)))

-- ---- the cell, and the refusals in their order

unfoldable pub fix_cell : Arrangement → ℕ → ℤ → ℤ → Cell
unfolding is_belt belt_cell north_cell south_cell east_of offset_of height_of
fix_cell a k L z =
    cond (is_belt z) (belt_cell k (east_of L) (offset_of z))
    (cond (lt_z z (pos 0)) (south_cell a.south k (east_of L) (height_of z)) (north_cell a.north k (east_of L) (height_of z)))

-- 5: the arrangement. 2: resolution above 15. 6: L or z out of range
unfoldable pub fix_refusal : Arrangement → ℕ → ℤ → ℤ → ℕ
unfolding in_range
fix_refusal a k L z = arrangement_refusal a otherwise refuse (ltb 15 k) 2 otherwise refuse (not (in_range L z)) 6

-- the cells of two resolutions agree: x is of c's face, and the first digits of its row and of its column are c's
pub record Agree (c x : Cell) (j : ℕ) : Type 0 where
  pub face : x.face ≡ c.face
  pub row : x.row / 3 ^ j ≡ c.row
  pub column : x.column / 3 ^ j ≡ c.column
