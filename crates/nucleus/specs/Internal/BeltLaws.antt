-- The floored ground nucleus of a cell of the belt names the cell again, at every resolution at once: flooring moves the point by less than half a
-- cell. Assumes nothing.
use Rattle.std.specs.Prelude.{◌≡◌, true, ℕ, ◌+◌, ◌-◌, ◌*◌, ◌/◌, ◌≤◌, ◌<◌, ℤ, nat_abs}
use Rattle.std.proofs.Common.{sym, ap, ◌∙◌, subst, mul_left_comm, mul_comm, le_of_mul-le-mul_right, add-mul, mul_assoc, div-lt_iff_lt-mul, arith}
use Rattle.std.proofs.Math.Nat.{mul-sub}
use Rattle.std.proofs.Math.Arith.{digits_div, digits_mod}
use Rattle.std.proofs.Math.IntN.{sub_ℕ}
use Rattle.ternary.proofs.Laws.Powers.{power_le, power_pos}
use Rattle.signed.specs.Laws.Sign.{sub-size}
use Rattle.division.specs.Laws.Division.{low, high}
use Rattle.cell.specs.declared.Cell.{Cell}
use Rattle.cell.specs.declared.Arrangement.{Arrangement}
use Rattle.cell.specs.Cell.{IsCell}
use Rattle.cell.specs.Neighbour.{belt, rows}
use Rattle.locate.specs.Fix.{quarter, in_range, offset_of, belt_cell, fix_cell}
use Rattle.locate.proofs.Laws.Fix.{fix-belt}
use Rattle.nucleus.specs.Nucleus.{belt_longitude, belt_z}
use Rattle.nucleus.specs.Internal.FlooredLaws.{Floored, floored}
use Rattle.nucleus.specs.Internal.RuleLaws.{in-range, east-back, in-belt-is, offset-is}

-- ---- the column: a = 450,000,000 (2j + 1) / m, floored

module _ (m j : ℕ) (m0 : 0 < m) (hm : m ≤ 14348907) (hj : j < m) where
  abbrev along : ℕ
  along = 450000000 * (2 * j + 1) / m

  pub along-lt : along < quarter
  along-lt = (div-lt_iff_lt-mul {k = m} {x = 450000000 * (2 * j + 1)} {y = quarter} m0).1 (omega arith)

  column-back : along * m / quarter ≡ j
  column-back =
      let l = low (450000000 * (2 * j + 1)) m in
      let h = high (450000000 * (2 * j + 1)) m m0 in
      omega arith

-- ---- the row: z, floored

-- what is wanted of z
record Placed (m i : ℕ) (z : ℤ) : Type 0 where
  belt : 3 * nat_abs z ≤ 2000000000000000000
  row : m * offset_of z / 4000000000000000000 ≡ i

module _ (m i : ℕ) (m0 : 0 < m) (hm : m ≤ 14348907) (hi : i < m) where
  placed : (z : ℤ) → Floored (2000000000000000000 * m) (2000000000000000000 * (2 * i + 1)) (3 * m) z → Placed m i z
  placed z f =
      let p : ℕ = f.p in
      let q : ℕ = f.q in
      let l : 2000000000000000000 * (2 * i + 1) + 3 * (p * m) ≤ 2000000000000000000 * m + 3 * (q * m) = omega (arith, f.below, mul_left_comm p 3 m, mul_left_comm q 3 m) in
      let g : 2000000000000000000 * m + 3 * (q * m) < 2000000000000000000 * (2 * i + 1) + 3 * (p * m) + 3 * m = omega (arith, f.above, mul_left_comm p 3 m, mul_left_comm q 3 m) in
      let a : (2000000000000000000 + 3 * q) * m ≡ 2000000000000000000 * m + 3 * (q * m) = omega (arith, add-mul 2000000000000000000 (3 * q) m, mul_assoc 3 q m) in
      let b : (2000000000000000000 + 3 * p) * m ≡ 2000000000000000000 * m + 3 * (p * m) = omega (arith, add-mul 2000000000000000000 (3 * p) m, mul_assoc 3 p m) in
      let u : 3 * p ≤ 2000000000000000000 + 3 * q = le_of_mul-le-mul_right (omega (arith, mul_assoc 3 p m)) m0 in
      let v : 3 * q ≤ 2000000000000000000 + 3 * p = le_of_mul-le-mul_right (omega (arith, mul_assoc 3 q m)) m0 in
      let e : m * (2000000000000000000 + 3 * q - 3 * p) ≡ m * (2000000000000000000 + 3 * q) - m * (3 * p) = mul-sub m (2000000000000000000 + 3 * q) (3 * p) in
      let r : m * (2000000000000000000 + 3 * q - 3 * p) / 4000000000000000000 ≡ i = omega (arith, mul_comm m (2000000000000000000 + 3 * q), mul_left_comm m 3 p, mul_comm m p) in
      subst (λ (x : ℤ). Placed m i x) (sym f.is)
      (record { belt = omega (arith, sub-size p q); row = ap (λ (x : ℕ). m * x / 4000000000000000000) (offset-is p q u) ∙ r })

-- ---- the cell again

-- the longitude and the z name the cell again
abbrev pub Names : Arrangement → Cell → ℤ → ℤ → Type 0
Names a c L z = (in_range L z ≡ true) × (fix_cell a c.resolution L z ≡ c)

pub belt-again :
    (a : Arrangement) {c : Cell} (b : ℕ) → IsCell c → b < 4 → c.face ≡ belt b →
    Names a c (belt_longitude (rows c) b c.column) (belt_z (rows c) c.row)
unfolding belt_longitude belt_z belt_cell
belt-again a {c} b v hb hf =
    let m : ℕ = rows c in
    let m0 = power_pos c.resolution in
    let hm = power_le {j = 15} v.fine in
    let s : ℕ = along m c.column m0 hm v.columned in
    let sl : s < quarter = along-lt m c.column m0 hm v.columned in
    let x : ℕ = b * quarter + s in
    let z : ℤ = belt_z m c.row in
    let p : Placed m c.row z = placed m c.row m0 hm v.rowed z (floored (2000000000000000000 * m) (2000000000000000000 * (2 * c.row + 1)) (3 * m) (omega arith)) in (
      in-range x z (omega arith) (omega (arith, p.belt)),
      fix-belt a c.resolution (sub_ℕ x 1800000000) z (in-belt-is z p.belt)
          ∙ ap (λ (e : ℕ). belt_cell c.resolution e (offset_of z)) (east-back x (omega arith))
          ∙ (λ i. record {
            face = (ap belt (digits_div b sl) ∙ sym hf) i;
            resolution = c.resolution;
            row = p.row i;
            column = (ap (λ (y : ℕ). y * m / quarter) (digits_mod b sl) ∙ column-back m c.column m0 hm v.columned) i;
          }),
    )
