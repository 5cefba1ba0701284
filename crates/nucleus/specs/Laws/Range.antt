-- "Longitude stays in range": a ground nucleus lies from -1,800,000,000 to before 1,800,000,000 ("ground nuclei stay", 02, W-201). Assumes nothing.
use Rattle.std.proofs.Common.{sym, ◌∙◌, subst, div-lt_iff_lt-mul, mul_comm, arith, le-leb, lt-ltb}
use Rattle.std.specs.Prelude.{ℕ, ◌*◌, ◌/◌, ◌<◌, T, ℤ, pos, neg_ℤ, ◌≤ℤ◌, ◌<ℤ◌}
use Rattle.std.proofs.Math.IntN.{sub_ℕ}
use Rattle.signed.specs.Laws.Sign.{sub-le-right, sub-lt-right}
use Rattle.cell.specs.declared.Cell.{Cell}
use Rattle.cell.specs.declared.Arrangement.{Arrangement}
use Rattle.cell.specs.Cell.{IsCell, IsArrangement}
use Rattle.locate.specs.Fix.{quarter}
use Rattle.nucleus.specs.Nucleus.{ground_nucleus}
use Rattle.nucleus.specs.Laws.Nucleus.{sent}

-- a longitude that lies x units east of -1,800,000,000, and less than a full turn
east-in-range : (x : ℕ) → x < 3600000000 → (neg_ℤ (pos 1800000000) ≤ℤ sub_ℕ x 1800000000) × (sub_ℕ x 1800000000 <ℤ pos 1800000000)
east-in-range x h = (
  record { le = subst T (sym (sub-le-right 0 x 1800000000 ∙ le-leb 0 x (omega arith))) tt },
  record { lt = subst T (sym (sub-lt-right x 3600000000 1800000000 ∙ lt-ltb x 3600000000 h)) tt },
)

pub nucleus-in-range :
    {a : Arrangement} {c : Cell} → IsArrangement a → IsCell c →
    (neg_ℤ (pos 1800000000) ≤ℤ (ground_nucleus a c).longitude) × ((ground_nucleus a c).longitude <ℤ pos 1800000000)
nucleus-in-range {a} {c} g v =
    let s = sent g v in
    let e : ℕ = s.0 in
    let d : ℕ = s.1 in
    let r : e < 4 * (d * quarter) = s.4.range in
    let k : e / d < 3600000000 = (div-lt_iff_lt-mul {k = d} {x = e} {y = 3600000000} s.4.longitude).1 (omega (arith, mul_comm d 900000000)) in
    subst (λ (x : ℤ). (neg_ℤ (pos 1800000000) ≤ℤ x) × (x <ℤ pos 1800000000)) (sym s.5) (east-in-range (e / d) k)
