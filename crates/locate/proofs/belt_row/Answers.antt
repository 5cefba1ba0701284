-- `locate::belt_row` meets its contract. Assumes nothing.
use mathlib.Core.Path.{ap₂, ◌∙◌}
use Prim.Native.Nat.{ℕ, ◌*◌, ◌/◌, ◌<◌}
use native.Mathlib.Nat.{le_of_lt, mul-le-mul}
use native.Mathlib.Omega.{arith}
use Rattle.ternary.proofs.Laws.Powers.{power_le}
use Rattle.locate.proofs.Laws.Part.{part-lt, part-coarser}
use Rattle.locate.proofs.belt_row.Goals as goal

pub overflow_mul-result : goal.overflow_mul-result
overflow_mul-result c =
    let f = c in
    let s = f in
    let l = power_le {i = s.args.resolution} {j = 15} s.requires.resolution_bound in
    let h : f.finest_row-row.result < 14348907 = rw f.finest_row-row.ensures (part-lt 14348907 s.args.offset 4000000000000000000 s.requires.offset_bound (omega arith)) in
    omega (arith, mul-le-mul {n₁ = f.finest_row-row.result} {m₁ = s.args.m} {n₂ = 14348907} {m₂ = 14348907} (le_of_lt h) (omega arith))

pub returns-then-resolution-lt15 : goal.returns-then-resolution-lt15
returns-then-resolution-lt15 c =
    let f = c in
    let s = f in
    let k = s.args.resolution in
    ap₂ (λ (q m : ℕ). q * m / 14348907) f.finest_row-row.ensures s.requires.m_value ∙ part-coarser k s.args.offset 4000000000000000000 s.requires.resolution_bound (omega arith)
