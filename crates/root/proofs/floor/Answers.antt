-- `root::floor` meets its contract: the resolutions agree. Assumes nothing.
use mathlib.Core.Path.{ap₂, ◌∙◌}
use Prim.Native.Nat.{ℕ, ◌*◌, ◌/◌, ◌^◌, ◌≤◌}
use native.Mathlib.Nat.{le_of_lt, mul-le-mul}
use native.Mathlib.Omega.{arith}
use lib.IntN.{nat_abs}
use Rattle.ternary.proofs.Laws.Powers.{power_le, power_pos}
use Rattle.root.specs.Floor.{axis_of}
use Rattle.root.specs.Laws.Floor.{floor-below, axis-size}
use Rattle.root.specs.Laws.Part.{floor-coarser}
use Rattle.root.proofs.floor.Goals as goal

pub overflow_mul-result : goal.overflow_mul-result
overflow_mul-result c =
    let f = c in
    let s = f in
    let l = power_le {i = s.args.k} {j = 15} s.requires.0 in
    omega (arith, mul-le-mul {n₁ = f.finest-w.result} {m₁ = s.args.m} {n₂ = 14348907} {m₂ = 14348907} (le_of_lt f.finest-w.ensures.1) (omega (arith, s.requires.1)))

pub returns-then-k-lt15 : goal.returns-then-k-lt15
returns-then-k-lt15 c =
    let f = c in
    let s = f in
    let radicand = s.args.radicand in
    let p = axis_of s.args.p in
    let hp : nat_abs p ≤ 900000000 = rw (axis-size s.args.p) s.requires.3 in
    let e = ap₂ (λ (w m : ℕ). w * m / 14348907) f.finest-w.ensures.0 s.requires.1 ∙ floor-coarser s.args.k radicand p s.requires.0 hp s.requires.2 in
    (e, rw e (floor-below (3 ^ s.args.k) radicand p (power_pos s.args.k) hp s.requires.2))
