-- `authalic::share_word` meets its contract. Assumes nothing.
use mathlib.Core.Path.{◌≡◌, ap₂, ◌∙◌}
use Prim.Native.Nat.{ℕ, ◌+◌, ◌-◌, ◌^◌, ◌≤◌}
use native.Mathlib.Omega.{arith}
use lib.Dec.{lit<}
use Rattle.wide.specs.High.{high_word}
use Rattle.wide.specs.Laws.High.{high-most}
use Rattle.authalic.specs.Computed.{grown, share_word}
use Rattle.authalic.proofs.share_word.Goals as goal
use Rattle.authalic.proofs.share_word.Goals.{After-high-c, Start}

-- a and its square
part : (s : Start) → 18446744073709551615 - s.args.b + 1 ≡ 2 ^ 64 - s.args.b
part s = omega arith

square-is : (c : After-high-c) → let a = 2 ^ 64 - c.args.b in c.high-c.result ≡ high_word a a
square-is c = c.high-c.ensures ∙ ap₂ high_word (part (goal.at.After-high-c c).Start) (part (goal.at.After-high-c c).Start)

square-small : (c : After-high-c) → c.high-c.result ≤ 900000000000000
square-small c =
    let a : ℕ = 2 ^ 64 - c.args.b in
    let h : a ≤ 127000000000000000 = omega arith in
    rw (square-is c) (high-most 127000000000000000 127000000000000000 900000000000000 h h (lit< tt))

pub grow-y-requires : goal.grow-y-requires
grow-y-requires c = omega (arith, square-small (goal.at.grow-y-requires c).After-high-c)

pub grow-requires-2 : goal.grow-requires-2
grow-requires-2 c =
    let q = c in
    let h : q.high-c.result ≤ 900000000000000 = square-small (goal.at.grow-requires-2 c).After-high-c in
    let k : high_word q.high-c.result q.high-c.result ≤ 44000000000 = high-most 900000000000000 900000000000000 44000000000 h h (lit< tt) in
    omega (arith, c.high.ensures)

pub returns : goal.returns
unfolding share_word grown
returns c =
    let q = c in
    (cc (part (goal.at.returns c).Start), omega arith)
