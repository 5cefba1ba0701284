-- `locate::east_of` meets its contract: in range the sum is at most a full turn. Assumes nothing.
use mathlib.Core.Path.{◌≡◌, ap, ◌∙◌}
use native.Mathlib.Omega.{arith}
use lib.IntN.{ℤ, pos, nat_abs, ◌+ℤ◌}
use Rattle.signed.specs.Laws.Sign.{back}
use Rattle.locate.specs.Fix.{east_of}
use Rattle.locate.proofs.east_of.Goals as goal
use Rattle.locate.proofs.east_of.Goals.{After-shifted-east}

shifted-is : (c : After-shifted-east) → c.shifted-east.result ≡ nat_abs (c.args.longitude +ℤ pos 1800000000)
shifted-is c = c.shifted-east.ensures ∙ ap (λ (x : ℤ). nat_abs (x +ℤ pos 1800000000)) (back c.ranges.longitude)

pub returns-then-east-lt-FULL_TURN : goal.returns-then-east-lt-FULL_TURN
unfolding east_of
returns-then-east-lt-FULL_TURN c = let e = shifted-is (goal.at.returns-then-east-lt-FULL_TURN c).After-shifted-east in omega arith

pub returns : goal.returns
unfolding east_of
returns c = let e = shifted-is (goal.at.returns c).After-shifted-east in let h = c.requires.pos_bound in omega arith
