-- `authalic::less_word` meets its contract. Assumes nothing.
use mathlib.Core.Path.{ap, ◌∙◌}
use Prim.Native.Nat.{ℕ, ◌+◌, ◌-◌, ◌/◌, ◌≤◌}
use native.Mathlib.Omega.{arith}
use Rattle.authalic.specs.Computed.{share_word, less_word}
use Rattle.authalic.proofs.Internal.AnswerLaws.{product_small}
use Rattle.authalic.proofs.less_word.Goals as goal
use Rattle.authalic.proofs.less_word.Goals.{After-high-w}

product-is-small : (c : After-high-w) → c.high-w.result ≤ 14000000000000000000
product-is-small c = let a = c.args in rw c.high-w.ensures (product_small a.s (a.b - a.a) (omega arith) (omega arith))

pub share_word-requires : goal.share_word-requires
share_word-requires c = record { w_bound = product-is-small (goal.at.share_word-requires c).After-high-w; le_b = omega arith }

pub returns : goal.returns
unfolding less_word
returns c =
    let b : ℕ = c.args.b in
    ap (λ (z : ℕ). (z + 1024) / 2048) (c.share_word.ensures.0 ∙ ap (λ (z : ℕ). share_word z b) c.high-w.ensures)
