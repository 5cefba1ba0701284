-- `asking::answered` meets its contract. Assumes nothing.
use Rattle.std.specs.Prelude.{Ok, Bool, ℕ}
use mathlib.Core.Path.{ap, ap₂, ◌∙◌}
use mathlib.Core.Bool.{cond}
use Prim.Native.Nat.{ℕ, ◌+◌}
use lib.Dec.{ltb}
use lib.ListN.{drop}
use Rattle.reading.specs.Letters.{letter_count}
use Rattle.asking.specs.Ask.{asked}
use Rattle.asking.proofs.Counts.{between, settled_is}
use Rattle.asking.proofs.answered.Goals as goal

pub returns : goal.returns
unfolding asked
returns c =
    let s = c in
    let t = s.args.text.now in
    let r = c.reach-reached in
    let at = r.result.at in
    ap₂ (λ (a : Bool) (b : ℕ). Ok (record { covered = a; settled = b })) r.ensures.answer
    (c.settled_at.ensures
    ∙ ap (λ (x : ℕ). between t x at + cond (ltb 0 (letter_count (drop at t))) 1 0) s.requires.1
    ∙ settled_is t s.requires.0 s.args.code at r.ensures.above)
