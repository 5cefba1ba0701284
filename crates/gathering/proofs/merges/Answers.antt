-- `merges` meets its contract. Assumes nothing.
use mathlib.Core.Path.{◌∙◌}
use Rattle.gathering.proofs.Steps.{merges-coarse, merges-other, merges-follows}
use Rattle.gathering.proofs.merges.Goals as goal

pub returns-then-resolution-eq0 : goal.returns-then-resolution-eq0
returns-then-resolution-eq0 c = merges-coarse c.args.arrangement c.args.resolution c.args.number _ c.if-resolution-eq0.true

pub returns-then-number-ne8 : goal.returns-then-number-ne8
returns-then-number-ne8 c = merges-other c.args.arrangement c.args.resolution c.args.number _ c.if-number-ne8.true

pub returns : goal.returns
returns c =
    let c4 = c in
    c.follows.ensures ∙ merges-follows c4.args.arrangement c4.args.resolution c4.args.number _ c.if-resolution-eq0.false c.if-number-ne8.false
