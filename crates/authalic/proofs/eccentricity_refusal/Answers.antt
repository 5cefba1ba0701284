-- `authalic::eccentricity_refusal` meets its contract. Assumes nothing.
use mathlib.Core.Path.{sym, ap}
use mathlib.Core.Bool.{Bool}
use borrow.Author.Tests.{lt-ltb, le-ltb}
use Rattle.logic.specs.Refusal.{refuse}
use Rattle.authalic.specs.Authalic.{eccentricity_refusal}
use Rattle.authalic.proofs.eccentricity_refusal.Goals as goal

pub returns-then-eccentricity-gt-GREATEST : goal.returns-then-eccentricity-gt-GREATEST
unfolding eccentricity_refusal
returns-then-eccentricity-gt-GREATEST c = sym (ap (λ (b : Bool). refuse b 6) (lt-ltb 10000000000 c.args.eccentricity c.if-eccentricity-gt-GREATEST.true))

pub returns-else-eccentricity-gt-GREATEST : goal.returns-else-eccentricity-gt-GREATEST
unfolding eccentricity_refusal
returns-else-eccentricity-gt-GREATEST c = sym (ap (λ (b : Bool). refuse b 6) (le-ltb 10000000000 c.args.eccentricity c.if-eccentricity-gt-GREATEST.false))
