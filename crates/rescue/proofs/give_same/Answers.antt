-- `give_same` meets its contract: the room is tested before the text is put. Assumes nothing.
use native.Mathlib.Omega.{arith}
use mathlib.Core.Path.{sym, subst}
use Rattle.rescue.specs.Internal.Same.{GivesSame}
use Rattle.rescue.proofs.Internal.Same.{same-no-room, same-given}
use Rattle.rescue.proofs.give_same.Goals as goal

pub returns-then-out-text : goal.returns-then-out-text
returns-then-out-text c =
    let a = c.args in subst (GivesSame a.text.now a.out.now a.out.now) (sym c.refused.ensures) (same-no-room c.if-out-text.true)

pub returns : goal.returns
returns c = same-given (omega (arith, c.if-out-text.false)) c.copy.ensures
