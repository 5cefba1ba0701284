-- `rescue` meets its contract: what the look tells is refused or rescued. Assumes nothing.
use mathlib.Core.Path.{sym, subst, ◌∙◌}
use Rattle.rescue.specs.Rescue.{RescueIs}
use Rattle.rescue.proofs.Internal.Joint.{look-loose, look-refused}
use Rattle.rescue.proofs.rescue.Goals as goal

pub rescue_loose-requires : goal.rescue_loose-requires
rescue_loose-requires c =
    let l = c in
    look-loose l.args.text.now (sym c.in-Ok.is ∙ l.look.ensures)

pub returns-in-Err : goal.returns-in-Err
returns-in-Err c =
    let l = c in
    let a = l.args in
    subst (RescueIs a.text.now a.out.now a.out.now a.list.now a.list.now) (sym c.refused.ensures)
    (look-refused (sym c.in-Err.is ∙ l.look.ensures))
