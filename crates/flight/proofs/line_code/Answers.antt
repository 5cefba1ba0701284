-- `flight::line_code` meets its contract: each way is one case of the line's reading. Assumes nothing.
use mathlib.Core.Path.{sym, ap, ap₂, ◌∙◌}
use Rattle.signed.specs.Laws.Sign.{back-result}
use Rattle.code.proofs.Laws.Code.{found-coded}
use Rattle.flight.specs.Flight.{fix_coded, of_line, line_code}
use native.Mathlib.Omega.{arith}
use Rattle.flight.proofs.line_code.Goals as goal

pub returns-in_default : goal.returns-in_default
unfolding line_code of_line
returns-in_default c =
    let f = c in
    c.no_fix.ensures ∙ ap (of_line f.args.setting) (sym c.in_default.is ∙ f.fix_in.ensures)

pub returns : goal.returns
unfolding line_code of_line fix_coded
returns c =
    let a = c.args in
    c.coded_fix.ensures ∙ found-coded _ _ _
    ∙ ap₂ (fix_coded a.setting) (back-result c.in-Some.longitude (omega arith)) (back-result c.in-Some.second (omega arith))
    ∙ ap (of_line a.setting) (sym c.in-Some.is ∙ c.fix_in.ensures)
