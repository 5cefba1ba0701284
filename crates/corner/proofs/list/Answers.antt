-- `corner::list` meets its contract: nothing is written before every test, and the count is the list's length. Assumes nothing.
use mathlib.Core.Path.{◌≡◌, sym, ap, subst, ◌∙◌}
use lib.ListN.{length}
use Rattle.cell.specs.Cell.{IsCell}
use Rattle.code.proofs.Laws.Code.{code-arranged}
use Rattle.code.proofs.Laws.Decoded.{Decoded, decoded, undecoded}
use Rattle.corner.specs.Corner.{corner_number}
use Rattle.corner.specs.List.{codes_at}
use Rattle.corner.proofs.Laws.List.{corners-count}
use Rattle.corner.proofs.Answers.{no_code, short, all}
use native.Mathlib.Omega.{arith}
use Rattle.corner.proofs.list.Goals as goal
use Rattle.corner.proofs.list.Goals.{After-count-number, In-Ok}

read : (c : In-Ok) → Decoded c.args.code c.in-Ok.cell
read c = decoded _ c.cell_of.ensures c.in-Ok.is

-- the count is that of the list
counted : (c : After-count-number) → c.count-number.result ≡ length (codes_at c.args.code)
counted c =
    let x = c in
    let code = x.args.code in
    c.count-number.ensures ∙ ap corner_number (read (goal.at.After-count-number c).In-Ok).is ∙ sym (corners-count (code-arranged code) (subst IsCell (read (goal.at.After-count-number c).In-Ok).is (read (goal.at.After-count-number c).In-Ok).cell))

pub returns-in_default : goal.returns-in_default
returns-in_default c =
    let a = c.args in let r = no_code a.code a.codes.now (undecoded _ c.cell_of.ensures c.in_default.is) in record { value = r.0; codes_after = r.1 }

pub count-number-requires : goal.count-number-requires
count-number-requires c = (read (goal.at.count-number-requires c).In-Ok).cell

pub returns-then-codes-number : goal.returns-then-codes-number
returns-then-codes-number c =
    let x = c in
    let a = x.args in
    let n = counted (goal.at.returns-then-codes-number c).After-count-number in let r = short a.code a.codes.now (read (goal.at.returns-then-codes-number c).In-Ok).allowed (omega (arith, c.if-codes-number.true)) in record { value = r.0; codes_after = r.1 }

pub put_corners-requires : goal.put_corners-requires
put_corners-requires c =
    let k = c in
    let x = k in
    let n = counted (goal.at.put_corners-requires c).After-count-number in
    let d = read (goal.at.put_corners-requires c).In-Ok in
    rw c.arrangement_of.ensures (record { arrangement = code-arranged x.args.code; cell = d.cell; cell_in_bounds = rw d.is (omega (arith, c.if-codes-number.false)) })

pub returns : goal.returns
returns c =
    let p = c in
    let k = p in
    let x = k in
    let a = x.args in
    let n = counted (goal.at.returns c).After-count-number in let r = all a.code a.codes.now (read (goal.at.returns c).In-Ok).allowed (omega (arith, p.if-codes-number.false)) n
    (rw (p.arrangement_of.ensures, (read (goal.at.returns c).In-Ok).is) at p.put_corners.ensures) in record { value = r.0; codes_after = r.1 }
