-- `take_all` meets its contract: each turn takes the line that it was handed, or stops there. Assumes nothing.
use mathlib.Core.Path.{◌≡◌, refl, sym}
use mathlib.Core.List.{[], ◌∷◌, ◌++◌}
use lib.ListN.{length, take}
use Rattle.decimal.specs.Decimal.{trimmed}
use Rattle.name.specs.Name.{name_code}
use Rattle.lines.specs.Laws.Fold.{no_line}
use Rattle.console.specs.Input.{unread}
use Rattle.console.proofs.Laws.Input.{line-given, last-given}
use Rattle.coverage.specs.Names.{read, with_name}
use Rattle.coverage.proofs.Laws.{taken-fits, line_read, line-stops, last-read, last-stops}
use native.Mathlib.Omega.{arith}
use borrow.Author.Rules.{rules}
use Rattle.coverage.proofs.take_all.Goals as goal

pub loop-line-init : goal.loop-line-init
loop-line-init c = (omega arith, omega arith, omega arith, refl, refl, refl, [], no_line (with_name _ _) (read [] []))

pub loop-line-preserved : goal.loop-line-preserved
loop-line-preserved c =
    let l = c.loop-line in
    let a = c.args in
    let n = c.next_line in
    let line = c.in-Line in
    let g = line-given _ _ _ n.ensures _ _ _ line.is in
    let t = c.take_name in
    let e = c.in-Ok.is in
    let room = n.new.room in
    let all = l.invariant.6 in
    let m = taken-fits a.arrangement room (search rules) all l.codes t.new.codes l.count line.length l.invariant.7 t.ensures _ e in
    let v = line_read a.arrangement room (search rules) all l.codes t.new.codes l.count line.length l.invariant.7 t.ensures (unread l.bytes l.from l.end) n.new.bytes _ _ _ g e in
    let same : length t.new.codes ≡ length l.codes = search rules in
    (g.6, g.7, m, search rules, search rules, search rules, all ++ (name_code a.arrangement (trimmed (take line.length room)) ∷ []), rw same v)

pub returns-in-Err : goal.returns-in-Err
returns-in-Err c =
    let l = c.loop-line in
    let a = c.args in
    let n = c.next_line in
    let line = c.in-Line in
    let g = line-given _ _ _ n.ensures _ _ _ line.is in
    let t = c.take_name in
    rw (sym l.invariant.5)
    (line-stops a.arrangement n.new.room (search rules) l.invariant.6 l.codes t.new.codes l.count line.length l.invariant.7 t.ensures (unread l.bytes l.from l.end)
    n.new.bytes _ _ _ g c.in-Err.is)

pub returns-in-Ok-take_name : goal.returns-in-Ok-take_name
returns-in-Ok-take_name c =
    let l = c.loop-line in
    let a = c.args in
    let n = c.next_line in
    let line = c.in-Last in
    let g = last-given _ _ _ n.ensures _ line.is in
    let t = c.take_name-in-Last in
    rw (sym l.invariant.5)
    (last-read a.arrangement n.new.room (search rules) l.invariant.6 l.codes t.new.codes l.count line.length l.invariant.7 t.ensures (unread l.bytes l.from l.end)
    n.new.bytes _ g c.in-Ok-take_name.is)

pub returns-in-Err-take_name : goal.returns-in-Err-take_name
returns-in-Err-take_name c =
    let l = c.loop-line in
    let a = c.args in
    let n = c.next_line in
    let line = c.in-Last in
    let g = last-given _ _ _ n.ensures _ line.is in
    let t = c.take_name-in-Last in
    rw (sym l.invariant.5)
    (last-stops a.arrangement n.new.room (search rules) l.invariant.6 l.codes t.new.codes l.count line.length l.invariant.7 t.ensures (unread l.bytes l.from l.end)
    n.new.bytes _ g c.in-Err-take_name.is)
