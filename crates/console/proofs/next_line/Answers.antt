-- `console::next_line` meets its contract: in each turn a line ends, or more of it stands in its room. Assumes nothing.
use mathlib.Core.Path.{refl}
use native.Mathlib.Omega.{arith}
use borrow.Author.Rules.{rules}
use Rattle.console.proofs.Laws.Input.{count_fits}
use Rattle.console.proofs.Laws.{begun-none, begun-line, begun-part, part-kept, begun_more, begun-last}
use Rattle.console.proofs.next_line.Goals as goal

pub loop-init : goal.loop-init
loop-init c = (omega arith, omega arith, omega arith, refl, refl, begun-none _ _)

pub returns-in-LineEnd : goal.returns-in-LineEnd
returns-in-LineEnd c =
    let l = c.loop in
    begun-line l.invariant.5 _ (search rules) _ _ _ _ l.invariant.1 c.next.ensures c.in-LineEnd.is

pub returns-then-count-eq0 : goal.returns-then-count-eq0
returns-then-count-eq0 c =
    let l = c.loop in
    let n = c.next in
    let more = c.in-PartEnd.is in
    let part = begun-part l.invariant.5 n.new.room (search rules) _ _ n.ensures more in
    begun-last n.new.room (search rules) _ c.last_line.ensures part (part-kept _ _ _ n.new.room _ n.ensures more)

pub loop-preserved : goal.loop-preserved
loop-preserved c =
    let l = c.loop in
    let n = c.next in
    let more = c.in-PartEnd.is in
    let part = begun-part l.invariant.5 n.new.room (search rules) _ _ n.ensures more in (
      omega arith,
      count_fits c.read_more.new.bytes _ c.read_more.ensures c.in-Some.is,
      part-kept _ _ _ n.new.room _ n.ensures more,
      search rules,
      search rules,
      begun_more _ part,
    )
