-- `comparing::list_texts` meets its contract: the children of the whole grid are its six faces. Assumes nothing.
use native.Mathlib.Omega.{arith}
use mathlib.Core.Path.{sym, subst}
use Rattle.cell.specs.Cell.{IsArrangement}
use Rattle.reading.proofs.Laws.TextReading.{text-arranged}
use Rattle.comparing.proofs.Texts.{texts-found}
use Rattle.comparing.proofs.list_texts.Goals as goal

pub list_children-requires : goal.list_children-requires
list_children-requires c =
    let p = c.requires in
    record { arrangement = subst IsArrangement (sym p.0.arranged) (text-arranged _ p.0.text); resolution_bound = (omega arith, omega arith, omega arith, omega arith, omega arith) }

pub returns : goal.returns
returns c =
    let l = c in
    let p = l.requires in
    texts-found p.0 p.1 l.list_children.ensures
