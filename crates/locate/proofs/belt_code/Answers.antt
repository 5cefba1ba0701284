-- `locate::belt_code` meets its contract: by the parts, or by the cell. Assumes nothing.
use native.Mathlib.Omega.{arith}
use mathlib.Core.Path.{sym, subst, ◌∙◌}
use Prim.Native.Nat.{◌%◌, ◌^◌, ◌<◌}
use Rattle.cell.specs.Cell.{IsCell}
use Rattle.locate.proofs.Internal.PartLaws.{row-part-lt, belt-parts}
use Rattle.locate.proofs.Laws.Fix.{belt-is-cell}
use Rattle.locate.proofs.belt_code.Goals as goal
use Rattle.locate.proofs.belt_code.Goals.{After-high-row}

row_lt : (c : After-high-row) → c.high-row.result < 2 ^ 56
row_lt c = rw c.high-row.ensures (row-part-lt c.args.offset c.requires.offset_bound)

pub is_firm-requires : goal.is_firm-requires
is_firm-requires c = (row_lt (goal.at.is_firm-requires c).After-high-row, omega arith)

pub part_code-requires : goal.part_code-requires
part_code-requires c =
    let h = c in
    let s = h in
    record { arrangement = s.requires.arrangement; face_bound = (omega arith, s.requires.resolution_bound, row_lt (goal.at.part_code-requires c).After-high-row, omega arith) }

pub returns-then-is_firm : goal.returns-then-is_firm
returns-then-is_firm c =
    let x = c in
    let h = x in
    let s = h in
    let a = s.args in
    let t = sym x.is_firm.ensures ∙ x.if-is_firm.true in
    c.part_code.ensures ∙ belt-parts a.arrangement a.resolution a.east a.offset s.requires.resolution_bound s.requires.east_bound s.requires.offset_bound h.high-row.ensures x.east_part-column.ensures t

pub code_of-requires : goal.code_of-requires
code_of-requires c =
    let s = c in
    record { arrangement = s.requires.arrangement; cell = subst IsCell (sym c.belt.ensures) (belt-is-cell s.args.resolution (s.args.east % 3600000000) s.args.offset s.requires.resolution_bound (omega arith) s.requires.offset_bound) }
