-- `locate::cap_code` meets its contract: by the parts, or by the cell. Assumes nothing.
use mathlib.Core.Path.{sym, ap, subst, ◌∙◌}
use Prim.Native.Nat.{◌^◌, ◌≤◌}
use lib.IntN.{ℤ}
use Rattle.cell.specs.Cell.{IsCell}
use Rattle.root.specs.Floor.{root_floor, axis_of}
use Rattle.root.specs.Laws.Floor.{axis-size}
use Rattle.locate.specs.Fix.{quarter}
use Rattle.locate.proofs.Laws.Fix.{cap-is-cell}
use Rattle.locate.proofs.Laws.Turn.{Spanned}
use Rattle.locate.proofs.Internal.PartLaws.{cap-parts, floor-place}
use Rattle.locate.proofs.cap_code.Goals as goal

pub returns-then-is_firm-2 : goal.returns-then-is_firm-2
returns-then-is_firm-2 c =
    let d = c in
    let f = d in
    let n = f in
    let r = n in
    let s = r in
    let a = s.args in
    let k = a.resolution in
    let q = n.negated-down.result in
    let p = a.end.p in
    let small : q.size ≤ quarter = rw n.negated-down.ensures.1 s.requires.size_le_quarter_2 in
    let t = sym f.is_firm.ensures ∙ d.if-is_firm.true in
    let u = sym c.is_firm-then-is_firm.ensures ∙ c.if-is_firm-2.true in
    let e = floor-place k a.height r.whole_root-root.result q s.requires.resolution_bound s.requires.height_bound small r.whole_root-root.ensures.0 r.whole_root-root.ensures.1 f.part-row.ensures.0 t in
    let g =
    floor-place k a.height r.whole_root-root.result p s.requires.resolution_bound s.requires.height_bound s.requires.size_le_quarter r.whole_root-root.ensures.0 r.whole_root-root.ensures.1
    d.part-column.ensures.0 u in
    c.part_code.ensures
    ∙ cap-parts a.arrangement a.face k a.height (axis_of a.end.p, axis_of a.end.q) f.part-row.result d.part-column.result
    (e ∙ ap (λ (x : ℤ). root_floor (3 ^ k) a.height x) n.negated-down.ensures.0) g

pub code_of-requires : goal.code_of-requires
code_of-requires c =
    let s = c in
    let a = s.args in
    let w : Spanned quarter (axis_of a.end.p, axis_of a.end.q) =
    record { first = rw (axis-size a.end.p) s.requires.size_le_quarter; second = rw (axis-size a.end.q) s.requires.size_le_quarter_2 } in
    let v = cap-is-cell a.face a.resolution a.height (axis_of a.end.p, axis_of a.end.q) s.requires.face_bound s.requires.resolution_bound s.requires.height_bound w in
    record { arrangement = s.requires.arrangement; cell = subst IsCell (sym c.cap.ensures) v }
