-- 19 of the side comes first, then the code's 4. Assumes nothing.
use mathlib.Core.Path.{sym, ap₂, ◌∙◌, subst}
use Rattle.cell.specs.Cell.{IsArrangement}
use Rattle.cell.proofs.Laws.Found.{found-refused}
use Rattle.code.specs.Code.{cell_of, code_refusal}
use Rattle.code.proofs.Laws.Code.{code-arranged}
use Rattle.code.proofs.Laws.Decoded.{decoded}
use Rattle.plotter.specs.Plotter.{box_of, box_in, box_refusal, first_frame}
use Rattle.plotter.proofs.Facts.{side-refused, side-passes, framed-edges, framed-refused, nineteen}
use Rattle.plotter.proofs.frame_first.Goals as goal

pub returns-then-not-is_side : goal.returns-then-not-is_side
unfolding first_frame box_refusal
returns-then-not-is_side c =
    let s = c.args in
    let r = code_refusal s.code in
    let e = side-refused s.side r (sym c.is_side.ensures ∙ c.if-not-is_side.true) in
    framed-refused 19 _ (box_in s.side s.code) e (nineteen e)

pub box_of-requires : goal.box_of-requires
box_of-requires c =
    let k = c in
    let code = k.args.code in
    record { arrangement = subst IsArrangement (sym c.arrangement_of.ensures) (code-arranged code); cell = (decoded code k.cell_of.ensures c.in-Ok.is).cell }

pub returns-in-Ok : goal.returns-in-Ok
unfolding first_frame box_refusal
returns-in-Ok c =
    let k = c in
    let s = k.args in
    let d = decoded s.code k.cell_of.ensures c.in-Ok.is in
    let i = side-passes s.side (code_refusal s.code) (sym k.is_side.ensures ∙ k.if-not-is_side.false) in
    framed-edges (i ∙ d.allowed) (c.box_of.ensures ∙ ap₂ (box_of s.side) c.arrangement_of.ensures d.is)

pub returns-in-Err : goal.returns-in-Err
unfolding first_frame box_refusal
returns-in-Err c =
    let k = c in
    let s = k.args in
    let p = found-refused (code_refusal s.code) (cell_of s.code) _ (sym c.in-Err.is ∙ k.cell_of.ensures) in
    let i = side-passes s.side (code_refusal s.code) (sym k.is_side.ensures ∙ k.if-not-is_side.false) in
    framed-refused _ _ (box_in s.side s.code) (p.0 ∙ sym i) (λ z. p.1 (sym i ∙ z))
