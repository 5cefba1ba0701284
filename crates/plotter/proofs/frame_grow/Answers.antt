-- 19 of the side, then 19 of the frame, then what the first frame of the code is. Assumes nothing.
use mathlib.Core.Path.{sym, ap, ◌∙◌}
use Rattle.logic.specs.Refusal.{refuse, ◌otherwise◌}
use Rattle.code.specs.Code.{code_refusal}
use Rattle.plotter.specs.Plotter.{box_in, box_refusal, first_frame, grown, grow_refusal, has_nan, grown_frame}
use Rattle.plotter.proofs.Facts.{side-refused, side-passes, framed-edges, framed-refused, edges-framed, refused-framed, nan-refused, nan-passes, nineteen}
use Rattle.plotter.proofs.frame_grow.Goals as goal

pub returns-then-not-is_side : goal.returns-then-not-is_side
unfolding grown_frame grow_refusal
returns-then-not-is_side c =
    let s = c.args in
    let e = side-refused s.side (refuse (has_nan s.frame) 19 otherwise code_refusal s.code) (sym c.is_side.ensures ∙ c.if-not-is_side.true) in
    framed-refused 19 _ (grown s.frame (box_in s.side s.code)) e (nineteen e)

pub returns-then-has_nan : goal.returns-then-has_nan
unfolding grown_frame grow_refusal
returns-then-has_nan c =
    let k = c in
    let s = k.args in
    let r = code_refusal s.code in
    let i = side-passes s.side (refuse (has_nan s.frame) 19 otherwise r) (sym k.is_side.ensures ∙ k.if-not-is_side.false) in
    let e = nan-refused (has_nan s.frame) r (sym c.has_nan.ensures ∙ c.if-has_nan.true) ∙ sym i in
    framed-refused 19 _ (grown s.frame (box_in s.side s.code)) e (nineteen e)

pub returns-in-Ok : goal.returns-in-Ok
unfolding grown_frame grow_refusal first_frame box_refusal
returns-in-Ok c =
    let f = c in
    let k = f in
    let s = k.args in
    let r = code_refusal s.code in
    let side-good = sym k.is_side.ensures ∙ k.if-not-is_side.false in
    let p = edges-framed (box_refusal s.side s.code) (box_in s.side s.code) (sym c.in-Ok.is ∙ f.frame_first.ensures) in
    let i = side-passes s.side (refuse (has_nan s.frame) 19 otherwise r) side-good in
    let j = nan-passes (has_nan s.frame) r (sym f.has_nan.ensures ∙ f.if-has_nan.false) in
    framed-edges (i ∙ j ∙ sym (side-passes s.side r side-good) ∙ p.0) (c.grown.ensures ∙ ap (grown s.frame) p.1)

pub returns-in-Err : goal.returns-in-Err
unfolding grown_frame grow_refusal first_frame box_refusal
returns-in-Err c =
    let f = c in
    let k = f in
    let s = k.args in
    let r = code_refusal s.code in
    let side-good = sym k.is_side.ensures ∙ k.if-not-is_side.false in
    let p = refused-framed (box_refusal s.side s.code) (box_in s.side s.code) (sym c.in-Err.is ∙ f.frame_first.ensures) in
    let i = side-passes s.side (refuse (has_nan s.frame) 19 otherwise r) side-good in
    let j = nan-passes (has_nan s.frame) r (sym f.has_nan.ensures ∙ f.if-has_nan.false) in
    let e = i ∙ j ∙ sym (side-passes s.side r side-good) in
    framed-refused _ _ (grown s.frame (box_in s.side s.code)) (p.0 ∙ sym e) (λ z. p.1 (sym e ∙ z))
