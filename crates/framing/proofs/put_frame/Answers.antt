-- 19 of the side, then what listing answers, its place and the codes it leaves; the codes listed are the text's, so every edge is a number.
-- Assumes nothing.
use mathlib.Core.Path.{◌≡◌, refl, sym, ap, ap₂, ◌∙◌, subst}
use mathlib.Core.Bool.{true}
use Prim.Native.Nat.{ℕ, ◌≤◌}
use native.Mathlib.Omega.{arith}
use lib.ListN.{length}
use lib.Seq.{length-take-le}
use borrow.Author.Rules.{rules}
use Rattle.logic.specs.Refusal.{given}
use Rattle.logic.specs.Laws.Refusal.{given-none}
use Rattle.metres.specs.Metres.{is_side}
use Rattle.listing.specs.List.{codes_of, codes_in}
use Rattle.listing.proofs.Laws.Listed.{listed-allowed, listed-text, listed-fits, listed-taken, listed-refused, listed-place}
use Rattle.plotter.specs.Plotter.{frame_around}
use Rattle.framing.specs.Framing.{side_in, Numbers}
use Rattle.framing.proofs.Laws.Framing.{frame-numbers, side-stops, side-goes}
use Rattle.framing.proofs.Laws.{put_as, line_refused, line-framed}
use Rattle.framing.proofs.put_frame.Goals as goal
use Rattle.framing.proofs.put_frame.Goals.{After-frame_around, Else-not-is_side, In-Ok}

-- the side is taken
taken : (c : Else-not-is_side) → is_side (side_in c.args.word.now) ≡ true
taken c =
    let s = c in
    ap is_side (sym s.side_in-side.ensures) ∙ sym c.is_side.ensures ∙ c.if-not-is_side.false

count :
    (c : In-Ok) →
    c.in-Ok.count ≤ length c.args.codes.now
count c =
    let a = c.args in
    listed-fits a.text.now a.codes.now c.list.ensures.value _ c.in-Ok.is

-- the frame is that of the text's codes
around-is : (c : After-frame_around) →
    let a = c.args in
    c.frame_around.result ≡ frame_around (side_in a.word.now) (codes_of a.text.now)
around-is c =
    let a = c.args in
    let codes = listed-taken a.text.now a.codes.now c.list.ensures.value _ c.list.new.codes c.in-Ok.is c.list.ensures.codes_after in
    c.frame_around.ensures ∙ ap₂ frame_around c.side_in-side.ensures codes

pub returns-then-not-is_side : goal.returns-then-not-is_side
returns-then-not-is_side c =
    let a = c.args in
    let q = c.put_line.ensures in
    let side = side_in a.word.now in
    let e = side-stops side a.text.now (length a.codes.now) (ap is_side (sym c.side_in-side.ensures) ∙ sym c.is_side.ensures ∙ c.if-not-is_side.true) in record {
      put = put_as (line_refused side a.text.now (length a.codes.now) 19 e (λ z. omega arith)) q.put;
      refusal_value = sym e;
      place_value = refl;
      codes_after = sym (given-none 19 (codes_in a.text.now a.codes.now) a.codes.now (λ z. omega arith));
      end_bound = omega (arith, q.upper_bound);
    }

pub slice_bounds-frame_around-end : goal.slice_bounds-frame_around-end
slice_bounds-frame_around-end c = omega (arith, count (goal.at.slice_bounds-frame_around-end c).In-Ok)

pub slice_bounds-frame_around-end-in-Ok : goal.slice_bounds-frame_around-end-in-Ok
slice_bounds-frame_around-end-in-Ok c = sym (length-take-le _ _ (omega (arith, count (goal.at.slice_bounds-frame_around-end-in-Ok c).In-Ok)))

pub put_around-requires : goal.put_around-requires
put_around-requires c =
    let a = c.args in
    let t = listed-text a.text.now a.codes.now c.list.ensures.value _ c.in-Ok.is in
    record { numbers = subst Numbers (sym (around-is (goal.at.put_around-requires c).After-frame_around)) (frame-numbers (side_in a.word.now) (taken (goal.at.put_around-requires c).Else-not-is_side) a.text.now t); in_bounds = search rules }

pub returns-in-Ok : goal.returns-in-Ok
returns-in-Ok c =
    let a = c.args in
    let side = side_in a.word.now in
    let k = listed-allowed a.text.now a.codes.now c.list.ensures.value _ c.in-Ok.is in
    let e = side-goes side a.text.now (length a.codes.now) (taken (goal.at.returns-in-Ok c).Else-not-is_side) ∙ k in
    let lent = c.list.ensures.codes_after ∙ ap (λ (q : ℕ). given q (codes_in a.text.now a.codes.now) a.codes.now) k in record {
      put = put_as (line-framed side a.text.now (length a.codes.now) _ e (around-is (goal.at.returns-in-Ok c).After-frame_around)) c.put_around.ensures.put;
      refusal_value = sym e;
      place_value = refl;
      codes_after = lent;
      end_bound = c.put_around.ensures.upper_bound;
    }

pub returns-in-Err : goal.returns-in-Err
returns-in-Err c =
    let a = c.args in
    let q = c.put_line-in-Err.ensures in
    let side = side_in a.word.now in
    let k = listed-refused a.text.now a.codes.now c.list.ensures.value _ _ c.in-Err.is in
    let e = side-goes side a.text.now (length a.codes.now) (taken (goal.at.returns-in-Err c).Else-not-is_side) ∙ k.0 in
    let place = listed-place a.text.now a.codes.now c.list.ensures.value _ _ c.in-Err.is in
    let lent = c.list.ensures.codes_after ∙ ap (λ (x : ℕ). given x (codes_in a.text.now a.codes.now) a.codes.now) k.0 in record {
      put = put_as (line_refused side a.text.now (length a.codes.now) _ e k.1) q.put;
      refusal_value = sym e;
      place_value = place;
      codes_after = lent;
      end_bound = omega (arith, q.upper_bound);
    }
