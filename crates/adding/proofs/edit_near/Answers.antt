-- `adding::edit_near` meets its contract. Assumes nothing.
use mathlib.Core.Path.{sym, ◌∙◌}
use mathlib.Core.Logic.{inl, inr}
use Rattle.adding.proofs.Ways.{led-stands, led-edit}
use Rattle.adding.proofs.Laws.InMind.{three}
use Rattle.adding.proofs.edit_near.Goals as goal

pub edit_at-edit-requires : goal.edit_at-edit-requires
edit_at-edit-requires c = let p = c.requires in (p.0, p.1, led-stands p.3.stands p.3.led)

pub returns-then-is_full : goal.returns-then-is_full
returns-then-is_full c =
    let s = c in
    record { is = λ v l. c.edit_at.ensures.is v; kept = inl (three s.args.near.now s.args.body 0 s.args.code s.requires.2) }

pub returns : goal.returns
returns c =
    let s = c in
    let e = c.edit_at-edit.ensures in
    let n = sym c.is_full.ensures ∙ c.if-is_full.false in
    record {
      is = λ v l. led-edit v l e n;
      kept = inr (three s.args.near.now s.args.list.place s.args.list.depth s.args.code s.requires.2, n, e);
    }
