-- `follows` meets its contract: each call tests one code, from the last one on. Assumes nothing.
use mathlib.Core.Path.{sym, ◌∙◌}
use Rattle.gathering.proofs.Steps.{follows-all, follows-none, follows-other, follows-more}
use Prim.Native.Nat.{◌-◌}
use Rattle.gathering.proofs.+follows.Goals as goal

pub returns-then-left-eq0 : goal.returns-then-left-eq0
returns-then-left-eq0 t c = follows-all c.args.arrangement c.args.resolution c.args.number c.args.left _ c.if-left-eq0.true

pub returns-then-at-eq0 : goal.returns-then-at-eq0
returns-then-at-eq0 t c =
    let c3 = c in
    follows-none c3.args.arrangement c3.args.resolution c3.args.number c3.args.left c3.args.at _ c.if-left-eq0.false c.if-at-eq0.true

pub returns-then-codes-at : goal.returns-then-codes-at
returns-then-codes-at t c =
    let c3 = c in
    let c4 = c3 in
    let c6 = c4 in
    let s = c6.args in
    follows-other s.arrangement s.resolution s.number s.left s.at s.codes.now c4.if-left-eq0.false c3.if-at-eq0.false c6.requires.1
    (λ e. c.if-codes-at.true (e ∙ sym c.code_as.ensures))

pub returns : goal.returns
returns t c =
    let c4 = c in
    let c5 = c4 in
    let c7 = c5 in
    let s = c7.args in
    c.follows.ensures
    ∙ follows-more s.arrangement s.resolution s.number s.left s.at s.codes.now c5.if-left-eq0.false c4.if-at-eq0.false c7.requires.1
    (c.if-codes-at.false ∙ c.code_as.ensures)
