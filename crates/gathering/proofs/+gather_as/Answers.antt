-- `gather_as` meets its contract: a ninth child gives way to its parent, eight places before. Assumes nothing.
use native.Mathlib.Omega.{arith}
use mathlib.Core.Path.{sym, ◌∙◌}
use lib.ListN.{length-set}
use Rattle.gathering.proofs.Laws.Gather.{number-down}
use Rattle.gathering.proofs.Steps.{merge-room, merge-finer, merge_on, stay-put}
use Rattle.gathering.proofs.+gather_as.Goals as goal

pub overflow_sub-at : goal.overflow_sub-at
overflow_sub-at t c =
    let c5 = c in
    omega (
      arith,
      merge-room c5.args.arrangement c5.args.resolution c5.args.number c5.args.codes.now c5.args.at (omega (arith, c5.requires.1)) (sym
          c.merges.ensures ∙ c.if-merges.true),
    )

pub overflow_sub-resolution : goal.overflow_sub-resolution
overflow_sub-resolution t c =
    let c5 = c in
    omega (
      arith,
      merge-finer c5.args.arrangement c5.args.resolution c5.args.number c5.args.codes.now c5.args.at (sym
          c.merges.ensures ∙ c.if-merges.true),
    )

pub gather_as-requires : goal.gather_as-requires
gather_as-requires t c =
    let c5 = c in
    let p = c5.requires in
    let s = c5.args in
    let f = merge-finer c5.args.arrangement c5.args.resolution c5.args.number c5.args.codes.now c5.args.at (sym
    c.merges.ensures ∙ c.if-merges.true) in
    (omega (arith, f), (p.0, omega (arith, p.1), omega (arith, p.2), number-down s.resolution s.number f p.3))

pub returns-then-merges : goal.returns-then-merges
returns-then-merges t c =
    let c4 = c in
    let c5 = c4 in
    let c8 = c5 in
    let e = c.gather_as.ensures in record {
      codes_after = e.codes_after ∙ merge_on c8.args.arrangement c8.args.resolution c8.args.number c8.args.codes.now c8.args.at (omega (arith, c8.requires.1)) (sym
          c5.merges.ensures ∙ c4.if-merges.true);
      upper_bound = e.upper_bound;
    }

pub returns : goal.returns
returns t c =
    let c5 = c in record {
      codes_after = stay-put c5.args.arrangement c5.args.resolution c5.args.number c5.args.codes.now c5.args.at c5.requires.1 (sym
          c.merges.ensures ∙ c.if-merges.false) c.code_as.ensures;
      upper_bound = omega (arith, length-set c5.args.codes.now c5.args.at c.code_as.result, c5.requires.1);
    }
