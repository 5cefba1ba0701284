-- `check_body` meets its contract: the answer is that of what the list reader hands back. Assumes nothing.
use mathlib.Core.Path.{◌∙◌}
use Rattle.reader.proofs.Answers.{head-within, head-depth, turn-north, turn-south, told-bad, told_more, told-all}
use native.Mathlib.Omega.{arith}
use Rattle.reader.proofs.check_body.Goals as goal

pub nodes-requires : goal.nodes-requires
nodes-requires c = let a = c in (omega (arith, c.heading_length-body.ensures, (head-within a.args.text.now a.requires.0 a.requires.1 a.requires.2).0), omega arith)

pub place-requires : goal.place-requires
place-requires c = let a = c in (
  omega (arith, c.heading_length-body.ensures, (head-within a.args.text.now a.requires.0 a.requires.1 a.requires.2).0),
  omega
      (arith, c.depth_of-depth.ensures, head-depth a.args.text.now a.requires.0 a.requires.1 a.requires.2),
)

pub returns-in_default : goal.returns-in_default
returns-in_default c =
    let a = c in
    c.refused.ensures ∙ told-bad a.args.text.now a.requires.0 a.requires.1 a.requires.2 c.level_of-level.ensures
    c.depth_of-depth.ensures c.heading_length-body.ensures c.nodes.ensures
    c.in_default.is c.place.ensures

pub place-requires-then-next-text : goal.place-requires-then-next-text
place-requires-then-next-text c = let a = c in (
  omega (arith, c.heading_length-body.ensures, (head-within a.args.text.now a.requires.0 a.requires.1 a.requires.2).0),
  omega
      (arith, c.depth_of-depth.ensures, head-depth a.args.text.now a.requires.0 a.requires.1 a.requires.2),
)

pub returns-then-next-text : goal.returns-then-next-text
returns-then-next-text c =
    let a = c in
    c.refused-then-next-text.ensures ∙ told_more a.args.text.now a.requires.0 a.requires.1 a.requires.2 c.level_of-level.ensures
    c.depth_of-depth.ensures c.heading_length-body.ensures
    c.nodes.ensures
    c.in-Some.is c.if-next-text.true c.place-then-next-text.ensures

pub bounds-text-5 : goal.bounds-text-5
bounds-text-5 c = let a = c in
    omega (arith, (head-within a.args.text.now a.requires.0 a.requires.1 a.requires.2).1)

pub overflow_sub-north : goal.overflow_sub-north
overflow_sub-north c = let a = c in omega (arith, turn-north a.args.text.now a.requires.0 a.requires.1 a.requires.2)

pub bounds-text-6 : goal.bounds-text-6
bounds-text-6 c = let a = c in
    omega (arith, (head-within a.args.text.now a.requires.0 a.requires.1 a.requires.2).1)

pub overflow_sub-south : goal.overflow_sub-south
overflow_sub-south c = let a = c in omega (arith, turn-south a.args.text.now a.requires.0 a.requires.1 a.requires.2)

pub returns : goal.returns
returns c =
    let a = c in
    told-all a.args.text.now a.requires.0 a.requires.1 a.requires.2 c.level_of-level.ensures
    c.depth_of-depth.ensures c.heading_length-body.ensures
    c.nodes.ensures
    c.in-Some.is c.if-next-text.false
