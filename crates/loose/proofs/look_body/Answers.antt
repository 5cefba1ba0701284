-- `look_body` meets its contract: the answer is that of where the scan stops. Assumes nothing.
use mathlib.Core.Path.{◌∙◌}
use Rattle.loose.proofs.Answers.{long, north-byte, south-byte, stopped, left_open, scanned}
use native.Mathlib.Omega.{arith}
use Rattle.loose.proofs.look_body.Goals as goal

pub stop_of-stop-requires : goal.stop_of-stop-requires
stop_of-stop-requires c = let a = c in long a.args.text.now a.requires.0 a.requires.1

pub returns-then-place-text : goal.returns-then-place-text
returns-then-place-text c =
    let a = c in
    let q = c.stop_of-stop.ensures in
    c.refused.ensures ∙ stopped a.args.text.now a.requires.0 a.requires.1 q.0 q.1 c.if-place-text.true

pub returns-then-lists-ne0 : goal.returns-then-lists-ne0
returns-then-lists-ne0 c =
    let a = c in
    let q = c.stop_of-stop.ensures in
    c.refused-then-lists-ne0.ensures ∙ left_open a.args.text.now a.requires.0 a.requires.1 q.0 q.1 c.if-lists-ne0.true

pub bounds-text-5 : goal.bounds-text-5
bounds-text-5 c = let a = c in omega (arith, long a.args.text.now a.requires.0 a.requires.1)

pub overflow_sub-north : goal.overflow_sub-north
overflow_sub-north c = let a = c in omega (arith, north-byte a.args.text.now a.requires.0 a.requires.1)

pub bounds-text-6 : goal.bounds-text-6
bounds-text-6 c = let a = c in omega (arith, long a.args.text.now a.requires.0 a.requires.1)

pub overflow_sub-south : goal.overflow_sub-south
overflow_sub-south c = let a = c in omega (arith, south-byte a.args.text.now a.requires.0 a.requires.1)

pub returns : goal.returns
returns c =
    let a = c in
    let q = c.stop_of-stop.ensures in
    scanned a.args.text.now a.requires.0 a.requires.1 q.0 q.1 c.if-place-text.false c.if-lists-ne0.false
