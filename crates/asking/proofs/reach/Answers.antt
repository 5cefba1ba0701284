-- `asking::reach` meets its contract: the nodes from here on decide. Assumes nothing.
use mathlib.Core.Path.{◌≡◌, sym, ap₂, ◌∙◌}
use mathlib.Core.Bool.{Bool}
use Prim.Native.Nat.{ℕ, ◌+◌, ◌-◌, ◌^◌, ◌≤◌, ◌<◌}
use native.Mathlib.Omega.{arith}
use lib.ListN.{length, drop}
use Rattle.code.specs.Code.{cell_of}
use Rattle.code.proofs.Laws.Code.{code-is-cell}
use Rattle.code.specs.Inside.{start_of, end_of}
use Rattle.code.proofs.Laws.Inside.{end-small, size-pos}
use Rattle.reading.specs.TextReading.{nodes_of, body_start}
use Rattle.reading.proofs.Laws.TextReading.{body-within}
use Rattle.walk.specs.Laws.Past.{node-some}
use Rattle.asking.specs.Internal.AskNodes.{any_in}
use Rattle.asking.specs.Internal.Reach.{Reaches}
use Rattle.asking.proofs.Laws.{aims, above_in, Found, reached, asks-start, asks-end, asks-shut, asks-named, asks-behind, asks-past, asks-finer, asks-yes, asks-into}
use Rattle.asking.proofs.reach.Goals as goal
use Rattle.asking.proofs.reach.Goals.{After-size_in}

-- the asked cell's finest cells, and the answer
abbrev from : ℕ → ℕ
from code = start_of (cell_of code)

abbrev to : ℕ → ℕ
to code = end_of (cell_of code)

-- what the two calls gave
known : (c : After-size_in) → let a = c.args in
    (c.start_in-from.result ≡ from a.code) × (c.start_in-from.result + c.size_in.result ≡ to a.code) × (from a.code < to a.code)
unfolding end_of
known c =
    let x = cell_of c.args.code in
    (c.start_in-from.ensures, ap₂ ◌+◌ c.start_in-from.ensures c.size_in.ensures, omega (arith, size-pos x))

-- what was found, as the contract has it
gives :
    {b : Bool} {at : ℕ} (c : After-size_in) → let a = c.args in
    Found a.text.now (above_in a.text.now (from a.code) (to a.code)) at b (any_in (from a.code) (to a.code) 0 (9 ^ 15) (nodes_of a.text.now)) →
    body_start a.text.now ≤ at → at ≤ length a.text.now → Reaches a.text.now a.code b at
gives c = let s = c in reached s.args.text.now s.requires.0 s.args.code s.requires.2 s.requires.3

pub overflow_add-to : goal.overflow_add-to
overflow_add-to c =
    let n = c in
    let v = code-is-cell n.args.code n.requires.2 in
    omega (arith, (known (goal.at.overflow_add-to c).After-size_in).1, end-small (cell_of n.args.code) v, v.faced)

pub loop-i-init : goal.loop-i-init
loop-i-init c = let s = c in asks-start _ _ _ s.requires.0 s.requires.1

pub returns-then-b-eq41 : goal.returns-then-b-eq41
returns-then-b-eq41 c =
    let u = c.uncovered.ensures in
    let l = c.loop-i in
    let f = gives (goal.at.returns-then-b-eq41 c).After-size_in (asks-shut l.invariant c.if-b-eq41.true) l.invariant.behind (omega (arith, c.loop-i-test.true)) in
    rw (u.0, u.1) f

pub overflow_sub-start : goal.overflow_sub-start
overflow_sub-start c =
    let l = c.loop-i in
    let h = c.loop-i-test.true in
    let q = c.if-b-eq41.false in
    omega (arith, (asks-named l.invariant h q).1.least)

pub returns-then-start-from : goal.returns-then-start-from
returns-then-start-from c =
    let u = c.uncovered-then-start-from.ensures in
    let l = c.loop-i in
    let h = c.loop-i-test.true in
    let q = c.if-b-eq41.false in
    let k = known (goal.at.returns-then-start-from c).After-size_in in
    let f = gives (goal.at.returns-then-start-from c).After-size_in (asks-behind l.invariant h q (omega (arith, c.if-start-from.true, k.0))) l.invariant.behind (omega arith) in
    rw (u.0, u.1) f

pub loop-i-smaller-then-start-size : goal.loop-i-smaller-then-start-size
loop-i-smaller-then-start-size c =
    let l = c.loop-i in
    let s = c.args in
    omega (arith, c.past_node-i.ensures, node-some (drop l.i s.text.now))

pub loop-i-preserved-then-start-size : goal.loop-i-preserved-then-start-size
loop-i-preserved-then-start-size c =
    let l = c.loop-i in
    let h = c.loop-i-test.true in
    let q = c.if-b-eq41.false in
    let k = known (goal.at.loop-i-preserved-then-start-size c).After-size_in in
    rw c.past_node-i.ensures (asks-past l.invariant h q k.2 (omega (arith, c.if-start-size.true, k.0)))

pub returns-then-start-size-2 : goal.returns-then-start-size-2
returns-then-start-size-2 c =
    let u = c.uncovered-then-start-size-2.ensures in
    let l = c.loop-i in
    let h = c.loop-i-test.true in
    let q = c.if-b-eq41.false in
    let a = c in
    let k = known (goal.at.returns-then-start-size-2 c).After-size_in in
    let m = aims a.args.code a.requires.2 in
    let f =
    gives (goal.at.returns-then-start-size-2 c).After-size_in
    (asks-finer l.invariant h q m (omega (arith, c.if-start-from.false, k.0)) (omega (arith, c.if-start-size.false, k.0)) (omega (arith, c.if-start-size-2.true, k.1)))
    l.invariant.behind (omega arith) in
    rw (u.0, u.1) f

pub returns-then-whole_at : goal.returns-then-whole_at
returns-then-whole_at c =
    let l = c.loop-i in
    let h = c.loop-i-test.true in
    let q = c.if-b-eq41.false in
    let a = c in
    let k = known (goal.at.returns-then-whole_at c).After-size_in in
    let w = sym c.whole_at.ensures ∙ c.if-whole_at.true in
    let y = asks-yes l.invariant h q (omega (arith, c.if-start-from.false, k.0)) (omega (arith, c.if-start-size-2.false, k.1)) k.2 w in
    gives (goal.at.returns-then-whole_at c).After-size_in y (omega (arith, l.invariant.behind)) (omega arith)

pub loop-i-preserved : goal.loop-i-preserved
loop-i-preserved c =
    let l = c.loop-i in
    let h = c.loop-i-test.true in
    let q = c.if-b-eq41.false in
    let k = known (goal.at.loop-i-preserved c).After-size_in in
    let w = sym c.whole_at.ensures ∙ c.if-whole_at.false in
    asks-into l.invariant h q (omega (arith, c.if-start-from.false, k.0)) (omega (arith, c.if-start-size-2.false, k.1)) k.2 w

pub returns : goal.returns
returns c =
    let u = c.uncovered-2.ensures in
    let l = c.loop-i in
    let h = c.loop-i-test.false in
    let s = c in
    let t = s.args.text.now in
    let f = gives {at = length t} (goal.at.returns c).After-size_in (asks-end l.invariant h) (body-within t s.requires.0) (omega arith) in
    rw (u.0, u.1) f
