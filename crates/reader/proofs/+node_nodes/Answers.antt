-- The proof of the cycle of calls {node, nodes}. The measure of both is the unread bytes: the list reader calls the node reader past a letter or digit,
-- and the node reader the list reader past a `(`. The loop's invariant is Runs, of Readers. Assumes nothing.
use mathlib.Core.Path.{◌≡◌, sym, ap, ◌∙◌}
use mathlib.Core.Logic.{⊎_elim}
use Prim.Native.Nat.{ℕ, ◌+◌, ◌-◌}
use native.Mathlib.Omega.{arith}
use lib.ListN.{get_or}
use borrow.Author.Tests.{eqb-true, eqb-false}
use Rattle.reading.specs.Reading.{first, room}
use Rattle.reader.proofs.Readers as rd
use Rattle.reader.proofs.Readers.{Opens, Runs}
use Rattle.reader.proofs.+node_nodes.Goals as goal
use Rattle.reader.proofs.+node_nodes.Goals.{nodes-else-loop-at-test, nodes-then-loop-at-test+then-b-eq41}
use Rattle.reader.proofs.+node_nodes.Goals.{node-Else-room-eq0, nodes-After-room_below-under, nodes-Else-not-opens_at, nodes-In_ok-held, nodes-Then-not-opens_at}

-- the node reader is at a `(` below which digits may lie
opens : (t : ℕ) (c : node-Else-room-eq0 t) → let a = c.args in Opens a.text.now a.at a.room
opens t c = record { inside = omega arith; bracket = c.requires.1; deep = c.if-room-eq0.false }

-- a letter or digit with no `(` behind it
whole-on : (t : ℕ) (c : nodes-Then-not-opens_at t)
    → let l = c in
    let a = l.args in
    Runs a.text.now a.start a.level a.room a.size (l.loop-at.at + 1) (get_or a.text.now l.loop-at.at 0 + 1) l.loop-at.cells l.loop-at.sum (l.loop-at.wholes + 1)
whole-on t c =
    let l = c in
    rd.runs-whole l.loop-at.invariant c.loop-at-test.true c.if-b-eq41.false (omega arith) (omega arith)
    (eqb-false _ _ (sym c.opens_at.ensures ∙ c.if-not-opens_at.true))

-- a `(` is behind it
bracket : (t : ℕ) (c : nodes-Else-not-opens_at t)
    → let l = c in
    get_or l.args.text.now (l.loop-at.at + 1) 0 ≡ 40
bracket t c = eqb-true _ _ (sym c.opens_at.ensures ∙ c.if-not-opens_at.false)

-- how many digits may lie below it
below : (t : ℕ) (c : nodes-After-room_below-under t)
    → let l = c in
    let a = l.args in
    c.room_below-under.result ≡ room a.level (get_or a.text.now l.loop-at.at 0 - first a.level) a.room
below t c =
    let l = c in
    let a = l.args in
    c.room_below-under.ensures ∙ ap (λ (x : ℕ). room a.level (get_or a.text.now l.loop-at.at 0 - x) a.room) l.first_byte-base.ensures

listed-on : (t : ℕ) (c : nodes-In_ok-held t)
    → let l = c in
    let a = l.args in
    Runs a.text.now a.start a.level a.room a.size c.in_ok-held.held.next (get_or a.text.now l.loop-at.at 0 + 1) (l.loop-at.cells + c.in_ok-held.held.cells) (l.loop-at.sum + c.in_ok-held.held.sum) l.loop-at.wholes
listed-on t c =
    let o = c in
    let l = o in
    rd.runs-listed l.loop-at.invariant o.loop-at-test.true o.if-b-eq41.false (omega arith) (omega arith)
    (below t (goal.at.nodes-In_ok-held t c).After-room_below-under) c.node.ensures (bracket t (goal.at.nodes-In_ok-held t c).Else-not-opens_at) c.in_ok-held.was

pub node-returns-then-room-eq0 : goal.node-returns-then-room-eq0
node-returns-then-room-eq0 t c = rd.node-none (omega arith) c.requires.1 c.if-room-eq0.true

pub node-returns-in_err-list : goal.node-returns-in_err-list
node-returns-in_err-list t c =
    rw c.from_residual.ensures (rd.node-bad (opens t (goal.at.node-returns-in_err-list t c).Else-room-eq0) c.nodes.ensures c.in_err-list.was)

pub node-returns-then-next-start : goal.node-returns-then-next-start
node-returns-then-next-start t c = rd.node-empty (opens t (goal.at.node-returns-then-next-start t c).Else-room-eq0) c.nodes.ensures c.in_ok-list.was c.if-next-start.true

pub node-returns-then-next-text : goal.node-returns-then-next-text
node-returns-then-next-text t c =
    rd.node-short (opens t (goal.at.node-returns-then-next-text t c).Else-room-eq0) c.nodes.ensures
    c.in_ok-list.was c.if-next-text.true

pub node-returns-then-wholes-eq9 : goal.node-returns-then-wholes-eq9
node-returns-then-wholes-eq9 t c =
    rd.node-nine (opens t (goal.at.node-returns-then-wholes-eq9 t c).Else-room-eq0) c.nodes.ensures
    c.in_ok-list.was c.if-next-start.false c.if-wholes-eq9.true

pub node-returns : goal.node-returns
node-returns t c =
    rd.node-read (opens t (goal.at.node-returns t c).Else-room-eq0) c.nodes.ensures
    c.in_ok-list.was c.if-next-start.false c.if-next-text.false c.if-wholes-eq9.false

pub nodes-returns-then-b-low : goal.nodes-returns-then-b-low
nodes-returns-then-b-low t c = rd.runs-low c.loop-at.invariant c.loop-at-test.true c.if-b-eq41.false c.if-b-low.true

pub nodes-returns-then-above-b : goal.nodes-returns-then-above-b
nodes-returns-then-above-b t c =
    rd.runs-high c.loop-at.invariant c.loop-at-test.true c.if-b-eq41.false (omega arith)
    (omega arith)

pub nodes-loop-at-preserved-then-not-opens_at : goal.nodes-loop-at-preserved-then-not-opens_at
nodes-loop-at-preserved-then-not-opens_at t c = whole-on t (goal.at.nodes-loop-at-preserved-then-not-opens_at t c).Then-not-opens_at

pub nodes-returns-in_err-held : goal.nodes-returns-in_err-held
nodes-returns-in_err-held t c =
    rw c.from_residual.ensures
    (rd.runs-wrong c.loop-at.invariant
    c.loop-at-test.true
    c.if-b-eq41.false (omega arith) (omega arith) (below t (goal.at.nodes-returns-in_err-held t c).After-room_below-under)
    c.node.ensures c.in_err-held.was)

pub nodes-overflow_add-cells : goal.nodes-overflow_add-cells
nodes-overflow_add-cells t c = let v = listed-on t (goal.at.nodes-overflow_add-cells t c).In_ok-held in omega (arith, v.few, v.to)

pub nodes-overflow_add-sum : goal.nodes-overflow_add-sum
nodes-overflow_add-sum t c = let v = listed-on t (goal.at.nodes-overflow_add-sum t c).In_ok-held in omega (arith, rd.runs-fits v)

pub nodes-loop-at-smaller : goal.nodes-loop-at-smaller
nodes-loop-at-smaller t c = omega (arith, (rd.node-known c.node.ensures c.in_ok-held.was (omega arith)).from)

pub nodes-loop-at-preserved : goal.nodes-loop-at-preserved
nodes-loop-at-preserved t c = listed-on t (goal.at.nodes-loop-at-preserved t c).In_ok-held

pub nodes-overflow_add-result-2 : goal.nodes-overflow_add-result-2
nodes-overflow_add-result-2 t c = omega (arith, rd.runs-fits c.loop-at.invariant)

pub nodes-returns : goal.nodes-returns
nodes-returns t c = elim c.loop-at-test.branch [
  | nodes-else-loop-at-test w ↦ rd.runs-end c.loop-at.invariant w.loop-at-test.false
  | nodes-then-loop-at-test+then-b-eq41 w ↦ rd.runs_close c.loop-at.invariant w.loop-at-test.true w.if-b-eq41.true
]
