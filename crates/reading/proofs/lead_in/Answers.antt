-- `reading::lead_in` meets its contract: what is still to be compared is tied to the whole. Assumes nothing.
use native.Mathlib.Omega.{arith}
use borrow.Author.Rules.{rules}
use Rattle.reading.proofs.Head as st
use Rattle.reading.proofs.lead_in.Goals as goal

pub returns-then-i-text : goal.returns-then-i-text
returns-then-i-text c = st.cut c.loop-i.invariant.1 c.if-i-text.true

pub returns-then-text-i : goal.returns-then-text-i
returns-then-text-i c =
    let l = c.loop-i in
    st.low l.invariant.1 l.invariant.0 (search rules) (omega (arith, l.invariant.1.within)) c.if-text-i.true

pub returns-then-greatest-i : goal.returns-then-greatest-i
returns-then-greatest-i c =
    let l = c.loop-i in
    st.high l.invariant.1 l.invariant.0 (search rules) (omega (arith, l.invariant.1.within)) c.if-text-i.false c.if-greatest-i.true

pub loop-i-preserved : goal.loop-i-preserved
loop-i-preserved c =
    let l = c.loop-i in
    (l.invariant.0, st.more l.invariant.1 l.invariant.0 (search rules) (omega (arith, l.invariant.1.within)) c.if-text-i.false c.if-greatest-i.false)

pub returns : goal.returns
returns c = omega (arith, st.all c.loop-i.invariant.1 (omega arith))
