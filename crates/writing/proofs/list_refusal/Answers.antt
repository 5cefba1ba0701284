-- `writing::list_refusal` meets its contract: the codes up to the place i are judged. Assumes nothing.
use native.Mathlib.Omega.{arith}
use mathlib.Core.Path.{◌≡◌, sym, ap, ◌∙◌}
use mathlib.Core.Bool.{Bool, true, not}
use Prim.Native.Nat.{ℕ}
use lib.Dec.{leb}
use lib.ListN.{get_or}
use Rattle.logic.specs.Refusal.{refuse, ◌otherwise◌}
use Rattle.code.specs.Code.{is_code}
use Rattle.writing.proofs.EntrySteps as es
use Rattle.writing.proofs.list_refusal.Goals as goal
use Rattle.writing.proofs.list_refusal.Goals.{Else-not-is_code}

-- the code at hand is a cell's where the test let it pass
a-code : (c : Else-not-is_code) → is_code (get_or c.args.codes.now c.loop-code.code-index 0) ≡ true
a-code c = sym c.is_code.ensures ∙ c.if-not-is_code.false

pub returns-then-not-is_code : goal.returns-then-not-is_code
returns-then-not-is_code c = es.judge-four c.loop-code.invariant (omega arith) (sym c.is_code.ensures ∙ c.if-not-is_code.true)

pub overflow_add-end : goal.overflow_add-end
overflow_add-end c = record { fits = es.end-small-at _ (a-code (goal.at.overflow_add-end c).Else-not-is_code) c.start_in-start.ensures (cc) }

pub loop-code-preserved : goal.loop-code-preserved
loop-code-preserved c =
    let s = c.start_in-start in
    let f = c in
    let l = f.loop-code in
    let behind : ℕ = refuse (not (leb l.end s.result)) 11 in
    let judged = c.judged-refusal.ensures ∙ ap (λ (own : Bool). refuse (not own) 14 otherwise l.refusal otherwise behind) c.is_of-own.ensures in
    es.judge-next l.invariant (omega arith) (a-code (goal.at.loop-code-preserved c).Else-not-is_code) s.ensures judged (cc)

pub returns : goal.returns
returns c = es.judge-ends c.loop-code.invariant (omega arith)
