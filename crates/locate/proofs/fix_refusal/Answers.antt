-- `locate::fix_refusal` meets its contract: the refusals in their order. Assumes nothing.
use mathlib.Core.Path.{◌≡◌, sym, ap, ap₂, ◌∙◌}
use mathlib.Core.Bool.{Bool, not}
use Prim.Native.Nat.{ℕ}
use native.Mathlib.Omega.{arith}
use borrow.Author.Tests.{lt-ltb, le-ltb}
use lib.Dec.{ltb}
use Rattle.logic.specs.Refusal.{refuse, ◌otherwise◌}
use Rattle.logic.specs.Laws.Refusal.{stops, passes}
use Rattle.signed.specs.Laws.Sign.{back}
use Rattle.locate.specs.Fix.{in_range, fix_refusal}
use Rattle.locate.proofs.fix_refusal.Goals as goal
use Rattle.locate.proofs.fix_refusal.Goals.{Start, After-in_range, Else-refusal-ne0, Else-resolution-gt15}

-- what may be refused behind the arrangement
abbrev behind : Start → ℕ
behind s = refuse (ltb 15 s.args.resolution) 2 otherwise refuse (not (in_range s.args.longitude s.args.z)) 6

arranged : (c : Else-refusal-ne0) → let s = c.before.before in behind s ≡ fix_refusal s.args.arrangement s.args.resolution s.args.longitude s.args.z
unfolding fix_refusal
arranged c = sym (passes (behind c.before.before) (sym c.refusal-refusal.ensures ∙ c.if-refusal-ne0.false))

-- what `in_range` says, of the fix itself
said : (c : After-in_range) → let a = c.args in c.in_range.result ≡ in_range a.longitude a.z
said c = let s = c in c.in_range.ensures ∙ ap₂ in_range (back s.ranges.longitude) (back s.ranges.z)

-- what is left to refuse is the range
ranged :
    (c : Else-resolution-gt15) →
    let a = c.args in
    refuse (not (in_range a.longitude a.z)) 6 ≡ fix_refusal a.arrangement a.resolution a.longitude a.z
unfolding ◌otherwise◌
ranged c =
    let a = c.args in
    sym (ap (λ (t : Bool). refuse t 2 otherwise refuse (not (in_range a.longitude a.z)) 6) (le-ltb 15 a.resolution (omega arith))) ∙ arranged c.before

pub returns-then-refusal-ne0 : goal.returns-then-refusal-ne0
unfolding fix_refusal
returns-then-refusal-ne0 c =
    let r = c in
    sym (stops r.refusal-refusal.result (behind (goal.at.returns-then-refusal-ne0 c).Start) c.if-refusal-ne0.true) ∙ ap (λ (x : ℕ). x otherwise behind (goal.at.returns-then-refusal-ne0 c).Start) r.refusal-refusal.ensures

pub returns-then-resolution-gt15 : goal.returns-then-resolution-gt15
unfolding ◌otherwise◌
returns-then-resolution-gt15 c =
    let a = c.args in
    sym (ap (λ (t : Bool). refuse t 2 otherwise refuse (not (in_range a.longitude a.z)) 6) (lt-ltb 15 a.resolution (omega arith))) ∙ arranged (goal.at.returns-then-resolution-gt15 c).Else-refusal-ne0

pub returns-then-in_range : goal.returns-then-in_range
returns-then-in_range c = sym (ap (λ (t : Bool). refuse (not t) 6) (sym (said (goal.at.returns-then-in_range c).After-in_range) ∙ c.if-in_range.true)) ∙ ranged (goal.at.returns-then-in_range c).Else-resolution-gt15

pub returns : goal.returns
returns c = sym (ap (λ (t : Bool). refuse (not t) 6) (sym (said (goal.at.returns c).After-in_range) ∙ c.if-in_range.false)) ∙ ranged (goal.at.returns c).Else-resolution-gt15
