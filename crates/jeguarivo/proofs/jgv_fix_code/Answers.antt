-- `jgv_fix_code` meets its contract. Assumes nothing.
use mathlib.Core.Path.{◌≡◌, sym, ap₂, ◌∙◌}
use lib.IntN.{ℤ}
use Rattle.code.specs.Code.{code_of}
use Rattle.signed.specs.Laws.Sign.{back}
use Rattle.locate.specs.Fix.{fix_cell, fix_refusal}
use Rattle.locate.proofs.Laws.Fix.{fix-passes}
use Rattle.entries.specs.Entries.{arrangement, fix_code}
use Rattle.jeguarivo.proofs.Laws.{code-refused, code-given}
use Rattle.jeguarivo.proofs.jgv_fix_code.Goals as goal
use Rattle.jeguarivo.proofs.jgv_fix_code.Goals.{After-fix_refusal-refusal, Else-refusal-ne0}

-- what is refused, and where nothing is, of the fix itself
refusal_is :
    (c : After-fix_refusal-refusal) →
    let a = c.args in
    c.fix_refusal-refusal.result ≡ fix_refusal (arrangement a.n a.s) a.resolution a.longitude a.z
refusal_is c =
    let s = c in
    c.fix_refusal-refusal.ensures ∙ ap₂ (fix_refusal (arrangement s.args.n s.args.s) s.args.resolution) (back s.ranges.longitude) (back s.ranges.z)

allowed : (c : Else-refusal-ne0) → let a = c.args in fix_refusal (arrangement a.n a.s) a.resolution a.longitude a.z ≡ 0
allowed c = sym (refusal_is (goal.at.Else-refusal-ne0 c).After-fix_refusal-refusal) ∙ c.if-refusal-ne0.false

pub returns-then-refusal-ne0 : goal.returns-then-refusal-ne0
unfolding fix_code
returns-then-refusal-ne0 c = code-refused _ (refusal_is (goal.at.returns-then-refusal-ne0 c).After-fix_refusal-refusal) c.if-refusal-ne0.true

pub belt_fix-requires : goal.belt_fix-requires
belt_fix-requires c =
    let o = c in
    let p = fix-passes _ _ _ _ (sym o.fix_refusal-refusal.ensures ∙ o.if-refusal-ne0.false) in
    record { arrangement = p.0; resolution_bound = p.1; z_value = p.2; z_value_2 = sym c.in_belt.ensures ∙ c.if-in_belt.true }

pub returns-then-in_belt : goal.returns-then-in_belt
unfolding fix_code
returns-then-in_belt c =
    let o = c in
    let s = o in
    let g = arrangement s.args.n s.args.s in
    code-given (allowed (goal.at.returns-then-in_belt c).Else-refusal-ne0) (c.belt_fix.ensures ∙ ap₂ (λ (L z : ℤ). code_of g (fix_cell g s.args.resolution L z)) (back s.ranges.longitude) (back s.ranges.z))

pub cap_fix-requires : goal.cap_fix-requires
cap_fix-requires c =
    let o = c in
    let p = fix-passes _ _ _ _ (sym o.fix_refusal-refusal.ensures ∙ o.if-refusal-ne0.false) in
    record { arrangement = p.0; resolution_bound = p.1; z_value = p.2; z_value_2 = sym c.in_belt.ensures ∙ c.if-in_belt.false }

pub returns : goal.returns
unfolding fix_code
returns c =
    let o = c in
    let s = o in
    let g = arrangement s.args.n s.args.s in
    code-given (allowed (goal.at.returns c).Else-refusal-ne0) (c.cap_fix.ensures ∙ ap₂ (λ (L z : ℤ). code_of g (fix_cell g s.args.resolution L z)) (back s.ranges.longitude) (back s.ranges.z))
