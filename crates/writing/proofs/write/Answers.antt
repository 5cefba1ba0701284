-- `writing::write` meets its contract: what is asked, and then the text in its profile. Assumes nothing.
use mathlib.Core.Path.{◌≡◌, sym, ap, ◌∙◌}
use mathlib.Core.Bool.{Bool, cond}
use borrow.Author.Tests.{eq-eqb, ne_eqb}
use Rattle.reading.specs.declared.Profile.TheVariants.{Full, Handheld}
use Rattle.writing.specs.Internal.Asked.{asked_refusal}
use Rattle.writing.proofs.Laws.List.{list-good}
use Rattle.writing.proofs.Laws.Profile.{asked-exactly}
use Rattle.writing.proofs.EntrySteps as es
use Rattle.writing.proofs.write.Goals as goal
use Rattle.writing.proofs.write.Goals.{Else-refused-ne0}

asked : (c : Else-refused-ne0) → let a = c.args in asked_refusal a.version a.depth a.arrangement a.codes.now ≡ 0
asked c = sym c.asked_refusal-refused.ensures ∙ c.if-refused-ne0.false

pub returns-then-refused-ne0 : goal.returns-then-refused-ne0
returns-then-refused-ne0 c =
    let a = c.args in
    let e = c.asked_refusal-refused.ensures in let r = es.refused _ _ _ _ _ (es.asked-refused a.version a.depth a.arrangement a.codes.now a.text.now (λ z. c.if-refused-ne0.true (e ∙ z)) ∙ sym e) c.if-refused-ne0.true in record { value = r.0; text_after = r.1 }

pub write_good-requires : goal.write_good-requires
write_good-requires c =
    let g = c in
    let a = g.args in
    let q = (asked-exactly a.version a.depth a.arrangement a.codes.now 0).0 (asked (goal.at.write_good-requires c).Else-refused-ne0) in
    (tt, q.arranged, list-good _ _ q.good)

pub returns-then-version-eq1 : goal.returns-then-version-eq1
returns-then-version-eq1 c =
    let i = c in
    let a = i.args in let r = es.fit-answered a.version a.depth a.arrangement a.codes.now a.text.now Full
    (ap (λ (b : Bool). cond b Full (Handheld a.depth)) (eq-eqb a.version 1 i.if-version-eq1.true)) (asked (goal.at.returns-then-version-eq1 c).Else-refused-ne0) (c.write_good.ensures.value, c.write_good.ensures.text_after) in record { value = r.0; text_after = r.1 }

pub write_good-requires-2 : goal.write_good-requires-2
write_good-requires-2 c =
    let g = c in
    let a = g.args in
    let q = (asked-exactly a.version a.depth a.arrangement a.codes.now 0).0 (asked (goal.at.write_good-requires-2 c).Else-refused-ne0) in
    (q.deep, q.arranged, list-good _ _ q.good)

pub returns : goal.returns
returns c =
    let i = c in
    let a = i.args in let r = es.fit-answered a.version a.depth a.arrangement a.codes.now a.text.now (Handheld a.depth)
    (ap (λ (b : Bool). cond b Full (Handheld a.depth)) (ne_eqb a.version 1 i.if-version-eq1.false)) (asked (goal.at.returns c).Else-refused-ne0) (c.write_good-2.ensures.value, c.write_good-2.ensures.text_after) in record { value = r.0; text_after = r.1 }
