-- `writing::write_good` meets its contract: the refusals in their order, and then the text. Assumes nothing.
use mathlib.Core.Path.{◌≡◌, sym, ◌∙◌}
use mathlib.Core.Bool.{false, not}
use mathlib.Core.List.{map}
use lib.ListN.{length}
use Rattle.code.specs.Code.{cell_of}
use Rattle.reading.specs.Written.{keeps}
use Rattle.writing.proofs.Laws.List.{good-list, in-turn}
use Rattle.writing.proofs.Internal.AskedLaws.{fit-fifteen}
use Rattle.writing.proofs.EntrySteps as es
use native.Mathlib.Omega.{arith}
use Rattle.writing.proofs.write_good.Goals as goal
use Rattle.writing.proofs.write_good.Goals.{Else-breaks}

-- the nodes keep to the profile
fits : (c : Else-breaks) → let a = c.args in not (keeps a.profile (map cell_of a.codes.now)) ≡ false
fits c = c.length_of-extent.ensures.kept c.requires.0 ∙ sym c.breaks.ensures ∙ c.if-breaks.false

pub length_of-extent-requires : goal.length_of-extent-requires
length_of-extent-requires c = let g = c.requires.2 in ((good-list _ _ g).coded, in-turn _ _ g)

pub returns-then-breaks : goal.returns-then-breaks
returns-then-breaks c =
    let s = c in
    let a = s.args in let r = es.refused _ _ _ _ _
    (fit-fifteen a.profile a.arrangement a.codes.now (length a.text.now)
    (c.length_of-extent.ensures.kept s.requires.0 ∙ sym c.breaks.ensures ∙ c.if-breaks.true)) (λ z. omega arith) in record { value = r.0; text_after = r.1 }

pub returns-then-length : goal.returns-then-length
returns-then-length c =
    let g = c in
    let a = g.args in
    let e = g.length_of-extent.ensures.is a.arrangement in let r = es.refused _ _ _ _ _ (es.fit-thirteen a.profile a.arrangement a.codes.now (length a.text.now) (fits (goal.at.returns-then-length c).Else-breaks) (omega (arith, c.if-length.true))) (λ z. omega arith) in record { value = r.0; text_after = r.1 }

pub returns-then-text-length : goal.returns-then-text-length
returns-then-text-length c =
    let g = c in
    let a = g.args in
    let e = g.length_of-extent.ensures.is a.arrangement in let r = es.refused _ _ _ _ _
    (es.fit-eight a.profile a.arrangement a.codes.now (length a.text.now) (fits (goal.at.returns-then-text-length c).Else-breaks) (omega (arith, c.if-length.false)) (omega (arith, c.if-text-length.true))) (λ z. omega arith) in record { value = r.0; text_after = r.1 }

pub returns : goal.returns
returns c =
    let f = c in
    let g = f in
    let a = g.args in
    let e = g.length_of-extent.ensures.is a.arrangement in let r = es.answered _ _ _ _ _ _
    (es.fit_none a.profile a.arrangement a.codes.now (length a.text.now) (fits (goal.at.returns c).Else-breaks) (omega (arith, f.if-length.false)) (omega (arith, f.if-text-length.false)))
    e
    c.put_text.ensures.text_after in record { value = r.0; text_after = r.1 }
