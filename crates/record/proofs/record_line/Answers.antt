-- `record_line` meets its contract: a fix that was taken, or a refused line. Assumes nothing.
use mathlib.Core.Path.{sym, ◌∙◌}
use Rattle.record.proofs.Laws.{fix-recorded, refused-recorded, fix-noted, refused-noted}
use Rattle.record.proofs.record_line.Goals as goal

pub returns-in-Ok-clause-result_after : goal.returns-in-Ok-clause-result_after
returns-in-Ok-clause-result_after c =
    let a = c.args in
    let t = c.take_line in
    fix-recorded a.setting a.line.now a.text.now t.new.text a.flight c.with_fix.result _ (sym c.in-Ok.is ∙ t.ensures.value) t.ensures.text_after c.with_fix.ensures

pub returns-in-Ok-clause-noted : goal.returns-in-Ok-clause-noted
returns-in-Ok-clause-noted c =
    let a = c.args in
    let t = c.take_line in
    fix-noted a.setting a.line.now a.text.now t.new.text a.flight c.with_fix.result _ c.requires.0 (sym c.in-Ok.is ∙ t.ensures.value) t.ensures.text_after c.with_fix.ensures

pub returns-in-Err-clause-result_after : goal.returns-in-Err-clause-result_after
returns-in-Err-clause-result_after c =
    let a = c.args in
    let t = c.take_line in
    refused-recorded a.setting a.line.now a.text.now t.new.text a.flight c.with_refused.result _ (sym c.in-Err.is ∙ t.ensures.value) t.ensures.text_after
    c.with_refused.ensures

pub returns-in-Err-clause-noted : goal.returns-in-Err-clause-noted
returns-in-Err-clause-noted c =
    let a = c.args in
    let t = c.take_line in
    refused-noted a.setting a.line.now a.text.now t.new.text a.flight c.with_refused.result _ (sym c.in-Err.is ∙ t.ensures.value) t.ensures.text_after
    c.with_refused.ensures
