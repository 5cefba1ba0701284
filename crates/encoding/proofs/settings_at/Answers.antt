-- `encoding::settings_at` meets its contract: each number is read where the one before it ends. Assumes nothing.
use mathlib.Core.Path.{sym, ◌∙◌}
use Rattle.encoding.proofs.Laws.{wrong-n, wrong-s, wrong-resolution, wrong-eccentricity, settings-right}
use Rattle.encoding.proofs.settings_at.Goals as goal

pub returns-in-Err : goal.returns-in-Err
returns-in-Err c = wrong-n _ _ _ (sym c.number_up_to.ensures ∙ c.in-Err.is)

pub returns-in-Err-number_up_to : goal.returns-in-Err-number_up_to
returns-in-Err-number_up_to c =
    let n = c in
    wrong-s _ _ _ (sym n.number_up_to.ensures ∙ n.in-Ok.is) (sym c.number_up_to-2.ensures ∙ c.in-Err-number_up_to.is)

pub returns-in-Err-number_up_to-2 : goal.returns-in-Err-number_up_to-2
returns-in-Err-number_up_to-2 c =
    let s = c in
    let n = s in
    wrong-resolution _ _ _ (sym n.number_up_to.ensures ∙ n.in-Ok.is) (sym s.number_up_to-2.ensures ∙ s.in-Ok-number_up_to.is)
    (sym c.number_up_to-3.ensures ∙ c.in-Err-number_up_to-2.is)

pub returns-in-Ok-number_up_to-3 : goal.returns-in-Ok-number_up_to-3
returns-in-Ok-number_up_to-3 c =
    let k = c in
    let s = k in
    let n = s in
    settings-right _ _ _ (sym n.number_up_to.ensures ∙ n.in-Ok.is) (sym s.number_up_to-2.ensures ∙ s.in-Ok-number_up_to.is)
    (sym k.number_up_to-3.ensures ∙ k.in-Ok-number_up_to-2.is) (sym c.number_up_to-4.ensures ∙ c.in-Ok-number_up_to-3.is)

pub returns-in-Err-number_up_to-3 : goal.returns-in-Err-number_up_to-3
returns-in-Err-number_up_to-3 c =
    let k = c in
    let s = k in
    let n = s in
    wrong-eccentricity _ _ _ (sym n.number_up_to.ensures ∙ n.in-Ok.is) (sym s.number_up_to-2.ensures ∙ s.in-Ok-number_up_to.is)
    (sym k.number_up_to-3.ensures ∙ k.in-Ok-number_up_to-2.is) (sym c.number_up_to-4.ensures ∙ c.in-Err-number_up_to-3.is)
