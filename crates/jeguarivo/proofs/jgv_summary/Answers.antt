-- `jgv_summary` meets its contract: the counters are zeros before, and stay so beside a refusal. Assumes nothing.
use Rattle.std.specs.Prelude.{Result}
use Rattle.reading.specs.declared.Refused.{Refused}
use Rattle.cell.specs.declared.Arrangement.{Arrangement}
use mathlib.Core.Path.{sym, ap, ap₂, ◌∙◌}
use Rattle.entries.specs.Summary.{summary_numbers, summary_of}
use Rattle.jeguarivo.proofs.jgv_summary.Goals as goal

pub returns-in-Ok : goal.returns-in-Ok
unfolding summary_of
returns-in-Ok c =
    let k = c.summarize in
    sym (ap (λ (x : Result Arrangement Refused). summary_numbers x k.new.counters) c.in-Ok.is) ∙ ap₂ summary_numbers k.ensures.value k.ensures.counters_after

pub returns-in-Err : goal.returns-in-Err
unfolding summary_of
returns-in-Err c =
    let k = c.summarize in
    sym (ap (λ (x : Result Arrangement Refused). summary_numbers x k.new.counters) c.in-Err.is) ∙ ap₂ summary_numbers k.ensures.value k.ensures.counters_after
