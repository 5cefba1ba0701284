-- `settings::put_read` meets its contract. Assumes nothing.
use mathlib.Core.Path.{subst}
use mathlib.Core.List.{List}
use Prim.Native.Nat.{ℕ}
use Rattle.report.specs.Put.{Put}
use Rattle.report.proofs.Laws.Put.{put-none}
use Rattle.settings.proofs.Laws.{no_line, the-line}
use native.Mathlib.Omega.{arith}
use Rattle.settings.proofs.put_read.Goals as goal

pub returns-then-answer-ne0 : goal.returns-then-answer-ne0
returns-then-answer-ne0 c =
    let a = c.args in
    let r = c.read-answer in
    let l = a.out.now in record { put = subst (λ (t : List ℕ). Put 0 t l l 0) (no_line a.history a.revision r.result r.ensures c.if-answer-ne0.true) put-none; upper_bound = omega arith }

pub returns : goal.returns
returns c =
    let a = c.args in
    let r = c.read-answer in
    let p = c.put_settings in record {
      put = subst (λ (t : List ℕ). Put 0 t a.out.now p.new.out p.result)
          (the-line a.history a.revision r.result r.ensures c.if-answer-ne0.false) p.ensures.put;
      upper_bound = omega (arith, p.ensures.upper_bound);
    }
