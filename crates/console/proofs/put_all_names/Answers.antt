-- `console::put_all_names` meets its contract: each turn prints what waits, and where that is done puts the next names. Assumes nothing.
use mathlib.Core.Path.{◌≡◌}
use native.Mathlib.Omega.{arith}
use lib.ListN.{length}
use borrow.Author.Rules.{rules}
use Rattle.console.proofs.Parts.{part-within, waits-next}
use Rattle.console.proofs.put_all_names.Goals as goal

pub loop-from-preserved : goal.loop-from-preserved
loop-from-preserved c =
    let codes = c.args.codes.now in
    let l = c.loop-from in
    let p = c.put_names-names in
    let t = c.loop-from-test.true in
    let same : length p.new.out ≡ length l.out = search rules in (
      part-within codes l.out _ l.from l.end _ t p.ensures,
      omega (arith, p.ensures.within, same),
      search rules,
      waits-next codes l.out p.new.out l.from l.end _ t p.ensures (omega (arith, l.invariant.2)) same l.invariant.3,
    )
