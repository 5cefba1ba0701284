-- `holds` meets its contract: a code that stands at a place has this place, and one that does not stand at its own stands nowhere. Assumes nothing.
use native.Mathlib.Omega.{arith}
use mathlib.Core.Path.{refl, sym}
use borrow.Author.Tests.{eqb-true}
use Rattle.logic.specs.Laws.Bools.{clash}
use Rattle.rescue.specs.Internal.Note.{found, placed_at, holds-past, holds-here}
use Rattle.rescue.proofs.holds.Goals as goal

pub returns-then-k-keys : goal.returns-then-k-keys
returns-then-k-keys c =
    let s = c in record { k_in_bounds = (λ e. clash (sym e)); value = (λ e. holds-past s.args.keys.now s.args.code s.requires e c.if-k-keys.true) }

pub returns : goal.returns
returns c =
    let s = c in
    let a = s.args in
    let h = c.if-k-keys.false in record {
      k_in_bounds = (λ e.
          let z = eqb-true _ _ e in
          (omega arith, placed_at a.keys.now s.requires a.k a.code (omega arith) z, found a.code a.keys.now a.k (omega arith) z));
      value = (λ e. holds-here a.keys.now a.code s.requires e (omega arith) refl);
    }
