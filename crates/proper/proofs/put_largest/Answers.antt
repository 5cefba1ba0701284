-- `put_largest` meets its contract: the codes are put, sorted and thinned in the same memory. Assumes nothing.
use mathlib.Core.List.{List}
use Prim.Native.Nat.{ℕ}
use Rattle.sorting.specs.Sorted.{sorted}
use Rattle.proper.specs.Wholes.{loose_codes}
use Rattle.proper.proofs.Laws.Thin.{coded-all}
use Rattle.proper.proofs.Laws.Thinned.{codes-sorted}
use Rattle.proper.proofs.Internal.Largest.{sorted-fits, sorted-coded}
use Rattle.proper.proofs.put_largest.Goals as goal

pub thin-requires : goal.thin-requires
thin-requires c =
    let s = c in
    let w = s in
    let a = w in
    let t : List ℕ = a.args.text.now in
    let l : List ℕ = loose_codes a.args.arrangement t in
    let e = w.put_wholes-count.ensures in
    let z : List ℕ = a.args.codes.now in
    let k : List ℕ = w.put_wholes-count.new.codes in
    let o : List ℕ = s.sort.new.codes in (
      sorted-fits l z k _ e.value a.requires.2 e.codes_after o s.sort.ensures.codes_after,
      sorted-coded l z k _ e.value a.requires.2 e.codes_after o s.sort.ensures.codes_after (coded-all a.args.arrangement (sorted l) (codes-sorted a.requires.4 t a.requires.0)),
    )
