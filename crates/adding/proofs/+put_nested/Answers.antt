-- `adding::put_nested` meets its contract. Assumes nothing.
use native.Mathlib.Omega.{arith}
use mathlib.Core.Path.{refl, sym, ap}
use Prim.Native.Nat.{ℕ, ◌+◌, ◌<◌}
use mathlib.Core.List.{List}
use lib.ListN.{length, drop, get_or, set, length-set}
use Rattle.adding.proofs.Moves.{nested-length, nested-last, sets_last, sets_more, sets-long}
use Rattle.adding.specs.Internal.Edit.{nested}
use Rattle.adding.proofs.+put_nested.Goals as goal

pub bounds-text-place : goal.bounds-text-place
bounds-text-place t c = omega (arith, nested-length c.args.name.now c.args.k c.requires.0)

pub returns-then-k-name-clause-text_after : goal.returns-then-k-name-clause-text_after
returns-then-k-name-clause-text_after t c = sets_last c.args.name.now c.args.k c.requires.0 c.args.text.now c.args.place c.if-k-name.true

pub returns-then-k-name-clause-value : goal.returns-then-k-name-clause-value
returns-then-k-name-clause-value t c = sym (ap (λ (x : List ℕ). c.args.place + length x) (nested-last c.args.name.now c.args.k c.requires.0 c.if-k-name.true))

pub bounds-text-place-2 : goal.bounds-text-place-2
bounds-text-place-2 t c =
    let m : c.args.k + 1 < length c.args.name.now = omega (arith, c.requires.0, c.if-k-name.false) in
    omega (
      arith,
      m,
      c.requires.1,
      length-set c.args.text.now c.args.place (get_or c.args.name.now c.args.k 0),
      nested-length c.args.name.now c.args.k c.requires.0,
    )

pub put_nested-end-requires : goal.put_nested-end-requires
put_nested-end-requires t c =
    let m : c.args.k + 1 < length c.args.name.now = omega (arith, c.requires.0, c.if-k-name.false) in
    let n = nested-length c.args.name.now c.args.k c.requires.0 in
    let o = nested-length c.args.name.now (c.args.k + 1) m in (
      omega (arith, m),
      (
        m,
        omega (
          arith,
          n,
          o,
          c.requires.1,
          length-set c.args.text.now c.args.place (get_or c.args.name.now c.args.k 0),
          length-set (set c.args.text.now c.args.place (get_or c.args.name.now c.args.k 0)) (c.args.place + 1) 40,
        ),
      ),
    )

pub bounds-text-end : goal.bounds-text-end
bounds-text-end t c =
    let m : c.args.k + 1 < length c.args.name.now = omega (arith, c.requires.0, c.if-k-name.false) in
    let n = nested-length c.args.name.now c.args.k c.requires.0 in
    let o = nested-length c.args.name.now (c.args.k + 1) m in
    let g = sets-long c.args.text.now c.args.place (get_or c.args.name.now c.args.k 0) (c.args.place + 1) 40 (c.args.place + 2)
    (nested (drop (c.args.k + 1) c.args.name.now)) c.put_nested-end.ensures.text_after in
    omega (arith, n, o, c.requires.1, c.put_nested-end.ensures.value, g)

pub returns-clause-text_after : goal.returns-clause-text_after
returns-clause-text_after t c =
    let m : c.args.k + 1 < length c.args.name.now = omega (arith, c.requires.0, c.if-k-name.false) in
    let r = c.put_nested-end in
    sets_more c.args.name.now c.args.k c.requires.0 c.args.text.now c.args.place (c.args.place + 2) r.result r.new.text m refl r.ensures.text_after
    r.ensures.value

pub returns-clause-value : goal.returns-clause-value
returns-clause-value t c =
    let m : c.args.k + 1 < length c.args.name.now = omega (arith, c.requires.0, c.if-k-name.false) in
    let n = nested-length c.args.name.now c.args.k c.requires.0 in
    let o = nested-length c.args.name.now (c.args.k + 1) m in
    omega (arith, n, o, c.put_nested-end.ensures.value)
