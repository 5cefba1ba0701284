-- `adding::same_way` meets its contract. Assumes nothing.
use mathlib.Core.Path.{◌≡◌, refl, sym, ap, ◌∙◌}
use Prim.Native.Nat.{◌≤◌}
use lib.ListN.{length, take, replicate}
use lib.Seq.{length-take-le, take-take}
use Rattle.code.specs.Code.{cell_of}
use Rattle.name.specs.Name.{name_of}
use Rattle.adding.proofs.Names.{name-front}
use native.Mathlib.Omega.{arith}
use Rattle.adding.proofs.same_way.Goals as goal
use Rattle.adding.proofs.same_way.Goals.{In-Ok}

-- the other name's bytes
front : (c : In-Ok) → let n = c.in-Ok.letters in let b = c.code_name.new.name in
    (n ≤ 16) × (n ≤ length b) × (take n b ≡ name_of (cell_of c.args.code))
front c =
    let n = c.code_name in
    name-front c.args.code (replicate 16 0) refl n.ensures.value n.ensures.name_after c.in-Ok.is

pub slice_bounds-last-end : goal.slice_bounds-last-end
slice_bounds-last-end c = omega (arith, (front (goal.at.slice_bounds-last-end c).In-Ok).1)

pub slice_bounds-same-end-2 : goal.slice_bounds-same-end-2
slice_bounds-same-end-2 c = sym (length-take-le _ _ (omega (arith, (front (goal.at.slice_bounds-same-end-2 c).In-Ok).1)))

pub returns : goal.returns
returns c = λ z.
    let a = c.args in
    let h = front (goal.at.returns c).In-Ok in
    let b = c.code_name.new.name in
    let n = c.in-Ok.letters in
    c.same.ensures.0 z ∙ sym (take-take a.depth n b (omega arith)) ∙ ap (take a.depth) h.2
