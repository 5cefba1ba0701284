-- `lines::next` meets its contract: up to the next line feed, or to the end of the part. Assumes nothing.
use mathlib.Core.Path.{sym, ap, ap₂, ◌∙◌, subst}
use mathlib.Core.List.{List, ◌++◌}
use Prim.Native.Nat.{ℕ, ◌-◌, ◌≤◌}
use native.Mathlib.Omega.{arith}
use lib.ListN.{length, take, drop}
use Rattle.lines.specs.Lines.{Unended}
use Rattle.lines.proofs.Laws.{line-unended, line-ends, part_left}
use Rattle.lines.proofs.next.Goals as goal

pub returns-then-end-part : goal.returns-then-end-part
returns-then-end-part c =
    let a = c.args in
    let start = c in
    let p = c.put-length in
    let e = c.find-end.ensures.place in
    let all = part_left a.part.now a.at start.requires.0 e c.if-end-part.true in
    let n = p.ensures.upper_bound.1 in (
      subst Unended all (line-unended a.part.now a.at start.requires.0 e),
      p.ensures.room_after ∙ ap₂ (λ (m : ℕ) (x : List ℕ). take m (take a.kept a.room.now ++ x)) (sym n) all,
      omega (arith, n, p.ensures.upper_bound.0),
    )

pub returns : goal.returns
returns c =
    let start = c in
    let a = start.args in
    let p = c.put-length in
    let f = c.find-end in
    let n = p.ensures.upper_bound.1 in
    let end : f.result ≤ length a.part.now = f.ensures.upper_bound in (
      take (f.result - a.at) (drop a.at a.part.now),
      line-unended a.part.now a.at start.requires.0 f.ensures.place,
      line-ends a.part.now a.at start.requires.0 f.ensures.place (omega (arith, end, c.if-end-part.false)),
      omega (arith, end, c.if-end-part.false),
      p.ensures.room_after ∙ ap (λ (m : ℕ). take m (take a.kept a.room.now ++ take (f.result - a.at) (drop a.at a.part.now))) (sym n),
      omega (arith, n, p.ensures.upper_bound.0),
    )
