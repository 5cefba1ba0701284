-- `walk::whole_at` meets its contract: the byte, and the one behind it, decide. Assumes nothing.
use mathlib.Core.Path.{◌≡◌, sym, ap, ◌∙◌}
use mathlib.Core.Bool.{true, false, not, cond}
use mathlib.Core.List.{List}
use Prim.Native.Nat.{ℕ, ◌+◌, ◌<◌, ◌≤◌}
use native.Mathlib.Omega.{arith}
use lib.ListN.{length, drop, get_or, drop_of_length-le}
use lib.Dec.{eqb}
use borrow.Author.Tests.{eq-eqb, ne_eqb}
use Rattle.walk.specs.Walk.{opens, whole_at}
use Rattle.walk.specs.Laws.Walk.{byte_at}
use Rattle.walk.proofs.whole_at.Goals as goal

module _ (t : List ℕ) (i : ℕ) (h : i < length t) where
  whole_here : whole_at (drop i t) ≡ cond (eqb (get_or t i 0) 40) false (cond (eqb (get_or t i 0) 41) false (not (opens (drop (i + 1) t))))
  unfolding whole_at
  whole_here = ap whole_at (byte_at t i h)

  -- at a name
  at_name : (get_or t i 0 ≡ 40 → ⊥) → (get_or t i 0 ≡ 41 → ⊥) → not (opens (drop (i + 1) t)) ≡ whole_at (drop i t)
  at_name e f = rw (whole_here, ne_eqb (get_or t i 0) 40 e, ne_eqb (get_or t i 0) 41 f)

  at-end : length t ≤ i + 1 → true ≡ not (opens (drop (i + 1) t))
  at-end e = sym (ap (λ (x : List ℕ). not (opens x)) (drop_of_length-le t {i = i + 1} e))

  before-byte : i + 1 < length t → not (eqb (get_or t (i + 1) 0) 40) ≡ not (opens (drop (i + 1) t))
  before-byte e = sym (ap (λ (x : List ℕ). not (opens x)) (byte_at t (i + 1) e))

pub returns-then-b-eq40 : goal.returns-then-b-eq40
returns-then-b-eq40 c =
    let a = c.args in
    rw (whole_here a.text.now a.i c.requires, eq-eqb (get_or a.text.now a.i 0) 40 c.if-b-eq40.true)

pub returns-then-b-eq41 : goal.returns-then-b-eq41
returns-then-b-eq41 c =
    let a = c.args in
    rw (whole_here a.text.now a.i c.requires, ne_eqb (get_or a.text.now a.i 0) 40 c.if-b-eq40.false, eq-eqb (get_or a.text.now a.i 0) 41 c.if-b-eq41.true)

pub returns-then-next-text : goal.returns-then-next-text
returns-then-next-text c =
    let s = c in
    at-end s.args.text.now s.args.i s.requires (omega arith)
    ∙ at_name s.args.text.now s.args.i s.requires c.if-b-eq40.false c.if-b-eq41.false

pub returns : goal.returns
returns c =
    let s = c in
    before-byte s.args.text.now s.args.i s.requires (omega arith)
    ∙ at_name s.args.text.now s.args.i s.requires c.if-b-eq40.false c.if-b-eq41.false
