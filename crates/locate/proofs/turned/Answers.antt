-- `locate::turned` meets its contract, turn by turn. Assumes nothing.
use mathlib.Core.Path.{◌≡◌, refl, sym, ap, ◌∙◌}
use mathlib.Core.Bool.{Bool, true, false, not, cond, beq}
use Prim.Native.Nat.{ℕ, zero, suc, ◌%◌, ◌≤◌, ◌<◌}
use native.Mathlib.Omega.{arith}
use lib.IntN.{ℤ, neg_ℤ, neg_ℤ-neg_ℤ}
use lib.Dec.{eqb, ltb}
use Rattle.root.specs.declared.Axis.{Axis}
use Rattle.root.specs.Floor.{axis_of}
use Rattle.locate.specs.Fix.{quarter, turned_north}
use Rattle.locate.proofs.turned.Goals as goal

abbrev odd : ℕ → Bool
odd j = eqb (j % 2) 1

abbrev late : ℕ → Bool
late j = ltb 1 j

abbrev flipped_of : Bool → Axis → ℤ
flipped_of b x = cond b (neg_ℤ (axis_of x)) (axis_of x)

-- ---- the four turns
turn-first : (j : ℕ) (u v : Axis) → j < 4 → flipped_of (not (beq (odd j) (late j))) (cond (odd j) v u) ≡ (turned_north j (axis_of u, axis_of v)).0
unfolding turned_north
turn-first zero u v h = refl
turn-first (suc zero) u v h = refl
turn-first (suc (suc zero)) u v h = refl
turn-first (suc (suc (suc zero))) u v h = sym (neg_ℤ-neg_ℤ (axis_of v))
turn-first (suc (suc (suc (suc j)))) u v h = absurd (omega arith)

turn-second : (j : ℕ) (u v : Axis) → j < 4 → flipped_of (late j) (cond (odd j) u v) ≡ (turned_north j (axis_of u, axis_of v)).1
unfolding turned_north
turn-second zero u v h = refl
turn-second (suc zero) u v h = refl
turn-second (suc (suc zero)) u v h = refl
turn-second (suc (suc (suc zero))) u v h = refl
turn-second (suc (suc (suc (suc j)))) u v h = absurd (omega arith)

chosen-small : (b : Bool) (x y : Axis) → x.size ≤ quarter → y.size ≤ quarter → (cond b x y).size ≤ quarter
chosen-small true x y h l = h
chosen-small false x y h l = l

pub returns : goal.returns
returns c =
    let s = c in
    let j = s.args.turns in
    let u = s.args.u in
    let v = s.args.v in
    let p = c in
    let x : p.chosen.result ≡ cond (odd j) v u = p.chosen.ensures in
    let y : c.chosen-2.result ≡ cond (odd j) u v = c.chosen-2.ensures in
    record {
      first = p.flipped.ensures.0 ∙ ap (flipped_of (not (beq (odd j) (late j)))) x ∙ turn-first j u v s.requires.turns_bound;
      second = c.flipped-2.ensures.0 ∙ ap (flipped_of (late j)) y ∙ turn-second j u v s.requires.turns_bound;
      first_small = rw (p.flipped.ensures.1, x) (chosen-small (odd j) v u s.requires.size_le_quarter_2 s.requires.size_le_quarter);
      second-small = rw (c.flipped-2.ensures.1, y) (chosen-small (odd j) u v s.requires.size_le_quarter s.requires.size_le_quarter_2);
    }
