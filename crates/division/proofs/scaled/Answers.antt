-- `division::scaled` meets its contract: after so many turns whole * d + rest is base^turns n, and rest is below d. Assumes nothing.
use mathlib.Core.Path.{sym, ap, ◌∙◌}
use Prim.Native.Nat.{ℕ, ◌+◌, ◌*◌, ◌/◌, ◌^◌, ◌<◌}
use native.Mathlib.Nat.{one-le-pow, mod-lt, lt_of_le_of_lt, lt_of_lt_of_le, le_trans, le_of_lt, le_of_eq, le-add_right, mul-pos, pow-le-pow_right}
use native.Mathlib.Omega.{arith}
use Rattle.division.specs.Laws.Division.{next_power, digit, whole-lt}
use Rattle.division.proofs.scaled.Goals as goal
use Rattle.division.proofs.scaled.Goals.{In-loop}

-- the next whole part is below base^(turns + 1), which is at most base^k
next_small : (c : In-loop) →
    c.loop.whole * c.args.base + c.loop.rest * c.args.base / c.args.d < 2 ^ 64
next_small c =
    let l = c.loop in
    let s = c in
    let b = s.args.base in
    let p = b ^ l.counter in
    let e = digit b p l.whole l.rest s.args.n s.args.d l.invariant.1 in
    let h = whole-lt (p * b) _ _ s.args.n s.args.d e s.requires.n_lt_d (mul-pos (one-le-pow l.counter b s.requires.base_nonzero) s.requires.base_nonzero) in
    lt_of_lt_of_le h (le_trans (le_of_eq (sym (next_power b l.counter))) (le_trans (pow-le-pow_right s.requires.base_nonzero (omega arith)) (le_of_lt s.requires.k_bound)))

pub overflow_mul-whole : goal.overflow_mul-whole
overflow_mul-whole c = record { fits = lt_of_le_of_lt (le-add_right _ _) (next_small (goal.at.overflow_mul-whole c).In-loop) }

pub overflow_add-whole : goal.overflow_add-whole
overflow_add-whole c = record { fits = next_small (goal.at.overflow_add-whole c).In-loop }

pub loop-preserved : goal.loop-preserved
loop-preserved c =
    let l = c.loop in
    let a = c.args in
    let e = digit a.base (a.base ^ l.counter) l.whole l.rest a.n a.d l.invariant.1 in
    (mod-lt (l.rest * a.base) (omega arith), e ∙ ap (λ (p : ℕ). p * a.n) (sym (next_power a.base l.counter)))
