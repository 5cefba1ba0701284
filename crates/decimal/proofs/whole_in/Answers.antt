-- `decimal::whole_in` meets its contract: what is read, with the digits that are left, is the whole; what is left decides. 19 digits stay
-- below 10^19, so nothing wraps. Assumes nothing.
use mathlib.Core.Path.{◌≡◌, sym, ap, ◌∙◌}
use Prim.Native.Nat.{ℕ, ◌+◌, ◌-◌, ◌*◌, ◌^◌, ◌≤◌, ◌<◌}
use native.Mathlib.Omega.{arith}
use lib.ListN.{drop, get_or, drop_of_length-le}
use Rattle.decimal.specs.Decimal.{all_decimal, is_decimal}
use Rattle.decimal.proofs.Laws.{ten-le, read, read_all, low_digit, high_digit, a-digit, next, stopped, further, read-on, none_in, many-in, other-in, digits_in}
use Rattle.decimal.proofs.whole_in.Goals as goal
use Rattle.decimal.proofs.whole_in.Goals.{Else-b-gt57}

small : (c : Else-b-gt57) → let l = c.loop-byte in l.n * 10 + (c.wide-b.result - 48) < 10000000000000000000
small c =
    let l = c.loop-byte in
    let h = next l.n l.byte-index c.wide-b.result l.invariant.0 (omega arith) in
    let g : 10 ^ (l.byte-index + 1) ≤ 10 ^ 19 = ten-le {i = l.byte-index + 1} {j = 19} (omega arith) in
    omega arith

pub returns-then-text-eq0 : goal.returns-then-text-eq0
returns-then-text-eq0 c = none_in c.args.text.now c.if-text-eq0.true

pub returns-then-text-gt19 : goal.returns-then-text-gt19
returns-then-text-gt19 c = many-in c.args.text.now c.if-text-gt19.true

pub returns-then-b-lt48 : goal.returns-then-b-lt48
returns-then-b-lt48 c =
    let l = c.loop-byte in
    let s = c.args.text.now in
    other-in s (omega arith) (omega arith) (sym l.invariant.1 ∙ stopped s l.byte-index (omega arith) (low_digit (get_or s l.byte-index 0) (rw c.wide-b.ensures at c.if-b-lt48.true)))

pub returns-then-b-gt57 : goal.returns-then-b-gt57
returns-then-b-gt57 c =
    let l = c.loop-byte in
    let s = c.args.text.now in
    let w = c.wide-b.ensures in
    other-in s (omega arith) (omega arith) (sym l.invariant.1 ∙ stopped s l.byte-index (omega arith) (high_digit (get_or s l.byte-index 0) (rw w at c.if-b-lt48.false) (rw w at c.if-b-gt57.true)))

pub overflow_mul-n : goal.overflow_mul-n
overflow_mul-n c = let s = small (goal.at.overflow_mul-n c).Else-b-gt57 in omega arith

pub overflow_add-n : goal.overflow_add-n
overflow_add-n c = let s = small (goal.at.overflow_add-n c).Else-b-gt57 in omega arith

pub loop-byte-preserved : goal.loop-byte-preserved
loop-byte-preserved c =
    let l = c.loop-byte in
    let s = c.args.text.now in
    let w = c.wide-b.ensures in
    let d : is_decimal (get_or s l.byte-index 0) ≡ _ = a-digit (get_or s l.byte-index 0) (rw w at c.if-b-lt48.false) (rw w at c.if-b-gt57.false) in
    let r = ap (λ (x : ℕ). read (l.n * 10 + (x - 48)) (drop (l.byte-index + 1) s)) w in
    let m = next l.n l.byte-index c.wide-b.result l.invariant.0 (omega arith) in
    (omega arith, further s l.byte-index (omega arith) d ∙ l.invariant.1, r ∙ read-on s l.byte-index (omega arith) l.n ∙ l.invariant.2)

pub returns : goal.returns
unfolding all_decimal read
returns c =
    let l = c.loop-byte in
    let s = c.args.text.now in
    let z = drop_of_length-le s {i = l.byte-index} (omega arith) in
    digits_in s l.n (omega arith) (omega arith) (sym l.invariant.1 ∙ ap all_decimal z) (sym (ap (read l.n) z) ∙ l.invariant.2 ∙ read_all s)
