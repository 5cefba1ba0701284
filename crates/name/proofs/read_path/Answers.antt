-- `name::read_path` meets its contract: what is read, with the digits that are left, is the whole; what is left decides. Assumes nothing.
use mathlib.Core.Path.{◌≡◌, sym, ap, ◌∙◌}
use mathlib.Core.List.{List}
use Prim.Native.Nat.{ℕ, ◌+◌, ◌-◌, ◌*◌, ◌^◌, ◌≤◌, ◌<◌}
use native.Mathlib.Numerals.{add-one}
use native.Mathlib.Nat.{pow-suc}
use native.Mathlib.Omega.{arith}
use lib.ListN.{length, take, drop, get_or, length-drop, drop_of_length-le}
use lib.Seq.{take_all}
use Rattle.ternary.proofs.Laws.Powers.{nine-le}
use Rattle.name.specs.Name.{all_digits, is_digit}
use Rattle.name.proofs.Laws.{read, read_all, low_digit, high_digit, a-digit, stopped, further, read-on, no_digit, all_digits_lem}
use Rattle.name.proofs.read_path.Goals as goal
use Rattle.name.proofs.read_path.Goals.{Else-b-gt56}

-- the bytes after the letter
abbrev behind : List ℕ → List ℕ
behind name = take (length name - 1) (drop 1 name)

all_behind : (name : List ℕ) → behind name ≡ drop 1 name
all_behind name = let n = length-drop 1 name in take_all (length name - 1) (drop 1 name) (omega arith)

length-behind : (name : List ℕ) → length (behind name) ≡ length name - 1
length-behind name = ap length (all_behind name) ∙ length-drop 1 name

-- the next path is below the next power, which is at most 9^15
next : (p i b : ℕ) → p < 9 ^ i → b - 48 ≤ 8 → p * 9 + (b - 48) < 9 ^ (i + 1)
next p i b k l =
    let e : 9 ^ (i + 1) ≡ 9 ^ i * 9 = ap (λ (x : ℕ). 9 ^ x) (add-one i) ∙ pow-suc 9 i in
    omega arith

small :
    (c : Else-b-gt56) →
    let l = c.loop-b in
    let s = behind c.args.name.now in
    l.path * 9 + (get_or s l.b-index 0 - 48) < 205891132094649
small c =
    let l = c.loop-b in
    let s = behind c.args.name.now in
    let n = length-behind c.args.name.now in
    let h = next l.path l.b-index (get_or s l.b-index 0) l.invariant.0 (omega (arith, c.if-b-gt56.false)) in
    let g : 9 ^ (l.b-index + 1) ≤ 9 ^ 15 = nine-le {i = l.b-index + 1} {j = 15} (omega (arith, c.loop-b-test.true)) in
    omega arith

pub loop-b-init : goal.loop-b-init
loop-b-init c = let e = all_behind c.args.name.now in (omega arith, ap all_digits e, ap (read 0) e)

pub returns-then-b-lt48 : goal.returns-then-b-lt48
returns-then-b-lt48 c =
    let l = c.loop-b in
    let s = behind c.args.name.now in
    no_digit (all_digits (drop 1 c.args.name.now)) _
    (sym l.invariant.1 ∙ stopped s l.b-index c.loop-b-test.true (low_digit (get_or s l.b-index 0) c.if-b-lt48.true))

pub returns-then-b-gt56 : goal.returns-then-b-gt56
returns-then-b-gt56 c =
    let l = c.loop-b in
    let s = behind c.args.name.now in
    no_digit (all_digits (drop 1 c.args.name.now)) _
    (sym l.invariant.1 ∙ stopped s l.b-index c.loop-b-test.true (high_digit (get_or s l.b-index 0) c.if-b-lt48.false c.if-b-gt56.true))

pub overflow_mul-path : goal.overflow_mul-path
overflow_mul-path c = let s = small (goal.at.overflow_mul-path c).Else-b-gt56 in omega arith

pub overflow_add-path : goal.overflow_add-path
overflow_add-path c = let s = small (goal.at.overflow_add-path c).Else-b-gt56 in omega (arith, c.wide.ensures)

pub loop-b-preserved : goal.loop-b-preserved
loop-b-preserved c =
    let l = c.loop-b in
    let s = behind c.args.name.now in
    let b = get_or s l.b-index 0 in
    let d : is_digit b ≡ _ = a-digit b c.if-b-lt48.false c.if-b-gt56.false in
    let n = next l.path l.b-index b l.invariant.0 (omega (arith, c.if-b-gt56.false)) in
    let r = ap (λ (x : ℕ). read (l.path * 9 + x) (drop (l.b-index + 1) s)) c.wide.ensures in (
      omega (arith, n, c.wide.ensures),
      further s l.b-index c.loop-b-test.true d ∙ l.invariant.1,
      r ∙ read-on s l.b-index c.loop-b-test.true l.path ∙ l.invariant.2,
    )

pub returns : goal.returns
unfolding all_digits read
returns c =
    let l = c.loop-b in
    let rest = drop 1 c.args.name.now in
    let z = drop_of_length-le (behind c.args.name.now) {i = l.b-index} c.loop-b-test.false in
    all_digits_lem (all_digits rest) (sym l.invariant.1 ∙ ap all_digits z) (sym (ap (read l.path) z) ∙ l.invariant.2 ∙ read_all rest)
