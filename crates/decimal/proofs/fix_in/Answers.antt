-- `decimal::fix_in` meets its contract: the text is the trimmed line, and its two parts are what stands ahead of the space and behind it.
-- Assumes nothing.
use mathlib.Core.Path.{◌≡◌, sym, ap, ap₂, ◌∙◌}
use mathlib.Core.List.{List}
use Rattle.std.proofs.Common.{rules, w64, to_z, of_z, Some, ℤ}
use Prim.Native.Nat.{ℕ, ◌+◌, ◌≤◌}
use native.Mathlib.Omega.{arith}
use lib.ListN.{length, take, drop}
use lib.Seq.{length-take-le}
use Rattle.decimal.specs.Decimal.{number_in, ahead, behind, trimmed}
use Rattle.decimal.proofs.Laws.{from_on, take-ahead, ahead-le, drop-ahead, take-trimmed, no-space, no-first, no_second, two-numbers}
use Rattle.decimal.proofs.fix_in.Goals as goal
use Rattle.decimal.proofs.fix_in.Goals.{After-ahead_of-space, After-number_in, After-number_in-2, After-trimmed_length-end, Else-space-end}

text-is : (c : After-trimmed_length-end) → let s = c.args.line.now in take c.trimmed_length-end.result s ≡ trimmed s
text-is c = let s = c.args.line.now in ap (λ (n : ℕ). take n s) c.trimmed_length-end.ensures.value ∙ take-trimmed s

text-length : (c : After-trimmed_length-end) → length (take c.trimmed_length-end.result c.args.line.now) ≡ c.trimmed_length-end.result
text-length c = length-take-le c.trimmed_length-end.result c.args.line.now c.trimmed_length-end.ensures.upper_bound

space-is : (c : After-ahead_of-space) → c.ahead_of-space.result ≡ length (ahead 32 (trimmed c.args.line.now))
space-is c = c.ahead_of-space.ensures ∙ ap (λ (l : List ℕ). length (ahead 32 l)) (text-is (goal.at.After-ahead_of-space c).After-trimmed_length-end)

-- the space is inside the text
inside : (c : Else-space-end) → c.ahead_of-space.result + 1 ≤ c.trimmed_length-end.result
inside c =
    let s = c.args.line.now in
    let e = space-is (goal.at.Else-space-end c).After-ahead_of-space in
    let n = c.trimmed_length-end.ensures.value in
    let l = ahead-le 32 (trimmed s) in
    omega arith

first-is : (c : After-number_in) → c.number_in.result ≡ number_in (ahead 32 (trimmed c.args.line.now))
first-is c = c.number_in.ensures ∙ ap number_in (ap₂ (λ (n : ℕ) (l : List ℕ). take n l) (space-is (goal.at.After-number_in c).After-ahead_of-space)
    (text-is (goal.at.After-number_in c).After-trimmed_length-end) ∙ take-ahead 32 (trimmed c.args.line.now))

second_is : (c : After-number_in-2) → c.number_in-2.result ≡ number_in
    (behind 32 (trimmed c.args.line.now))
second_is c =
    let s = c.args.line.now in
    c.number_in-2.ensures ∙ ap number_in (from_on (c.ahead_of-space.result + 1)
    (take c.trimmed_length-end.result s) ∙ ap₂ (λ (n : ℕ) (l : List ℕ). drop (n + 1) l)
    (space-is (goal.at.After-number_in-2 c).After-ahead_of-space) (text-is (goal.at.After-number_in-2 c).After-trimmed_length-end)
    ∙ drop-ahead 32 (trimmed s))

pub returns-then-space-end : goal.returns-then-space-end
returns-then-space-end c = no-space c.args.line.now (sym (space-is (goal.at.returns-then-space-end c).After-ahead_of-space) ∙ c.if-space-end.true ∙ c.trimmed_length-end.ensures.value)

pub slice_bounds-number_in-end : goal.slice_bounds-number_in-end
slice_bounds-number_in-end c =
    let n = text-length (goal.at.slice_bounds-number_in-end c).After-trimmed_length-end in
    let h = inside (goal.at.slice_bounds-number_in-end c).Else-space-end in
    sym (length-take-le c.ahead_of-space.result (take c.trimmed_length-end.result
    c.args.line.now) (omega arith))

pub returns-in_err-longitude : goal.returns-in_err-longitude
returns-in_err-longitude c =
    rw c.from_residual.ensures
    (no-first c.args.line.now (sym c.in_err-longitude.was ∙ first-is (goal.at.returns-in_err-longitude c).After-number_in))

pub overflow_add-rest : goal.overflow_add-rest
overflow_add-rest c = let h = inside (goal.at.overflow_add-rest c).Else-space-end in omega arith

pub slice_bounds-number_in-count : goal.slice_bounds-number_in-count
slice_bounds-number_in-count c =
    let n = text-length (goal.at.slice_bounds-number_in-count c).After-trimmed_length-end in
    let h = inside (goal.at.slice_bounds-number_in-count c).Else-space-end in
    omega arith

pub slice_bounds-number_in-start : goal.slice_bounds-number_in-start
slice_bounds-number_in-start c =
    let n = text-length (goal.at.slice_bounds-number_in-start c).After-trimmed_length-end in
    let h = inside (goal.at.slice_bounds-number_in-start c).Else-space-end in
    omega arith

pub returns-in_err-z : goal.returns-in_err-z
returns-in_err-z c =
    rw c.from_residual-in_err-z.ensures
    (no_second c.args.line.now
    (sym c.in_err-z.was ∙ second_is (goal.at.returns-in_err-z c).After-number_in-2))

pub returns : goal.returns
returns c =
    let x : to_z w64 (of_z w64 c.in_ok-longitude.longitude) ≡ c.in_ok-longitude.longitude = search rules in
    let y : to_z w64 (of_z w64 c.in_ok-z.z) ≡ c.in_ok-z.z = search rules in
    ap₂ (λ (a b : ℤ). Some (a, b)) x y ∙ two-numbers c.args.line.now c.in_ok-longitude.longitude c.in_ok-z.z
    (sym c.in_ok-longitude.was ∙ first-is (goal.at.returns c).After-number_in) (sym c.in_ok-z.was ∙ second_is (goal.at.returns c).After-number_in-2)
