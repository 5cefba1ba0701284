-- What stands ahead of the point and behind it, as whole numbers; together they stay below 10^15. Assumes nothing.
use Rattle.std.specs.Prelude.{Option, Some}
use mathlib.Core.Path.{◌≡◌, sym, ap, ap₂, ◌∙◌}
use Prim.Native.Nat.{ℕ, ◌+◌, ◌-◌, ◌*◌, ◌^◌, ◌≤◌, ◌<◌}
use native.Mathlib.Omega.{arith}
use lib.ListN.{length, take, drop}
use lib.Seq.{length-take-le}
use Rattle.decimal.specs.Decimal.{whole_in, ahead, behind}
use Rattle.decimal.specs.Fraction.{with_places}
use Rattle.decimal.proofs.Laws.{from_on, take-ahead, ahead-le, drop-ahead}
use Rattle.decimal.proofs.Laws.Fraction.{whole_below, scaled-below}
use Rattle.decimal.proofs.Places.{no-point, long-point, short-point, places-are}
use Rattle.decimal.proofs.fraction_in.Goals as goal
use Rattle.decimal.proofs.fraction_in.Goals.{After-ten_to-scale, After-whole_in, After-whole_in-2, Else-point-text, Else-text-gt16}

-- the point stands inside the text
inside : (c : Else-point-text) → c.ahead_of-point.result + 1 ≤ length c.args.text.now
inside c =
    let s = c.args.text.now in
    omega (arith, c.ahead_of-point.ensures, ahead-le 46 s, c.if-point-text.false)

has-point : (c : Else-point-text) → length (ahead 46 c.args.text.now) ≡ length c.args.text.now → ⊥
has-point c e = c.if-point-text.false (c.ahead_of-point.ensures ∙ e)

short : (c : Else-text-gt16) → length c.args.text.now ≤ 16
short c = omega (arith, c.if-text-gt16.false)

front-is : (c : After-whole_in) → c.whole_in.result ≡ whole_in (ahead 46 c.args.text.now)
front-is c =
    let s = c.args.text.now in
    c.whole_in.ensures ∙ ap whole_in (ap (λ (n : ℕ). take n s) c.ahead_of-point.ensures ∙ take-ahead 46 s)

back_is : (c : After-whole_in-2) → c.whole_in-2.result ≡ whole_in (behind 46 c.args.text.now)
back_is c =
    let s = c.args.text.now in
    let p = c.ahead_of-point in
    c.whole_in-2.ensures ∙ ap whole_in (from_on (p.result + 1) s ∙ ap (λ (n : ℕ). drop (n + 1) s) p.ensures ∙ drop-ahead 46 s)

-- the scale, and what the two parts come to
scale-is : (c : After-ten_to-scale) → c.ten_to-scale.result ≡ 10 ^ length (behind 46 c.args.text.now)
scale-is c =
    let s = c.args.text.now in
    c.ten_to-scale.ensures ∙ ap (λ (n : ℕ). 10 ^ n) (ap (λ (n : ℕ). length s - (n + 1)) c.ahead_of-point.ensures ∙ places-are s)

front : (c : After-ten_to-scale) → whole_in (ahead 46 c.args.text.now) ≡ Some c.in_ok-front.front
front c = sym (front-is (goal.at.After-ten_to-scale c).After-whole_in) ∙ c.in_ok-front.was

back : (c : After-ten_to-scale) → whole_in (behind 46 c.args.text.now) ≡ Some c.in_ok-back.back
back c = sym (back_is (goal.at.After-ten_to-scale c).After-whole_in-2) ∙ c.in_ok-back.was

small : (c : After-ten_to-scale) → c.in_ok-front.front * c.ten_to-scale.result + c.in_ok-back.back < 10 ^ 15
small c =
    let s = c.args.text.now in
    let f = whole_below (ahead 46 s) _ (front c) in
    let b = whole_below (behind 46 s) _ (back c) in
    let h : length (ahead 46 s) + length (behind 46 s) ≤ 15 =
    omega (arith, sym (places-are s), inside (goal.at.After-ten_to-scale c).Else-point-text, c.ahead_of-point.ensures, short (goal.at.After-ten_to-scale c).Else-text-gt16) in
    scaled-below _ _ (length (ahead 46 s)) (length (behind 46 s)) (scale-is c) f b h

pub returns-then-point-text : goal.returns-then-point-text
returns-then-point-text c =
    let k = c in
    c.whole_fraction.ensures ∙ no-point k.args.text.now (sym k.ahead_of-point.ensures ∙ c.if-point-text.true)

pub returns-then-text-gt16 : goal.returns-then-text-gt16
returns-then-text-gt16 c = long-point c.args.text.now (has-point (goal.at.returns-then-text-gt16 c).Else-point-text) c.if-text-gt16.true

pub slice_bounds-whole_in-end : goal.slice_bounds-whole_in-end
slice_bounds-whole_in-end c = sym (length-take-le _ _ (omega (arith, inside (goal.at.slice_bounds-whole_in-end c).Else-point-text)))

pub returns-in_err-front : goal.returns-in_err-front
returns-in_err-front c =
    rw c.from_residual.ensures
    (let w = c in
    let two = w in
    let s = w.args.text.now in
    ap (λ (x : Option ℕ). with_places (length (behind 46 s)) x (whole_in (behind 46 s))) (sym c.in_err-front.was ∙ front-is (goal.at.returns-in_err-front c).After-whole_in) ∙ short-point s (has-point (goal.at.returns-in_err-front c).Else-point-text) (short (goal.at.returns-in_err-front c).Else-text-gt16))

pub overflow_add-rest : goal.overflow_add-rest
overflow_add-rest c = omega (arith, inside (goal.at.overflow_add-rest c).Else-point-text)

pub slice_bounds-whole_in-count : goal.slice_bounds-whole_in-count
slice_bounds-whole_in-count c = omega (arith, inside (goal.at.slice_bounds-whole_in-count c).Else-point-text)

pub slice_bounds-whole_in-start : goal.slice_bounds-whole_in-start
slice_bounds-whole_in-start c = omega (arith, inside (goal.at.slice_bounds-whole_in-start c).Else-point-text)

pub returns-in_err-back : goal.returns-in_err-back
returns-in_err-back c =
    rw c.from_residual-in_err-back.ensures
    (let w2 = c in
    let f = w2 in
    let w = f in
    let two = w in
    let s = w.args.text.now in
    ap₂ (λ (x y : Option ℕ). with_places (length (behind 46 s)) x y) (sym f.in_ok-front.was ∙ front-is (goal.at.returns-in_err-back c).After-whole_in) (sym c.in_err-back.was ∙ back_is (goal.at.returns-in_err-back c).After-whole_in-2)
    ∙ short-point s (has-point (goal.at.returns-in_err-back c).Else-point-text) (short (goal.at.returns-in_err-back c).Else-text-gt16))

pub overflow_mul-result : goal.overflow_mul-result
overflow_mul-result c = let h = small (goal.at.overflow_mul-result c).After-ten_to-scale in record { fits = omega arith }

pub overflow_add-result : goal.overflow_add-result
overflow_add-result c = let h = small (goal.at.overflow_add-result c).After-ten_to-scale in record { fits = omega arith }

pub returns : goal.returns
returns c =
    let s = c.args.text.now in
    let d = (goal.at.returns c).After-ten_to-scale in
    let f = ap₂ (λ (x y : Option ℕ). with_places (length (behind 46 s)) x y) (front d) (back d) in
    ap (λ (n : ℕ). Some (c.in_ok-front.front * n + c.in_ok-back.back, n)) (scale-is d) ∙ sym f
    ∙ short-point s (has-point (goal.at.returns c).Else-point-text) (short (goal.at.returns c).Else-text-gt16)
