-- Fifteen ternary digits of two parts of 2^56, five at a time, in six turns. Assumes nothing.
use mathlib.Core.Path.{◌≡◌, refl, sym, ap, ap₂, ◌∙◌}
use Prim.Native.Nat.{ℕ, zero, suc, ◌+◌, ◌-◌, ◌*◌, ◌/◌, ◌%◌, ◌≤◌, ◌<◌}
use native.Mathlib.Nat.{mul-le-mul_left}
use native.Mathlib.Omega.{arith}
use Rattle.ternary.specs.Weave.{weave}
use Rattle.ternary.proofs.Laws.Weave.{weave-apart, weave_split, weave_last, weave-small}

-- what the turns that are left make of a path: each puts the next five digits of one part behind it, and changes the parts over
abbrev pub turned : (turns this other by then path : ℕ) → ℕ
turned zero this other by then path = path
turned (suc turns) this other by then path =
    turned turns other (this * 243 % 72057594037927936) then by (path * by + weave 5 0 (this * 243 / 72057594037927936))

-- a path only grows
pub grows : (turns this other by then path : ℕ) → 1 ≤ by → 1 ≤ then → path ≤ turned turns this other by then path
grows zero this other by then path hb ht = omega arith
grows (suc turns) this other by then path hb ht =
    let w = weave 5 0 (this * 243 / 72057594037927936) in
    let h = grows turns other (this * 243 % 72057594037927936) then by (path * by + w) ht hb in
    let m : path * 1 ≤ path * by = mul-le-mul_left path hb in
    omega arith

-- one turn of those that are left
pub turn :
    (turns this other by then path : ℕ) → 0 < turns →
    turned turns this other by then path
    ≡ turned (turns - 1) other (this * 243 % 72057594037927936) then by (path * by + weave 5 0 (this * 243 / 72057594037927936))
turn zero this other by then path h = absurd (omega arith)
turn (suc turns) this other by then path h =
    let e : turns ≡ suc turns - 1 = omega arith in
    ap (λ (k : ℕ). turned k other (this * 243 % 72057594037927936) then by (path * by + weave 5 0 (this * 243 / 72057594037927936))) e

-- ---- the digits of a part

fives : (n a b c : ℕ) → n ≡ (a * 243 + b) * 243 + c → b < 243 → c < 243 → (n / 59049 ≡ a) × (n / 243 % 243 ≡ b) × (n % 243 ≡ c)
fives n a b c e hb hc = (omega arith, (let q : n / 243 ≡ a * 243 + b = omega arith in omega arith), omega arith)

module _ (p : ℕ) (h : p < 72057594037927936) where
  abbrev rest₁ : ℕ
  rest₁ = p * 243 % 72057594037927936

  abbrev rest₂ : ℕ
  rest₂ = rest₁ * 243 % 72057594037927936

  abbrev first : ℕ
  first = p * 243 / 72057594037927936

  abbrev second : ℕ
  second = rest₁ * 243 / 72057594037927936

  abbrev third : ℕ
  third = rest₂ * 243 / 72057594037927936

  whole : p * 14348907 / 72057594037927936 ≡ (first * 243 + second) * 243 + third
  whole = whole_of p first rest₁ second rest₂ third (rest₂ * 243 % 72057594037927936) (omega arith) (omega arith) (omega arith) (omega arith)
    where
      whole_of :
          (p a r b s c t : ℕ) → p * 243 ≡ a * 72057594037927936 + r → r * 243 ≡ b * 72057594037927936 + s →
          s * 243 ≡ c * 72057594037927936 + t → t < 72057594037927936 → p * 14348907 / 72057594037927936 ≡ (a * 243 + b) * 243 + c
      whole_of p a r b s c t e f g k =
          let n : p * 14348907 ≡ ((a * 243 + b) * 243 + c) * 72057594037927936 + t = omega arith in
          omega arith

  second-small : second < 243
  second-small = omega arith

  third-small : third < 243
  third-small = omega arith

  pub first-is : p * 14348907 / 72057594037927936 / 59049 ≡ first
  first-is = (fives (p * 14348907 / 72057594037927936) first second third whole second-small third-small).0

  pub second_is : p * 14348907 / 72057594037927936 / 243 % 243 ≡ second
  second_is = (fives (p * 14348907 / 72057594037927936) first second third whole second-small third-small).1

  pub third-is : p * 14348907 / 72057594037927936 % 243 ≡ third
  third-is = (fives (p * 14348907 / 72057594037927936) first second third whole second-small third-small).2

-- ---- woven

weave-cut : (i j : ℕ) → weave 5 i j ≡ 3 * weave 5 0 (i % 243) + weave 5 0 (j % 243)
weave-cut i j = weave-apart 5 i j ∙ sym (ap₂ (λ (x y : ℕ). 3 * x + y) (weave_last 5 i) (weave_last 5 j))

fifteen : (i j : ℕ) → weave 15 i j ≡ (weave 5 (i / 59049) (j / 59049) * 59049 + weave 5 (i / 243) (j / 243)) * 59049 + weave 5 i j
fifteen i j =
    let p : i / 243 / 243 ≡ i / 59049 = omega arith in
    let q : j / 243 / 243 ≡ j / 59049 = omega arith in
    weave_split 10 5 i j
    ∙ ap (λ (x : ℕ). x * 59049 + weave 5 i j) (weave_split 5 5 (i / 243) (j / 243) ∙ ap (λ (x : ℕ). x * 59049 + weave 5 (i / 243) (j / 243)) (ap₂ (weave 5) p q))

pub woven :
    (a b : ℕ) → a < 72057594037927936 → b < 72057594037927936 →
    turned 6 a b 19683 3 0 ≡ weave 15 (a * 14348907 / 72057594037927936) (b * 14348907 / 72057594037927936)
woven a b ha hb =
    let i = a * 14348907 / 72057594037927936 in
    let j = b * 14348907 / 72057594037927936 in
    let u : weave 5 (i / 59049) (j / 59049) ≡ 3 * weave 5 0 (first a ha) + weave 5 0 (first b hb) =
    weave-apart 5 (i / 59049) (j / 59049) ∙ ap₂ (λ (x y : ℕ). 3 * weave 5 0 x + weave 5 0 y) (first-is a ha) (first-is b hb) in
    let v : weave 5 (i / 243) (j / 243) ≡ 3 * weave 5 0 (second a ha) + weave 5 0 (second b hb) =
    weave-cut (i / 243) (j / 243) ∙ ap₂ (λ (x y : ℕ). 3 * weave 5 0 x + weave 5 0 y) (second_is a ha) (second_is b hb) in
    let w : weave 5 i j ≡ 3 * weave 5 0 (third a ha) + weave 5 0 (third b hb) =
    weave-cut i j ∙ ap₂ (λ (x y : ℕ). 3 * weave 5 0 x + weave 5 0 y) (third-is a ha) (third-is b hb) in
    let f = fifteen i j in
    omega arith

-- where the turns that are left end in that path, it has room
pub small :
    (turns this other by then path a b : ℕ) → a < 72057594037927936 → b < 72057594037927936 → 1 ≤ by → 1 ≤ then →
    turned turns this other by then path ≡ turned 6 a b 19683 3 0 → path < 205891132094649
small turns this other by then path a b ha hb h k e =
    let g = grows turns this other by then path h k in
    let w = weave-small 15 (a * 14348907 / 72057594037927936) (b * 14348907 / 72057594037927936) in
    let f = woven a b ha hb in
    omega arith
