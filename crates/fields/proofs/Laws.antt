pub mod Number
pub mod Places
pub mod Read
-- A number read byte by byte: what stands at each turn of the loop, and what each test makes of the answer. Assumes nothing.
use Rattle.std.specs.Prelude.{Err, Ok, Result}
use mathlib.Core.Path.{◌≡◌, refl, sym, ap, ap₂, ◌∙◌}
use mathlib.Core.Bool.{cond}
use mathlib.Core.List.{List, [], ◌∷◌, ◌++◌}
use Prim.Native.Nat.{ℕ, zero, suc, ◌+◌, ◌-◌, ◌*◌, ◌/◌, ◌%◌, ◌^◌, ◌≤◌, ◌<◌}
use native.Mathlib.Numerals.{add-one}
use native.Mathlib.Nat.{pow-suc, pow-le-pow_right, zero-lt-suc, le_trans, mul_assoc, mul_comm, add-mul, mul-le-mul_right, suc-mul, zero-mul}
use native.Mathlib.Omega.{arith}
use lib.Dec.{leb, ltb}
use lib.ListN.{length, get_or, take, drop, set, length-set, length-drop, drop_of_length-le}
use lib.Seq.{sets, set_comm, take-suc, drop-cons, drop-drop, get_or-drop}
use borrow.Author.Tests.{le-leb, lt-leb, lt-ltb, le-ltb}
use Rattle.logic.specs.Laws.Stores.{sets-append}
use Rattle.ternary.specs.Digits.{value, digits}
use Rattle.ternary.proofs.Laws.Digits.{value-snoc, length_digits}
use Rattle.fields.specs.Read.{reach}
use Rattle.fields.specs.Number.{number_at}

-- the bytes from `at` up to `place` are gone over
pub record Gone (s : List ℕ) (at w least most place unit from : ℕ) : Type 0 where
  pub low : at ≤ place
  pub high : place ≤ at + w
  pub unit-is : unit ≡ 256 ^ (at + w - place)
  pub small : from + unit ≤ 256 ^ w
  pub value-is : from ≡ value 256 (take (place - at) (drop at s)) * unit
  pub tied : reach w least most 0 (drop at s) ≡ place - at + reach (at + w - place) least most from (drop place s)

pub gone-none : (s : List ℕ) (at w least most unit : ℕ) → unit ≡ 256 ^ w → Gone s at w least most at unit 0
unfolding value
gone-none s at w least most unit e =
    let n : at + w - at ≡ w = omega arith in
    let z : at - at ≡ 0 = omega arith in
    record {
      low = omega arith;
      high = omega arith;
      unit-is = e ∙ ap (λ (i : ℕ). 256 ^ i) (sym n);
      small = omega arith;
      value-is = sym (ap (λ (i : ℕ). value 256 (take i (drop at s)) * unit) z ∙ zero-mul unit);
      tied = let e : reach (at + w - at) least most 0 (drop at s) ≡ reach w least most 0 (drop at s) = ap (λ (i : ℕ). reach i least most 0 (drop at s)) n in omega arith;
    }

module _ {s : List ℕ} {at w least most place unit from : ℕ} (g : Gone s at w least most place unit from) where
  -- the numbers at hand are few
  pub few : w ≤ 5 → from + unit ≤ 256 ^ 5
  few h = let p : 256 ^ w ≤ 256 ^ 5 = pow-le-pow_right (zero-lt-suc 255) h in le_trans g.small p

  -- nothing further is right
  stop : reach (at + w - place) least most from (drop place s) ≡ 0 → place < at + w → Err place ≡ number_at s at w least most
  unfolding number_at
  stop e h =
      let l = g.low in
      let r : reach w least most 0 (drop at s) ≡ place - at = g.tied ∙ ap (λ (i : ℕ). place - at + i) e ∙ omega arith in
      let p : at + (place - at) ≡ place = omega arith in
      sym
      (ap (λ (i : ℕ). cond (ltb i w) (Err (at + i)) (Ok (value 256 (take w (drop at s))))) r
      ∙ ap (λ b. cond b (Err (at + (place - at))) (Ok (value 256 (take w (drop at s))))) (lt-ltb (place - at) w (omega arith))
      ∙ ap Err p)

  -- all bytes are right
  pub all_right : place ≡ at + w → Ok from ≡ number_at s at w least most
  unfolding number_at reach
  all_right e =
      let n : at + w - place ≡ 0 = omega arith in
      let i : place - at ≡ w = omega arith in
      let r : reach w least most 0 (drop at s) ≡ w =
      g.tied ∙ ap₂ (λ (j k : ℕ). j + reach k least most from (drop place s)) i n ∙ omega arith in
      let u : unit ≡ 1 = g.unit-is ∙ ap (λ (j : ℕ). 256 ^ j) n in
      let v : from ≡ value 256 (take w (drop at s)) =
      g.value-is ∙ ap₂ (λ (j k : ℕ). value 256 (take j (drop at s)) * k) i u ∙ omega arith in
      ap Ok v
      ∙ sym
      (ap (λ (j : ℕ). cond (ltb j w) (Err (at + j)) (Ok (value 256 (take w (drop at s))))) r
      ∙ ap (λ b. cond b (Err (at + w)) (Ok (value 256 (take w (drop at s))))) (le-ltb w w (omega arith)))

  module _ (h : place < at + w) where
    abbrev m : ℕ
    m = at + w - (place + 1)

    more : at + w - place ≡ suc m
    more = omega arith

    -- the bytes end
    pub no_byte : length s ≤ place → Err place ≡ number_at s at w least most
    unfolding reach
    no_byte l = stop (ap₂ (λ (i : ℕ) (t : List ℕ). reach i least most from t) more (drop_of_length-le s l)) h

    -- one byte more
    pub unit-next : unit / 256 ≡ 256 ^ m
    unit-next = let e : unit ≡ 256 ^ m * 256 = g.unit-is ∙ ap (λ (i : ℕ). 256 ^ i) more ∙ pow-suc 256 m in omega arith

    unit-whole : unit ≡ unit / 256 * 256
    unit-whole = let e : unit ≡ 256 ^ m * 256 = g.unit-is ∙ ap (λ (i : ℕ). 256 ^ i) more ∙ pow-suc 256 m in omega (arith, unit-next)

    module _ {x : ℕ} (l : place < length s) (byte : x ≡ get_or s place 0) where
      abbrev further : ℕ
      further = from + x * (unit / 256)

      at-hand : drop place s ≡ x ∷ drop (place + 1) s
      at-hand = drop-cons s place 0 l ∙ ap₂ (λ (y i : ℕ). y ∷ drop i s) (sym byte) (sym (add-one place))

      test : reach (at + w - place) least most from (drop place s)
          ≡ cond (leb further most) (cond (ltb least (further + unit / 256)) (suc (reach m least most further (drop (place + 1) s))) 0) 0
      unfolding reach
      test =
          ap₂ (λ (i : ℕ) (t : List ℕ). reach i least most from t) more at-hand
          ∙ ap
          (λ (u : ℕ). cond (leb (from + x * u) most) (cond (ltb least (from + x * u + u)) (suc (reach m least most (from + x * u) (drop (place + 1) s))) 0) 0)
          (sym unit-next)

      pub too-high : most < further → Err place ≡ number_at s at w least most
      too-high p = stop (test ∙ rw (lt-leb further most p)) h

      pub too-low : further ≤ most → further + unit / 256 ≤ least → Err place ≡ number_at s at w least most
      too-low p q = stop (test ∙ rw (le-leb further most p, le-ltb least (further + unit / 256) q)) h

      -- the byte's part of the number is no longer than the unit
      pub room : x < 256 → further + unit / 256 ≤ from + unit
      room b =
          let e : unit ≡ unit / 256 * 256 = unit-whole in
          let p : suc x * (unit / 256) ≤ 256 * (unit / 256) = mul-le-mul_right (unit / 256) b in
          let q : suc x * (unit / 256) ≡ x * (unit / 256) + unit / 256 = suc-mul x (unit / 256) in
          omega arith

      -- the byte is right
      pub right : x < 256 → further ≤ most → least < further + unit / 256 → Gone s at w least most (place + 1) (unit / 256) further
      right b p q =
          let lo = g.low in
          let i : place + 1 - at ≡ suc (place - at) = omega arith in
          let t : List ℕ = drop at s in
          let n : place - at < length t = omega (arith, length-drop at s) in
          let y : get_or t (place - at) 0 ≡ x = get_or-drop at s (place - at) 0 ∙ ap (λ (j : ℕ). get_or s j 0) (let o : at + (place - at) ≡ place = omega arith in o) ∙ sym byte in
          let k : take (place + 1 - at) t ≡ take (place - at) t ++ (x ∷ []) =
          ap (λ (j : ℕ). take j t) i ∙ take-suc t (place - at) 0 n ∙ ap (λ (z : ℕ). take (place - at) t ++ (z ∷ [])) y in
          let d : value 256 (take (place + 1 - at) t) ≡ value 256 (take (place - at) t) * 256 + x =
          ap (value 256) k ∙ value-snoc 256 (take (place - at) t) x in
          record {
            low = omega arith;
            high = omega arith;
            unit-is = unit-next;
            small = let r = room b in let z = g.small in omega arith;
            value-is = sum_is (value 256 (take (place - at) t)) g.value-is ∙ ap (λ (j : ℕ). j * (unit / 256)) (sym d);
            tied = let e : reach (at + w - place) least most from (drop place s) ≡ suc (reach m least most further (drop (place + 1) s)) =
                test ∙ rw (le-leb further most p, lt-ltb least (further + unit / 256) q) in
                let f = g.tied in omega arith;
          }
        where
          sum_is : (v : ℕ) → from ≡ v * unit → further ≡ (v * 256 + x) * (unit / 256)
          sum_is v e =
              let u : unit ≡ unit / 256 * 256 = unit-whole in
              let a : v * unit ≡ v * 256 * (unit / 256) = ap (λ (j : ℕ). v * j) (u ∙ mul_comm (unit / 256) 256) ∙ sym (mul_assoc v 256 (unit / 256)) in
              let c : (v * 256 + x) * (unit / 256) ≡ v * 256 * (unit / 256) + x * (unit / 256) = add-mul (v * 256) x (unit / 256) in
              omega arith

-- ---- bytes put from the last one on

-- a store behind bytes that are stored
sets-set : (l : List ℕ) (i : ℕ) (vs : List ℕ) (j a : ℕ) → i + length vs ≤ j → sets (set l j a) i vs ≡ set (sets l i vs) j a
sets-set l i [] j a h = refl
sets-set l i (v ∷ vs) j a h =
    ap (λ (x : List ℕ). sets x (suc i) vs) (set_comm l j i a v (λ e. omega arith)) ∙ sets-set (set l i v) (suc i) vs j a (omega arith)

-- the last byte of those that are left
pub last_byte : (l : List ℕ) (at left x : ℕ) → 0 < left → sets (set l (at + (left - 1)) (x % 256)) at (digits 256 (left - 1) (x / 256)) ≡ sets l at (digits 256 left x)
unfolding digits
last_byte l at zero x h = absurd (omega arith)
last_byte l at (suc k) x h =
    let e : suc k - 1 ≡ k = omega arith in
    let n : length (digits 256 k (x / 256)) ≡ k = length_digits 256 k (x / 256) in
    ap (λ (i : ℕ). sets (set l (at + i) (x % 256)) at (digits 256 i (x / 256))) e
    ∙ sets-set l at (digits 256 k (x / 256)) (at + k) (x % 256) (omega arith)
    ∙ ap (λ (i : ℕ). set (sets l at (digits 256 k (x / 256))) (at + i) (x % 256)) (sym n)
    ∙ sym (sets-append l at (digits 256 k (x / 256)) (x % 256 ∷ []))
