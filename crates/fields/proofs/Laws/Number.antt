-- How far bytes may begin a number of a fixed width between two limits: exactly so far that some such number begins with them. Assumes nothing.
use Rattle.std.specs.Prelude.{◌≡◌, List, [], ◌∷◌, ◌++◌, leb, ltb, take}
use Rattle.std.proofs.Common.{sym, ◌∙◌, zero-lt-suc, arith, length-append, length-take-le, leb-true, ltb-true, le-leb, lt-ltb}
use Rattle.std.proofs.Math.Path.{ap}
use Prim.Native.Nat.{ℕ, zero, suc, ◌+◌, ◌-◌, ◌*◌, ◌^◌, ◌≤◌, ◌<◌}
use Rattle.std.proofs.Math.Nat.{one-le-pow, suc_inj}
use Rattle.std.proofs.Math.ListN.{length}
use Rattle.logic.specs.Longest.{BeginsOne, LongestOf}
use Rattle.logic.specs.Laws.Bools.{by_cond, clash}
use Rattle.ternary.specs.Digits.{value, digits, Below}
use Rattle.ternary.proofs.Laws.Digits.{value-below, value-digits, length_digits, digits-below}
use Rattle.fields.specs.Read.{reach}

-- so many bytes, whose number behind `from` lies between the limits
pub record Within (w least most from : ℕ) (u : List ℕ) : Type 0 where
  pub bytes : Below 256 u
  pub wide : length u ≡ w
  pub low : least ≤ from + value 256 u
  pub high : from + value 256 u ≤ most

pub bytes-some : (w : ℕ) → 0 < 256 ^ w
bytes-some w = one-le-pow w 256 (zero-lt-suc 255)

-- some number lies between them
some-within : (w least most from : ℕ) → from ≤ most → least ≤ most → least < from + 256 ^ w → BeginsOne (Within w least most from) []
some-within w least most from h k l = (digits 256 w (least - from), made (omega (arith, bytes-some w)) (omega arith) (omega arith))
  where
    made : least - from < 256 ^ w → least ≤ from + (least - from) → from + (least - from) ≤ most → Within w least most from (digits 256 w (least - from))
    made a b c =
        let e : value 256 (digits 256 w (least - from)) ≡ least - from = value-digits 256 w (least - from) (omega arith) a in
        record { bytes = digits-below 256 w (least - from) (omega arith); wide = length_digits 256 w (least - from); low = omega arith; high = omega arith }

-- the first byte, and those behind it
module _ (w least most from x : ℕ) (u : List ℕ) where
  rest-within : Within (suc w) least most from (x ∷ u) → Within w least most (from + x * 256 ^ w) u
  unfolding value
  rest-within h =
      let n : length u ≡ w = suc_inj h.wide in
      let e : x * 256 ^ length u ≡ x * 256 ^ w = ap (λ (i : ℕ). x * 256 ^ i) n in
      record { bytes = h.bytes.1; wide = n; low = omega (arith, h.low); high = omega (arith, h.high) }

  first-within : x < 256 → Within w least most (from + x * 256 ^ w) u → Within (suc w) least most from (x ∷ u)
  unfolding value
  first-within b h =
      let n : length u ≡ w = h.wide in
      let e : x * 256 ^ length u ≡ x * 256 ^ w = ap (λ (i : ℕ). x * 256 ^ i) n in
      record { bytes = (b, h.bytes); wide = ap suc n; low = omega (arith, h.low); high = omega (arith, h.high) }

-- what holds of a number within the limits is what is tested
within-tests : (w least most from : ℕ) (u : List ℕ) → Within w least most from u → (from ≤ most) × (least < from + 256 ^ w)
within-tests w least most from u h =
    let v : value 256 u < 256 ^ length u = value-below 256 u h.bytes in
    let e : 256 ^ length u ≡ 256 ^ w = ap (λ (i : ℕ). 256 ^ i) h.wide in
    (omega (arith, h.high), omega (arith, h.low))

-- no number begins with the byte, or how far numbers do is told by those behind it
module _ (w least most from x : ℕ) (t : List ℕ) where
  abbrev f : ℕ
  f = from + x * 256 ^ w

  no-further : ((f ≤ most) × (least < f + 256 ^ w) → ⊥) → (j : ℕ) → BeginsOne (Within (suc w) least most from) (take j (x ∷ t)) → j ≤ 0
  no-further n zero z = omega arith
  no-further n (suc j) z = absurd (n (within-tests w least most f (take j t ++ z.0) (rest-within w least most from x (take j t ++ z.0) z.1)))

  further : {k : ℕ} → LongestOf (Within w least most f) t k → (j : ℕ) → j ≤ suc (length t) → BeginsOne (Within (suc w) least most from) (take j (x ∷ t)) → j ≤ suc k
  further r zero i z = omega arith
  further r (suc j) i z = let m = r.longest j (omega arith) (z.0, rest-within w least most from x (take j t ++ z.0) z.1) in omega arith

  goes_on : {k : ℕ} → x < 256 → LongestOf (Within w least most f) t k → LongestOf (Within (suc w) least most from) (x ∷ t) (suc k)
  goes_on {k} b r =
      record {
        within = let i = r.within in omega arith;
        begun = (r.begun.0, first-within w least most from x (take k t ++ r.begun.0) b r.begun.1);
        longest = further r;
      }

-- the bytes gone over are the longest leading part that such a number begins with
pub reach-longest : (w least most from : ℕ) (t : List ℕ) → Below 256 t → from ≤ most → least ≤ most → least < from + 256 ^ w →
    LongestOf (Within w least most from) t (reach w least most from t)
unfolding reach
reach-longest zero least most from t b h k l =
    record {
      within = omega arith;
      begun = some-within 0 least most from h k l;
      longest = λ j i z. let n = z.1.wide in omega (arith, length-append (take j t) z.0, length-take-le j t i);
    }
reach-longest (suc w) least most from [] b h k l =
    record { within = omega arith; begun = some-within (suc w) least most from h k l; longest = λ j i z. i }
reach-longest (suc w) least most from (x ∷ t) b h k l =
    by_cond (LongestOf (Within (suc w) least most from) (x ∷ t)) (leb g most)
    (λ p.
    by_cond (LongestOf (Within (suc w) least most from) (x ∷ t)) (ltb least (g + 256 ^ w))
    (λ q. goes_on w least most from x t b.0 (reach-longest w least most g t b.1 (leb-true g most p) k (ltb-true least (g + 256 ^ w) q)))
    (λ q. stops (λ z. clash (sym (lt-ltb least (g + 256 ^ w) z.1) ∙ q))))
    (λ p. stops (λ z. clash (sym (le-leb g most z.0) ∙ p)))
  where
    g : ℕ
    g = f w least most from x t

    stops : ((g ≤ most) × (least < g + 256 ^ w) → ⊥) → LongestOf (Within (suc w) least most from) (x ∷ t) 0
    stops n = record { within = omega arith; begun = some-within (suc w) least most from h k l; longest = λ j i z. no-further w least most from x t n j z }
