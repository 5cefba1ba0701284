pub mod Encoding
-- What each number that is read makes of the answer, and what stands at each turn of the loops. Assumes nothing.
use Rattle.std.specs.Prelude.{Err, Ok}
use mathlib.Core.Path.{◌≡◌, sym, ap, ap₂, ◌∙◌}
use mathlib.Core.Bool.{Bool}
use mathlib.Core.List.{List, ◌++◌}
use Prim.Native.Nat.{ℕ, suc, ◌+◌, ◌-◌, ◌*◌, ◌≤◌, ◌<◌}
use native.Mathlib.Numerals.{add-one}
use native.Mathlib.Omega.{arith}
use lib.ListN.{length, get_or, drop}
use lib.Seq.{sets, sets-eq}
use Rattle.logic.specs.Laws.Stores.{sets-append}
use Rattle.ternary.specs.Digits.{digits}
use Rattle.ternary.proofs.Laws.Digits.{length_digits}
use Rattle.fields.specs.Number.{number_at}
use Rattle.history.specs.declared.Settings.{Settings}
use Rattle.history.specs.declared.History.{History}
use Rattle.history.specs.Settings.{none}
use Rattle.encoding.specs.Encoding.{mark, settings_bytes, places_bytes, encoding_of}
use Rattle.encoding.specs.Decoding.{up_to, settings, settings_at, newest_in}
use Rattle.encoding.proofs.Laws.Encoding.{settings-length, encoding-length}
use Rattle.encoding.proofs.Internal.Spelling.{mark-bytes}

-- ---- the settings of a place

module _ (t : List ℕ) (at : ℕ) (reached : Bool) where
  pub wrong-n : {p : ℕ} → number_at t at 1 0 (up_to reached 3) ≡ Err p → Err p ≡ settings_at t at reached
  unfolding settings_at
  wrong-n e = rw e

  module _ {n : ℕ} (n-is : number_at t at 1 0 (up_to reached 3) ≡ Ok n) where
    pub wrong-s : {p : ℕ} → number_at t (at + 1) 1 0 (up_to reached 3) ≡ Err p → Err p ≡ settings_at t at reached
    unfolding settings_at
    wrong-s e = rw (n-is, e)

    module _ {s : ℕ} (s-is : number_at t (at + 1) 1 0 (up_to reached 3) ≡ Ok s) where
      pub wrong-resolution : {p : ℕ} → number_at t (at + 2) 1 0 (up_to reached 15) ≡ Err p → Err p ≡ settings_at t at reached
      unfolding settings_at
      wrong-resolution e = rw (n-is, s-is, e)

      module _ {k : ℕ} (k-is : number_at t (at + 2) 1 0 (up_to reached 15) ≡ Ok k) where
        pub wrong-eccentricity : {p : ℕ} → number_at t (at + 3) 5 0 (up_to reached 10000000000) ≡ Err p → Err p ≡ settings_at t at reached
        unfolding settings_at
        wrong-eccentricity e = rw (n-is, s-is, k-is, e)

        pub settings-right : {e : ℕ} → number_at t (at + 3) 5 0 (up_to reached 10000000000) ≡ Ok e → Ok (settings n s k e) ≡ settings_at t at reached
        unfolding settings_at
        settings-right e = rw (n-is, s-is, k-is, e)

-- ---- the newest revision

pub wrong-mark : (t : List ℕ) {p : ℕ} → number_at t 0 5 319024201729 319024201729 ≡ Err p → Err p ≡ newest_in t
unfolding newest_in
wrong-mark t e = rw e

pub mark-right : (t : List ℕ) {m : ℕ} → number_at t 0 5 319024201729 319024201729 ≡ Ok m → number_at t 5 2 0 65535 ≡ newest_in t
unfolding newest_in
mark-right t e = rw e

-- ---- bytes put one behind the other

pub settings-put : (l : List ℕ) (at : ℕ) (x : Settings) →
    sets (sets (sets (sets l at (digits 256 1 x.n)) (at + 1) (digits 256 1 x.s)) (at + 2) (digits 256 1 x.resolution)) (at + 3) (digits 256 5 x.eccentricity)
    ≡ sets l at (settings_bytes x)
unfolding settings_bytes
settings-put l at x =
    let a = digits 256 1 x.n in
    let b = digits 256 1 x.s in
    let c = digits 256 1 x.resolution in
    let d = digits 256 5 x.eccentricity in
    let m = sets l at a in
    let n = sets m (at + 1) b in
    let i : at + 1 ≡ at + length a = omega (arith, length_digits 256 1 x.n) in
    let j : at + 2 ≡ at + 1 + length b = omega (arith, length_digits 256 1 x.s) in
    let k : at + 3 ≡ at + 2 + length c = omega (arith, length_digits 256 1 x.resolution) in
    ap (λ (p : ℕ). sets (sets n (at + 2) c) p d) k
    ∙ sym (sets-append n (at + 2) c d)
    ∙ ap (λ (p : ℕ). sets n p (c ++ d)) j
    ∙ sym (sets-append m (at + 1) b (c ++ d))
    ∙ ap (λ (p : ℕ). sets m p (b ++ (c ++ d))) i
    ∙ sym (sets-append l at a (b ++ (c ++ d)))

-- the next place
pub place-put : (l : List ℕ) (at k q : ℕ) (kept : List Settings) → sets (sets l at (settings_bytes (get_or kept q none))) (at + 8) (places_bytes k (suc q) kept) ≡ sets l at (places_bytes (suc k) q kept)
unfolding places_bytes
place-put l at k q kept =
    let x = settings_bytes (get_or kept q none) in
    let i : at + 8 ≡ at + length x = omega (arith, settings-length (get_or kept q none)) in
    ap (λ (p : ℕ). sets (sets l at x) p (places_bytes k (suc q) kept)) i ∙ sym (sets-append l at x (places_bytes k (suc q) kept))

-- the heading, and then the places
pub heading-put : (l : List ℕ) (h : History) → sets (sets (sets l 0 (digits 256 5 319024201729)) 5 (digits 256 2 h.newest)) 7 (places_bytes 32 0 h.kept) ≡ sets l 0 (encoding_of h)
unfolding encoding_of
heading-put l h =
    let a = digits 256 2 h.newest in
    let b = places_bytes 32 0 h.kept in
    let m = sets l 0 mark in
    let j : ◌≡◌ {A = ℕ} 7 (5 + length a) = omega (arith, length_digits 256 2 h.newest) in
    ap (λ (x : List ℕ). sets (sets (sets l 0 x) 5 a) 7 b) mark-bytes
    ∙ ap (λ (p : ℕ). sets (sets m 5 a) p b) j
    ∙ sym (sets-append m 5 a b)
    ∙ sym (sets-append l 0 mark (a ++ b))

-- what is put in front stands before the rest
pub in-front : (l : List ℕ) (h : History) → 263 ≤ length l → sets l 0 (encoding_of h) ≡ encoding_of h ++ drop 263 l
in-front l h g =
    let n = encoding-length h in
    sets-eq (encoding_of h) l 0 (omega arith) ∙ ap (λ (i : ℕ). encoding_of h ++ drop i l) (let e : 0 + length (encoding_of h) ≡ 263 = omega arith in e)

-- one turn of the loop
pub place-turn : (l m r : List ℕ) (q : ℕ) (kept : List Settings) → q < 32 → m ≡ sets l (7 + 8 * q) (settings_bytes (get_or kept q none)) → sets l (7 + 8 * q) (places_bytes (32 - q) q kept) ≡ r →
    sets m (7 + 8 * (q + 1)) (places_bytes (32 - (q + 1)) (q + 1) kept) ≡ r
place-turn l m r q kept h e f =
    let i : 7 + 8 * (q + 1) ≡ 7 + 8 * q + 8 = omega arith in
    let j : suc (32 - (q + 1)) ≡ 32 - q = omega arith in
    ap₂ (λ (x : List ℕ) (p : ℕ). sets x p (places_bytes (32 - (q + 1)) (q + 1) kept)) e i
    ∙ ap (λ (p : ℕ). sets (sets l (7 + 8 * q) (settings_bytes (get_or kept q none))) (7 + 8 * q + 8) (places_bytes (32 - (q + 1)) p kept)) (add-one q)
    ∙ place-put l (7 + 8 * q) (32 - (q + 1)) q kept
    ∙ ap (λ (k : ℕ). sets l (7 + 8 * q) (places_bytes k q kept)) j
    ∙ f

-- no place is left
pub places-end : (l r : List ℕ) (q : ℕ) (kept : List Settings) → q ≡ 32 → sets l (7 + 8 * q) (places_bytes (32 - q) q kept) ≡ r → l ≡ r
unfolding places_bytes
places-end l r q kept e f = ap (λ (k : ℕ). sets l (7 + 8 * q) (places_bytes k q kept)) (let z : 0 ≡ 32 - q = omega arith in z) ∙ f
