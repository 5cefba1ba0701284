-- Codes put one behind the other along the walk: those that were put, and those of what is left of the text, are the text's. Assumes nothing.
use mathlib.Core.Path.{◌≡◌, refl, sym, ap, ap₂, ◌∙◌}
use mathlib.Core.Logic.{⊎_elim}
use mathlib.Core.Bool.{true, false}
use mathlib.Core.List.{List, [], ◌∷◌, ◌++◌, map, append-nil, append_assoc}
use Prim.Native.Nat.{ℕ, ◌+◌, ◌≤◌, ◌<◌}
use native.Mathlib.Numerals.{add-one}
use native.Mathlib.Omega.{arith}
use lib.ListN.{length, take, drop, get_or, set, length-set, length-append, take-append-drop, get_or-eq_default}
use lib.Dec.{eqb}
use lib.Seq.{length-take-le, take-suc-set, drop-set-lt, drop-drop}
use borrow.Author.Tests.{eqb-true, eq-eqb}
use Rattle.logic.specs.Laws.Order.{lt-or}
use Rattle.reading.specs.TextReading.{text_arrangement, is_text, body_start}
use Rattle.walk.specs.declared.Spot.{Spot}
use Rattle.walk.specs.Walk.{origin, after, whole_at, walk, Walks}
use Rattle.walk.specs.Laws.Walk.{walks-start, walks-on, past-whole, past-other, walked, byte_at}
use Rattle.listing.specs.List.{codes_of}
use Rattle.listing.proofs.Laws.List.{spot_code, walk-codes}

-- what holds before the byte at i, with `count` codes put
pub record Lists (t codes₀ codes : List ℕ) (count i : ℕ) (s : Spot) : Type 0 where
  pub walks : Walks t i s
  pub long : length codes ≡ length codes₀
  pub within : count ≤ length codes
  pub put : take count codes ++ map (spot_code (text_arrangement t)) (walk s (drop i t)) ≡ codes_of t
  pub kept : drop count codes ≡ drop count codes₀

pub lists-start : (t codes : List ℕ) {i : ℕ} → is_text t ≡ true → i ≡ body_start t → Lists t codes codes 0 i origin
lists-start t codes e h =
    rw h (record { walks = walks-start t e; long = refl; within = omega arith; put = walk-codes t e; kept = refl })

module _ {t codes₀ codes : List ℕ} {count i : ℕ} {s s' : Spot} (l : Lists t codes₀ codes count i s) (h : i < length t) (e : s' ≡ after s (get_or t i 0)) where
  -- the walk stands at the next byte
  pub on : Walks t (i + 1) s'
  on = rw e (walks-on l.walks h)

  pub lists-past : whole_at (drop i t) ≡ false → Lists t codes₀ codes count (i + 1) s'
  lists-past w =
      record {
        walks = on;
        long = l.long;
        within = l.within;
        put =
            ap (λ (x : List Spot). take count codes ++ map (spot_code (text_arrangement t)) x) (ap (λ (x : Spot). walk x (drop (i + 1) t)) e ∙ sym (past-other l.walks h w))
            ∙ l.put;
        kept = l.kept;
      }

  module _ (w : whole_at (drop i t) ≡ true) where
    further : take count codes ++ (spot_code (text_arrangement t) s' ∷ map (spot_code (text_arrangement t)) (walk s' (drop (i + 1) t))) ≡ codes_of t
    further =
        ap (λ (x : List Spot). take count codes ++ map (spot_code (text_arrangement t)) x) (ap (λ (x : Spot). x ∷ walk x (drop (i + 1) t)) e ∙ sym (past-whole l.walks h w))
        ∙ l.put

    -- there is room for one more
    pub has_room : length (codes_of t) ≤ length codes₀ → count < length codes
    has_room m =
        let left : List ℕ = spot_code (text_arrangement t) s' ∷ map (spot_code (text_arrangement t)) (walk s' (drop (i + 1) t)) in
        omega (arith, ap length further, length-append (take count codes) left, length-take-le count codes l.within, l.long)

    pub lists-put : (v : ℕ) → v ≡ spot_code (text_arrangement t) s' → count < length codes → Lists t codes₀ (set codes count v) (count + 1) (i + 1) s'
    lists-put v f r =
        let z : length (set codes count v) ≡ length codes = length-set codes count v in
        let p : take (count + 1) (set codes count v) ≡ take count codes ++ (v ∷ []) =
        ap (λ (x : ℕ). take x (set codes count v)) (add-one count) ∙ take-suc-set codes count v r in
        let k : drop (count + 1) codes ≡ drop (count + 1) codes₀ =
        sym (drop-drop 1 count codes) ∙ ap (drop 1) l.kept ∙ drop-drop 1 count codes₀ in
        record {
          walks = on;
          long = z ∙ l.long;
          within = omega arith;
          put =
              ap (λ (x : List ℕ). x ++ map (spot_code (text_arrangement t)) (walk s' (drop (i + 1) t))) p
              ∙ append_assoc (take count codes) (v ∷ []) (map (spot_code (text_arrangement t)) (walk s' (drop (i + 1) t)))
              ∙ ap (λ (x : ℕ). take count codes ++ (x ∷ map (spot_code (text_arrangement t)) (walk s' (drop (i + 1) t)))) f
              ∙ further;
          kept = drop-set-lt (count + 1) codes count v (omega arith) ∙ k;
        }

-- behind the last byte all are put
pub lists-end : {t codes₀ codes : List ℕ} {count i : ℕ} {s : Spot} → Lists t codes₀ codes count i s → length t ≤ i → codes ≡ codes_of t ++ drop (length (codes_of t)) codes₀
lists-end {t} {codes₀} {codes} {count} {i} {s} l h =
    let p : take count codes ≡ codes_of t =
    sym (append-nil (take count codes)) ∙ sym (ap (λ (x : List Spot). take count codes ++ map (spot_code (text_arrangement t)) x) (walked t i s h)) ∙ l.put in
    let n : count ≡ length (codes_of t) = sym (length-take-le count codes l.within) ∙ ap length p in
    sym (take-append-drop count codes) ∙ ap₂ ◌++◌ p (l.kept ∙ ap (λ (x : ℕ). drop x codes₀) n)

-- where a `(` stands there is a byte
pub opened : (t : List ℕ) (j : ℕ) → eqb (get_or t j 0) 40 ≡ true → (j < length t) × (get_or t j 0 ≡ 40)
opened t j e =
    let b : get_or t j 0 ≡ 40 = eqb-true (get_or t j 0) 40 e in
    ⊎_elim (λ h. (h, b)) (λ h. let z : 0 ≡ 40 = sym (get_or-eq_default t 0 h) ∙ b in omega arith) (lt-or j (length t))

-- and it is no whole cell
pub open-not-whole : (t : List ℕ) (j : ℕ) → j < length t → get_or t j 0 ≡ 40 → whole_at (drop j t) ≡ false
unfolding whole_at
open-not-whole t j h e = ap whole_at (byte_at t j h) ∙ rw (eq-eqb (get_or t j 0) 40 e)
