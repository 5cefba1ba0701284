-- Codes put one behind the other along the walk: those that were put, and those of what is left of the text, are the text's. Assumes nothing.
use Rattle.std.specs.Prelude.{◌≡◌, refl, true, false, List, [], ◌∷◌, ◌++◌, map, ℕ, ◌+◌, ◌≤◌, ◌<◌, length, take, drop, get_or, set}
use Rattle.std.proofs.Common.{sym, ap, ap₂, ◌∙◌, append-nil, append_assoc, add-one, arith, length-set, length-append, take-append-drop, length-take-le, take-suc-set, drop-set-lt, drop-drop}
use Rattle.loose.specs.LooseText.{LooseBody}
use Rattle.loose.specs.LooseScan.{loose_nodes}
use Rattle.walk.specs.declared.Spot.{Spot}
use Rattle.walk.specs.Walk.{origin, after, whole_at, walk, Walks}
use Rattle.walk.specs.Laws.Walk.{walks-on, past-whole, past-other, walked}
use Rattle.cell.specs.declared.Arrangement.{Arrangement}
use Rattle.listing.proofs.Laws.List.{spot_code}
use Rattle.proper.specs.Wholes.{loose_codes}
use Rattle.proper.proofs.Laws.Walk.{loose-codes, loose-start}

-- what holds before the byte at i, with `count` codes put
pub record Lists (a : Arrangement) (t codes₀ codes : List ℕ) (count i : ℕ) (s : Spot) : Type 0 where
  pub walks : Walks t i s
  pub long : length codes ≡ length codes₀
  pub within : count ≤ length codes
  pub put : take count codes ++ map (spot_code a) (walk s (drop i t)) ≡ loose_codes a t
  pub kept : drop count codes ≡ drop count codes₀

pub lists-start : (a : Arrangement) (t codes : List ℕ) → LooseBody (drop 7 t) (loose_nodes (drop 7 t)) → 7 ≤ length t → Lists a t codes codes 0 7 origin
lists-start a t codes e h =
    record { walks = loose-start t e h; long = refl; within = omega arith; put = loose-codes t e a; kept = refl }

module _ {a : Arrangement} {t codes₀ codes : List ℕ} {count i : ℕ} {s s' : Spot} (l : Lists a t codes₀ codes count i s) (h : i < length t) (e : s' ≡ after s (get_or t i 0)) where
  -- the walk stands at the next byte
  pub on : Walks t (i + 1) s'
  on = rw e (walks-on l.walks h)

  pub lists-past : whole_at (drop i t) ≡ false → Lists a t codes₀ codes count (i + 1) s'
  lists-past w =
      record {
        walks = on;
        long = l.long;
        within = l.within;
        put =
            ap (λ (x : List Spot). take count codes ++ map (spot_code a) x) (ap (λ (x : Spot). walk x (drop (i + 1) t)) e ∙ sym (past-other l.walks h w))
            ∙ l.put;
        kept = l.kept;
      }

  module _ (w : whole_at (drop i t) ≡ true) where
    further : take count codes ++ (spot_code a s' ∷ map (spot_code a) (walk s' (drop (i + 1) t))) ≡ loose_codes a t
    further =
        ap (λ (x : List Spot). take count codes ++ map (spot_code a) x) (ap (λ (x : Spot). x ∷ walk x (drop (i + 1) t)) e ∙ sym (past-whole l.walks h w))
        ∙ l.put

    -- there is room for one more
    pub has_room : length (loose_codes a t) ≤ length codes₀ → count < length codes
    has_room m =
        omega (arith, ap length further, length-append (take count codes) (spot_code a s' ∷ map (spot_code a) (walk s' (drop (i + 1) t))), length-take-le count codes l.within, l.long)

    pub lists-put : (v : ℕ) → v ≡ spot_code a s' → count < length codes → Lists a t codes₀ (set codes count v) (count + 1) (i + 1) s'
    lists-put v f r =
        let z : length (set codes count v) ≡ length codes = length-set codes count v in
        let p : take (count + 1) (set codes count v) ≡ take count codes ++ (v ∷ []) =
        ap (λ (x : ℕ). take x (set codes count v)) (add-one count) ∙ take-suc-set codes count v r in
        let k : drop (count + 1) codes ≡ drop (count + 1) codes₀ =
        sym (drop-drop 1 count codes) ∙ ap (drop 1) l.kept ∙ drop-drop 1 count codes₀ in
        record {
          walks = on;
          long = z ∙ l.long;
          within = omega arith;
          put =
              ap (λ (x : List ℕ). x ++ map (spot_code a) (walk s' (drop (i + 1) t))) p
              ∙ append_assoc (take count codes) (v ∷ []) (map (spot_code a) (walk s' (drop (i + 1) t)))
              ∙ ap (λ (x : ℕ). take count codes ++ (x ∷ map (spot_code a) (walk s' (drop (i + 1) t)))) f
              ∙ further;
          kept = drop-set-lt (count + 1) codes count v (omega arith) ∙ k;
        }

-- behind the last byte all are put
pub lists-end : {a : Arrangement} {t codes₀ codes : List ℕ} {count i : ℕ} {s : Spot} → Lists a t codes₀ codes count i s → length t ≤ i →
    (count ≡ length (loose_codes a t)) × (codes ≡ loose_codes a t ++ drop (length (loose_codes a t)) codes₀)
lists-end {a} {t} {codes₀} {codes} {count} {i} {s} l h =
    let p : take count codes ≡ loose_codes a t =
    sym (append-nil (take count codes)) ∙ sym (ap (λ (x : List Spot). take count codes ++ map (spot_code a) x) (walked t i s h)) ∙ l.put in
    let n : count ≡ length (loose_codes a t) = sym (length-take-le count codes l.within) ∙ ap length p in
    (n, sym (take-append-drop count codes) ∙ ap₂ ◌++◌ p (l.kept ∙ ap (λ (x : ℕ). drop x codes₀) n))
