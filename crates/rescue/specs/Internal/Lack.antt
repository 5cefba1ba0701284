-- Codes that are none of the keys, left in front of a memory. Assumes nothing.
use Rattle.std.specs.Prelude.{◌≡◌, refl, Bool, true, false, ◌&&◌, ◌||◌, not, cond, eqb, length, take}
use Rattle.std.proofs.Math.Path.{sym, ap}
use Rattle.std.proofs.Common.{ap₂, ◌∙◌, add-one, arith, length-drop, drop_of_length-le, drop-cons, length-take-le, get_or-take, eqb-true}
use mathlib.Core.List.{List, [], ◌∷◌, ◌++◌, append_assoc, append-nil}
use Prim.Native.Nat.{ℕ, zero, suc, ◌+◌, ◌-◌, ◌≤◌, ◌<◌}
use Rattle.std.proofs.Math.ListN.{drop, set, get_or, length-append}
use Rattle.std.proofs.Math.Seq.{set_at}
use Rattle.logic.specs.Laws.Bools.{by_cond, and_none}
use Rattle.logic.specs.Rise.{Above, Rise}
use Rattle.proper.proofs.Laws.Front.{put-fits, put_front}
use Rattle.rescue.specs.Internal.Marks.{has_code, lacking, Clear}

-- ---- what they are

pub has-lacking : (keys xs : List ℕ) (c : ℕ) → has_code c (lacking keys xs) ≡ (has_code c xs && not (has_code c keys))
unfolding lacking
has-lacking keys [] c = refl
has-lacking keys (x ∷ xs) c = go (has_code x keys) (eqb x c) refl refl (has-lacking keys xs c)
  where
    met : (t : Bool) → has_code x keys ≡ t → eqb x c ≡ true → has_code c keys ≡ t
    met t e f = ap (λ (y : ℕ). has_code y keys) (sym (eqb-true x c f)) ∙ e

    go :
        (t u : Bool) → has_code x keys ≡ t → eqb x c ≡ u → has_code c (lacking keys xs) ≡ (has_code c xs && not (has_code c keys)) →
        has_code c (cond t (lacking keys xs) (x ∷ lacking keys xs)) ≡ ((u || has_code c xs) && not (has_code c keys))
    go true true e f k = k ∙ rw (met true e f) (and_none (has_code c xs))
    go true false e f k = k
    go false true e f k = rw (f, met false e f) refl
    go false false e f k = rw f k

pub lacking-clear : (keys xs : List ℕ) → Clear keys (lacking keys xs)
lacking-clear keys xs c h = has-lacking keys xs c ∙ rw h (and_none (has_code c xs))

above-lacking : (keys xs : List ℕ) (n : ℕ) → Above n xs → Above n (lacking keys xs)
unfolding lacking
above-lacking keys [] n a = tt
above-lacking keys (x ∷ xs) n a = by_cond (Above n) (has_code x keys) (λ _. above-lacking keys xs n a.1) (λ _. (a.0, above-lacking keys xs n a.1))

pub rise-lacking : (keys xs : List ℕ) → Rise xs → Rise (lacking keys xs)
unfolding lacking
rise-lacking keys [] r = tt
rise-lacking keys (x ∷ xs) r = by_cond Rise (has_code x keys) (λ _. rise-lacking keys xs r.1) (λ _. (above-lacking keys xs x r.0, rise-lacking keys xs r.1))

pub lacking-length : (keys xs : List ℕ) → length (lacking keys xs) ≤ length xs
unfolding lacking
lacking-length keys [] = omega arith
lacking-length keys (x ∷ xs) =
    let k = lacking-length keys xs in by_cond (λ (l : List ℕ). length l ≤ suc (length xs)) (has_code x keys) (λ _. omega arith) (λ _. omega arith)

-- ---- how far leaving them has come

pub record Leaving (keys codes₀ codes : List ℕ) (count kept i : ℕ) : Type 0 where
  pub front : List ℕ
  pub long : length front ≡ kept
  pub holds : codes ≡ front ++ drop kept codes₀
  pub tied : lacking keys (take count codes₀) ≡ front ++ lacking keys (drop i (take count codes₀))
  pub room : count ≤ length codes₀
  pub behind : kept ≤ i
  pub to : i ≤ count

pub leave-start : (keys codes : List ℕ) {count : ℕ} → count ≤ length codes → Leaving keys codes codes count 0 0
leave-start keys codes h = record { front = []; long = refl; holds = refl; tied = refl; room = h; behind = omega arith; to = omega arith }

get_d_front : (a b : List ℕ) (i : ℕ) → length a ≤ i → get_or (a ++ b) i 0 ≡ get_or b (i - length a) 0
get_d_front [] b i h = let e : i - 0 ≡ i = omega arith in rw e refl
get_d_front (x ∷ a) b zero h = absurd (omega arith)
get_d_front (x ∷ a) b (suc i) h = let e : suc i - suc (length a) ≡ i - length a = omega arith in rw e (get_d_front a b i (omega arith))

get_d_drop : (n i : ℕ) (l : List ℕ) → get_or (drop n l) i 0 ≡ get_or l (n + i) 0
get_d_drop zero i l = let e : 0 + i ≡ i = omega arith in rw e refl
get_d_drop (suc n) i [] = refl
get_d_drop (suc n) i (x ∷ l) = let e : suc n + i ≡ suc (n + i) = omega arith in rw e (get_d_drop n i l)

pub leave-length : {keys codes₀ codes : List ℕ} {count kept i : ℕ} → Leaving keys codes₀ codes count kept i → length codes ≡ length codes₀
leave-length {keys} {codes₀} {codes} {count} {kept} {i} v =
    ap length v.holds ∙ length-append v.front (drop kept codes₀) ∙ omega (arith, v.long, length-drop kept codes₀, v.behind, v.to, v.room)

module _ {keys codes₀ codes : List ℕ} {count kept i : ℕ} (v : Leaving keys codes₀ codes count kept i) (h : i < count) where
  -- the code at hand is the one that stood there
  at-hand : get_or codes i 0 ≡ get_or codes₀ i 0
  at-hand =
      let e : kept + (i - kept) ≡ i = omega (arith, v.behind) in
      ap (λ (x : List ℕ). get_or x i 0) v.holds
      ∙ get_d_front v.front (drop kept codes₀) i (omega (arith, v.long, v.behind))
      ∙ ap (λ (x : ℕ). get_or (drop kept codes₀) (i - x) 0) v.long
      ∙ get_d_drop kept (i - kept) codes₀
      ∙ ap (λ (x : ℕ). get_or codes₀ x 0) e

  rest : drop i (take count codes₀) ≡ get_or codes i 0 ∷ drop (i + 1) (take count codes₀)
  rest =
      drop-cons (take count codes₀) i 0 (omega (arith, length-take-le count codes₀ v.room))
      ∙ ap₂ (λ (x y : ℕ). x ∷ drop y (take count codes₀)) (get_or-take count codes₀ i 0 h ∙ sym at-hand) (sym (add-one i))

  pub leave-out : has_code (get_or codes i 0) keys ≡ true → Leaving keys codes₀ codes count kept (i + 1)
  unfolding lacking
  leave-out k =
      record {
        front = v.front;
        long = v.long;
        holds = v.holds;
        tied = v.tied ∙ ap (λ (x : List ℕ). v.front ++ x) (ap (lacking keys) rest ∙ rw k refl);
        room = v.room;
        behind = omega (arith, v.behind);
        to = omega arith;
      }

  pub leave-in : has_code (get_or codes i 0) keys ≡ false → Leaving keys codes₀ (set codes kept (get_or codes i 0)) count (kept + 1) (i + 1)
  unfolding lacking
  leave-in k =
      let c : ℕ = get_or codes i 0 in
      record {
        front = v.front ++ (c ∷ []);
        long = length-append v.front (c ∷ []) ∙ omega (arith, v.long);
        holds =
            ap (λ (x : List ℕ). set x kept c) (v.holds ∙ ap (λ (x : List ℕ). v.front ++ x) (drop-cons codes₀ kept 0 (omega (arith, v.behind, v.room))))
            ∙ set_at v.front (get_or codes₀ kept 0) (drop (suc kept) codes₀) c kept v.long
            ∙ sym (append_assoc v.front (c ∷ []) (drop (suc kept) codes₀))
            ∙ ap (λ (x : ℕ). (v.front ++ (c ∷ [])) ++ drop x codes₀) (sym (add-one kept));
        tied =
            v.tied
            ∙ ap (λ (x : List ℕ). v.front ++ x) (ap (lacking keys) rest ∙ rw k refl)
            ∙ sym (append_assoc v.front (c ∷ []) (lacking keys (drop (i + 1) (take count codes₀))));
        room = v.room;
        behind = omega (arith, v.behind);
        to = omega arith;
      }

pub leave-end :
    {keys codes₀ codes : List ℕ} {count kept i : ℕ} → Leaving keys codes₀ codes count kept i → count ≤ i →
    (kept ≡ length (lacking keys (take count codes₀))) × (codes ≡ lacking keys (take count codes₀) ++ drop (length (lacking keys (take count codes₀))) codes₀)
unfolding lacking
leave-end {keys} {codes₀} {codes} {count} {kept} {i} v h =
    let z : drop i (take count codes₀) ≡ [] = drop_of_length-le (take count codes₀) {i = i} (omega (arith, length-take-le count codes₀ v.room)) in
    let e : lacking keys (take count codes₀) ≡ v.front = v.tied ∙ ap (λ (x : List ℕ). v.front ++ lacking keys x) z ∙ append-nil v.front in
    let n : kept ≡ length (lacking keys (take count codes₀)) = sym v.long ∙ sym (ap length e) in
    (n, v.holds ∙ ap₂ (λ (x : List ℕ) (y : ℕ). x ++ drop y codes₀) (sym e) n)

-- ---- what is in front then

module _
    (keys codes₀ codes : List ℕ) (count kept : ℕ) (h : count ≤ length codes₀) (n : kept ≡ length (lacking keys (take count codes₀)))
    (e : codes ≡ lacking keys (take count codes₀) ++ drop (length (lacking keys (take count codes₀))) codes₀) where
  room : length (lacking keys (take count codes₀)) ≤ length codes₀
  room = omega (arith, lacking-length keys (take count codes₀), length-take-le count codes₀ h)

  pub left-fits : kept ≤ length codes
  left-fits = put-fits (lacking keys (take count codes₀)) codes₀ codes kept n room e

  pub left-front : take kept codes ≡ lacking keys (take count codes₀)
  left-front = put_front (lacking keys (take count codes₀)) codes₀ codes kept n room e
