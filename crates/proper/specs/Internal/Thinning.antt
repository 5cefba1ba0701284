-- How far thinning has come. Assumes nothing.
use Rattle.std.specs.Prelude.{◌≡◌, refl, true, length, take}
use Rattle.std.proofs.Math.Path.{sym, ap}
use Rattle.std.proofs.Common.{ap₂, ◌∙◌, add-one, arith, length-drop, drop_of_length-le, drop-cons, length-take-le, get_or-take, lt-ltb, le-ltb}
use mathlib.Core.List.{List, [], ◌∷◌, ◌++◌, append_assoc, append-nil}
use Prim.Native.Nat.{ℕ, zero, suc, ◌+◌, ◌-◌, ◌≤◌, ◌<◌}
use Rattle.std.proofs.Math.ListN.{drop, set, get_or, length-append}
use Rattle.std.proofs.Math.Seq.{set_at}
use Rattle.code.specs.Code.{cell_of, is_code, size_of}
use Rattle.code.proofs.Laws.Code.{code-is-cell}
use Rattle.code.specs.Inside.{start_of, end_of}
use Rattle.code.proofs.Laws.Inside.{end-small}
use Rattle.writing.specs.Write.{all_codes}
use Rattle.writing.specs.Internal.MeasureLaws.{code-at}
use Rattle.proper.specs.Thin.{thinned}

pub record Thinning (codes₀ codes : List ℕ) (count kept from i : ℕ) : Type 0 where
  pub front : List ℕ
  pub long : length front ≡ kept
  pub holds : codes ≡ front ++ drop kept codes₀
  pub tied : thinned 0 (take count codes₀) ≡ front ++ thinned from (drop i (take count codes₀))
  pub room : count ≤ length codes₀
  pub coded : all_codes (take count codes₀) ≡ true
  pub behind : kept ≤ i
  pub to : i ≤ count

pub thin-start : {codes : List ℕ} {count : ℕ} → count ≤ length codes → all_codes (take count codes) ≡ true → Thinning codes codes count 0 0 0
thin-start h k = record { front = []; long = refl; holds = refl; tied = refl; room = h; coded = k; behind = omega arith; to = omega arith }

get_d_front : (a b : List ℕ) (i : ℕ) → length a ≤ i → get_or (a ++ b) i 0 ≡ get_or b (i - length a) 0
get_d_front [] b i h = let e : i - 0 ≡ i = omega arith in rw e refl
get_d_front (x ∷ a) b zero h = absurd (omega arith)
get_d_front (x ∷ a) b (suc i) h = let e : suc i - suc (length a) ≡ i - length a = omega arith in rw e (get_d_front a b i (omega arith))

get_d_drop : (n i : ℕ) (l : List ℕ) → get_or (drop n l) i 0 ≡ get_or l (n + i) 0
get_d_drop zero i l = let e : 0 + i ≡ i = omega arith in rw e refl
get_d_drop (suc n) i [] = refl
get_d_drop (suc n) i (x ∷ l) = let e : suc n + i ≡ suc (n + i) = omega arith in rw e (get_d_drop n i l)

module _ {codes₀ codes : List ℕ} {count kept from i : ℕ} (v : Thinning codes₀ codes count kept from i) (h : i < count) where
  -- the code at hand is the one that stood there
  pub at-hand : get_or codes i 0 ≡ get_or codes₀ i 0
  at-hand =
      let e : kept + (i - kept) ≡ i = omega (arith, v.behind) in
      ap (λ (x : List ℕ). get_or x i 0) v.holds
      ∙ get_d_front v.front (drop kept codes₀) i (omega (arith, v.long, v.behind))
      ∙ ap (λ (x : ℕ). get_or (drop kept codes₀) (i - x) 0) v.long
      ∙ get_d_drop kept (i - kept) codes₀
      ∙ ap (λ (x : ℕ). get_or codes₀ x 0) e

  pub hand-code : is_code (get_or codes i 0) ≡ true
  hand-code =
      let e : get_or (take count codes₀) i 0 ≡ get_or codes i 0 = get_or-take count codes₀ i 0 h ∙ sym at-hand in
      rw e at (code-at (take count codes₀) i v.coded (omega (arith, length-take-le count codes₀ v.room)))

  -- the number after its last finest cell is small
  pub hand_end : start_of (cell_of (get_or codes i 0)) + size_of (cell_of (get_or codes i 0)) ≤ 1235346792567894
  unfolding end_of
  hand_end =
      let c = code-is-cell (get_or codes i 0) hand-code in
      omega (arith, end-small (cell_of (get_or codes i 0)) c, c.faced)

  pub same_length : length codes ≡ length codes₀
  same_length = ap length v.holds ∙ length-append v.front (drop kept codes₀) ∙ omega (arith, v.long, length-drop kept codes₀, v.behind, v.room)

  rest : drop i (take count codes₀) ≡ get_or codes i 0 ∷ drop (i + 1) (take count codes₀)
  rest =
      drop-cons (take count codes₀) i 0 (omega (arith, length-take-le count codes₀ v.room))
      ∙ ap₂ (λ (x y : ℕ). x ∷ drop y (take count codes₀)) (get_or-take count codes₀ i 0 h ∙ sym at-hand) (sym (add-one i))

  pub thin-skip : start_of (cell_of (get_or codes i 0)) < from → Thinning codes₀ codes count kept from (i + 1)
  unfolding thinned
  thin-skip k =
      record {
        front = v.front;
        long = v.long;
        holds = v.holds;
        tied = v.tied ∙ ap (λ (x : List ℕ). v.front ++ x) (ap (thinned from) rest ∙ rw (lt-ltb (start_of (cell_of (get_or codes i 0))) from k) refl);
        room = v.room;
        coded = v.coded;
        behind = omega (arith, v.behind);
        to = omega arith;
      }

  thin-keep :
      from ≤ start_of (cell_of (get_or codes i 0)) →
      Thinning codes₀ (set codes kept (get_or codes i 0)) count (kept + 1) (end_of (cell_of (get_or codes i 0))) (i + 1)
  unfolding thinned
  thin-keep k =
      let c : ℕ = get_or codes i 0 in
      record {
        front = v.front ++ (c ∷ []);
        long = length-append v.front (c ∷ []) ∙ omega (arith, v.long);
        holds =
            ap (λ (x : List ℕ). set x kept c) (v.holds ∙ ap (λ (x : List ℕ). v.front ++ x) (drop-cons codes₀ kept 0 (omega (arith, v.behind, v.room))))
            ∙ set_at v.front (get_or codes₀ kept 0) (drop (suc kept) codes₀) c kept v.long
            ∙ sym (append_assoc v.front (c ∷ []) (drop (suc kept) codes₀))
            ∙ ap (λ (x : ℕ). (v.front ++ (c ∷ [])) ++ drop x codes₀) (sym (add-one kept));
        tied =
            v.tied
            ∙ ap (λ (x : List ℕ). v.front ++ x) (ap (thinned from) rest ∙ rw (le-ltb (start_of (cell_of c)) from k) refl)
            ∙ sym (append_assoc v.front (c ∷ []) (thinned (end_of (cell_of c)) (drop (i + 1) (take count codes₀))));
        room = v.room;
        coded = v.coded;
        behind = omega (arith, v.behind);
        to = omega arith;
      }

  pub thin-put :
      {a z : ℕ} → a ≡ start_of (cell_of (get_or codes i 0)) → z ≡ size_of (cell_of (get_or codes i 0)) → from ≤ a →
      Thinning codes₀ (set codes kept (get_or codes i 0)) count (kept + 1) (a + z) (i + 1)
  unfolding end_of
  thin-put e f k = rw (e, f) (thin-keep (omega (arith, e)))

pub thin-end :
    {codes₀ codes : List ℕ} {count kept from i : ℕ} → Thinning codes₀ codes count kept from i → count ≤ i →
    (kept ≡ length (thinned 0 (take count codes₀))) × (codes ≡ thinned 0 (take count codes₀) ++ drop (length (thinned 0 (take count codes₀))) codes₀)
unfolding thinned
thin-end {codes₀} {codes} {count} {kept} {from} {i} v h =
    let z : drop i (take count codes₀) ≡ [] = drop_of_length-le (take count codes₀) {i = i} (omega (arith, length-take-le count codes₀ v.room)) in
    let e : thinned 0 (take count codes₀) ≡ v.front = v.tied ∙ ap (λ (x : List ℕ). v.front ++ thinned from x) z ∙ append-nil v.front in
    let n : kept ≡ length (thinned 0 (take count codes₀)) = sym v.long ∙ sym (ap length e) in
    (n, v.holds ∙ ap₂ (λ (x : List ℕ) (y : ℕ). x ++ drop y codes₀) (sym e) n)

pub long_same : {codes₀ codes : List ℕ} {count kept from i : ℕ} → Thinning codes₀ codes count kept from i → length codes ≡ length codes₀
long_same {codes₀} {codes} {count} {kept} {from} {i} v =
    ap length v.holds ∙ length-append v.front (drop kept codes₀) ∙ omega (arith, v.long, length-drop kept codes₀, v.behind, v.to, v.room)
