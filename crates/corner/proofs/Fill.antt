-- The codes of the first corners put to the front, one corner after the other. Assumes nothing.
use mathlib.Core.Path.{◌≡◌, refl, sym, ap, ap₂, subst, ◌∙◌}
use mathlib.Core.List.{List, ◌++◌}
use Prim.Native.Nat.{ℕ, ◌+◌, ◌-◌, ◌≤◌, ◌<◌}
use native.Mathlib.Numerals.{add-one}
use native.Mathlib.Omega.{arith}
use lib.ListN.{length, take, drop, length-append, length-drop, take-append-drop}
use lib.Seq.{take_at, drop_at, drop-drop}
use Rattle.logic.specs.Rise.{Rise}
use Rattle.cell.specs.declared.Cell.{Cell}
use Rattle.cell.specs.declared.Arrangement.{Arrangement}
use Rattle.track.specs.Track.{Held}
use Rattle.corner.specs.List.{with_corner, first_corners, corner_codes, in_front}
use Rattle.corner.proofs.Internal.Codes.{first-rise, grows, within}

-- what holds before a direction, with `count` codes put
pub record Filled (a : Arrangement) (c : Cell) (codes₀ codes : List ℕ) (count d : ℕ) : Type 0 where
  pub corners : d ≤ 4
  pub room : length (corner_codes a c) ≤ length codes₀
  pub long : length codes ≡ length codes₀
  pub number : count ≡ length (first_corners a c d)
  pub put : take count codes ≡ first_corners a c d
  pub kept : drop count codes ≡ drop count codes₀

pub filled-start : (a : Arrangement) (c : Cell) (codes : List ℕ) → length (corner_codes a c) ≤ length codes → Filled a c codes codes 0 0
unfolding first_corners
filled-start a c codes h = record { corners = omega arith; room = h; long = refl; number = refl; put = refl; kept = refl }

module _ {a : Arrangement} {c : Cell} {codes₀ codes : List ℕ} {count d : ℕ} (f : Filled a c codes₀ codes count d) where
  module _ (h : d < 4) where
    one_more : with_corner a c d (take count codes) ≡ first_corners a c (d + 1)
    unfolding first_corners
    one_more = ap (with_corner a c d) f.put ∙ ap (first_corners a c) (sym (add-one d))

    fits : length (first_corners a c (d + 1)) ≤ length codes
    fits = let w = within a c d h in let g = grows a c d in let e = ap (λ (x : ℕ). length (first_corners a c x)) (add-one d) in omega (arith, f.room, f.long)

    pub filled-held : Held codes count
    filled-held =
        let w = within a c d h in
        let g = grows a c d in
        record { fits = omega (arith, f.room, f.long, f.number); rises = subst Rise (sym f.put) (first-rise a c d) }

    pub filled-room : length (with_corner a c d (take count codes)) ≤ length codes
    filled-room = let e = ap length one_more in let g = fits in omega arith

    pub filled_on :
        {n : ℕ} {exit : List ℕ} → n ≡ length (with_corner a c d (take count codes)) → exit ≡ in_front (with_corner a c d (take count codes)) codes →
        Filled a c codes₀ exit n (d + 1)
    filled_on {n} {exit} p q =
        let x = first_corners a c (d + 1) in
        let m : n ≡ length x = p ∙ ap length one_more in
        let e : exit ≡ x ++ drop (length x) codes = q ∙ ap (λ (y : List ℕ). in_front y codes) one_more in
        let g : count + (n - count) ≡ n = let s = ap (λ (y : ℕ). length (first_corners a c y)) (add-one d) in omega (arith, grows a c d, f.number) in
        let k : drop n codes ≡ drop n codes₀ =
        ap (λ (y : ℕ). drop y codes) (sym g) ∙ sym (drop-drop (n - count) count codes) ∙ ap (drop (n - count)) f.kept
        ∙ drop-drop (n - count) count codes₀ ∙ ap (λ (y : ℕ). drop y codes₀) g in
        let w = fits in
        record {
          corners = omega arith;
          room = f.room;
          long = ap length e ∙ length-append x (drop (length x) codes) ∙ (let z = length-drop (length x) codes in omega (arith, f.long));
          number = m;
          put = ap (take n) e ∙ take_at x (drop (length x) codes) n (sym m);
          kept = ap (drop n) e ∙ drop_at x (drop (length x) codes) n (sym m) ∙ ap (λ (y : ℕ). drop y codes) (sym m) ∙ k;
        }

  pub filled-end : 4 ≤ d → codes ≡ in_front (corner_codes a c) codes₀
  unfolding corner_codes
  filled-end h =
      let e : d ≡ 4 = omega (arith, f.corners) in
      let p : take count codes ≡ first_corners a c 4 = f.put ∙ ap (first_corners a c) e in
      let n : count ≡ length (first_corners a c 4) = f.number ∙ ap (λ (y : ℕ). length (first_corners a c y)) e in
      sym (take-append-drop count codes) ∙ ap₂ ◌++◌ p (f.kept ∙ ap (λ (y : ℕ). drop y codes₀) n)
