-- What the functions of this crate lean on: the count by its tests, and a code taken into the list. Assumes nothing.
use Rattle.std.specs.Prelude.{Err, Ok}
use mathlib.Core.Path.{◌≡◌, sym, ap, ap₂, ◌∙◌}
use mathlib.Core.Bool.{Bool, true, false, ◌&&◌, cond}
use mathlib.Core.List.{List, ◌++◌}
use Prim.Native.Nat.{ℕ, ◌≤◌}
use native.Mathlib.Omega.{arith}
use lib.ListN.{length, take, drop, take-append-drop}
use lib.Seq.{length-take-le}
use borrow.Author.Tests.{le-ltb, eq-eqb, ne_eqb}
use Rattle.logic.specs.Refusal.{refuse, given}
use Rattle.cell.specs.declared.Cell.{Cell}
use Rattle.cell.specs.declared.Arrangement.{Arrangement}
use Rattle.cell.specs.Neighbour.{rows}
use Rattle.code.specs.Code.{code_of}
use Rattle.track.specs.Track.{inserted, add_refusal, counted, added, memory}
use Rattle.corner.specs.Corner.{first_or_last, corner_number}
use Rattle.corner.specs.List.{face_corner, across_corner, with_corner, in_front}
use Rattle.corner.proofs.Internal.Codes.{adds_none, adds_one}

-- the count
pub none-whole : (c : Cell) → c.resolution ≡ 0 → 0 ≡ corner_number c
unfolding corner_number
none-whole c z = rw (eq-eqb c.resolution 0 z)

pub counts : (c : Cell) {s t : Bool} → (c.resolution ≡ 0 → ⊥) → first_or_last (rows c) c.row ≡ s → first_or_last (rows c) c.column ≡ t → cond (s && t) 3 4 ≡ corner_number c
unfolding corner_number
counts c n p q = rw (ne_eqb c.resolution 0 n) (ap₂ (λ (x y : Bool). cond (x && y) 3 4) (sym p) (sym q))

-- ---- a code taken in
module _ (a : Arrangement) (c : Cell) (d : ℕ) (codes : List ℕ) (count : ℕ) where
  abbrev pub Put : ℕ → List ℕ → Type 0
  Put n exit = (n ≡ length (with_corner a c d (take count codes))) × (exit ≡ in_front (with_corner a c d (take count codes)) codes)

  pub put-none : count ≤ length codes → face_corner c d ≡ true → Put count codes
  put-none h e =
      let p = adds_none a c d (take count codes) e in
      let l : count ≡ length (with_corner a c d (take count codes)) = sym (length-take-le count codes h) ∙ ap length (sym p) in
      (l, sym (take-append-drop count codes) ∙ ap₂ (λ (x : List ℕ) (y : ℕ). x ++ drop y codes) (sym p) l)

  module _ (e : face_corner c d ≡ false) (room : length (with_corner a c d (take count codes)) ≤ length codes) where
    allowed : add_refusal (length codes) (take count codes) (code_of a (across_corner a c d)) ≡ 0
    unfolding add_refusal
    allowed =
        let p = ap length (adds_one a c d (take count codes) e) in
        ap (λ (t : Bool). refuse t 8) (le-ltb (length codes) (length (inserted (code_of a (across_corner a c d)) (take count codes))) (omega arith))

    pub put_one :
        (n : ℕ) (exit : List ℕ) → Ok n ≡ added (length codes) (take count codes) (code_of a (across_corner a c d)) →
        exit ≡ memory codes (take count codes) (code_of a (across_corner a c d)) → Put n exit
    unfolding counted memory given
    put_one n exit p q =
        let x = inserted (code_of a (across_corner a c d)) (take count codes) in
        let s = sym (adds_one a c d (take count codes) e) in
        let r : Ok n ≡ Ok (length x) = p ∙ ap (λ (y : ℕ). counted y (length x)) allowed in
        let m : n ≡ length x = cc in
        (m ∙ ap length s, q ∙ ap (λ (y : ℕ). given y (x ++ drop (length x) codes) codes) allowed ∙ ap (λ (y : List ℕ). in_front y codes) s)

    pub put-never : (r : ℕ) → Err r ≡ added (length codes) (take count codes) (code_of a (across_corner a c d)) → ⊥
    unfolding counted
    put-never r p =
        let n = length (inserted (code_of a (across_corner a c d)) (take count codes)) in
        let s : Err r ≡ Ok n = p ∙ ap (λ (y : ℕ). counted y n) allowed in
        let z : ◌≡◌ {A = ℕ} 0 1 = cc in
        omega arith
