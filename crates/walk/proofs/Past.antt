-- Past a list, byte by byte: the bytes gone over, and those that it takes from here on, are the list's. Assumes nothing.
use mathlib.Core.Path.{◌≡◌, refl, sym, ap, ◌∙◌}
use mathlib.Core.Bool.{Bool, true, false, cond}
use mathlib.Core.List.{List}
use Prim.Native.Nat.{ℕ, ◌+◌, ◌-◌, ◌≤◌, ◌<◌}
use native.Mathlib.Omega.{arith}
use lib.ListN.{length, drop, get_or, drop_of_length-le}
use lib.Seq.{drop-drop}
use lib.Dec.{eqb}
use borrow.Author.Tests.{eq-eqb, ne_eqb}
use Rattle.walk.specs.Walk.{whole_at}
use Rattle.walk.specs.Laws.Walk.{byte_at}
use Rattle.walk.specs.Past.{open_past, shut_in, node_in}

past-most : (d b : ℕ) → open_past d b ≤ d + 1
unfolding open_past
past-most d b = go (eqb b 40) (eqb b 41)
  where
    go : (x y : Bool) → cond x (d + 1) (cond y (d - 1) d) ≤ d + 1
    go true y = omega arith
    go false true = omega arith
    go false false = omega arith

-- what holds before the byte at i, with so many lists open
pub record Shuts (t : List ℕ) (at depth i : ℕ) : Type 0 where
  pub tied : i + shut_in depth (drop i t) ≡ at + shut_in 1 (drop at t)
  pub some : 0 < depth
  pub few : depth + at ≤ i + 1

pub shuts-start : (t : List ℕ) (at : ℕ) → Shuts t at 1 at
shuts-start t at = record { tied = refl; some = omega arith; few = omega arith }

pub shuts-end : {t : List ℕ} {at depth i : ℕ} → Shuts t at depth i → length t ≤ i → i ≡ at + shut_in 1 (drop at t)
unfolding shut_in
shuts-end {t} {at} {depth} {i} v h =
    let e : shut_in depth (drop i t) ≡ 0 = ap (shut_in depth) (drop_of_length-le t {i = i} h) in
    omega (arith, v.tied)

module _ {t : List ℕ} {at depth i depth' : ℕ} (v : Shuts t at depth i) (h : i < length t) (e : depth' ≡ open_past depth (get_or t i 0)) where
  next : shut_in depth (drop i t) ≡ 1 + cond (eqb depth' 0) 0 (shut_in depth' (drop (i + 1) t))
  unfolding shut_in
  next =
      ap (shut_in depth) (byte_at t i h) ∙ ap (λ (x : ℕ). 1 + cond (eqb x 0) 0 (shut_in x (drop (i + 1) t))) (sym e)

  pub shuts-done : depth' ≡ 0 → i + 1 ≡ at + shut_in 1 (drop at t)
  shuts-done z =
      let f : shut_in depth (drop i t) ≡ 1 = next ∙ ap (λ (b : Bool). 1 + cond b 0 (shut_in depth' (drop (i + 1) t))) (eq-eqb depth' 0 z) in
      omega (arith, v.tied)

  pub shuts-on : (depth' ≡ 0 → ⊥) → Shuts t at depth' (i + 1)
  shuts-on z =
      let f : shut_in depth (drop i t) ≡ 1 + shut_in depth' (drop (i + 1) t) =
      next ∙ ap (λ (b : Bool). 1 + cond b 0 (shut_in depth' (drop (i + 1) t))) (ne_eqb depth' 0 z) in
      record { tied = omega (arith, v.tied); some = omega (arith, z); few = omega (arith, v.few, past-most depth (get_or t i 0)) }

-- ---- past a node

module _ (t : List ℕ) (i : ℕ) where
  pub at-whole : whole_at (drop i t) ≡ true → i + 1 ≡ i + node_in (drop i t)
  unfolding node_in
  at-whole w = sym (ap (λ (b : Bool). i + cond b 1 (2 + shut_in 1 (drop 2 (drop i t)))) w)

  pub at-list : whole_at (drop i t) ≡ false → i + 2 + shut_in 1 (drop (i + 2) t) ≡ i + node_in (drop i t)
  unfolding node_in
  at-list w =
      let e : node_in (drop i t) ≡ 2 + shut_in 1 (drop (i + 2) t) =
      ap (λ (b : Bool). cond b 1 (2 + shut_in 1 (drop 2 (drop i t)))) w ∙ ap (λ (x : List ℕ). 2 + shut_in 1 x) (drop-drop 2 i t) in
      omega arith
