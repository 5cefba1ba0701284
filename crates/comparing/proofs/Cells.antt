-- What is found of a cell for which neither text has a list. Assumes nothing.
use mathlib.Core.Path.{◌≡◌, refl, sym}
use mathlib.Core.Bool.{false}
use mathlib.Core.List.{List, [], ◌∷◌}
use Prim.Native.Nat.{ℕ, ◌+◌, ◌-◌, ◌^◌}
use native.Mathlib.Omega.{arith}
use lib.ListN.{set}
use Rattle.logic.specs.Laws.Bools.{clash}
use Rattle.ternary.proofs.Laws.Powers.{nine-pos}
use Rattle.cell.specs.declared.Arrangement.{Arrangement}
use Rattle.code.specs.Number.{code_as}
use Rattle.walk.specs.Walk.{spot}
use Rattle.comparing.specs.declared.Cursor.{Cursor}
use Rattle.comparing.specs.Shared.{Portion, none, all, some, portion_number, divided}
use Rattle.comparing.specs.Compare.{ThreeLists, lists}
use Rattle.comparing.specs.Internal.Found.{spots_at, sizes_of, Adds, AddsAll, CellFound}

pub adds_none : {a : Arrangement} {lent : List ℕ} {count : ℕ} → Adds a [] lent lent count count
adds_none = record { counted = omega arith; put = refl }

adds_one : {a : Arrangement} {k n count : ℕ} {lent later : List ℕ} → later ≡ set lent count (code_as a k n) → Adds a (spot k n ∷ []) lent later count (count + 1)
adds_one e = record { counted = refl; put = e }

module _ {from : Cursor} {i j k n : ℕ} {a : Arrangement} {lent : ThreeLists} where
  pub cell-none : i ≡ 0 → j ≡ 0 → CellFound from i j a k n lent lent from
  unfolding spots_at sizes_of
  cell-none h h' = record { first = refl; second = refl; adds = go; short = omega arith }
    where
      go : (x y : Portion) → portion_number x ≡ i → portion_number y ≡ j → divided x y ≡ false → AddsAll a (spots_at k n x y) from lent lent from
      go none none u v e = record { firsts = adds_none; seconds = adds_none; boths = adds_none; size = omega arith }
      go none all u v e = absurd (omega arith)
      go none (some ns) u v e = absurd (omega arith)
      go all y u v e = absurd (omega arith)
      go (some ns) y u v e = absurd (omega arith)

  -- ---- its code was stored

  module _ {later : List ℕ} where
    pub cell-first :
        (i ≡ 0 → ⊥) → j ≡ 0 → later ≡ set lent.firsts from.firsts (code_as a k n) →
        CellFound from i j a k n lent (lists later lent.seconds lent.boths)
        (record { first = from.first; second = from.second; firsts = from.firsts + 1; seconds = from.seconds; boths = from.boths; size = from.size })
    unfolding spots_at sizes_of
    cell-first h h' q = record { first = refl; second = refl; adds = go; short = omega (arith, nine-pos (15 - k)) }
      where
        go :
            (x y : Portion) → portion_number x ≡ i → portion_number y ≡ j → divided x y ≡ false →
            AddsAll a (spots_at k n x y) from lent (lists later lent.seconds lent.boths)
            (record { first = from.first; second = from.second; firsts = from.firsts + 1; seconds = from.seconds; boths = from.boths; size = from.size })
        go none y u v e = absurd (h (sym u))
        go all none u v e = record { firsts = adds_one q; seconds = adds_none; boths = adds_none; size = omega arith }
        go all all u v e = absurd (omega arith)
        go all (some ns) u v e = absurd (omega arith)
        go (some ns) y u v e = clash e

    pub cell-second :
        i ≡ 0 → (j ≡ 0 → ⊥) → later ≡ set lent.seconds from.seconds (code_as a k n) →
        CellFound from i j a k n lent (lists lent.firsts later lent.boths)
        (record { first = from.first; second = from.second; firsts = from.firsts; seconds = from.seconds + 1; boths = from.boths; size = from.size })
    unfolding spots_at sizes_of
    cell-second h h' q = record { first = refl; second = refl; adds = go; short = omega (arith, nine-pos (15 - k)) }
      where
        go :
            (x y : Portion) → portion_number x ≡ i → portion_number y ≡ j → divided x y ≡ false →
            AddsAll a (spots_at k n x y) from lent (lists lent.firsts later lent.boths)
            (record { first = from.first; second = from.second; firsts = from.firsts; seconds = from.seconds + 1; boths = from.boths; size = from.size })
        go none none u v e = absurd (h' (sym v))
        go none all u v e = record { firsts = adds_none; seconds = adds_one q; boths = adds_none; size = omega arith }
        go none (some ns) u v e = clash e
        go all y u v e = absurd (omega arith)
        go (some ns) y u v e = absurd (omega arith)

    pub cell-both :
        {z : ℕ} → (i ≡ 0 → ⊥) → (j ≡ 0 → ⊥) → z ≡ 9 ^ (15 - k) → later ≡ set lent.boths from.boths (code_as a k n) →
        CellFound from i j a k n lent (lists lent.firsts lent.seconds later)
        (record { first = from.first; second = from.second; firsts = from.firsts; seconds = from.seconds; boths = from.boths + 1; size = from.size + z })
    unfolding spots_at sizes_of
    cell-both {z} h h' w q = record { first = refl; second = refl; adds = go; short = omega (arith, nine-pos (15 - k)) }
      where
        go :
            (x y : Portion) → portion_number x ≡ i → portion_number y ≡ j → divided x y ≡ false →
            AddsAll a (spots_at k n x y) from lent (lists lent.firsts lent.seconds later)
            (record { first = from.first; second = from.second; firsts = from.firsts; seconds = from.seconds; boths = from.boths + 1; size = from.size + z })
        go none y u v e = absurd (h (sym u))
        go all none u v e = absurd (h' (sym v))
        go all all u v e = record { firsts = adds_none; seconds = adds_none; boths = adds_one q; size = omega arith }
        go all (some ns) u v e = clash e
        go (some ns) y u v e = clash e
