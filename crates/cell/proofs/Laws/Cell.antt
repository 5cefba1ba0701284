-- A cell is what is not refused; an arrangement too. Assumes nothing.
use Rattle.std.specs.Prelude.{◌≡◌, refl, Bool, true, false, ◌^◌, ◌<◌, ltb}
use Rattle.std.proofs.Common.{lt_of_lt_of_le, ltb-false, leb-false, le-ltb}
use Rattle.std.proofs.lemmas.Bool.{lt-leb}
use Rattle.logic.specs.Refusal.{refuse, ◌otherwise◌}
use Rattle.logic.specs.Laws.Refusal.{both, allowed}
use Rattle.ternary.proofs.Laws.Powers.{power_le}
use Rattle.cell.specs.declared.Cell.{Cell}
use Rattle.cell.specs.declared.Arrangement.{Arrangement}
use Rattle.cell.specs.Cell.{IsCell, IsArrangement, cell_refusal, arrangement_refusal}

pub is-cell : {c : Cell} → cell_refusal c ≡ 0 → IsCell c
unfolding cell_refusal
is-cell {c} e =
    let p = both _ _ e in
    let q = both _ _ p.1 in
    let r = both _ _ q.1 in
    record {
      fine = ltb-false 15 c.resolution (allowed 1 _ p.0);
      faced = ltb-false 5 c.face (allowed 0 _ q.0);
      rowed = leb-false (3 ^ c.resolution) c.row (allowed 2 _ r.0);
      columned = leb-false (3 ^ c.resolution) c.column (allowed 2 _ r.1);
    }

pub cell-is : {c : Cell} → IsCell c → cell_refusal c ≡ 0
unfolding cell_refusal ◌otherwise◌
cell-is {c} v =
    simp
    (le-ltb 15 c.resolution v.fine, le-ltb 5 c.face v.faced, lt-leb (3 ^ c.resolution) c.row v.rowed, lt-leb (3 ^ c.resolution) c.column v.columned)

pub is-arrangement : {a : Arrangement} → arrangement_refusal a ≡ 0 → IsArrangement a
unfolding arrangement_refusal
is-arrangement {a} e =
    let p = both _ _ e in
    record { northern = ltb-false 3 a.north (allowed 4 _ p.0); southern = ltb-false 3 a.south (allowed 4 _ p.1) }

pub arrangement-is : {a : Arrangement} → IsArrangement a → arrangement_refusal a ≡ 0
unfolding arrangement_refusal ◌otherwise◌
arrangement-is {a} v = simp (le-ltb 3 a.north v.northern, le-ltb 3 a.south v.southern)

-- the greatest row and column
pub row_small : {c : Cell} → IsCell c → c.row < 14348907
row_small v = lt_of_lt_of_le v.rowed (power_le {j = 15} v.fine)

pub column-small : {c : Cell} → IsCell c → c.column < 14348907
column-small v = lt_of_lt_of_le v.columned (power_le {j = 15} v.fine)

-- a bad arrangement is refused with 5
pub five-refused : (a : Arrangement) → (arrangement_refusal a ≡ 0 → ⊥) → arrangement_refusal a ≡ 5
unfolding arrangement_refusal ◌otherwise◌
five-refused a h = go (ltb 3 a.north) (ltb 3 a.south) h
  where
    go : (s t : Bool) → (refuse s 5 otherwise refuse t 5 ≡ 0 → ⊥) → refuse s 5 otherwise refuse t 5 ≡ 5
    go true t h = refl
    go false true h = refl
    go false false h = absurd (h refl)
