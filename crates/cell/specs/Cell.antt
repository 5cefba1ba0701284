-- Cells and arrangements (01 "Faces, rows, names, codes" and "The grid we keep"), and their refusals. Assumes nothing.
use Rattle.std.specs.Prelude.{ℕ, zero, suc, ◌≤◌, ◌<◌, ◌^◌, leb, ltb, Err, Ok, Result}
use Rattle.logic.specs.Refusal.{refuse, ◌otherwise◌}
use Rattle.cell.specs.declared.Cell.{Cell}
use Rattle.cell.specs.declared.Arrangement.{Arrangement}

-- "resolutions 0 to 15"; "Faces 0 to 5"; "let m = 3^k. A cell is a face, a row i from the top and a column j from the left, both from 0 to m - 1"
pub record IsCell (c : Cell) : Type 0 where
  pub fine : c.resolution ≤ 15
  pub faced : c.face ≤ 5
  pub rowed : c.row < 3 ^ c.resolution
  pub columned : c.column < 3 ^ c.resolution

-- 2: resolution above 15. 1: face above 5. 3: row or column not below 3^k
unfoldable pub cell_refusal : Cell → ℕ
cell_refusal c =
    refuse (ltb 15 c.resolution) 2 otherwise
    refuse (ltb 5 c.face) 1 otherwise
    refuse (leb (3 ^ c.resolution) c.row) 3 otherwise
    refuse (leb (3 ^ c.resolution) c.column) 3

-- "all sixteen arrangements (n, s), each of n and s from 0 to 3"
pub record IsArrangement (a : Arrangement) : Type 0 where
  pub northern : a.north ≤ 3
  pub southern : a.south ≤ 3

-- 5: n or s given as a number above 3
unfoldable pub arrangement_refusal : Arrangement → ℕ
arrangement_refusal a = refuse (ltb 3 a.north) 5 otherwise refuse (ltb 3 a.south) 5

-- a cell, or the number of the refusal
unfoldable pub found : ℕ → Cell → Result Cell ℕ
found zero c = Ok c
found (suc r) c = Err (suc r)
