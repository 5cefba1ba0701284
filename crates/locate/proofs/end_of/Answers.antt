-- `locate::end_of` meets its contract: the south's turns are the north's, counted back. Assumes nothing.
use mathlib.Core.Path.{◌≡◌, ap, ◌∙◌, subst}
use mathlib.Core.Bool.{Bool, true, false, not, cond}
use Prim.Native.Nat.{ℕ, ◌+◌, ◌-◌, ◌/◌, ◌%◌, ◌≤◌}
use native.Mathlib.Omega.{arith}
use lib.IntN.{ℤ, pos, neg_ℤ}
use Rattle.cell.specs.declared.Arrangement.{Arrangement}
use Rattle.cell.specs.Cell.{IsArrangement}
use Rattle.cell.specs.Neighbour.{turn_of}
use Rattle.root.specs.Floor.{axis_of}
use Rattle.locate.specs.Fix.{CapPoint, quarter, start_north, start_south, turned_north}
use Rattle.locate.specs.Internal.End.{Stands, turned_end}
use Rattle.locate.proofs.Laws.Turn.{south-turned}
use Rattle.locate.proofs.end_of.Goals as goal

-- the turns of either cap, from its own start
module _ (a : Arrangement) (east : ℕ) (u : ℤ) (v : IsArrangement a) (h : east / quarter ≤ 3) where
  abbrev turns : Bool → ℕ
  turns south = cond south ((a.south + 4 - east / quarter) % 4) (turn_of (east / quarter) a.north)

  ended : (b : Bool) → u ≡ (start_north (east % quarter)).0 → turned_north (turns b) (u, cond (not b) (neg_ℤ (pos quarter)) (pos quarter)) ≡ turned_end a b east
  unfolding start_north start_south
  ended true e =
      ap (λ (x : ℤ). turned_north (turns true) (x, pos quarter)) e
      ∙ south-turned (east / quarter) a.south (start_south (east % quarter)) h (omega (arith, v.northern, v.southern))
  ended false e = ap (λ (x : ℤ). turned_north (turns false) (x, neg_ℤ (pos quarter))) e

pub returns : goal.returns
unfolding start_north
returns c =
    let s = c in
    let a = s.args in
    let y : ℤ = cond (not a.south) (neg_ℤ (pos quarter)) (pos quarter) in
    let u : ℤ = axis_of c.across.result in
    let e : turned_north c.turns_of-turns.result (u, y) ≡ turned_end a.arrangement a.south a.east =
    ap (λ (j : ℕ). turned_north j (u, y)) c.turns_of-turns.ensures.1
    ∙ ended a.arrangement a.east u s.requires.arrangement (omega arith) a.south c.across.ensures.0
    in
    subst (λ (x : CapPoint). Stands x c.turned.result) e c.turned.ensures
