-- The cell at a place, by how far east it lies and by z. Assumes nothing.
use Rattle.std.specs.Prelude.{◌≡◌, refl, Bool, true, false, ℕ, ℤ, pos}
use Rattle.std.proofs.Math.Path.{ap}
use Rattle.std.proofs.Common.{◌∙◌}
use Rattle.std.proofs.Math.Bool.{cond}
use Rattle.std.specs.Int.Signed.{lt_z}
use Rattle.cell.specs.declared.Cell.{Cell}
use Rattle.cell.specs.declared.Arrangement.{Arrangement}
use Rattle.locate.specs.Fix.{is_belt, east_of, offset_of, height_of, belt_cell, north_cell, south_cell, fix_cell}

-- an arrangement by its two numbers
abbrev pub arranged : (n s : ℕ) → Arrangement
arranged n s = record { north = n; south = s }

unfoldable pub place_cell : Arrangement → (k east : ℕ) → ℤ → Cell
place_cell a k east z =
    cond (is_belt z) (belt_cell k east (offset_of z))
    (cond (lt_z z (pos 0)) (south_cell a.south k east (height_of z)) (north_cell a.north k east (height_of z)))

pub fix-place : (a : Arrangement) (k : ℕ) (L z : ℤ) → place_cell a k (east_of L) z ≡ fix_cell a k L z
unfolding fix_cell place_cell
fix-place a k L z = refl

module _ (a : Arrangement) (k east : ℕ) (z : ℤ) where
  abbrev in_north : Cell
  in_north = north_cell a.north k east (height_of z)

  abbrev in_south : Cell
  in_south = south_cell a.south k east (height_of z)

  pub place-belt : is_belt z ≡ true → place_cell a k east z ≡ belt_cell k east (offset_of z)
  unfolding place_cell
  place-belt e = ap (λ (t : Bool). cond t (belt_cell k east (offset_of z)) (cond (lt_z z (pos 0)) in_south in_north)) e

  outside-belt : is_belt z ≡ false → place_cell a k east z ≡ cond (lt_z z (pos 0)) in_south in_north
  unfolding place_cell
  outside-belt e = ap (λ (t : Bool). cond t (belt_cell k east (offset_of z)) (cond (lt_z z (pos 0)) in_south in_north)) e

  pub place-south : is_belt z ≡ false → lt_z z (pos 0) ≡ true → place_cell a k east z ≡ in_south
  place-south e f = outside-belt e ∙ ap (λ (t : Bool). cond t in_south in_north) f

  pub place-north : is_belt z ≡ false → lt_z z (pos 0) ≡ false → place_cell a k east z ≡ in_north
  place-north e f = outside-belt e ∙ ap (λ (t : Bool). cond t in_south in_north) f
