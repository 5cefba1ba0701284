-- The range of a geodetic sine and of an eccentricity, by tests. Assumes nothing.
use Rattle.std.specs.Prelude.{◌≡◌, refl, Bool, true, false, ℕ, ◌^◌, T, leb, ℤ, pos, neg_ℤ}
use Rattle.std.proofs.Common.{sym, leb-true, le-leb}
use Rattle.std.specs.Int.Signed.{le_z}
use Rattle.logic.specs.Laws.Bools.{and_left, and_right, clash}
use Rattle.authalic.specs.Authalic.{Geodetic, is_sine, is_geodetic}

pub tested : (t : Bool) → T t → t ≡ true
tested true h = refl
tested false h = absurd h

pub passed : (t : Bool) → t ≡ true → T t
passed true e = tt
passed false e = clash (sym e)

-- ---- the range

pub geodetic-tests : {S : ℤ} {E : ℕ} → Geodetic S E → is_geodetic S E ≡ true
unfolding is_geodetic is_sine
geodetic-tests {S} {E} g =
    rw (
      tested (le_z (neg_ℤ (pos (10 ^ 18))) S) g.south.le,
      tested (le_z S (pos (10 ^ 18))) g.north.le,
      le-leb E 10000000000 g.eccentricity,
    )

pub geodetic-range : {S : ℤ} {E : ℕ} → is_geodetic S E ≡ true → Geodetic S E
unfolding is_geodetic is_sine
geodetic-range {S} {E} e =
    let s = and_left (is_sine S) (leb E 10000000000) e in
    record {
      south = record { le = passed (le_z (neg_ℤ (pos (10 ^ 18))) S) (and_left (le_z (neg_ℤ (pos (10 ^ 18))) S) (le_z S (pos (10 ^ 18))) s) };
      north = record { le = passed (le_z S (pos (10 ^ 18))) (and_right (le_z (neg_ℤ (pos (10 ^ 18))) S) (le_z S (pos (10 ^ 18))) s) };
      eccentricity = leb-true E 10000000000 (and_right (is_sine S) (leb E 10000000000) e);
    }
