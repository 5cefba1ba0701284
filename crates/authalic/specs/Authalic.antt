-- What W-203 asks of our answer, and where it is refused. Assumes nothing.
use Rattle.std.specs.Prelude.{◌≡◌, Bool, true, ◌&&◌, not, ℕ, ◌^◌, ◌≤◌, leb, ltb, ℤ, pos, neg_ℤ, ◌≤ℤ◌}
use Rattle.std.specs.Int.Signed.{le_z}
use Rattle.logic.specs.Refusal.{refuse}
use Rattle.authalic.specs.Sums.{Near}

-- "the sine of the geodetic latitude, S, -10^18 to 10^18 .., and .. the squared eccentricity E .., from 0 to 10,000,000,000"
pub record Geodetic (S : ℤ) (E : ℕ) : Type 0 where
  pub south : neg_ℤ (pos (10 ^ 18)) ≤ℤ S
  pub north : S ≤ℤ pos (10 ^ 18)
  pub eccentricity : E ≤ 10000000000

-- the same as tests (Laws/Authalic, `six-exactly`)
unfoldable pub is_sine : ℤ → Bool
is_sine S = le_z (neg_ℤ (pos (10 ^ 18))) S && le_z S (pos (10 ^ 18))

unfoldable pub is_geodetic : (S : ℤ) (E : ℕ) → Bool
is_geodetic S E = is_sine S && leb E 10000000000

-- "6 also for S or E out of range"
unfoldable pub sine_refusal : (S : ℤ) (E : ℕ) → ℕ
unfolding is_geodetic is_sine
sine_refusal S E = refuse (not (is_geodetic S E)) 6

-- of E alone, as it is held
unfoldable pub eccentricity_refusal : (E : ℕ) → ℕ
eccentricity_refusal E = refuse (ltb 10000000000 E) 6

-- what an answer has to be, for every S and E in range
pub record Authalic (answer : ℤ → ℕ → ℤ) : Type 0 where
  -- "within 200 units of that exact quotient"
  pub near : (S : ℤ) (E : ℕ) → Geodetic S E → Near 200 E S (answer S E)
  -- "odd in S"
  pub odd : (S : ℤ) (E : ℕ) → answer (neg_ℤ S) E ≡ neg_ℤ (answer S E)
  -- "exact at 0 and at both poles"
  pub equator : (E : ℕ) → answer (pos 0) E ≡ pos 0
  pub north : (E : ℕ) → E ≤ 10000000000 → answer (pos (10 ^ 18)) E ≡ pos (10 ^ 18)
  pub south : (E : ℕ) → E ≤ 10000000000 → answer (neg_ℤ (pos (10 ^ 18))) E ≡ neg_ℤ (pos (10 ^ 18))
  -- "never outside -10^18 to 10^18"
  pub low : (S : ℤ) (E : ℕ) → Geodetic S E → neg_ℤ (pos (10 ^ 18)) ≤ℤ answer S E
  pub high : (S : ℤ) (E : ℕ) → Geodetic S E → answer S E ≤ℤ pos (10 ^ 18)
  -- on a sphere the two latitudes are one
  pub sphere : (S : ℤ) → Geodetic S 0 → answer S 0 ≡ S
  -- two fixes never change order
  pub rises : (S T : ℤ) (E : ℕ) → Geodetic S E → Geodetic T E → S ≤ℤ T → answer S E ≤ℤ answer T E
