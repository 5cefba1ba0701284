-- A quotient and its rest. Assumes nothing.
use Rattle.std.specs.Prelude.{◌≡◌, ℕ, ◌/◌, ◌%◌}
use Rattle.division.specs.declared.Quotient.{Quotient}

-- n divided by d
pub record Divided (n d : ℕ) (r : Quotient) : Type 0 where
  pub whole : r.whole ≡ n / d
  pub rest : r.rest ≡ n % d
