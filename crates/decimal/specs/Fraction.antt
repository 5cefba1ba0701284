-- Numbers with a decimal point: digits, with or without a point (byte 46) and digits behind it, up to 15 digits in all. Assumes nothing.
use Rattle.std.specs.Prelude.{cond, List, ℕ, ◌+◌, ◌*◌, ◌^◌, eqb, leb, length, None, Option, Some}
use Rattle.decimal.specs.Decimal.{whole_in, ahead, behind}

-- digits alone
abbrev pub as_fraction : Option ℕ → Option (ℕ × ℕ)
as_fraction (Some n) = Some (n, 1)
as_fraction None = None

unfoldable pub whole_fraction : List ℕ → Option (ℕ × ℕ)
whole_fraction bs = cond (leb (length bs) 15) (as_fraction (whole_in bs)) None

-- so many digits behind the point: the number that all digits write, over that power of ten
abbrev pub with_places : ℕ → Option ℕ → Option ℕ → Option (ℕ × ℕ)
with_places k (Some front) (Some back) = Some (front * 10 ^ k + back, 10 ^ k)
with_places k (Some front) None = None
with_places k None back = None

unfoldable pub point_fraction : List ℕ → Option (ℕ × ℕ)
point_fraction bs = cond (leb (length bs) 16) (with_places (length (behind 46 bs)) (whole_in (ahead 46 bs)) (whole_in (behind 46 bs))) None

unfoldable pub fraction_in : List ℕ → Option (ℕ × ℕ)
unfolding whole_fraction point_fraction
fraction_in bs = cond (eqb (length (ahead 46 bs)) (length bs)) (whole_fraction bs) (point_fraction bs)
