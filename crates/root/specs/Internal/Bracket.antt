-- What the value of a floor over a root lies between, by the whole root alone (01 "Errors a builder will be drawn to": "Rounding the root first and
-- flooring after: wrong within a hair of an edge"; so both ends are kept). Assumes nothing.
use Rattle.std.specs.Prelude.{Bool, cond, ℕ, ◌+◌, ◌-◌, ◌*◌, ◌/◌}

-- With root ≤ √radicand < root + 1 and a part of size g, the value times 1,800,000,000,000,000,000 / m is at least the first of these and at most the second
abbrev pub low_part : (minus : Bool) (g root : ℕ) → ℕ
low_part minus g root = cond minus (900000000000000000 - g * (root + 1)) (900000000000000000 + g * root)

abbrev pub high_part : (minus : Bool) (g root : ℕ) → ℕ
high_part minus g root = cond minus (900000000000000000 - g * root) (900000000000000000 + g * (root + 1))

-- and this is the whole part of either
abbrev pub share : (m x : ℕ) → ℕ
share m x = m * x / 1800000000000000000
