-- The two caps by one parameter: S where `south` is true, N where it is false. Assumes nothing.
use Rattle.std.specs.Prelude.{Bool, cond, ℕ, ◌-◌, ◌*◌, ◌^◌, ℤ, pos, neg_ℤ, ◌*ℤ◌, ◌<ℤ◌}
use Rattle.cell.specs.declared.Arrangement.{Arrangement}
use Rattle.locate.specs.Fix.{CapPoint}
use Rattle.nucleus.specs.declared.Fix.{Fix}
use Rattle.nucleus.specs.Nucleus.{fix, north_point, south_point, north_z, south_z, north_nucleus, south_nucleus}

-- the face, and n or s
abbrev pub cap_face : Bool → ℕ
cap_face south = cond south 5 0

abbrev pub first_in : Bool → Arrangement → ℕ
first_in south a = cond south a.south a.north

abbrev pub cap_point : (south : Bool) (n e d : ℕ) → CapPoint
cap_point south n e d = cond south (south_point n e d) (north_point n e d)

abbrev pub cap_z : (south : Bool) (m h : ℕ) → ℤ
cap_z south m h = cond south (south_z m h) (north_z m h)

abbrev pub cap_nucleus : (south : Bool) (n m : ℕ) → CapPoint → Fix
cap_nucleus south n m x = cond south (south_nucleus n m x) (north_nucleus n m x)

-- z has the cap's sign
abbrev pub Beyond : Bool → ℤ → Type 0
Beyond south u = cond south (u <ℤ pos 0) (pos 0 <ℤ u)

-- the mirror: a number, a point and a row of the south as the north has them, and back
abbrev pub sided : Bool → ℤ → ℤ
sided south v = cond south (neg_ℤ v) v

abbrev pub seen : Bool → CapPoint → CapPoint
seen south x = (x.0, sided south x.1)

abbrev pub row_seen : (south : Bool) (m b : ℕ) → ℕ
row_seen south m b = cond south (2 * m - b) b

abbrev pub pole_of : Bool → Fix
pole_of south = fix (neg_ℤ (pos 1800000000)) (sided south (pos (10 ^ 18)))

-- 3 m m times the size of z, before it is floored
abbrev pub rise : (m h : ℕ) → ℕ
rise m h = 1000000000000000000 * (3 * (m * m) - h * h)

-- a point so many times
abbrev pub times : ℕ → CapPoint → CapPoint
times k x = (pos k *ℤ x.0, pos k *ℤ x.1)
