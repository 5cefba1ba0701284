-- The place of refusal 9 (01 "Refusal numbers"). Assumes nothing.
use Rattle.std.specs.Prelude.{List, cond, ℕ, ◌+◌, drop, ltb}
use Rattle.logic.specs.Longest.{BeginsOne, LongestOf}
use Rattle.reading.specs.declared.Profile.{Profile}
use Rattle.reading.specs.Text.{level_of, depth_of, heading_length, Accepted}
use Rattle.reading.specs.Heading.{least, greatest, lead, profile_in}
use Rattle.reading.specs.Scan.{scan, start}

-- "some accepted text" of either version "begins with" p, "length limit aside"
abbrev pub Begins : List ℕ → Type 0
Begins p = BeginsOne Accepted p

-- "the length of the longest leading part that some accepted text begins with"
abbrev pub Longest : List ℕ → ℕ → Type 0
Longest t k = LongestOf Accepted t k

-- ---- computed: by the test of the heading and the scan of the body (Laws/Place shows that it is the longest)

unfoldable pub place_by : Profile → List ℕ → ℕ
place_by p t =
    cond (ltb (lead least greatest t) (heading_length p)) (lead least greatest t)
    (heading_length p + scan (level_of p) (depth_of p) start (drop (heading_length p) t))

unfoldable pub place_of : List ℕ → ℕ
unfolding place_by
place_of t = place_by (profile_in t) t
