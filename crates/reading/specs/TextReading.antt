-- What a text is read as, computed: its profile, its arrangement, its nodes, where its body starts, and whether it is a text of the grammar.
-- Laws/TextReading shows that it is read exactly when it is accepted, and as its reading. Assumes nothing.
use Rattle.std.specs.Prelude.{Bool, true, false, cond, List, [], ◌∷◌, ℕ, suc, ◌-◌, length, drop, get_or, ltb}
use Rattle.cell.specs.declared.Arrangement.{Arrangement}
use Rattle.reading.specs.declared.Profile.{Profile}
use Rattle.reading.specs.declared.Profile.TheVariants.{Full}
use Rattle.reading.specs.Reading.{Nodes, end}
use Rattle.reading.specs.Text.{level_of, depth_of, heading_length}
use Rattle.reading.specs.Heading.{least, greatest, lead, profile_in}
use Rattle.reading.specs.Parse.{Parse, bad, got, parse}

-- the profile, the arrangement and the nodes of a text; or it is none
pub data TextRead : Type 0 where
  no_text : TextRead
  as_text : Profile → (n s : ℕ) → Nodes → TextRead

-- read to the end
unfoldable pub to_end : Profile → (n s : ℕ) → Parse → TextRead
to_end p n s bad = no_text
to_end p n s (got ns []) = as_text p n s ns
to_end p n s (got ns (b ∷ rest)) = no_text

-- read by a profile
unfoldable pub read_by : Profile → List ℕ → TextRead
read_by p t =
    cond (ltb (lead least greatest t) (heading_length p)) no_text
    (to_end p (get_or t 5 0 - 48) (get_or t 6 0 - 48) (parse (suc (length t)) (level_of p) (depth_of p) 0 (drop (heading_length p) t)))

unfoldable pub read_text : List ℕ → TextRead
unfolding read_by to_end
read_text t = read_by (profile_in t) t

abbrev pub profile_read : TextRead → Profile
profile_read no_text = Full
profile_read (as_text p n s ns) = p

abbrev pub nodes_in : TextRead → Nodes
nodes_in no_text = end
nodes_in (as_text p n s ns) = ns

abbrev pub north_in : TextRead → ℕ
north_in no_text = 0
north_in (as_text p n s ns) = n

abbrev pub south_in : TextRead → ℕ
south_in no_text = 0
south_in (as_text p n s ns) = s

abbrev pub was_read : TextRead → Bool
was_read no_text = false
was_read (as_text p n s ns) = true

-- the nodes of a text's reading
unfoldable pub nodes_of : List ℕ → Nodes
nodes_of t = nodes_in (read_text t)

-- version and depth of its heading
unfoldable pub profile_of : List ℕ → Profile
profile_of t = profile_read (read_text t)

-- n and s of its heading
unfoldable pub north_of : List ℕ → ℕ
north_of t = north_in (read_text t)

unfoldable pub south_of : List ℕ → ℕ
south_of t = south_in (read_text t)

abbrev pub text_arrangement : List ℕ → Arrangement
text_arrangement t = record { north = north_of t; south = south_of t }

-- where its body starts: behind the heading
abbrev pub body_start : List ℕ → ℕ
body_start t = heading_length (profile_of t)

-- it is a text of the grammar
unfoldable pub is_text : List ℕ → Bool
is_text t = was_read (read_text t)
