-- What checking reports of a reading (01 "The coverage text"): "the number of whole cells in the reading and the sum of their sizes", computed along
-- the nodes. Laws/Demand shows that they are the length of `whole_cells` and its `size_sum`. Assumes nothing.
use Rattle.std.specs.Prelude.{ℕ, ◌+◌, ◌/◌}
use Rattle.reading.specs.Reading.{Nodes, end, whole, listed}

-- the number of whole cells
abbrev pub count : Nodes → ℕ
count end = 0
count (whole c ns) = 1 + count ns
count (listed c is ns) = count is + count ns

-- the sum of their sizes, where a cell of the nodes' own level has size z
abbrev pub size_along : ℕ → Nodes → ℕ
size_along z end = 0
size_along z (whole c ns) = z + size_along z ns
size_along z (listed c is ns) = size_along (z / 9) is + size_along z ns
