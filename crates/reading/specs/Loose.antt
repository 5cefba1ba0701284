-- Nodes of the looser body (02, W-206): "same letters, digits and bracket nesting, depth 15, no list for a digit that deep, no order or uniqueness
-- asked". Assumes nothing.
use Rattle.std.specs.Prelude.{ℕ, ◌-◌, ◌<◌}
use Rattle.reading.specs.declared.Level.{Level}
use Rattle.reading.specs.declared.Level.TheVariants.{Digits}
use Rattle.reading.specs.Reading.{Nodes, end, whole, listed, many}

-- below which d digits may lie
abbrev pub Loose : Level → ℕ → Nodes → Type 0
Loose l d end = Unit {0}
Loose l d (whole c ns) = (c < many l) × Loose l d ns
Loose l d (listed c is ns) = (c < many l) × (0 < d) × Loose Digits (d - 1) is × Loose l d ns
