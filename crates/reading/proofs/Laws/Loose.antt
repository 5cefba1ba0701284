-- Nodes of the grammar are nodes of the looser form. Assumes nothing.
use Rattle.std.specs.Prelude.{ℕ, suc, ◌-◌, ◌≤◌}
use Rattle.std.proofs.Common.{arith}
use Rattle.reading.specs.declared.Level.{Level}
use Rattle.reading.specs.declared.Level.TheVariants.{Digits}
use Rattle.reading.specs.Reading.{Nodes, end, whole, listed, room, Good}
use Rattle.reading.proofs.Laws.Reading.{room-le}
use Rattle.reading.specs.Loose.{Loose}

pub good-loose : (ns : Nodes) (l : Level) (e d lo : ℕ) → e ≤ d → Good l e lo ns → Loose l d ns
good-loose end l e d lo h g = tt
good-loose (whole c ns) l e d lo h g = (g.1, good-loose ns l e d (suc c) h g.2)
good-loose (listed c is ns) l e d lo h g =
    let r = room-le l c e in
    (g.1, omega (arith, g.2), good-loose is Digits (room l c e - 1) (d - 1) 0 (omega arith) g.5, good-loose ns l e d (suc c) h g.6)
