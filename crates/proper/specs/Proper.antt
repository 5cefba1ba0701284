-- The proper text of a looser one (02, W-206): "give the proper text of the same ground". Laws/Proper shows that it is accepted, of the same ground, and
-- never longer. Assumes nothing.
use Rattle.std.specs.Prelude.{List, ◌++◌, ℕ, drop}
use Rattle.reading.specs.declared.Level.TheVariants.{Faces}
use Rattle.reading.specs.declared.Profile.TheVariants.{Full}
use Rattle.reading.specs.Reading.{Nodes, render, names}
use Rattle.reading.specs.Text.{heading}
use Rattle.reading.specs.Written.{built}
use Rattle.loose.specs.LooseScan.{loose_nodes}
use Rattle.loose.specs.Look.{loose_north, loose_south}

-- the nodes of the fewest cells of the looser reading's ground
unfoldable pub answer : Nodes → Nodes
answer ns = built 15 6 (names ns)

unfoldable pub rescued : (n s : ℕ) → Nodes → List ℕ
unfolding answer
rescued n s ns = heading Full n s ++ render Faces (answer ns)

-- of a text's bytes
unfoldable pub proper_of : List ℕ → List ℕ
unfolding rescued
proper_of t = rescued (loose_north t) (loose_south t) (loose_nodes (drop 7 t))
