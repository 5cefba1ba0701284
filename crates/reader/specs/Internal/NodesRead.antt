-- What the node reader and the list reader hand back. Assumes nothing.
use Rattle.std.specs.Prelude.{◌≡◌, List, ℕ, ◌-◌, ◌/◌, ◌<◌, length, drop, None, Option, Some}
use Rattle.reader.specs.declared.NodesRead.{NodesRead}
use Rattle.reading.specs.declared.Level.{Level}
use Rattle.reading.specs.declared.Level.TheVariants.{Digits}
use Rattle.reading.specs.Reading.{wholes}
use Rattle.reading.specs.Parse.{Parse, bad, got, Item, wrong, bare, held, item, parse}
use Rattle.reading.specs.Report.{count, size_along}

-- of nodes that were read, in a text of n bytes; z is the size of a cell of their level
abbrev pub of_nodes : ℕ → ℕ → Parse → Option NodesRead
of_nodes n z bad = None
of_nodes n z (got ns rest) = Some (record { next = n - length rest; cells = count ns; sum = size_along z ns; wholes = wholes ns })

-- of what follows a letter or digit; z is the size of its cell
abbrev pub of_node : ℕ → ℕ → Item → Option NodesRead
of_node n z wrong = None
of_node n z (bare rest) = Some (record { next = n - length rest; cells = 1; sum = z; wholes = 1 })
of_node n z (held is rest) = Some (record { next = n - length rest; cells = count is; sum = size_along (z / 9) is; wholes = 0 })

-- the node reader hands back what the definition finds, with any n above the number of unread bytes
pub record ReadsNode (s : List ℕ) (at d z : ℕ) (r : Option NodesRead) : Type 0 where
  pub is : (n : ℕ) → length s - at < n → r ≡ of_node (length s) z (item (λ e cs. parse n Digits e 0 cs) d (drop at s))

-- and so does the list reader
pub record ReadsNodes (s : List ℕ) (at lo : ℕ) (l : Level) (d z : ℕ) (r : Option NodesRead) : Type 0 where
  pub is : (n : ℕ) → length s - at < n → r ≡ of_nodes (length s) z (parse n l d lo (drop at s))
