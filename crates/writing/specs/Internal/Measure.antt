-- What the measuring pass says of the codes from a place on: for every cell that stands there with its name, the node that is built. Assumes nothing.
use Rattle.std.specs.Prelude.{◌≡◌, true, cond, ◌⊎◌, List, [], ◌∷◌, ◌++◌, map, ℕ, suc, ◌+◌, ◌-◌, ◌*◌, ◌%◌, ◌^◌, ◌≤◌, ◌<◌, ltb, length, drop, get_or}
use Rattle.cell.specs.declared.Cell.{Cell}
use Rattle.code.specs.Code.{cell_of}
use Rattle.code.specs.Inside.{start_of}
use Rattle.reading.specs.declared.Level.{Level}
use Rattle.reading.specs.Reading.{Nodes, render, wholes as wholes_in}
use Rattle.reading.specs.Ground.{cell_named, size_sum}
use Rattle.reading.specs.Prefix.{Name, numbers_of, Prefix, Ahead, IsName}
use Rattle.writing.specs.declared.Measure.{Measure}
use Rattle.reading.specs.Written.{node_of, side, under}
use Rattle.writing.specs.Write.{all_codes}
use Rattle.writing.specs.Internal.Take.{rests_of, Each, Standing, Took}
use Rattle.writing.specs.Internal.Depth.{greater, depth_of_nodes, level_for}

-- the names of the codes from a place on
abbrev pub names_from : List ℕ → ℕ → List Name
names_from codes at = map numbers_of (map cell_of (drop at codes))

-- the cell of the code at a place
abbrev pub next_cell : List ℕ → ℕ → Cell
next_cell codes at = cell_of (get_or codes at 0)

-- the sum of the sizes of the codes from a place on
abbrev pub size_from : List ℕ → ℕ → ℕ
size_from codes at = size_sum (map cell_of (drop at codes))

-- n cells of a size have so many whole ones among them: all, and every finest cell of theirs was taken, or not all, and some was not
abbrev pub Fills : (wholes n size from to : ℕ) → Type 0
Fills wholes n size from to = ((wholes ≡ n) × (from ≡ n * size + to)) ⊎ ((wholes < n) × (from < n * size + to))

-- the cell named w, of this start and this size, takes the codes from here on, and has the first inside
pub record NodeAt (codes : List ℕ) (at : ℕ) (w : Name) (start size k : ℕ) : Type 0 where
  pub coded : all_codes codes ≡ true
  pub standing : Standing w (names_from codes at)
  pub named : IsName 6 15 w
  pub starts : start_of (cell_named w) ≡ start
  pub sized : size ≡ 9 ^ k
  pub depth : length w + k ≡ 16
  pub inside : Prefix w (numbers_of (next_cell codes at))

-- so do the cells behind w of the numbers from c on
pub record ListAt (codes : List ℕ) (at : ℕ) (w : Name) (c left start size k : ℕ) : Type 0 where
  pub coded : all_codes codes ≡ true
  pub standing : Standing (w ++ (c ∷ [])) (names_from codes at)
  pub numbered :
      (b : ℕ) → c ≤ b → b < left + c → IsName 6 15 (w ++ (b ∷ [])) × (start_of (cell_named (w ++ (b ∷ []))) ≡ start + (b - c) * size)
  pub sized : size ≡ 9 ^ k
  pub depth : suc (length w) + k ≡ 16

-- the node that is built of the names inside w
pub record NodeTakes (codes : List ℕ) (at : ℕ) (w : Name) (k next bytes wholes : ℕ) : Type 0 where
  pub took : Took w (names_from codes at) (names_from codes next)
  pub past : Each (Ahead w) (names_from codes next)
  pub long : (l : Level) (c : ℕ) (rest : Nodes) → length (render l (node_of (under k) c (rests_of w (names_from codes at)) rest)) ≡ bytes + length (render l rest)
  pub whole : (c : ℕ) (rest : Nodes) → wholes_in (node_of (under k) c (rests_of w (names_from codes at)) rest) ≡ wholes + wholes_in rest
  pub fills : Fills wholes 1 (9 ^ k) (size_from codes at) (size_from codes next)

pub record ListTakes (codes : List ℕ) (at : ℕ) (w : Name) (c left k next bytes wholes : ℕ) : Type 0 where
  pub took : Took w (names_from codes at) (names_from codes next)
  pub past : Standing (w ++ ((left + c) ∷ [])) (names_from codes next)
  pub long : (l : Level) → length (render l (side (under k) left c (rests_of w (names_from codes at)))) ≡ bytes
  pub whole : wholes_in (side (under k) left c (rests_of w (names_from codes at))) ≡ wholes
  pub fills : Fills wholes left (9 ^ k) (size_from codes at) (size_from codes next)

-- the node that is built of the names inside w keeps to this depth, and to no lesser one; so do the nodes of a list
pub record NodeDepth (codes : List ℕ) (at : ℕ) (w : Name) (k depth : ℕ) : Type 0 where
  pub is :
      (u : Name) (c : ℕ) (rest : Nodes) → w ≡ u ++ (c ∷ []) →
      depth_of_nodes (level_for k) (node_of (under k) c (rests_of w (names_from codes at)) rest) ≡ greater depth (depth_of_nodes (level_for k) rest)

pub record ListDepth (codes : List ℕ) (at : ℕ) (w : Name) (c left k depth : ℕ) : Type 0 where
  pub is : depth_of_nodes (level_for k) (side (under k) left c (rests_of w (names_from codes at))) ≡ depth

-- ---- what is promised

-- where the cell of this size begins that has a finest cell inside, cells being counted from `base` on
abbrev pub cell_start : (base size finest : ℕ) → ℕ
cell_start base size finest = cond (ltb finest base) base (finest - (finest - base) % size)

-- the first finest cell of the code at a place, or a number above all of them
pub record StartAtPlace (codes : List ℕ) (at first : ℕ) : Type 0 where
  pub some : at < length codes → first ≡ start_of (next_cell codes at)
  pub none : length codes ≤ at → first ≡ 2 ^ 60

-- of each cell of this size that is one of those from `base` on
pub record NodeMeasured (codes : List ℕ) (at base size : ℕ) (r : Measure) : Type 0 where
  pub is : (w : Name) (k j : ℕ) → NodeAt codes at w (base + j * size) size k → NodeTakes codes at w k r.next r.bytes r.wholes
  pub inside : r.next ≤ length codes
  pub short : r.bytes + 1 ≤ 2 * size
  pub few : r.wholes ≤ 1
  pub deep : (w : Name) (k j : ℕ) → NodeAt codes at w (base + j * size) size k → NodeDepth codes at w k r.depth
  pub shallow : r.depth ≤ size + 16

pub record ListMeasured (codes : List ℕ) (at left start size : ℕ) (r : Measure) : Type 0 where
  pub is : (w : Name) (c k : ℕ) → ListAt codes at w c left start size k → ListTakes codes at w c left k r.next r.bytes r.wholes
  pub inside : r.next ≤ length codes
  pub short : r.bytes + left ≤ left * (2 * size)
  pub few : r.wholes ≤ left
  pub deep : (w : Name) (c k : ℕ) → ListAt codes at w c left start size k → ListDepth codes at w c left k r.depth
  pub shallow : r.depth ≤ size + 16
