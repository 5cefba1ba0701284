-- The least depth of version 2 that nodes keep to, as the measuring pass has it (02, W-208). Assumes nothing.
use Rattle.std.specs.Prelude.{Bool, false, cond, ℕ, ◌+◌, eqb, ltb}
use Rattle.reading.specs.declared.Level.{Level}
use Rattle.reading.specs.declared.Level.TheVariants.{Faces, Belt, Digits}
use Rattle.reading.specs.declared.Profile.{Profile}
use Rattle.reading.specs.declared.Profile.TheVariants.{Full, Handheld}
use Rattle.reading.specs.Reading.{Nodes, end, whole, listed}

unfoldable pub greater : ℕ → ℕ → ℕ
greater a b = cond (ltb a b) b a

-- a node of number c that holds a list and would need the depth d: 16, more than any, where it stands only whole
abbrev pub held_depth : Level → (c d : ℕ) → ℕ
held_depth Faces c d = d
held_depth Belt c d = cond (eqb c 0) 16 (cond (eqb c 5) 16 d)
held_depth Digits c d = d

unfoldable pub depth_of_nodes : Level → Nodes → ℕ
unfolding greater
depth_of_nodes l end = 0
depth_of_nodes l (whole c ns) = depth_of_nodes l ns
depth_of_nodes l (listed c is ns) = greater (held_depth l c (depth_of_nodes Digits is + 1)) (depth_of_nodes l ns)

-- of a cell's node, by its first finest cell and its size: a face has 9^15 finest cells, the face N is the first and S the sixth
unfoldable pub depth_above : (start size below : ℕ) → ℕ
depth_above start size below = cond (eqb size 205891132094649) (cond (eqb start 0) 16 (cond (eqb start 1029455660473245) 16 (below + 1))) (below + 1)

abbrev pub breaks : Profile → ℕ → Bool
breaks Full depth = false
breaks (Handheld d) depth = ltb d depth

-- nodes of cells that have 9^k finest cells each
abbrev pub level_for : ℕ → Level
level_for k = cond (eqb k 15) Belt Digits
