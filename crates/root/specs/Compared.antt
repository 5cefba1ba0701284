-- A comparison with a root (01 "From a fix to a cell": "decided by sign and by whole-number squares"), over signed whole numbers. Assumes nothing.
use Rattle.std.specs.Prelude.{Bool, true, ℕ, suc, ◌+◌, ◌*◌, ℤ, pos, negsuc, leb}
use Rattle.root.specs.Floor.{square}

-- x ≤ y √t; `negsuc n` is -(n + 1). A number from 0 up is at most one up to 0 only where both are 0
unfoldable pub at_most_root : (x y : ℤ) (t : ℕ) → Bool
at_most_root (pos x) (pos y) t = leb (square x) (square y * t)
at_most_root (pos x) (negsuc y) t = leb (square x + square (suc y) * t) 0
at_most_root (negsuc x) (pos y) t = true
at_most_root (negsuc x) (negsuc y) t = leb (square (suc y) * t) (square (suc x))
