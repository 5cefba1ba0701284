-- The two files (02, W-205): "one it can't read counts as empty". Assumes nothing.
use Rattle.std.specs.Prelude.{ℕ, None, Option, Some}

abbrev pub bytes_of : Option ℕ → ℕ
bytes_of (Some n) = n
bytes_of None = 0
