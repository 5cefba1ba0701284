-- Whether a text with one cell more breaks its profile, told by the edit and the name (02, W-208). FitLaws shows that it is so exactly when the fewest
-- cells of the new ground break it. Assumes nothing.
use Rattle.std.specs.Prelude.{Bool, false, ℕ, ltb}
use Rattle.reading.specs.declared.Profile.{Profile}
use Rattle.reading.specs.Reading.{room}
use Rattle.reading.specs.Text.{level_of, depth_of}
use Rattle.adding.specs.declared.Edit.{Edit}
use Rattle.adding.specs.declared.Edit.TheVariants.{Covered, Put, Cut, Full}

-- a covered cell changes nothing; any other one breaks the profile where it has more digits than may lie below its face
abbrev pub breaks : Profile → (face digits : ℕ) → Edit → Bool
breaks p x n Covered = false
breaks p x n (Put i k) = ltb (room (level_of p) x (depth_of p)) n
breaks p x n (Cut i j) = ltb (room (level_of p) x (depth_of p)) n
breaks p x n (Full e) = ltb (room (level_of p) x (depth_of p)) n
