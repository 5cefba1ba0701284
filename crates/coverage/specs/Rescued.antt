-- What `coverage rescue` puts out (02, W-206): the proper text, and "a list of what was changed". Assumes nothing.
use Rattle.std.specs.Prelude.{◌≡◌, List, [], ◌∷◌, ◌++◌, ℕ, ◌*◌, ◌≤◌, ◌<◌, length, take, drop}
use Rattle.logic.specs.Refusal.{given}
use Rattle.loose.specs.Look.{place_with}
use Rattle.proper.specs.Proper.{proper_of}
use Rattle.proper.specs.Changes.{Change}
use Rattle.rescue.specs.Rescue.{flat, changes_of}
use Rattle.report.specs.Changes.{change_line}
use Rattle.coverage.specs.declared.RescueRooms.{RescueRooms}

-- the proper text stands in front of its room, and what was changed, place, kind, place, kind .., in front of the other; with a refusal neither, and
-- the place of 9
pub record RescueLeft (refusal : ℕ) (t out list : List ℕ) (r : RescueRooms) : Type 0 where
  pub text : take r.end out ≡ given refusal (proper_of t) []
  pub changed : take r.numbers list ≡ given refusal (flat (changes_of t)) []
  pub refused : r.refusal ≡ refusal
  pub placed : r.place ≡ place_with refusal t
  pub text-fits : r.end ≤ length out
  pub list-fits : r.numbers ≤ length list

-- a line for each change, in their order
unfoldable pub change_lines : List Change → List ℕ
change_lines [] = []
change_lines (x ∷ xs) = change_line x.place x.kind ++ change_lines xs

-- Lines are put one behind the other into a room, and where it is short all that wait there are said first. Of what was said no statement can speak; so
-- this one speaks of what waits: whole lines up to the last change, all of them where the room has 81 bytes for each
pub record ChangesWritten (changes : List Change) (out : List ℕ) (waiting : ℕ) : Type 0 where
  pub from : ℕ
  pub lines : take waiting out ≡ change_lines (drop from changes)
  pub some : 0 < length changes → from < length changes
  pub all : 81 * length changes ≤ length out → from ≡ 0
  pub fits : waiting ≤ length out

-- the same of changes that are given as numbers
pub record ChangesIn (list out : List ℕ) (waiting : ℕ) : Type 0 where
  pub of : (changes : List Change) → list ≡ flat changes → ChangesWritten changes out waiting
