-- What `compare` prints (02, W-205): "names, one a line, an empty line after each listing, or the refusal number alone on its line". Assumes nothing.
use Rattle.std.specs.Prelude.{◌≡◌, true, false, ◌⊎◌, List, ℕ, zero, suc, ◌+◌, ◌*◌, ◌≤◌, ◌<◌, length, take, drop, None, Option, Some}
use Rattle.report.specs.Names.{listing_lines}
use Rattle.report.specs.Lines.{number_line}
use Rattle.comparing.specs.Compare.{ThreeLists, shared_codes, compare_place}
use Rattle.compare.specs.declared.Shown.{Shown}

-- Names are put part by part into a room, and each part is printed before the next is put. Of what was printed no statement can speak; so this one
-- speaks of what stands in the room at the end: the last part, whole lines up to the last name, and the empty line; all of the listing where the room has
-- 17 bytes for each name and one more
pub record ListingWritten (codes out : List ℕ) (end : ℕ) : Type 0 where
  pub from : ℕ
  pub lines : take end out ≡ listing_lines (drop from codes)
  pub some : 0 < length codes → from < length codes
  pub all : 17 * length codes + 1 ≤ length out → from ≡ 0
  pub fits : end ≤ length out

-- only printing fails, and a listing that has room is not printed on the way
abbrev pub ListingIn : (codes out : List ℕ) → Option ℕ → Type 0
ListingIn codes out (Some end) = ListingWritten codes out end
ListingIn codes out None = length out < 17 * length codes + 1

-- of what was printed no statement can speak
abbrev pub ListingPrinted : (codes out : List ℕ) → Option ℕ → Type 0
ListingPrinted codes out (Some end) = ListingWritten codes out end
ListingPrinted codes out None = Unit {0}

-- where printing failed nothing is said of the texts
pub record Stopped (shown : Shown) : Type 0 where
  pub undone : shown.done ≡ false
  pub refusal : shown.refusal ≡ 0
  pub place : shown.place ≡ 0

-- each listing in a room of its own
pub record Three (codes rooms : ThreeLists) (shown : Shown) : Type 0 where
  pub done : shown.done ≡ true
  pub firsts : ListingWritten codes.firsts rooms.firsts shown.firsts
  pub seconds : ListingWritten codes.seconds rooms.seconds shown.seconds
  pub boths : ListingWritten codes.boths rooms.boths shown.boths
  pub refusal : shown.refusal ≡ 0
  pub place : shown.place ≡ 0

abbrev pub ThreePrinted : (codes rooms : ThreeLists) → Shown → Type 0
ThreePrinted codes rooms shown = Three codes rooms shown ⊎ Stopped shown

-- of two texts, the three listings; or the number in the first room, and the place that is said
abbrev pub ListingsWritten : (refusal : ℕ) (t u : List ℕ) (rooms : ThreeLists) → Shown → Type 0
ListingsWritten zero t u rooms shown = ThreePrinted (shared_codes t u) rooms shown
ListingsWritten (suc r) t u rooms shown =
    (take shown.firsts rooms.firsts ≡ number_line (suc r)) × (shown.refusal ≡ suc r) × (shown.place ≡ compare_place t u)
