-- A sheet that comes or goes in parts (02, W-211): where it stands beside the walk over the text. Laws/Parts shows that the parts do not matter.
-- Assumes nothing.
use Rattle.std.specs.Prelude.{◌≡◌, true, false, ◌&&◌, ◌||◌, not, cond, List, [], ◌∷◌, ◌++◌, map, ℕ, ◌+◌, ◌*◌, ◌/◌, ◌%◌, ltb, leb, length, take, drop}
use Rattle.logic.specs.Lent.{in_front}
use Rattle.reading.specs.Ground.{whole_cells}
use Rattle.reading.specs.TextReading.{nodes_of, is_text}
use Rattle.walk.specs.declared.Spot.{Spot}
use Rattle.walk.specs.Walk.{origin, spot_of, walk, Walks}
use Rattle.sheet.specs.declared.Record.{Record}
use Rattle.sheet.specs.declared.Standing.{Standing}
use Rattle.sheet.specs.declared.Judged.{Judged}
use Rattle.sheet.specs.declared.Judged.TheVariants.{Right, Wrong}
use Rattle.sheet.specs.Sheet.{records_of, joined}
use Rattle.sheet.specs.Verdict.{leading}

-- the walk has k whole cells behind it, and stands before the others
pub record Stands (t : List ℕ) (k i : ℕ) (s : Spot) : Type 0 where
  pub walks : Walks t i s
  pub left : walk s (drop i t) ≡ map spot_of (drop k (whole_cells (nodes_of t)))
  pub text : is_text t ≡ true

abbrev pub StandsAt : List ℕ → Standing → Type 0
StandsAt t x = Stands t x.records x.at x.spot

-- where a sheet starts: where the body does, with no record behind
abbrev pub start_at : ℕ → Standing
start_at body = record { spot = origin; at = body; records = 0; wrong = false }

-- ---- checking

-- how many records of a part, behind k records, are ours, up to the first that is not
abbrev pub ours_in : List ℕ → (k : ℕ) (part : List ℕ) → ℕ
ours_in t k part = leading (drop k (records_of t)) part

-- From one standing to the next, over a part of the sheet that begins with a record's first byte: the records that are ours are counted, and one is not
-- where bytes of the part lie behind those that are. Behind a wrong one nothing more counts
pub record GoesOver (t part : List ℕ) (x y : Standing) : Type 0 where
  pub records : y.records ≡ x.records + cond x.wrong 0 (ours_in t x.records part)
  pub wrong : y.wrong ≡ (x.wrong || ltb (40 * ours_in t x.records part) (length part))
  pub stands : StandsAt t y

-- over one part after the other
abbrev pub Through : List ℕ → Standing → (parts : List (List ℕ)) → Standing → Type 0
Through t x [] y = x ≡ y
Through t x (part ∷ parts) y = (z : Standing) × GoesOver t part x z × Through t z parts y

-- the bytes of all parts
abbrev pub all_bytes : List (List ℕ) → List ℕ
all_bytes [] = []
all_bytes (part ∷ parts) = part ++ all_bytes parts

-- each part but the last has whole records
abbrev pub WholeRecords : List (List ℕ) → Type 0
WholeRecords [] = Unit {0}
WholeRecords (part ∷ []) = Unit {0}
WholeRecords (part ∷ (next ∷ parts)) = (length part % 40 ≡ 0) × WholeRecords (next ∷ parts)

-- the check stands at x behind the bytes b of a sheet
pub record Behind (t b : List ℕ) (x : Standing) : Type 0 where
  pub records : x.records ≡ leading (records_of t) b
  pub wrong : x.wrong ≡ ltb (40 * leading (records_of t) b) (length b)
  pub stands : StandsAt t x

-- what a check that stands here answers where the sheet ends: yes where no wrong record was met and none is missing
abbrev pub told_of : List ℕ → Standing → Judged
told_of t x = cond (not x.wrong && leb (length (records_of t)) x.records) Right (Wrong x.records)

-- ---- writing

-- the next records, as many as have room
abbrev pub next_records : List ℕ → (k room : ℕ) → List Record
next_records t k room = take (room / 40) (drop k (records_of t))

-- they stand in front of what was lent, and behind them the sheet goes on
pub record PartPut (t : List ℕ) (x : Standing) (b b' : List ℕ) (y : Standing) : Type 0 where
  pub records : y.records ≡ x.records + length (next_records t x.records (length b))
  pub wrong : y.wrong ≡ false
  pub memory : b' ≡ in_front (joined (next_records t x.records (length b))) b
  pub stands : StandsAt t y
