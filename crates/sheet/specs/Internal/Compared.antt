-- A part of a sheet compared, where no wrong record was met before it. Assumes nothing.
use Rattle.std.specs.Prelude.{◌≡◌, List, ℕ, ◌+◌, ◌*◌, ltb, length, drop}
use Rattle.sheet.specs.declared.Standing.{Standing}
use Rattle.sheet.specs.Sheet.{records_of}
use Rattle.sheet.specs.Verdict.{leading}
use Rattle.sheet.specs.Parts.{StandsAt}

-- the records that are ours are counted; one is not where bytes of the part lie behind those that are
pub record PartCompared (t part : List ℕ) (x y : Standing) : Type 0 where
  pub records : y.records ≡ x.records + leading (drop x.records (records_of t)) part
  pub wrong : y.wrong ≡ ltb (40 * leading (drop x.records (records_of t)) part) (length part)
  pub stands : StandsAt t y
