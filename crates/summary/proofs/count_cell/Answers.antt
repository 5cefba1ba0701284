-- `summary::count_cell` meets its contract. Assumes nothing.
use mathlib.Core.Path.{◌∙◌}
use Rattle.summary.proofs.Raising.{cell-ends, room-held, room-filled, counted-held, counted-filled}
use native.Mathlib.Omega.{arith}
use Rattle.summary.proofs.count_cell.Goals as goal

pub overflow_mul-first : goal.overflow_mul-first
overflow_mul-first c = let m = cell-ends c.requires c.nine_power-size.ensures in omega arith

pub raise-requires : goal.raise-requires
raise-requires c = room-held c.requires c.nine_power-size.ensures c.if-size-lt-DISTRICT_SIZE.true

pub returns-then-size-lt-DISTRICT_SIZE : goal.returns-then-size-lt-DISTRICT_SIZE
returns-then-size-lt-DISTRICT_SIZE c = c.raise.ensures ∙ counted-held c.requires c.nine_power-size.ensures c.if-size-lt-DISTRICT_SIZE.true

pub raise-requires-2 : goal.raise-requires-2
raise-requires-2 c = room-filled c.requires c.nine_power-size.ensures c.if-size-lt-DISTRICT_SIZE.false

pub returns : goal.returns
returns c = c.raise-2.ensures ∙ counted-filled c.requires c.nine_power-size.ensures c.if-size-lt-DISTRICT_SIZE.false
