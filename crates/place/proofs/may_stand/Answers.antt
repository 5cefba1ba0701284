-- `may_stand` meets its contract: each return is the case that the tests before it pick. Assumes nothing.
use mathlib.Core.Path.{◌≡◌, ◌∙◌, ap}
use Rattle.reading.specs.Reading.{first, many}
use Rattle.place.specs.Internal.Stack.{here_of}
use Rattle.place.proofs.Laws.{stand-low, stand-high, stand-other, stand-ninth}
use Rattle.place.proofs.may_stand.Goals as goal
use Rattle.place.proofs.may_stand.Goals.{After-first_byte-base, After-how_many}

-- the first byte and the number of the nodes at that depth
base : (c : After-first_byte-base) → c.first_byte-base.result ≡ first (here_of c.args.level c.args.k)
base c = c.first_byte-base.ensures ∙ ap first c.here-kind.ensures

count : (c : After-how_many) → c.how_many.result ≡ many (here_of c.args.level c.args.k)
count c = c.how_many.ensures ∙ ap many c.here-kind.ensures

pub returns-then-byte-base : goal.returns-then-byte-base
returns-then-byte-base c =
    let a = c.args in
    stand-low a.level a.depth a.k a.low a.wholes a.byte (base (goal.at.returns-then-byte-base c).After-first_byte-base) c.if-byte-base.true

pub returns-then-base-how_many : goal.returns-then-base-how_many
returns-then-base-how_many c =
    let a = c.args in
    stand-high a.level a.depth a.k a.low a.wholes a.byte (base (goal.at.returns-then-base-how_many c).After-first_byte-base) (count (goal.at.returns-then-base-how_many c).After-how_many) c.if-byte-base.false c.if-base-how_many.true

pub returns-then-wholes-ne8 : goal.returns-then-wholes-ne8
returns-then-wholes-ne8 c =
    let a = c.args in
    stand-other a.level a.depth a.k a.low a.wholes a.byte (base (goal.at.returns-then-wholes-ne8 c).After-first_byte-base) (count (goal.at.returns-then-wholes-ne8 c).After-how_many)
    c.if-byte-base.false c.if-base-how_many.false c.if-wholes-ne8.true

pub returns : goal.returns
returns c =
    let a = c.args in
    stand-ninth a.level a.depth a.k a.low a.wholes a.byte (base (goal.at.returns c).After-first_byte-base) (count (goal.at.returns c).After-how_many)
    c.if-byte-base.false c.if-base-how_many.false c.if-wholes-ne8.false c.under.ensures
