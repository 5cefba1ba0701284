-- A number as a part of 2^56, so that its ternary digits come out by products, the first one first. Assumes nothing.
use Rattle.std.specs.Prelude.{Bool, ℕ, ◌+◌, ◌*◌, ◌/◌, ◌%◌, ◌^◌, ltb}
use Rattle.wide.specs.High.{high_word}
use Rattle.root.specs.Internal.Bracket.{low_part}

-- The first fifteen ternary digits of a part are those of somewhat more too: its upper 40 bits, times 3^15, leave so much room of 2^40
unfoldable pub firm : (part room : ℕ) → Bool
firm part room = ltb (part / 2 ^ 16 * 3 ^ 15 % 2 ^ 40 + room) (2 ^ 40)

-- the lower end of what a value lies between, as a part: 738459997658286596 is 2^120 / (18 x 10^17), rounded down
unfoldable pub part_of : (minus : Bool) (g root : ℕ) → ℕ
part_of minus g root = high_word (low_part minus g root) 738459997658286596
