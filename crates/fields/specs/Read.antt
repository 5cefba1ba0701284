-- Reading such bytes, as it is computed: byte by byte, up to the first that is wrong. Laws/Read shows that what is read is what the bytes say, and that
-- the bytes before the wrong one are the longest leading part that begins some that are right. Assumes nothing.
use Rattle.std.specs.Prelude.{cond, List, [], ◌∷◌, ℕ, zero, suc, ◌+◌, ◌*◌, ◌^◌, leb, ltb, take, drop}
use Rattle.ternary.specs.Digits.{value}
use Rattle.fields.specs.Form.{Form, done, number}

-- How many bytes may begin a number between the limits, where w bytes of it are still to come: with what was read before, the numbers that begin so
-- are the 256^w from `from` on, and some of them lie between the limits.
unfoldable pub reach : (w least most from : ℕ) → List ℕ → ℕ
reach zero least most from t = 0
reach (suc w) least most from [] = 0
reach (suc w) least most from (x ∷ t) =
    cond (leb (from + x * 256 ^ w) most) (cond (ltb least (from + x * 256 ^ w + 256 ^ w)) (suc (reach w least most (from + x * 256 ^ w) t)) 0) 0

-- what was said, or how many bytes stand before the first that is wrong
pub data Read (A : Type 0) : Type 0 where
  said : A → Read A
  wrong : ℕ → Read A

-- behind w bytes that are right
abbrev pub behind : {A : Type 0} → ℕ → Read A → Read A
behind w (said y) = said y
behind w (wrong k) = wrong (w + k)

unfoldable pub read_as : {A : Type 0} → Form A → List ℕ → Read A
read_as (done x) [] = said x
read_as (done x) (b ∷ t) = wrong 0
read_as (number w least most next) t =
    cond (ltb (reach w least most 0 t) w) (wrong (reach w least most 0 t)) (behind w (read_as (next (value 256 (take w t))) (drop w t)))
