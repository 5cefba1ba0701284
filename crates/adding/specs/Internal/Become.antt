-- A text in front of lent bytes becomes another. Assumes nothing.
use Rattle.std.specs.Prelude.{◌≡◌, List, ℕ, length, Result}
use Rattle.reading.specs.declared.Refused.{Refused}
use Rattle.adding.specs.Add.{size_refusal, resized, placed}

-- the lent bytes become this text, or 13 or 8 changes none of them
pub record Becomes (u before after : List ℕ) (r : Result ℕ Refused) : Type 0 where
  pub answer : r ≡ resized (size_refusal (length u) (length before)) (length u)
  pub bytes : after ≡ placed (size_refusal (length u) (length before)) u before
