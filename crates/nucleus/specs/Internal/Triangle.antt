-- The middle of a cap's cell and its start, as the code has them. With a = 2j + 1 and b = 2i + 1 the middle is (a - m, m - b), in units of 1/2m of
-- the face's side from its centre. Assumes nothing.
use Rattle.std.specs.Prelude.{◌≡◌, ℕ, ◌*◌, ◌^◌, ◌<◌, pos, neg_ℤ}
use Rattle.std.proofs.Math.IntN.{sub_ℕ}
use Rattle.locate.specs.Fix.{CapPoint, turned_north}
use Rattle.nucleus.specs.Nucleus.{turns_north}

abbrev pub middle : (m a b : ℕ) → CapPoint
middle m a b = (sub_ℕ a m, sub_ℕ m b)

-- a middle lies inside the face
pub record InFace (m a b : ℕ) : Type 0 where
  pub small : m < 2 ^ 24
  pub left : 0 < a
  pub right : a < 2 * m
  pub top : 0 < b
  pub bottom : b < 2 * m

-- and not at its centre
abbrev pub OffCentre : (m a b : ℕ) → Type 0
OffCentre m a b = a ≡ m → b ≡ m → ⊥

-- the start of a middle: how often it was turned, its height, and the place along it
pub record IsStart (m a b turn height along : ℕ) : Type 0 where
  pub apart : OffCentre m a b
  pub few : turn < 4
  pub tall : 0 < height
  pub low : height < m
  pub within : along < 2 * height
  pub turns : turns_north (middle m a b) ≡ turn
  pub point : turned_north turn (sub_ℕ along height, neg_ℤ (pos height)) ≡ middle m a b
