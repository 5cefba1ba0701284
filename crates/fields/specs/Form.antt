-- Bytes that are numbers of fixed widths, each in its limits, one behind the other. Assumes nothing.
use Rattle.std.specs.Prelude.{◌≡◌, List, [], ◌++◌, ℕ, ◌^◌, ◌≤◌, ◌<◌}
use Rattle.ternary.specs.Digits.{digits}

-- A number of so many bytes, high byte first, between its limits, and then what follows it; or the end, and what was said.
pub data Form (A : Type 0) : Type 0 where
  done : A → Form A
  number : (width least most : ℕ) → (ℕ → Form A) → Form A

-- these bytes say this
abbrev pub Spells : {A : Type 0} → Form A → A → List ℕ → Type 0
Spells (done x) y t = (x ≡ y) × (t ≡ [])
Spells (number w least most next) y t = (v : ℕ) × (least ≤ v) × (v ≤ most) × ((u : List ℕ) × (t ≡ digits 256 w v ++ u) × Spells (next v) y u)

-- these bytes say something
abbrev pub Spelled : {A : Type 0} → Form A → List ℕ → Type 0
Spelled {A} f t = (y : A) × Spells f y t

-- all limits leave a number of that width
abbrev pub Sound : {A : Type 0} → Form A → Type 0
Sound (done x) = Unit {0}
Sound (number w least most next) = (least ≤ most) × (most < 256 ^ w) × ((v : ℕ) → least ≤ v → v ≤ most → Sound (next v))
