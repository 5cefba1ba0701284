-- Room behind bytes that wait to be printed. Assumes nothing.
use Rattle.std.specs.Prelude.{◌≡◌, true, cond, ℕ, ◌-◌, ltb, None, Option, Some}

-- from where on there is room for so many bytes, where the first `at` of these wait: where it is short all that wait are printed first
abbrev pub start_for : (room at size : ℕ) → ℕ
start_for room at size = cond (ltb (room - at) size) 0 at

-- only printing fails
abbrev pub Made : (room at size : ℕ) → Option ℕ → Type 0
Made room at size (Some start) = start ≡ start_for room at size
Made room at size None = ltb (room - at) size ≡ true
