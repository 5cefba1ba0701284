-- A history as bytes: 263 of them, every number high byte first. Assumes nothing.
use Rattle.std.specs.Prelude.{◌≡◌, List, [], ◌∷◌, ◌++◌, ℕ, zero, suc, get_or}
use Rattle.ternary.specs.Digits.{digits}
use Rattle.history.specs.declared.Settings.{Settings}
use Rattle.history.specs.declared.History.{History}
use Rattle.history.specs.Settings.{none}
use Rattle.history.specs.Valid.{Valid}

-- the mark `JGS` and the 16-bit version 1
abbrev pub mark : List ℕ
mark = 74 ∷ 71 ∷ 83 ∷ 0 ∷ 1 ∷ []

-- n, s and resolution have a byte each, the eccentricity has five
unfoldable pub settings_bytes : Settings → List ℕ
settings_bytes x = digits 256 1 x.n ++ (digits 256 1 x.s ++ (digits 256 1 x.resolution ++ digits 256 5 x.eccentricity))

-- k places, from the one with number q on
unfoldable pub places_bytes : (k q : ℕ) → List Settings → List ℕ
places_bytes zero q kept = []
places_bytes (suc k) q kept = settings_bytes (get_or kept q none) ++ places_bytes k (suc q) kept

-- the mark and the version, the newest revision in two bytes, and the 32 places
unfoldable pub encoding_of : History → List ℕ
encoding_of h = mark ++ (digits 256 2 h.newest ++ places_bytes 32 0 h.kept)

-- these bytes are the encoding of some history that a run of calls may hand back
abbrev pub Encodes : List ℕ → Type 0
Encodes t = (h : History) × Valid h × (t ≡ encoding_of h)
