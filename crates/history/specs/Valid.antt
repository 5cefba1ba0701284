-- Histories that a run of calls may hand back. Assumes nothing.
use Rattle.std.specs.Prelude.{◌≡◌, ℕ, ◌≤◌, ◌<◌, length, get_or}
use Rattle.history.specs.declared.History.{History}
use Rattle.history.specs.Settings.{none, settings_refusal}

-- A "16-bit revision", and settings that are not refused at each place that a revision has reached: at every one from revision 31 on. The others are as
-- they were at first.
pub record Valid (h : History) : Type 0 where
  pub few : h.newest ≤ 65535
  pub places : length h.kept ≡ 32
  pub reached : (q : ℕ) → q < 32 → q ≤ h.newest → settings_refusal (get_or h.kept q none) ≡ 0
  pub others : (q : ℕ) → q < 32 → h.newest < q → get_or h.kept q none ≡ none
