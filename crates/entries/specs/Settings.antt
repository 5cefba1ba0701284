-- What the entries of the settings answer (02 W-209), and their refusals, each with its condition. Assumes nothing.
use Rattle.std.specs.Prelude.{◌≡◌, ◌⊎◌, [], ◌∷◌, ℕ, ◌+◌, ◌≤◌, ◌<◌}
use Rattle.history.specs.declared.Settings.{Settings}
use Rattle.history.specs.declared.History.{History}
use Rattle.history.specs.declared.HistoryAnswer.{HistoryAnswer}
use Rattle.history.specs.declared.SettingsAnswer.{SettingsAnswer}
use Rattle.history.specs.Log.{Call, change, back, Keeper}
use Rattle.history.specs.History.{fresh, changed, backed, read_of}
use Rattle.entries.specs.Order.{Chain}

abbrev pub settings : (n s resolution eccentricity : ℕ) → Settings
settings n s k e = record { n = n; s = s; resolution = k; eccentricity = e }

abbrev pub fresh_history : (n s resolution eccentricity : ℕ) → HistoryAnswer
fresh_history n s k e = fresh (settings n s k e)

abbrev pub changed_history : History → (revision n s resolution eccentricity : ℕ) → HistoryAnswer
changed_history h from n s k e = changed h from (settings n s k e)

abbrev pub back_history : History → (revision wanted : ℕ) → HistoryAnswer
back_history h from to = backed h from to

abbrev pub read_settings : History → (revision : ℕ) → SettingsAnswer
read_settings h r = read_of h r

-- ---- refusals

-- "contents by 5, 2 and 6". 6: "E .., from 0 to 10,000,000,000" (W-203)
abbrev pub fresh_tests : (n s resolution eccentricity : ℕ) → Chain
fresh_tests n s k e = (5, (3 < n) ⊎ (3 < s)) ∷ (2, 15 < k) ∷ (6, 10000000000 < e) ∷ []

-- "then 16 for a stale revision, 17 past revision 65,535"
abbrev pub change_tests : (newest revision n s resolution eccentricity : ℕ) → Chain
change_tests newest from n s k e =
    (5, (3 < n) ⊎ (3 < s)) ∷ (2, 15 < k) ∷ (6, 10000000000 < e) ∷ (16, from ≡ newest → ⊥) ∷ (17, 65535 ≤ newest) ∷ []

-- 18: "not yet made", or "dropped"
abbrev pub NotKept : (newest revision : ℕ) → Type 0
NotKept newest r = (newest < r) ⊎ (r + 32 ≤ newest)

-- "going back to, one that is dropped or not yet made is 18, judged before 16"
abbrev pub back_tests : (newest revision wanted : ℕ) → Chain
back_tests newest from to = (18, NotKept newest to) ∷ (16, from ≡ newest → ⊥) ∷ (17, 65535 ≤ newest) ∷ []

abbrev pub read_tests : (newest revision : ℕ) → Chain
read_tests newest r = (18, NotKept newest r) ∷ []

-- ---- the four entries as a keeper of settings

abbrev pub called : History → Call → HistoryAnswer
called h (change from x) = changed_history h from x.n x.s x.resolution x.eccentricity
called h (back from to) = back_history h from to

abbrev pub entries : Keeper
entries =
    record {
      History = History;
      fresh = λ x. let a = fresh_history x.n x.s x.resolution x.eccentricity in (a.refusal, a.history);
      call = λ h c. ((called h c).refusal, (called h c).history);
      read = λ h r. ((read_settings h r).refusal, (read_settings h r).settings);
    }
