-- A run of calls, worked out by hand (02 W-209): what the definitions and the code share is held to it. Assumes nothing.
use Rattle.std.specs.Prelude.{◌≡◌, refl, ◌∷◌, ℕ, replicate}
use Rattle.logic.specs.Refusal.{◌otherwise◌, given}
use Rattle.cell.specs.Cell.{arrangement_refusal}
use Rattle.history.specs.declared.Settings.{Settings}
use Rattle.history.specs.declared.History.{History}
use Rattle.history.specs.Settings.{none, settings_refusal, next_refusal, read_refusal}
use Rattle.history.specs.History.{answer, fresh, changed, backed, read_of}

abbrev settings : (n s resolution eccentricity : ℕ) → Settings
settings n s k e = record { n = n; s = s; resolution = k; eccentricity = e }

abbrev one : Settings
one = settings 1 2 9 6694379990

abbrev other : Settings
other = settings 0 3 15 10000000000

-- fresh, changed, and gone back to revision 0
abbrev made : History
made = (fresh one).history

abbrev turned : History
turned = (changed made 0 other).history

abbrev returned : History
returned = (backed turned 1 0).history

-- "Going back is a new revision with old contents."
pub run-made :
    (made ≡ record { newest = 0; kept = one ∷ replicate 31 none }) × (turned ≡ record { newest = 1; kept = one ∷ other ∷ replicate 30 none })
    × (returned ≡ record { newest = 2; kept = one ∷ other ∷ one ∷ replicate 29 none })
unfolding fresh changed backed answer settings_refusal arrangement_refusal ◌otherwise◌ given read_refusal next_refusal
run-made = (refl, refl, refl)

pub run-read : ((read_of returned 0).settings ≡ one) × ((read_of returned 1).settings ≡ other) × ((read_of returned 2).settings ≡ one) × ((read_of returned 3).refusal ≡ 18)
unfolding fresh changed backed read_of answer settings_refusal arrangement_refusal ◌otherwise◌ given read_refusal next_refusal
run-read = (refl, refl, refl, refl)

-- a revision "must be the newest", neither older nor one to come; contents come first, and 18 before 16
pub run-refused :
    ((changed turned 0 one).refusal ≡ 16) × ((changed turned 2 one).refusal ≡ 16) × ((changed turned 1 one).refusal ≡ 0) × ((changed turned 0 (settings 4 0 16 10000000001)).refusal ≡ 5)
    × ((changed turned 0 (settings 3 4 16 10000000001)).refusal ≡ 5) × ((changed turned 0 (settings 3 3 16 10000000001)).refusal ≡ 2)
    × ((changed turned 0 (settings 3 3 15 10000000001)).refusal ≡ 6) × ((backed turned 0 2).refusal ≡ 18) × ((backed turned 0 1).refusal ≡ 16) × ((backed turned 1 2).refusal ≡ 18)
unfolding fresh changed backed answer settings_refusal arrangement_refusal ◌otherwise◌ given read_refusal next_refusal
run-refused = (refl, refl, refl, refl, refl, refl, refl, refl, refl, refl)

-- "17 past revision 65,535", behind 16
pub last_made : (next_refusal 65534 65534 ≡ 0) × (next_refusal 65535 65535 ≡ 17) × (next_refusal 65535 65534 ≡ 16)
unfolding next_refusal ◌otherwise◌
last_made = (refl, refl, refl)
