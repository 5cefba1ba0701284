-- The entries of the settings (02 W-209): each refusal exactly when it is due and in its order, a refused change hands back the same history, and over
-- any run of calls what was accepted under a kept revision is read. Assumes nothing.
use Rattle.std.specs.Prelude.{◌≡◌, refl, ◌↔◌, ◌⊎◌, Bool, true, false, not, List, [], ◌∷◌, ℕ, ◌+◌, ◌≤◌, ◌<◌, leb, ltb, pos}
use Rattle.std.proofs.Common.{sym, ap, ◌∙◌, arith, leb-true, leb-false, ltb-false, le-ltb, lt-ltb}
use Rattle.std.proofs.lemmas.Bool.{not-true, not-false}
use Rattle.logic.specs.Lists.{All}
use Rattle.logic.specs.Refusal.{refuse, ◌otherwise◌}
use Rattle.logic.specs.Laws.Refusal.{given-none}
use Rattle.cell.specs.Cell.{arrangement_refusal}
use Rattle.locate.specs.Fix.{in_range}
use Rattle.geodetic.specs.GeodeticFix.{in_geodetic_range, geodetic_refusal, geodetic_cell}
use Rattle.code.specs.Code.{code_of}
use Rattle.history.specs.declared.History.{History}
use Rattle.history.specs.Settings.{none, settings_refusal, is_kept, next_refusal, read_refusal}
use Rattle.history.specs.Log.{Keeps}
use Rattle.history.specs.History.{empty, placed, next, answer, fresh, changed, backed, read_of}
use Rattle.history.proofs.Laws.History.{kept}
use Rattle.entries.specs.Entries.{arrangement, geodetic_code}
use Rattle.entries.specs.Order.{order, numbers, in_order, NoneOf, FirstOf}
use Rattle.entries.proofs.Laws.Order.{Decides, last, then, lt-decides, le-decides, eq-decides, not-decides, given-exactly, none-exactly}
use Rattle.entries.proofs.Laws.First.{arrangement-first, not-and, above, code-refusal}
use Rattle.entries.specs.Settings.{settings, fresh_history, changed_history, back_history, read_settings, fresh_tests, change_tests, NotKept, back_tests, read_tests, entries}

-- ---- the first refusal that applies

settings-first : (n s k e : ℕ) → FirstOf (fresh_tests n s k e) (settings_refusal (settings n s k e))
unfolding settings_refusal
settings-first n s k e = then (arrangement-first n s) refl (λ _. then (last 1 (lt-decides 15 k)) refl (λ _. last 5 (lt-decides 10000000000 e)))

-- jgv_settings_fresh
pub fresh-first : (n s k e : ℕ) → FirstOf (fresh_tests n s k e) (fresh_history n s k e).refusal
unfolding fresh answer
fresh-first n s k e = settings-first n s k e

-- jgv_settings_change
pub change-first : (h : History) (from n s k e : ℕ) → FirstOf (change_tests h.newest from n s k e) (changed_history h from n s k e).refusal
unfolding changed answer next_refusal
change-first h from n s k e =
    then (settings-first n s k e) refl (λ _. then (last 15 (not-decides (eq-decides from h.newest))) refl (λ _. last 16 (le-decides 65535 h.newest)))

-- kept or not
not-kept : (newest r : ℕ) → Decides (not (is_kept newest r)) (NotKept newest r)
unfolding is_kept
not-kept newest r = not-and (leb r newest) (ltb newest (r + 32)) (above r newest) late
  where
    late : Decides (not (ltb newest (r + 32))) (r + 32 ≤ newest)
    late =
        let d = lt-decides newest (r + 32) in
        record { holds = λ e. ltb-false newest (r + 32) (not-true _ e); fails = λ e h. let k = d.holds (not-false _ e) in omega arith }

-- jgv_settings_back
pub back-first : (h : History) (from to : ℕ) → FirstOf (back_tests h.newest from to) (back_history h from to).refusal
unfolding backed answer next_refusal read_refusal
back-first h from to =
    then (last 17 (not-kept h.newest to)) refl
    (λ _. then (last 15 (not-decides (eq-decides from h.newest))) refl (λ _. last 16 (le-decides 65535 h.newest)))

-- jgv_settings_read
pub settings-read-first : (h : History) (r : ℕ) → FirstOf (read_tests h.newest r) (read_settings h r).refusal
unfolding read_of read_refusal
settings-read-first h r = last 17 (not-kept h.newest r)

-- ---- in their order: "contents by 5, 2 and 6, then 16 .., 17 ..", "18, judged before 16"

pub settings-in-order : (newest from to n s k e : ℕ) →
    All (λ (ns : List ℕ). in_order order ns ≡ true)
    (numbers (fresh_tests n s k e) ∷ numbers (change_tests newest from n s k e) ∷ numbers (back_tests newest from to) ∷ numbers (read_tests newest to) ∷ [])
unfolding in_order
settings-in-order newest from to n s k e = (refl, (refl, (refl, (refl, tt))))

-- ---- each exactly when it is due

module _ (h : History) (from n s k e : ℕ) where
  pub five-change : ((changed_history h from n s k e).refusal ≡ 5) ↔ ((3 < n) ⊎ (3 < s))
  five-change = given-exactly 4 (change-first h from n s k e) refl

  pub two-change : ((changed_history h from n s k e).refusal ≡ 2) ↔ (((3 < n) ⊎ (3 < s) → ⊥) × (15 < k))
  two-change = given-exactly 1 (change-first h from n s k e) refl

  pub six-change : ((changed_history h from n s k e).refusal ≡ 6) ↔ (((3 < n) ⊎ (3 < s) → ⊥) × ((15 < k → ⊥) × (10000000000 < e)))
  six-change = given-exactly 5 (change-first h from n s k e) refl

  -- contents are judged first, also where the revision is stale
  pub sixteen-change :
      ((changed_history h from n s k e).refusal ≡ 16) ↔ (((3 < n) ⊎ (3 < s) → ⊥) × ((15 < k → ⊥) × ((10000000000 < e → ⊥) × (from ≡ h.newest → ⊥))))
  sixteen-change = given-exactly 15 (change-first h from n s k e) refl

  pub seventeen-change :
      ((changed_history h from n s k e).refusal ≡ 17)
      ↔ (((3 < n) ⊎ (3 < s) → ⊥) × ((15 < k → ⊥) × ((10000000000 < e → ⊥) × (((from ≡ h.newest → ⊥) → ⊥) × (65535 ≤ h.newest)))))
  seventeen-change = given-exactly 16 (change-first h from n s k e) refl

  pub accepted-change : ((changed_history h from n s k e).refusal ≡ 0) ↔ NoneOf (change_tests h.newest from n s k e)
  accepted-change = none-exactly (change-first h from n s k e) refl

module _ (n s k e : ℕ) where
  pub five-fresh : ((fresh_history n s k e).refusal ≡ 5) ↔ ((3 < n) ⊎ (3 < s))
  five-fresh = given-exactly 4 (fresh-first n s k e) refl

  pub two-fresh : ((fresh_history n s k e).refusal ≡ 2) ↔ (((3 < n) ⊎ (3 < s) → ⊥) × (15 < k))
  two-fresh = given-exactly 1 (fresh-first n s k e) refl

  pub six-fresh : ((fresh_history n s k e).refusal ≡ 6) ↔ (((3 < n) ⊎ (3 < s) → ⊥) × ((15 < k → ⊥) × (10000000000 < e)))
  six-fresh = given-exactly 5 (fresh-first n s k e) refl

  pub accepted-fresh : ((fresh_history n s k e).refusal ≡ 0) ↔ NoneOf (fresh_tests n s k e)
  accepted-fresh = none-exactly (fresh-first n s k e) refl

module _ (h : History) (from to : ℕ) where
  pub eighteen-back : ((back_history h from to).refusal ≡ 18) ↔ NotKept h.newest to
  eighteen-back = given-exactly 17 (back-first h from to) refl

  pub sixteen-back : ((back_history h from to).refusal ≡ 16) ↔ ((NotKept h.newest to → ⊥) × (from ≡ h.newest → ⊥))
  sixteen-back = given-exactly 15 (back-first h from to) refl

  pub seventeen-back : ((back_history h from to).refusal ≡ 17) ↔ ((NotKept h.newest to → ⊥) × (((from ≡ h.newest → ⊥) → ⊥) × (65535 ≤ h.newest)))
  seventeen-back = given-exactly 16 (back-first h from to) refl

  pub accepted-back : ((back_history h from to).refusal ≡ 0) ↔ NoneOf (back_tests h.newest from to)
  accepted-back = none-exactly (back-first h from to) refl

pub eighteen-read : (h : History) (r : ℕ) → ((read_settings h r).refusal ≡ 18) ↔ NotKept h.newest r
eighteen-read h r = given-exactly 17 (settings-read-first h r) refl

pub accepted-read : (h : History) (r : ℕ) → ((read_settings h r).refusal ≡ 0) ↔ NoneOf (read_tests h.newest r)
accepted-read h r = none-exactly (settings-read-first h r) refl

-- ---- beside a refusal

-- "A refused change leaves the history the same."
pub refused-change : (h : History) (from n s k e : ℕ) → ((changed_history h from n s k e).refusal ≡ 0 → ⊥) → (changed_history h from n s k e).history ≡ h
unfolding changed answer
refused-change h from n s k e r = given-none _ (next h (settings n s k e)) h r

pub refused-back : (h : History) (from to : ℕ) → ((back_history h from to).refusal ≡ 0 → ⊥) → (back_history h from to).history ≡ h
unfolding backed answer
refused-back h from to r = given-none _ (next h (placed h to)) h r

-- a fresh one that is refused is zeros, and so are settings that are not read
pub refused-fresh : (n s k e : ℕ) → ((fresh_history n s k e).refusal ≡ 0 → ⊥) → (fresh_history n s k e).history ≡ empty
unfolding fresh answer
refused-fresh n s k e r = given-none _ _ empty r

pub refused-read : (h : History) (r : ℕ) → ((read_settings h r).refusal ≡ 0 → ⊥) → (read_settings h r).settings ≡ none
unfolding read_of
refused-read h r n = given-none _ (placed h r) none n

-- ---- over runs of calls

-- "After any run of calls from a fresh history, each given what the last handed back, reading a kept revision gives what was accepted under it"
pub entries-keep : Keeps entries
entries-keep = kept

-- ---- from another side

-- the range of a fix at longitude 0 and sine 0 is that of its eccentricity
in-range : (e : ℕ) → refuse (ltb 10000000000 e) 6 ≡ refuse (not (in_geodetic_range (pos 0) (pos 0) e)) 6
unfolding in_geodetic_range in_range
in-range e = go (leb e 10000000000) refl
  where
    go : (b : Bool) → leb e 10000000000 ≡ b → refuse (ltb 10000000000 e) 6 ≡ refuse (not b) 6
    go true k = ap (λ (x : Bool). refuse x 6) (le-ltb 10000000000 e (leb-true e 10000000000 k))
    go false k = ap (λ (x : Bool). refuse x 6) (lt-ltb 10000000000 e (leb-false e 10000000000 k))

-- settings are refused as a fix on the equator at Greenwich would be, with the same n, s, resolution and eccentricity
pub fresh-as-fix : (n s k e : ℕ) → (fresh_history n s k e).refusal ≡ (geodetic_code n s k (pos 0) (pos 0) e).refusal
unfolding fresh answer settings_refusal geodetic_code geodetic_refusal
fresh-as-fix n s k e =
    ap (λ (r : ℕ). arrangement_refusal (arrangement n s) otherwise refuse (ltb 15 k) 2 otherwise r) (in-range e)
    ∙ sym (code-refusal (geodetic_refusal (arrangement n s) k (pos 0) (pos 0) e) (code_of (arrangement n s) (geodetic_cell (arrangement n s) k (pos 0) (pos 0) e)))
