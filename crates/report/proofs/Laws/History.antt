-- The revisions that are listed are those that are kept. Assumes nothing.
use Rattle.std.specs.Prelude.{◌≡◌, refl, ◌↔◌, Bool, cond, [], ◌∷◌, ℕ, ◌+◌, ◌≤◌, ◌<◌, replicate}
use Rattle.std.proofs.Common.{ap, ⊎_elim, arith, lt-ltb, le-ltb}
use Rattle.logic.specs.Laws.Order.{lt-or}
use Rattle.decimal.specs.Decimal.{printed}
use Rattle.history.specs.Settings.{none, read_refusal}
use Rattle.history.proofs.Laws.History.{kept-is, is-kept}
use Rattle.report.specs.History.{kept_number, last_lines, history_lines}

-- a revision is one of the last that are listed exactly when it can be read
pub listed_kept : (newest r : ℕ) → (read_refusal newest r ≡ 0) ↔ ((r ≤ newest) × (newest < r + kept_number newest))
listed_kept newest r = (to, from)
  where
    few : newest < 31 → kept_number newest ≡ newest + 1
    few h = ap (λ (t : Bool). cond t (newest + 1) 32) (lt-ltb newest 31 h)

    many : 31 ≤ newest → kept_number newest ≡ 32
    many h = ap (λ (t : Bool). cond t (newest + 1) 32) (le-ltb newest 31 h)

    to : read_refusal newest r ≡ 0 → (r ≤ newest) × (newest < r + kept_number newest)
    to e =
        let k = kept-is newest r e in
        (k.0, ⊎_elim (λ h. let n = few h in omega arith) (λ h. let n = many h in omega arith) (lt-or newest 31))

    from : (r ≤ newest) × (newest < r + kept_number newest) → read_refusal newest r ≡ 0
    from k = is-kept newest r k.0 (⊎_elim (λ h. omega arith) (λ h. let n = many h in omega (arith, k.1)) (lt-or newest 31))

-- two revisions, the newest last, worked out by hand: "0 1 2 9 6694379990" and "1 0 3 15 10000000000"
pub list-written-out :
    history_lines (record {
      newest = 1;
      kept = record { n = 1; s = 2; resolution = 9; eccentricity = 6694379990 } ∷ record { n = 0; s = 3; resolution = 15; eccentricity = 10000000000 } ∷ replicate 30 none;
    })
    ≡ 48 ∷ 32 ∷ 49 ∷ 32 ∷ 50 ∷ 32 ∷ 57 ∷ 32 ∷ 54 ∷ 54 ∷ 57 ∷ 52 ∷ 51 ∷ 55 ∷ 57 ∷ 57 ∷ 57 ∷ 48 ∷ 10 ∷
    49 ∷ 32 ∷ 48 ∷ 32 ∷ 51 ∷ 32 ∷ 49 ∷ 53 ∷ 32 ∷ 49 ∷ 48 ∷ 48 ∷ 48 ∷ 48 ∷ 48 ∷ 48 ∷ 48 ∷ 48 ∷ 48 ∷ 48 ∷ 10 ∷ []
unfolding history_lines last_lines printed
list-written-out = refl
