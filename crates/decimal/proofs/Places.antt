-- What stands ahead of a decimal point and behind it. Assumes nothing.
use Rattle.std.specs.Prelude.{None, Option}
use mathlib.Core.Path.{◌≡◌, sym, ap, ◌∙◌}
use mathlib.Core.List.{List}
use Prim.Native.Nat.{ℕ, ◌+◌, ◌-◌, ◌≤◌, ◌<◌}
use lib.ListN.{length, length-drop}
use borrow.Author.Tests.{lt-leb, le-leb, eq-eqb, ne_eqb}
use Rattle.decimal.specs.Decimal.{whole_in, ahead, behind}
use Rattle.decimal.specs.Fraction.{as_fraction, whole_fraction, with_places, point_fraction, fraction_in}
use Rattle.decimal.proofs.Laws.{drop-ahead}

-- ---- digits alone

module _ (s : List ℕ) where
  pub long-whole : 15 < length s → None ≡ whole_fraction s
  unfolding whole_fraction
  long-whole h = simp (lt-leb (length s) 15 h)

  pub short-whole : {w : Option ℕ} → length s ≤ 15 → w ≡ whole_in s → as_fraction w ≡ whole_fraction s
  unfolding whole_fraction
  short-whole h e = simp (le-leb (length s) 15 h) (ap as_fraction e)

  -- ---- with a point

  pub no-point : length (ahead 46 s) ≡ length s → whole_fraction s ≡ fraction_in s
  unfolding fraction_in
  no-point e = simp (eq-eqb (length (ahead 46 s)) (length s) e)

  pub long-point : (length (ahead 46 s) ≡ length s → ⊥) → 16 < length s → None ≡ fraction_in s
  unfolding fraction_in point_fraction
  long-point n h = simp (ne_eqb (length (ahead 46 s)) (length s) n, lt-leb (length s) 16 h)

  pub short-point :
      (length (ahead 46 s) ≡ length s → ⊥) → length s ≤ 16 → with_places (length (behind 46 s)) (whole_in (ahead 46 s)) (whole_in (behind 46 s)) ≡ fraction_in s
  unfolding fraction_in point_fraction
  short-point n h = simp (ne_eqb (length (ahead 46 s)) (length s) n, le-leb (length s) 16 h)

-- the digits behind the point
pub places-are : (s : List ℕ) → length s - (length (ahead 46 s) + 1) ≡ length (behind 46 s)
places-are s = sym (length-drop (length (ahead 46 s) + 1) s) ∙ ap length (drop-ahead 46 s)
