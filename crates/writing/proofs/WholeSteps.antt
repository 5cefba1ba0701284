-- What the whole test hands back at each end of it. Assumes nothing.
use mathlib.Core.Path.{◌≡◌, refl}
use Prim.Native.Nat.{ℕ, ◌+◌, ◌≤◌, ◌<◌}
use mathlib.Core.List.{List}
use native.Mathlib.Omega.{arith}
use lib.ListN.{length}
use Rattle.code.specs.Code.{size_of}
use Rattle.code.specs.Inside.{start_of}
use Rattle.writing.specs.Internal.Measure.{next_cell}
use Rattle.writing.specs.Internal.MeasureLaws.{size-at, node-finest, node-same}
use Rattle.writing.specs.Internal.Whole.{WholeUntil, CoveredTo}
use Rattle.writing.proofs.WholeLaws.{gap-held, end-held, all_whole}

pub finest : {codes : List ℕ} {at start size : ℕ} → at < length codes → size < 9 → WholeUntil codes at start size (at + 1)
finest {codes} {at} {start} {size} h l =
    record {
      whole = λ n w k s. (1, node-finest codes at w start size k s h l);
      held = λ e. absurd (omega arith);
      inside = omega arith;
      finest = λ z e. omega arith;
    }

pub same : {codes : List ℕ} {at start size : ℕ} → at < length codes → size_of (next_cell codes at) ≡ size → WholeUntil codes at start size (at + 1)
same {codes} {at} {start} {size} h l =
    record {
      whole = λ n w k s. (1, node-same codes at w start size k s h l);
      held = λ e. absurd (omega arith);
      inside = omega arith;
      finest = λ z e. omega arith;
    }

pub starts : {codes : List ℕ} {at start size : ℕ} → at < length codes → 0 < size → CoveredTo codes at start size at (start)
starts h z = record { from = omega arith; to = omega arith; left = omega arith; sum = refl }

module _ {codes : List ℕ} {at start size i position : ℕ} (h : at < length codes) (z : 9 ≤ size) (v : CoveredTo codes at start size i position) where
  pub gap : i < length codes → position < start_of (next_cell codes i) → WholeUntil codes at start size at
  gap b g =
      record {
        whole = λ n. absurd (n refl);
        held = λ e w k s. gap-held codes at w start size k i position s h v b g;
        inside = omega arith;
        finest = λ l e. omega arith;
      }

  pub ended : length codes ≤ i → WholeUntil codes at start size at
  ended b =
      record {
        whole = λ n. absurd (n refl);
        held = λ e w k s. end-held codes at w start size k i position s h v b;
        inside = omega arith;
        finest = λ l e. omega arith;
      }

  pub reached :
      {p : ℕ} → i < length codes → start_of (next_cell codes i) ≤ position → p ≡ size_of (next_cell codes i) → start + size ≤ position + p →
      WholeUntil codes at start size (i + 1)
  reached b g e r =
      record {
        whole = λ n w k s. all_whole codes at w start size k i position s h v b g (rw e at r);
        held = λ e. absurd (omega (arith, v.from));
        inside = omega arith;
        finest = λ l e. omega (arith, v.from);
      }

  pub goes_on :
      {p : ℕ} → i < length codes → p ≡ size_of (next_cell codes i) → position + p < start + size → CoveredTo codes at start size (i + 1) (position + p)
  goes_on b e r = record { from = omega (arith, v.from); to = omega arith; left = r; sum = omega (arith, v.sum, size-at codes i b, e) }
