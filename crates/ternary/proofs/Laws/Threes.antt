-- Three levels at a time, by a table, are the same as digit by digit (02, W-202). Assumes nothing.
use Rattle.std.specs.Prelude.{◌≡◌, refl, List, ℕ, ◌+◌, ◌*◌, ◌/◌, ◌%◌, ◌^◌, ◌<◌, get_or}
use Rattle.std.proofs.Common.{sym, ap, ap₂, ◌∙◌, arith}
use Rattle.logic.specs.Laws.Table.{table-entry}
use Rattle.ternary.specs.Weave.{weave, row_in, column_in, both_in}
use Rattle.ternary.proofs.Laws.Weave.{row-split, column-split, row_last, column-last, weave-apart, weave_last, weave_split}
use Rattle.ternary.specs.Threes.{Apart, Woven}

-- what stands before the last r digits does not count
pub weave-last-both : (r i j : ℕ) → weave r (i % 3 ^ r) (j % 3 ^ r) ≡ weave r i j
weave-last-both r i j =
    weave-apart r (i % 3 ^ r) (j % 3 ^ r) ∙ ap₂ (λ (x y : ℕ). 3 * x + y) (weave_last r i) (weave_last r j) ∙ sym (weave-apart r i j)

module _ {t : List ℕ} (a : Apart t) where
  pub apart-entry : (k : ℕ) → k < 729 → get_or t k 0 ≡ both_in 3 k
  apart-entry k h = table-entry (both_in 3) t a.rule k (omega (arith, a.long))

  -- one look-up for three digits
  pub apart-three : (k p : ℕ) → both_in (k + 3) p ≡ both_in k (p / 729) * 27 + get_or t (p % 729) 0
  apart-three k p =
      let e : get_or t (p % 729) 0 ≡ both_in 3 (p % 729) = apart-entry (p % 729) (omega arith) in
      let i : row_in 3 (p % 729) ≡ row_in 3 p = row_last 3 p in
      let j : column_in 3 (p % 729) ≡ column_in 3 p = column-last 3 p in
      let r : row_in (k + 3) p ≡ row_in k (p / 729) * 27 + row_in 3 p = row-split k 3 p in
      let c : column_in (k + 3) p ≡ column_in k (p / 729) * 27 + column_in 3 p = column-split k 3 p in
      omega arith

module _ {t : List ℕ} (w : Woven t) where
  pub woven-entry : (i j : ℕ) → i < 27 → j < 27 → get_or t (27 * i + j) 0 ≡ weave 3 i j
  woven-entry i j h l =
      let r : (27 * i + j) / 27 ≡ i = omega arith in
      let c : (27 * i + j) % 27 ≡ j = omega arith in
      table-entry (λ (k : ℕ). weave 3 (k / 27) (k % 27)) t w.rule (27 * i + j) (omega (arith, w.long)) ∙ ap₂ (weave 3) r c

  pub woven-three : (k i j : ℕ) → weave (k + 3) i j ≡ weave k (i / 27) (j / 27) * 729 + get_or t (27 * (i % 27) + j % 27) 0
  woven-three k i j =
      let e : get_or t (27 * (i % 27) + j % 27) 0 ≡ weave 3 (i % 27) (j % 27) = woven-entry (i % 27) (j % 27) (omega arith) (omega arith) in
      weave_split k 3 i j ∙ ap (λ (x : ℕ). weave k (i / 27) (j / 27) * 729 + x) (sym (e ∙ weave-last-both 3 i j))
