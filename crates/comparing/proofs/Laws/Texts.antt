-- The three listings of two accepted texts: their codes are those of the fewest cells of each ground, rising, in the first heading's arrangement; and
-- the sums of sizes tie up with what checking reports (02, W-205). Assumes nothing.
use Rattle.std.specs.Prelude.{◌≡◌, true, List, map, ℕ, ◌+◌}
use Rattle.std.proofs.Common.{sym, ◌∙◌}
use Rattle.std.proofs.Math.Path.{ap}
use Rattle.logic.specs.Rise.{Rise}
use Rattle.logic.specs.Lists.{All}
use Rattle.cell.specs.declared.Cell.{Cell}
use Rattle.code.specs.Code.{cell_of, code_of, arrangement_of}
use Rattle.reading.specs.declared.Level.TheVariants.{Faces}
use Rattle.reading.specs.declared.Profile.{Profile}
use Rattle.reading.specs.Reading.{Good}
use Rattle.reading.specs.Ground.{size_sum}
use Rattle.reading.specs.Fewest.{FewestOf}
use Rattle.reading.specs.TextReading.{nodes_of, text_arrangement, is_text}
use Rattle.reading.proofs.Laws.Rising.{codes-rise}
use Rattle.reading.proofs.Laws.TextReading.{good-nodes, text-arranged}
use Rattle.reader.specs.Laws.Answer.{TextChecked}
use Rattle.listing.proofs.Laws.List.{cells-back, all_of}
use Rattle.comparing.specs.Compare.{OnlyFirst, OnlySecond, InBoth, first_only, second_only, in_both, codes_for, shared_codes}
use Rattle.comparing.proofs.Laws.Compare.{first-fewest, second-fewest, both-fewest, first-tie, second-tie}

module _ (t u : List ℕ) (e : is_text t ≡ true) (f : is_text u ≡ true) where
  first_good : Good Faces 15 0 (nodes_of t)
  first_good = good-nodes t e

  second-good : Good Faces 15 0 (nodes_of u)
  second-good = good-nodes u f

  -- the fewest cells of a ground, made codes
  module _ (P : Cell → Type 0) (cells : List Cell) (g : FewestOf P cells) where
    back : map cell_of (codes_for t cells) ≡ cells
    unfolding codes_for
    back = cells-back (text_arrangement t) (text-arranged t e) cells g.cells

    -- each is the code of its cell, and no other number that is read as the same cell
    coded : codes_for t cells ≡ map (code_of (text_arrangement t)) (map cell_of (codes_for t cells))
    unfolding codes_for
    coded = ap (map (code_of (text_arrangement t))) (sym back)

    as-codes :
        FewestOf P (map cell_of (codes_for t cells)) × Rise (codes_for t cells) × All (λ (code : ℕ). arrangement_of code ≡ text_arrangement t) (codes_for t cells)
        × (codes_for t cells ≡ map (code_of (text_arrangement t)) (map cell_of (codes_for t cells)))
    unfolding codes_for
    as-codes = (rw back g, codes-rise (text_arrangement t) cells g.rising, all_of (text_arrangement t) (text-arranged t e) cells g.cells, coded)

  -- "ground only in the first, only in the second, and in both, each as the fewest cells in rising order"
  pub first-listed :
      FewestOf (OnlyFirst (nodes_of t) (nodes_of u)) (map cell_of (shared_codes t u).firsts) × Rise (shared_codes t u).firsts
      × All (λ (code : ℕ). arrangement_of code ≡ text_arrangement t) (shared_codes t u).firsts
      × ((shared_codes t u).firsts ≡ map (code_of (text_arrangement t)) (map cell_of (shared_codes t u).firsts))
  unfolding shared_codes
  first-listed = as-codes (OnlyFirst (nodes_of t) (nodes_of u)) (first_only (nodes_of t) (nodes_of u)) (first-fewest (nodes_of t) (nodes_of u) first_good second-good)

  pub second-listed :
      FewestOf (OnlySecond (nodes_of t) (nodes_of u)) (map cell_of (shared_codes t u).seconds) × Rise (shared_codes t u).seconds
      × All (λ (code : ℕ). arrangement_of code ≡ text_arrangement t) (shared_codes t u).seconds
      × ((shared_codes t u).seconds ≡ map (code_of (text_arrangement t)) (map cell_of (shared_codes t u).seconds))
  unfolding shared_codes
  second-listed = as-codes (OnlySecond (nodes_of t) (nodes_of u)) (second_only (nodes_of t) (nodes_of u)) (second-fewest (nodes_of t) (nodes_of u) first_good second-good)

  pub both-listed :
      FewestOf (InBoth (nodes_of t) (nodes_of u)) (map cell_of (shared_codes t u).boths) × Rise (shared_codes t u).boths
      × All (λ (code : ℕ). arrangement_of code ≡ text_arrangement t) (shared_codes t u).boths
      × ((shared_codes t u).boths ≡ map (code_of (text_arrangement t)) (map cell_of (shared_codes t u).boths))
  unfolding shared_codes
  both-listed = as-codes (InBoth (nodes_of t) (nodes_of u)) (in_both (nodes_of t) (nodes_of u)) (both-fewest (nodes_of t) (nodes_of u) first_good second-good)

-- "The size sums must tie up": with the sums that checking reports of the two texts
pub checked-ties :
    {t u : List ℕ} {p p' : Profile} {n s c z b n' s' c' z' b' : ℕ} → TextChecked t p n s c z b → TextChecked u p' n' s' c' z' b' →
    (size_sum (first_only (nodes_of t) (nodes_of u)) + size_sum (in_both (nodes_of t) (nodes_of u)) ≡ z)
    × (size_sum (second_only (nodes_of t) (nodes_of u)) + size_sum (in_both (nodes_of t) (nodes_of u)) ≡ z')
checked-ties {t} {u} r q =
    let g = good-nodes t r.text in
    let h = good-nodes u q.text in
    (first-tie (nodes_of t) (nodes_of u) g h ∙ sym r.sum, second-tie (nodes_of t) (nodes_of u) g h ∙ sym q.sum)
