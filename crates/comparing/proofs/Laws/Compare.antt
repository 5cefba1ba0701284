-- The three listings are the fewest cells of their grounds, each the only such list, and "the size sums must tie up" (02, W-205). Assumes nothing.
use Rattle.std.specs.Prelude.{◌≡◌, List, [], ℕ, ◌+◌, ◌^◌, ◌≤◌}
use Rattle.std.proofs.Common.{sym, ◌∙◌, arith}
use Rattle.std.proofs.Math.Path.{ap₂}
use Rattle.cell.specs.declared.Cell.{Cell}
use Rattle.reading.specs.declared.Level.TheVariants.{Faces}
use Rattle.reading.specs.Reading.{Nodes, render, Good}
use Rattle.reading.specs.Ground.{whole_cells, Covers, size_sum}
use Rattle.reading.specs.Fewest.{FewestOf}
use Rattle.reading.specs.Text.{Reads}
use Rattle.reading.specs.Prefix.{numbers_of}
use Rattle.reading.specs.Report.{size_along}
use Rattle.reading.proofs.Laws.Named.{finest-name}
use Rattle.reading.proofs.Laws.Demand.{good-reads, whole-named, named-whole, size-whole}
use Rattle.reading.proofs.Laws.FewestOf.{whole-fewest, one-fewest}
use Rattle.comparing.specs.Compare.{OnlyFirst, OnlySecond, InBoth, first_only, second_only, in_both}
use Rattle.comparing.specs.Shared.{shared}
use Rattle.comparing.proofs.Internal.Grammar.{shared-good}
use Rattle.comparing.proofs.Internal.Cover.{Is, is-like, shared-covers}
use Rattle.comparing.proofs.Internal.Sums.{first-sum, second-sum}

reads : (ns : Nodes) → Good Faces 15 0 ns → Reads [] Faces 15 (render Faces ns) ns
reads ns g = good-reads ns Faces 15 g

module _ (a b : Nodes) (g : Good Faces 15 0 a) (h : Good Faces 15 0 b) where
  shared-fewest :
      (p q : ℕ) → p ≤ 1 → q ≤ 1 → FewestOf (λ x. Is p (Covers (whole_cells a) x) × Is q (Covers (whole_cells b) x)) (whole_cells (shared p q a b))
  shared-fewest p q u v =
      let k : Reads [] Faces 15 (render Faces (shared p q a b)) (shared p q a b) = reads (shared p q a b) (shared-good p q a b u v g h) in
      let m : (15 ≤ 15) = omega arith in
      whole-fewest tt m k (λ x. Is p (Covers (whole_cells a) x) × Is q (Covers (whole_cells b) x))
      (λ x f.
      let s = shared-covers p q a b u v g h (numbers_of x) (finest-name x f) in
      let i = whole-named tt m (reads a g) x in
      let i' = named-whole tt m (reads a g) x f.cell in
      let j = whole-named tt m (reads b h) x in
      let j' = named-whole tt m (reads b h) x f.cell in (
        (λ n. let o = s.0 (whole-named tt m k x n) in (is-like p _ _ i' i o.0, is-like q _ _ j' j o.1)),
        (λ n. named-whole tt m k x f.cell (s.1 (is-like p _ _ i i' n.0, is-like q _ _ j j' n.1))),
      ))

  -- "ground only in the first, only in the second, and in both, each as the fewest cells in rising order"
  pub first-fewest : FewestOf (OnlyFirst a b) (first_only a b)
  unfolding first_only
  first-fewest = shared-fewest 1 0 (omega arith) (omega arith)

  pub second-fewest : FewestOf (OnlySecond a b) (second_only a b)
  unfolding second_only
  second-fewest = shared-fewest 0 1 (omega arith) (omega arith)

  pub both-fewest : FewestOf (InBoth a b) (in_both a b)
  unfolding in_both
  both-fewest = shared-fewest 1 1 (omega arith) (omega arith)

  -- there is no other such list
  pub first_one : (qs : List Cell) → FewestOf (OnlyFirst a b) qs → qs ≡ first_only a b
  first_one qs f = one-fewest (OnlyFirst a b) qs (first_only a b) f first-fewest

  pub second-one : (qs : List Cell) → FewestOf (OnlySecond a b) qs → qs ≡ second_only a b
  second-one qs f = one-fewest (OnlySecond a b) qs (second_only a b) f second-fewest

  pub both_one : (qs : List Cell) → FewestOf (InBoth a b) qs → qs ≡ in_both a b
  both_one qs f = one-fewest (InBoth a b) qs (in_both a b) f both-fewest

  -- "first only plus both is the first text's sum, and the same for the second"
  sum : (p q : ℕ) → p ≤ 1 → q ≤ 1 → size_sum (whole_cells (shared p q a b)) ≡ size_along (9 ^ 15) (shared p q a b)
  sum p q u v = sym (size-whole tt (omega arith) (reads (shared p q a b) (shared-good p q a b u v g h)))

  pub first-tie : size_sum (first_only a b) + size_sum (in_both a b) ≡ size_sum (whole_cells a)
  unfolding first_only in_both
  first-tie =
      ap₂ (λ (x y : ℕ). x + y) (sum 1 0 (omega arith) (omega arith)) (sum 1 1 (omega arith) (omega arith))
      ∙ first-sum a b g h
      ∙ size-whole tt (omega arith) (reads a g)

  pub second-tie : size_sum (second_only a b) + size_sum (in_both a b) ≡ size_sum (whole_cells b)
  unfolding second_only in_both
  second-tie =
      ap₂ (λ (x y : ℕ). x + y) (sum 0 1 (omega arith) (omega arith)) (sum 1 1 (omega arith) (omega arith))
      ∙ second-sum a b g h
      ∙ size-whole tt (omega arith) (reads b h)
