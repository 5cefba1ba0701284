-- The codes put, sorted and thinned, one after the other in the same memory. Assumes nothing.
use Rattle.std.specs.Prelude.{◌≡◌, true, List, ◌++◌, ℕ, ◌≤◌, length, take, drop}
use Rattle.std.proofs.Common.{sym, ap, ◌∙◌, arith, length-append, take_at}
use Rattle.std.proofs.Math.Seq.{take-append_seam}
use Rattle.writing.specs.Write.{all_codes}
use Rattle.sorting.specs.Sorted.{sorted}
use Rattle.sorting.proofs.Laws.Sorted.{sorted-length}
use Rattle.proper.specs.Thin.{thinned}
use Rattle.proper.proofs.Laws.Front.{put_front}

module _ (l codes₀ codes₁ : List ℕ) (count : ℕ) (n : count ≡ length l) (r : length l ≤ length codes₀) (e : codes₁ ≡ l ++ drop (length l) codes₀) where
  module _ (s : List ℕ) (f : s ≡ sorted (take count codes₁)) where
    sorted-is : s ≡ sorted l
    sorted-is = f ∙ ap sorted (put_front l codes₀ codes₁ count n r e)

    sorted-long : length s ≡ count
    sorted-long = ap length sorted-is ∙ sorted-length l ∙ sym n

    pub sorted_front : take count (s ++ drop count codes₁) ≡ sorted l
    sorted_front = take_at s (drop count codes₁) count sorted-long ∙ sorted-is

    pub sorted-fits : count ≤ length (s ++ drop count codes₁)
    sorted-fits = omega (arith, sorted-long, length-append s (drop count codes₁))

    pub sorted-coded : all_codes (sorted l) ≡ true → all_codes (take count (s ++ drop count codes₁)) ≡ true
    sorted-coded a = ap all_codes sorted_front ∙ a

    pub thinned-front :
        (m : ℕ) (codes₃ : List ℕ) → m ≡ length (thinned 0 (take count (s ++ drop count codes₁))) →
        codes₃ ≡ thinned 0 (take count (s ++ drop count codes₁)) ++ drop (length (thinned 0 (take count (s ++ drop count codes₁)))) (s ++ drop count codes₁) →
        (m ≡ length (thinned 0 (sorted l))) × (take (length (thinned 0 (sorted l))) codes₃ ≡ thinned 0 (sorted l))
    thinned-front m codes₃ p q =
        let z : thinned 0 (take count (s ++ drop count codes₁)) ≡ thinned 0 (sorted l) = ap (thinned 0) sorted_front in
        let w : codes₃ ≡ thinned 0 (sorted l) ++ drop (length (thinned 0 (sorted l))) (s ++ drop count codes₁) =
        q ∙ ap (λ (x : List ℕ). x ++ drop (length x) (s ++ drop count codes₁)) z in
        (p ∙ ap length z, ap (take (length (thinned 0 (sorted l)))) w ∙ take-append_seam (thinned 0 (sorted l)) _)
