-- Codes put in front of a memory, and counted. Assumes nothing.
use Rattle.std.specs.Prelude.{◌≡◌, List, ◌++◌, ℕ, ◌≤◌, length, take, drop}
use Rattle.std.proofs.Common.{sym, ap, ◌∙◌, arith, length-append, length-drop, take_at}

module _ (l codes₀ codes₁ : List ℕ) (count : ℕ) (n : count ≡ length l) (r : length l ≤ length codes₀) (e : codes₁ ≡ l ++ drop (length l) codes₀) where
  pub put-length : length codes₁ ≡ length codes₀
  put-length = ap length e ∙ length-append l (drop (length l) codes₀) ∙ omega (arith, length-drop (length l) codes₀)

  pub put-fits : count ≤ length codes₁
  put-fits = omega (arith, put-length)

  pub put_front : take count codes₁ ≡ l
  put_front = ap (take count) e ∙ take_at l (drop (length l) codes₀) count (sym n)
