-- The lines of an input, taken one after the other as they are handed out, are exactly its lines: the shape that the programs' loops share. Assumes nothing.
use Rattle.std.specs.Prelude.{◌≡◌, refl, List, [], ◌∷◌, ◌++◌, ℕ, ◌<◌, length}
use Rattle.std.proofs.Common.{sym, ap, ap₂, ◌∙◌, append-nil, arith}
use Rattle.lines.specs.Lines.{ended, begun, last, lines_of, Unended}
use Rattle.lines.specs.Fold.{after, OfBytes, OfEnded}
use Rattle.lines.specs.Laws.Lines.{ended-append, begun-append, unended, begun-on, ended-line, begun-line}

module _ {S : Type 0} (step : S → List ℕ → S) where
  pub after-append : (s : S) (xs ys : List (List ℕ)) → after step s (xs ++ ys) ≡ after step (after step s xs) ys
  after-append s [] ys = refl
  after-append s (x ∷ xs) ys = after-append (step s x) xs ys

  module _ {first s : S} where
    -- one line more
    pub then-line : (x : List ℕ) → Unended x → OfEnded step first s → OfEnded step first (step s x)
    then-line x u (bytes, shut, e) = (bytes ++ (x ++ (10 ∷ [])), begun-append [] bytes (x ++ (10 ∷ [])) ∙ begun-line (begun [] bytes) x, ap (λ (a : S). step a x) e ∙ sym taken)
      where
        lines : ended [] (bytes ++ (x ++ (10 ∷ []))) ≡ ended [] bytes ++ (x ∷ [])
        lines =
            ended-append [] bytes (x ++ (10 ∷ [])) ∙ ap (λ (l : List ℕ). ended [] bytes ++ ended l (x ++ (10 ∷ []))) shut
            ∙ ap (λ (ls : List (List ℕ)). ended [] bytes ++ ls) (ended-line [] x u)

        taken : after step first (ended [] (bytes ++ (x ++ (10 ∷ [])))) ≡ step (after step first (ended [] bytes)) x
        taken = ap (after step first) lines ∙ after-append first (ended [] bytes) (x ∷ [])

    -- the last line, which has no end
    pub then-last : (x : List ℕ) → Unended x → 0 < length x → OfEnded step first s → OfBytes step first (step s x)
    then-last [] u h o = absurd (omega arith)
    then-last (b ∷ x) u h (bytes, shut, e) = (
      bytes ++ (b ∷ x),
      ap (λ (a : S). step a (b ∷ x)) e ∙ sym (ap (after step first) lines ∙ after-append first (ended [] bytes)
          ((b ∷ x) ∷ [])),
    )
      where
        rest : begun [] (bytes ++ (b ∷ x)) ≡ b ∷ x
        rest = begun-append [] bytes (b ∷ x) ∙ ap (λ (l : List ℕ). begun l (b ∷ x)) shut ∙ begun-on [] (b ∷ x) u

        whole : ended [] (bytes ++ (b ∷ x)) ≡ ended [] bytes
        whole = ended-append [] bytes (b ∷ x) ∙ ap (λ (ls : List (List ℕ)). ended [] bytes ++ ls) (unended (begun [] bytes) (b ∷ x) u) ∙ append-nil (ended [] bytes)

        lines : lines_of (bytes ++ (b ∷ x)) ≡ ended [] bytes ++ ((b ∷ x) ∷ [])
        lines = ap₂ (λ (ls : List (List ℕ)) (l : List ℕ). ls ++ last l) whole rest

    -- every line ended
    pub then-none : OfEnded step first s → OfBytes step first s
    then-none (bytes, shut, e) = (bytes, e ∙ sym (ap (after step first) (ap (λ (l : List ℕ). ended [] bytes ++ last l) shut ∙ append-nil (ended [] bytes))))

  pub no_line : (first : S) → OfEnded step first first
  no_line first = ([], refl, refl)
