-- A text that was written stands in front of its room. Assumes nothing.
use Rattle.std.specs.Prelude.{◌≡◌, refl, List, ℕ, zero, suc, ◌≤◌, length, take, drop, Err, Ok, Result}
use Rattle.std.proofs.Common.{sym, ◌∙◌, arith}
use Rattle.std.proofs.Math.Path.{ap}
use Rattle.std.proofs.Math.Seq.{take_at}
use borrow.Author.Tests.{ltb-false}
use Rattle.logic.specs.Refusal.{given}
use Rattle.logic.specs.Laws.Refusal.{both, allowed}
use Rattle.cell.specs.declared.Arrangement.{Arrangement}
use Rattle.writing.specs.Write.{asks_for, text_of, text_in, fit_refusal, write_refusal, written}

as_written : (r n m : ℕ) → written r n ≡ Ok m → (r ≡ 0) × (n ≡ m)
unfolding written
as_written zero n m e = (refl, (cc))
as_written (suc r) n m e = let z : ◌≡◌ {A = ℕ} 0 1 = cc in absurd (omega arith)

not_written : (r n q : ℕ) → written r n ≡ Err q → (r ≡ q) × (q ≡ 0 → ⊥)
unfolding written
not_written zero n q e = let z : ◌≡◌ {A = ℕ} 0 1 = cc in absurd (omega arith)
not_written (suc r) n q e = let k : suc r ≡ q = cc in (k, λ z. omega arith)

module _
    (version depth : ℕ) (a : Arrangement) (codes text later : List ℕ) {r : Result ℕ ℕ}
    (e : r ≡ written (write_refusal version depth a codes (length text)) (length (text_of (asks_for version depth) a codes)))
  where
    abbrev refusal : ℕ
    refusal = write_refusal version depth a codes (length text)

    abbrev whole : List ℕ
    whole = text_of (asks_for version depth) a codes

    -- 8 comes last
    has_room : refusal ≡ 0 → length whole ≤ length text
    unfolding write_refusal fit_refusal
    has_room z =
        let fits = (both _ _ (both _ _ (both _ _ (both _ _ (both _ _ z).1).1).1).1).1 in
        ltb-false (length text) (length whole) (allowed 7 _ (both _ _ (both _ _ fits).1).1)

    pub text-fits : (n : ℕ) → r ≡ Ok n → n ≤ length text
    text-fits n h = let k = as_written refusal (length whole) n (sym e ∙ h) in omega (arith, has_room k.0, k.1)

    pub text-put : (n : ℕ) → r ≡ Ok n → later ≡ given refusal (text_in (asks_for version depth) a codes text) text → take n later ≡ whole
    unfolding given text_in
    text-put n h f =
        let k = as_written refusal (length whole) n (sym e ∙ h) in
        ap (take n) (f ∙ ap (λ (q : ℕ). given q (text_in (asks_for version depth) a codes text) text) k.0) ∙ take_at whole (drop (length whole) text) n k.1

    pub text-refused : (q : ℕ) → r ≡ Err q → (refusal ≡ q) × (q ≡ 0 → ⊥)
    text-refused q h = not_written refusal (length whole) q (sym e ∙ h)
