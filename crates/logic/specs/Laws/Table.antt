-- The test over the whole of a table gives the rule at each entry. Assumes nothing.
use Rattle.std.specs.Prelude.{◌≡◌, true, List, [], ◌∷◌, ℕ, zero, suc, ◌+◌, ◌<◌, eqb, length, get_or}
use Rattle.std.proofs.Common.{sym, ap, ◌∙◌, add-zero, zero-add, add-suc, suc-add, arith, eqb-true}
use Rattle.logic.specs.Table.{follows}
use Rattle.logic.specs.Laws.Bools.{and_left, and_right}

entry-from : (rule : ℕ → ℕ) (i : ℕ) (xs : List ℕ) → follows rule i xs ≡ true → (k : ℕ) → k < length xs → get_or xs k 0 ≡ rule (i + k)
unfolding follows
entry-from rule i [] t k h = absurd (omega arith)
entry-from rule i (x ∷ xs) t zero h = eqb-true x (rule i) (and_left (eqb x (rule i)) (follows rule (suc i) xs) t) ∙ ap rule (sym (add-zero i))
entry-from rule i (x ∷ xs) t (suc k) h =
    entry-from rule (suc i) xs (and_right (eqb x (rule i)) (follows rule (suc i) xs) t) k (omega arith) ∙ ap rule (suc-add i k ∙ sym (add-suc i k))

pub table-entry : (rule : ℕ → ℕ) (xs : List ℕ) → follows rule 0 xs ≡ true → (k : ℕ) → k < length xs → get_or xs k 0 ≡ rule k
table-entry rule xs t k h = entry-from rule 0 xs t k h ∙ ap rule (zero-add k)
