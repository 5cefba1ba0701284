-- "The old path stays, .. and both agree on every cell and refusal" (02, W-202), over what the entries answer and leave in lent memory: a batch has for
-- each code what `jgv_code_cell` answers, and for each cell what `jgv_cell_code` answers. Assumes nothing.
use Rattle.std.specs.Prelude.{◌≡◌, refl, ◌↔◌, true, List, ℕ, zero, suc, ◌*◌, ◌<◌, get_or, take, drop, Err, Ok, Result}
use Rattle.std.proofs.Common.{sym, ap, ◌∙◌, drop_at}
use Rattle.std.proofs.Math.Path.{subst}
use Rattle.std.proofs.Math.ListN.{length}
use Rattle.cell.specs.declared.Cell.{Cell}
use Rattle.logic.specs.Lent.{in_front}
use Rattle.logic.specs.Laws.Refusal.{given-value, given-none}
use Rattle.cell.specs.declared.Arrangement.{Arrangement}
use Rattle.cell.specs.Cell.{found}
use Rattle.code.specs.Code.{cell_of, arrangement_of, code_refusal}
use Rattle.batch.specs.Batch.{seven_in, seven_of, cells_of, cells_refusal, cells_memory, coded_at, two_in, cells_in, codes_of, codes_refusal, codes_memory, batched}
use Rattle.batch.proofs.Laws.Batch.{cells-long, cell-stands, codes-long, code-stands, read_at}
use Rattle.entries.specs.Entries.{cell_numbers, code_cell, code_answer, code_of_cell}
use Rattle.entries.specs.Batches.{batch_numbers, cells_answer, codes_answer, cells_tests, codes_tests, seven_numbers, two_numbers, code_from}
use Rattle.entries.specs.Order.{order, numbers, in_order, FirstOf}
use Rattle.entries.proofs.Laws.Order.{last, lt-decides, given-exactly}

batch-refusal : (r n : ℕ) → (batch_numbers (batched r n)).refusal ≡ r
unfolding batched
batch-refusal zero n = refl
batch-refusal (suc r) n = refl

batch-count : {r : ℕ} (n : ℕ) → r ≡ 0 → (batch_numbers (batched r n)).count ≡ n
unfolding batched
batch-count n e = ap (λ (x : ℕ). (batch_numbers (batched x n)).count) e

batch-none : (r n : ℕ) → (r ≡ 0 → ⊥) → (batch_numbers (batched r n)).count ≡ 0
unfolding batched
batch-none zero n h = absurd (h refl)
batch-none (suc r) n h = refl

pub cells-in-order : (codes : List ℕ) (room : ℕ) → in_order order (numbers (cells_tests codes room)) ≡ true
unfolding in_order
cells-in-order codes room = refl

pub codes-in-order : (ns : List ℕ) (room : ℕ) → in_order order (numbers (codes_tests ns room)) ≡ true
unfolding in_order
codes-in-order ns room = refl

-- ---- codes to cells

-- one code: seven numbers are what `jgv_code_cell` answers
seven-same : (a : Arrangement) (f : Result Cell ℕ) → seven_in a f ≡ seven_numbers (cell_numbers a f)
seven-same a (Ok c) = refl
seven-same a (Err r) = refl

pub seven-answered : (code : ℕ) → seven_of code ≡ seven_numbers (code_cell code)
unfolding seven_of code_cell
seven-answered code = seven-same (arrangement_of code) (found (code_refusal code) (cell_of code))

module _ (codes lent : List ℕ) where
  cells-refusal : (cells_answer codes (length lent)).refusal ≡ cells_refusal codes (length lent)
  unfolding cells_answer
  cells-refusal = batch-refusal (cells_refusal codes (length lent)) (length codes)

  pub cells-first : FirstOf (cells_tests codes (length lent)) (cells_answer codes (length lent)).refusal
  unfolding cells_refusal
  cells-first = subst (FirstOf (cells_tests codes (length lent))) (sym cells-refusal) (last 7 (lt-decides (length lent) (7 * length codes)))

  -- 8 exactly where the room is short
  pub eight_cells : ((cells_answer codes (length lent)).refusal ≡ 8) ↔ (length lent < 7 * length codes)
  eight_cells = given-exactly 7 cells-first refl

  -- then nothing is changed
  pub cells-refused : ((cells_answer codes (length lent)).refusal ≡ 0 → ⊥) → ((cells_answer codes (length lent)).count ≡ 0) × (cells_memory codes lent ≡ lent)
  unfolding cells_answer
  cells-refused n =
      let h : cells_refusal codes (length lent) ≡ 0 → ⊥ = λ e. n (cells-refusal ∙ e) in
      (batch-none (cells_refusal codes (length lent)) (length codes) h, given-none (cells_refusal codes (length lent)) (in_front (cells_of codes) lent) lent h)

  module _ (e : (cells_answer codes (length lent)).refusal ≡ 0) where
    cells-memory : cells_memory codes lent ≡ in_front (cells_of codes) lent
    cells-memory = given-value (in_front (cells_of codes) lent) lent (sym cells-refusal ∙ e)

    -- else each code is answered
    pub cells_count : (cells_answer codes (length lent)).count ≡ length codes
    unfolding cells_answer
    cells_count = batch-count (length codes) (sym cells-refusal ∙ e)

    -- with what it is answered alone, be it a cell or a refusal
    pub cells_agree : (i : ℕ) → i < length codes → take 7 (drop (7 * i) (cells_memory codes lent)) ≡ seven_numbers (code_cell (get_or codes i 0))
    cells_agree i h =
        ap (λ (l : List ℕ). take 7 (drop (7 * i) l)) cells-memory
        ∙ cell-stands codes (drop (length (cells_of codes)) lent) i h ∙ seven-answered (get_or codes i 0)

    -- and what stands behind is as it was
    pub cells-kept : drop (7 * length codes) (cells_memory codes lent) ≡ drop (7 * length codes) lent
    cells-kept =
        ap (drop (7 * length codes)) cells-memory
        ∙ drop_at (cells_of codes) (drop (length (cells_of codes)) lent) (7 * length codes) (cells-long codes)
        ∙ ap (λ (n : ℕ). drop n lent) (cells-long codes)

-- ---- cells to codes

-- one cell: two numbers are what `jgv_cell_code` answers
pub two-answered : (ns : List ℕ) (at : ℕ) → two_in (coded_at (drop at ns)) ≡ two_numbers (code_from ns at)
unfolding code_of_cell code_answer
two-answered ns at = ap two_in (sym (read_at ns at))

module _ (ns lent : List ℕ) where
  codes-refusal : (codes_answer ns (length lent)).refusal ≡ codes_refusal ns (length lent)
  unfolding codes_answer
  codes-refusal = batch-refusal (codes_refusal ns (length lent)) (cells_in ns)

  pub codes-first : FirstOf (codes_tests ns (length lent)) (codes_answer ns (length lent)).refusal
  unfolding codes_refusal
  codes-first = subst (FirstOf (codes_tests ns (length lent))) (sym codes-refusal) (last 7 (lt-decides (length lent) (2 * cells_in ns)))

  pub eight-codes : ((codes_answer ns (length lent)).refusal ≡ 8) ↔ (length lent < 2 * cells_in ns)
  eight-codes = given-exactly 7 codes-first refl

  pub codes-refused : ((codes_answer ns (length lent)).refusal ≡ 0 → ⊥) → ((codes_answer ns (length lent)).count ≡ 0) × (codes_memory ns lent ≡ lent)
  unfolding codes_answer
  codes-refused n =
      let h : codes_refusal ns (length lent) ≡ 0 → ⊥ = λ e. n (codes-refusal ∙ e) in
      (batch-none (codes_refusal ns (length lent)) (cells_in ns) h, given-none (codes_refusal ns (length lent)) (in_front (codes_of ns) lent) lent h)

  module _ (e : (codes_answer ns (length lent)).refusal ≡ 0) where
    codes-memory : codes_memory ns lent ≡ in_front (codes_of ns) lent
    codes-memory = given-value (in_front (codes_of ns) lent) lent (sym codes-refusal ∙ e)

    -- each six numbers are answered
    pub codes-count : (codes_answer ns (length lent)).count ≡ cells_in ns
    unfolding codes_answer
    codes-count = batch-count (cells_in ns) (sym codes-refusal ∙ e)

    -- with what they are answered alone
    pub codes-agree : (i : ℕ) → i < cells_in ns → take 2 (drop (2 * i) (codes_memory ns lent)) ≡ two_numbers (code_from ns (6 * i))
    codes-agree i h =
        ap (λ (l : List ℕ). take 2 (drop (2 * i) l)) codes-memory
        ∙ code-stands ns (drop (length (codes_of ns)) lent) i h ∙ two-answered ns (6 * i)

    pub codes-kept : drop (2 * cells_in ns) (codes_memory ns lent) ≡ drop (2 * cells_in ns) lent
    codes-kept =
        ap (drop (2 * cells_in ns)) codes-memory
        ∙ drop_at (codes_of ns) (drop (length (codes_of ns)) lent) (2 * cells_in ns) (codes-long ns)
        ∙ ap (λ (n : ℕ). drop n lent) (codes-long ns)
