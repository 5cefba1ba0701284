-- The answers of the summary's entries (02, W-207) as numbers, and the table of refusals for them. Assumes nothing.
use Rattle.std.specs.Prelude.{◌≡◌, ◌⊎◌, cond, List, [], ◌∷◌, ℕ, ◌<◌, Err, Ok, Result, Bool}
use Rattle.reading.specs.declared.Refused.{Refused}
use Rattle.cell.specs.declared.Arrangement.{Arrangement}
use Rattle.code.specs.Code.{cell_of, arrangement_of}
use Rattle.code.proofs.Laws.Exact.{NoCell}
use Rattle.reader.specs.Check.{text_refusal}
use Rattle.summary.specs.Summary.{zeros, summarized, kept_counters, question_refusal, questioned}
use Rattle.entries.specs.declared.SummaryAnswer.{SummaryAnswer}
use Rattle.entries.specs.declared.SummaryAskAnswer.{SummaryAskAnswer}
use Rattle.entries.specs.Entries.{arrangement}
use Rattle.entries.specs.Order.{Chain}

-- the heading's n and s and the counters, or the refusal and the place
abbrev pub summary_numbers : Result Arrangement Refused → (counters : List ℕ) → SummaryAnswer
summary_numbers (Ok x) counters = record { refusal = 0; place = 0; n = x.north; s = x.south; counters = counters }
summary_numbers (Err e) counters = record { refusal = e.refusal; place = e.place; n = 0; s = 0; counters = counters }

-- 1 for yes, 0 for no
abbrev pub question_numbers : Result Bool ℕ → SummaryAskAnswer
question_numbers (Ok covered) = record { refusal = 0; covered = cond covered 1 0 }
question_numbers (Err refusal) = record { refusal = refusal; covered = 0 }

-- ---- what the entries answer

-- the counters are zeros where the text is refused
unfoldable pub summary_of : List ℕ → SummaryAnswer
summary_of t = summary_numbers (summarized (text_refusal t) t) (kept_counters t zeros)

unfoldable pub summary_asked : (n s : ℕ) (counters : List ℕ) (code : ℕ) → SummaryAskAnswer
summary_asked n s counters code = question_numbers (questioned (question_refusal (arrangement n s) code) counters code)

-- ---- 5: "also for a kept n or s above 3". "2 for a finer cell asked, after 4; 14 for a question of another arrangement than the one kept"

abbrev pub summary_ask_tests : (n s code : ℕ) → Chain
summary_ask_tests n s code =
    (5, (3 < n) ⊎ (3 < s)) ∷ (4, NoCell code) ∷ (2, 2 < (cell_of code).resolution) ∷ (14, arrangement_of code ≡ arrangement n s → ⊥) ∷ []
