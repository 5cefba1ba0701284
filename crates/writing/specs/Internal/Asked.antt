-- What is refused before the ground of a list is looked at. Assumes nothing.
use Rattle.std.specs.Prelude.{not, List, ℕ, ltb}
use Rattle.logic.specs.Refusal.{refuse, ◌otherwise◌}
use Rattle.cell.specs.declared.Arrangement.{Arrangement}
use Rattle.cell.specs.Cell.{arrangement_refusal}
use Rattle.writing.specs.Write.{all_codes, codes_refusal, is_version}

unfoldable pub asked_refusal : (version depth : ℕ) → Arrangement → List ℕ → ℕ
asked_refusal version depth a codes =
    arrangement_refusal a otherwise
    refuse (ltb 15 depth) 2 otherwise
    refuse (not (all_codes codes)) 4 otherwise
    refuse (not (is_version version)) 10 otherwise
    codes_refusal a codes
