-- After any run of commands a file holds the encoding of what the calls hand back, and `read` and `list` print what was accepted under a revision.
-- Assumes nothing.
use Rattle.std.specs.Prelude.{◌≡◌, refl, Bool, true, false, cond, List, [], ◌∷◌, ◌++◌}
use Rattle.std.proofs.Math.Path.{sym, ap}
use Rattle.std.proofs.Common.{◌∙◌, arith}
use Prim.Native.Nat.{ℕ, zero, suc}
use Rattle.std.proofs.Math.Dec.{eqb}
use Rattle.std.proofs.Math.ListN.{get_or}
use borrow.Author.Tests.{eq-eqb, ne_eqb}
use Rattle.logic.specs.Refusal.{given}
use Rattle.logic.specs.Laws.Refusal.{given-value}
use Rattle.decimal.specs.Decimal.{printed}
use Rattle.history.specs.declared.Settings.{Settings}
use Rattle.history.specs.declared.History.{History}
use Rattle.history.specs.declared.HistoryAnswer.{HistoryAnswer}
use Rattle.history.specs.Settings.{none, settings_refusal, read_refusal}
use Rattle.history.specs.Log.{Call, change, back, newest, log_of, after}
use Rattle.history.specs.History.{fresh, as_call, keeper, placed, read_of}
use Rattle.history.specs.Valid.{Valid}
use Rattle.history.proofs.Laws.History.{kept}
use Rattle.history.proofs.Laws.Valid.{run-valid, fresh-valid}
use Rattle.encoding.specs.declared.Decoded.{Decoded}
use Rattle.encoding.specs.Encoding.{encoding_of}
use Rattle.encoding.proofs.Laws.Encoding.{decode-encode}
use Rattle.report.specs.History.{settings_line, revision_line}
use Rattle.console.specs.declared.Loaded.{Loaded}
use Rattle.console.specs.History.{loaded_from}
use Rattle.settings.specs.declared.Change.TheVariants.{Fresh}
use Rattle.settings.specs.Answered.{answered, changed_from, read_line}
use Rattle.settings.specs.Files.{command_of, file_after, files_after}

-- what was kept is loaded
loaded : (h : History) → Valid h → loaded_from (encoding_of h) ≡ record { done = true; history = h }
unfolding loaded_from
loaded h v = ap (λ (d : Decoded). record { done = eqb d.refusal 0; history = d.history }) (decode-encode h v)

-- `fresh` makes the fresh history of its settings, whatever stood before it, or none where they are refused
module _ (h : History) (x : Settings) where
  pub fresh-made : settings_refusal x ≡ 0 → changed_from (record { done = true; history = h }) (Fresh x) ≡ record { done = true; history = (fresh x).history }
  unfolding changed_from
  fresh-made e = ap (λ (r : ℕ). record { done = eqb r 0; history = (fresh x).history }) (kept.starts x ∙ e)

  pub fresh-none : (settings_refusal x ≡ 0 → ⊥) → (changed_from (record { done = true; history = h }) (Fresh x)).done ≡ false
  unfolding changed_from
  fresh-none n = ne_eqb (fresh x).refusal 0 (λ z. n (sym (kept.starts x) ∙ z))

same-call : (h : History) (c : Call) → answered h (command_of c) ≡ as_call h c
same-call h (change from x) = refl
same-call h (back from to) = refl

-- one command is one call
one-call : (h : History) → Valid h → (c : Call) → file_after (encoding_of h) (command_of c) ≡ encoding_of (as_call h c).history
unfolding file_after changed_from
one-call h v c =
    ap (λ (l : Loaded). cond (changed_from l (command_of c)).done (encoding_of (changed_from l (command_of c)).history) (encoding_of h)) (loaded h v)
    ∙ ap (λ (a : HistoryAnswer). cond (eqb a.refusal 0) (encoding_of a.history) (encoding_of h)) (same-call h c)
    ∙ go (as_call h c).refusal refl
  where
    go : (r : ℕ) → (as_call h c).refusal ≡ r → cond (eqb (as_call h c).refusal 0) (encoding_of (as_call h c).history) (encoding_of h) ≡ encoding_of (as_call h c).history
    go zero e = ap (λ (b : Bool). cond b (encoding_of (as_call h c).history) (encoding_of h)) (eq-eqb (as_call h c).refusal 0 e)
    go (suc r) e =
        let n : (as_call h c).refusal ≡ 0 → ⊥ = λ z. let y : ◌≡◌ {A = ℕ} 0 (suc r) = sym z ∙ e in omega arith in
        ap (λ (b : Bool). cond b (encoding_of (as_call h c).history) (encoding_of h)) (ne_eqb (as_call h c).refusal 0 n)
        ∙ sym (ap encoding_of (kept.same h c n))

from-valid : (h : History) → Valid h → (run : List Call) → files_after (encoding_of h) run ≡ encoding_of (after keeper h run)
unfolding files_after after
from-valid h v [] = refl
from-valid h v (c ∷ run) =
    ap (λ (t : List ℕ). files_after t run) (one-call h v c) ∙ from-valid (as_call h c).history (run-valid h (c ∷ []) v) run

-- a line of settings that are read
given-line : (q : ℕ) (y : Settings) → given q (settings_line (given q y none)) [] ≡ given q (settings_line y) []
unfolding given
given-line zero y = refl
given-line (suc q) y = refl

module _ (x : Settings) (e : settings_refusal x ≡ 0) (run : List Call) where
  abbrev file : List ℕ
  file = files_after (encoding_of (fresh x).history) run

  pub file-is : file ≡ encoding_of (after keeper (fresh x).history run)
  file-is = from-valid (fresh x).history (fresh-valid x e) run

  valid : Valid (after keeper (fresh x).history run)
  valid = run-valid (fresh x).history run (fresh-valid x e)

  -- it is loaded again
  pub file-loaded : loaded_from file ≡ record { done = true; history = after keeper (fresh x).history run }
  file-loaded = ap loaded_from file-is ∙ loaded (after keeper (fresh x).history run) valid

  -- "reading a kept revision gives what was accepted under it": the line that is printed, or nothing where it is not kept
  pub file-read : (r : ℕ) →
      let log = log_of (x ∷ []) run in
      read_line (loaded_from file).history r ≡ given (read_refusal (newest log) r) (settings_line (get_or log r none)) []
  unfolding read_line read_of
  file-read r =
      let h = after keeper (fresh x).history run in
      let log = log_of (x ∷ []) run in
      ap (λ (l : Loaded). read_line l.history r) file-loaded
      ∙ sym (given-line (read_refusal h.newest r) (placed h r))
      ∙ ap (λ (p : ℕ × Settings). given p.0 (settings_line p.1) []) (kept.reads x e run r)
      ∙ given-line (read_refusal (newest log) r) (get_or log r none)

  -- and so says the line of each revision that is listed
  pub file-lists : (r : ℕ) →
      let log = log_of (x ∷ []) run in
      read_refusal (newest log) r ≡ 0 → revision_line (loaded_from file).history r ≡ (printed r ++ (32 ∷ [])) ++ settings_line (get_or log r none)
  unfolding read_of
  file-lists r q =
      let h = after keeper (fresh x).history run in
      let log = log_of (x ∷ []) run in
      let k = kept.reads x e run r in
      let own : read_refusal h.newest r ≡ 0 = ap (λ (p : ℕ × Settings). p.0) k ∙ q in
      let there : placed h r ≡ get_or log r none =
      sym (given-value (placed h r) none own) ∙ ap (λ (p : ℕ × Settings). p.1) k ∙ given-value (get_or log r none) none q in
      ap (λ (l : Loaded). revision_line l.history r) file-loaded ∙ ap (λ (y : Settings). (printed r ++ (32 ∷ [])) ++ settings_line y) there
