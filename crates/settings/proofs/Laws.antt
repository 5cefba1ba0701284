pub mod Files
-- What the tests of `settings` make of its answers. Assumes nothing.
use mathlib.Core.Path.{◌≡◌, refl, sym, ap, ◌∙◌}
use mathlib.Core.Bool.{Bool, true, false, cond}
use mathlib.Core.List.{List, [], ◌++◌, append-nil}
use Prim.Native.Nat.{ℕ}
use native.Mathlib.Omega.{arith}
use lib.Dec.{eqb}
use lib.ListN.{length, drop, drop_of_length-le}
use borrow.Author.Tests.{eq-eqb, ne_eqb}
use Rattle.logic.specs.Refusal.{given}
use Rattle.logic.specs.Laws.Refusal.{given-value, given-none}
use Rattle.history.specs.declared.Settings.{Settings}
use Rattle.history.specs.declared.History.{History}
use Rattle.history.specs.declared.HistoryAnswer.{HistoryAnswer}
use Rattle.history.specs.declared.SettingsAnswer.{SettingsAnswer}
use Rattle.history.specs.Settings.{read_refusal}
use Rattle.history.specs.History.{placed, read_of}
use Rattle.report.specs.History.{settings_line}
use Rattle.console.specs.declared.Loaded.{Loaded}
use Rattle.settings.specs.declared.Change.{Change}
use Rattle.settings.specs.Answered.{answered, changed_from, read_line}

-- ---- changes

pub none_before : (l : Loaded) (c : Change) → l.done ≡ false → l ≡ changed_from l c
unfolding changed_from
none_before l c e =
    sym (ap (λ (b : Bool). cond b (record { done = eqb (answered l.history c).refusal 0; history = (answered l.history c).history }) l) e)

module _ (l : Loaded) (c : Change) (before : l.done ≡ true) (a : HistoryAnswer) (e : a ≡ answered l.history c) where
  by_answer : record { done = eqb a.refusal 0; history = a.history } ≡ changed_from l c
  unfolding changed_from
  by_answer =
      ap (λ (x : HistoryAnswer). record { done = eqb x.refusal 0; history = x.history }) e
      ∙ sym (ap (λ (b : Bool). cond b (record { done = eqb (answered l.history c).refusal 0; history = (answered l.history c).history }) l) before)

  pub refused : (a.refusal ≡ 0 → ⊥) → record { done = false; history = a.history } ≡ changed_from l c
  refused n = ap (λ (b : Bool). record { done = b; history = a.history }) (sym (ne_eqb a.refusal 0 n)) ∙ by_answer

  pub accepted : a.refusal ≡ 0 → record { done = true; history = a.history } ≡ changed_from l c
  accepted z = ap (λ (b : Bool). record { done = b; history = a.history }) (sym (eq-eqb a.refusal 0 z)) ∙ by_answer

-- bytes that an encoding fills
pub filled : (e old later : List ℕ) → 263 ≡ length old → later ≡ e ++ drop 263 old → later ≡ e
filled e old later l f = f ∙ ap (λ (t : List ℕ). e ++ t) (drop_of_length-le old {i = 263} (omega (arith, l))) ∙ append-nil e

-- ---- reading

module _ (h : History) (r : ℕ) (a : SettingsAnswer) (e : a ≡ read_of h r) where
  number_is : a.refusal ≡ read_refusal h.newest r
  unfolding read_of
  number_is = ap (λ (x : SettingsAnswer). x.refusal) e

  pub no_line : (a.refusal ≡ 0 → ⊥) → [] ≡ read_line h r
  unfolding read_line
  no_line n = sym (given-none (read_refusal h.newest r) (settings_line (placed h r)) [] (λ z. n (number_is ∙ z)))

  pub the-line : a.refusal ≡ 0 → settings_line a.settings ≡ read_line h r
  unfolding read_line read_of
  the-line z =
      let q : read_refusal h.newest r ≡ 0 = sym number_is ∙ z in
      ap (λ (x : SettingsAnswer). settings_line x.settings) e
      ∙ ap settings_line (given-value (placed h r) _ q)
      ∙ sym (given-value (settings_line (placed h r)) [] q)
