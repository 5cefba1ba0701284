-- What was decoded, and what was read of a history, make the answers. Assumes nothing.
use Rattle.std.specs.Prelude.{None, Some}
use mathlib.Core.Path.{◌≡◌, sym, ap, ◌∙◌}
use mathlib.Core.Bool.{true, false}
use mathlib.Core.List.{List, []}
use Prim.Native.Nat.{ℕ}
use lib.Dec.{eqb}
use borrow.Author.Tests.{eq-eqb, ne_eqb}
use Rattle.logic.specs.Laws.Refusal.{given-value, given-none}
use Rattle.history.specs.declared.Settings.{Settings}
use Rattle.history.specs.declared.History.{History}
use Rattle.history.specs.declared.SettingsAnswer.{SettingsAnswer}
use Rattle.history.specs.Settings.{read_refusal}
use Rattle.history.specs.History.{empty, placed, read_of}
use Rattle.encoding.specs.declared.Decoded.{Decoded}
use Rattle.encoding.specs.Decoding.{decoded_of}
use Rattle.encoding.proofs.Laws.Encoding.{decode-nothing}
use Rattle.console.specs.History.{loaded_from, setting_from, setting_at}

module _ (t : List ℕ) (d : Decoded) (e : d ≡ decoded_of t) where
  refusal_is : d.refusal ≡ (decoded_of t).refusal
  refusal_is = ap (λ (x : Decoded). x.refusal) e

  pub not-loaded : (d.refusal ≡ 0 → ⊥) → record { done = false; history = d.history } ≡ loaded_from t
  unfolding loaded_from
  not-loaded h = λ i. record { done = sym (ap (λ (r : ℕ). eqb r 0) (sym refusal_is) ∙ ne_eqb d.refusal 0 h) i; history = (e i).history }

  pub loaded : d.refusal ≡ 0 → record { done = true; history = d.history } ≡ loaded_from t
  unfolding loaded_from
  loaded h = λ i. record { done = sym (ap (λ (r : ℕ). eqb r 0) (sym refusal_is) ∙ eq-eqb d.refusal 0 h) i; history = (e i).history }

-- no bytes are no encoding
pub nothing-loaded : (h : History) → h ≡ empty → record { done = false; history = h } ≡ loaded_from []
unfolding loaded_from
nothing-loaded h e =
    ap (λ (x : History). record { done = false; history = x }) e ∙ sym (ap (λ (d : Decoded). record { done = eqb d.refusal 0; history = d.history }) decode-nothing)

module _ (h : History) (r : ℕ) (a : SettingsAnswer) (e : a ≡ read_of h r) where
  number_is : a.refusal ≡ read_refusal h.newest r
  unfolding read_of
  number_is = ap (λ (x : SettingsAnswer). x.refusal) e

  pub not-kept : (a.refusal ≡ 0 → ⊥) → None ≡ setting_at h r
  unfolding setting_at
  not-kept n = sym (given-none (read_refusal h.newest r) (Some (setting_from (placed h r))) None (λ z. n (number_is ∙ z)))

  pub is-kept : a.refusal ≡ 0 → Some (setting_from a.settings) ≡ setting_at h r
  unfolding setting_at read_of
  is-kept z =
      let q : read_refusal h.newest r ≡ 0 = sym number_is ∙ z in
      ap (λ (x : SettingsAnswer). Some (setting_from x.settings)) e
      ∙ ap (λ (x : Settings). Some (setting_from x)) (given-value (placed h r) _ q)
      ∙ sym (given-value (Some (setting_from (placed h r))) None q)
