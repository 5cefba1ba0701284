-- What is judged, and which revision is wanted, by the tests. Assumes nothing.
use Rattle.std.specs.Prelude.{None, Option, Some}
use mathlib.Core.Path.{◌≡◌, sym, ap, ◌∙◌}
use Prim.Native.Nat.{ℕ}
use Rattle.logic.specs.Laws.Refusal.{given-value, given-none}
use Rattle.flight.specs.declared.Setting.{Setting}
use Rattle.flight.specs.Setting.{setting_refusal}
use Rattle.history.specs.declared.History.{History}
use Rattle.console.specs.Arguments.{judged}
use Rattle.console.specs.History.{setting_at, setting_wanted}

module _ {x : Option Setting} (s : Setting) (q : ℕ) (e : x ≡ Some s) (f : q ≡ setting_refusal s) where
  pub is-refused : (q ≡ 0 → ⊥) → None ≡ judged x
  is-refused n = sym (ap judged e ∙ given-none (setting_refusal s) (Some s) None (λ z. n (f ∙ z)))

  pub is-accepted : q ≡ 0 → Some s ≡ judged x
  is-accepted z = sym (ap judged e ∙ given-value (Some s) None (sym f ∙ z))

pub is-wanted : (h : History) (w : Option ℕ) (r : ℕ) {got out : Option Setting} → w ≡ Some r → got ≡ setting_at h r → got ≡ out → out ≡ setting_wanted h w
is-wanted h w r e f g = sym g ∙ f ∙ sym (ap (setting_wanted h) e)
