-- What was judged can be used. Assumes nothing.
use Rattle.std.specs.Prelude.{◌≡◌, refl, ℕ, zero, suc, None, Option, Some}
use Rattle.logic.specs.Refusal.{given}
use Rattle.flight.specs.declared.Setting.{Setting}
use Rattle.flight.specs.Setting.{setting_refusal}
use Rattle.console.specs.Arguments.{Usable, judged}

by-refusal : (s : Setting) (q : ℕ) → setting_refusal s ≡ q → Usable (given q (Some s) None)
unfolding given
by-refusal s zero e = e
by-refusal s (suc q) e = tt

pub judged-usable : (x : Option Setting) → Usable (judged x)
judged-usable (Some s) = by-refusal s (setting_refusal s) refl
judged-usable None = tt
