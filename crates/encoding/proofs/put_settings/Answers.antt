-- `encoding::put_settings` meets its contract: each number is put where the one before it ends. Assumes nothing.
use mathlib.Core.Path.{ap, ◌∙◌}
use mathlib.Core.List.{List}
use Prim.Native.Nat.{ℕ, ◌+◌}
use lib.Seq.{sets}
use Rattle.ternary.specs.Digits.{digits}
use Rattle.encoding.proofs.Laws.{settings-put}
use Rattle.encoding.proofs.put_settings.Goals as goal

pub returns : goal.returns
returns c =
    let a = c.args in
    c.put_number-4.ensures
    ∙ ap (λ (l : List ℕ). sets l (a.at + 3) (digits 256 5 a.settings.eccentricity))
    (c.put_number-3.ensures
    ∙ ap (λ (l : List ℕ). sets l (a.at + 2) (digits 256 1 a.settings.resolution))
    (c.put_number-2.ensures
    ∙ ap (λ (l : List ℕ). sets l (a.at + 1) (digits 256 1 a.settings.s))
    c.put_number.ensures))
    ∙ settings-put a.bytes.now a.at a.settings
