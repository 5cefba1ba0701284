-- `jgv_geodetic_code` meets its contract. Assumes nothing.
use mathlib.Core.Path.{ap, ap₂, ◌∙◌}
use lib.IntN.{ℤ}
use Rattle.signed.specs.Laws.Sign.{back}
use Rattle.entries.specs.Entries.{coded_answer, geodetic_code}
use Rattle.jeguarivo.proofs.Laws.{found-code}
use Rattle.jeguarivo.proofs.jgv_geodetic_code.Goals as goal

pub returns : goal.returns
unfolding geodetic_code
returns c =
    let s = c in
    let a = s.args in
    c.coded_answer.ensures ∙ ap coded_answer c.coded_fix.ensures ∙ found-code _ _ _
    ∙ ap₂ (λ (L S : ℤ). geodetic_code a.n a.s a.resolution L S a.eccentricity) (back s.ranges.longitude) (back s.ranges.sine)
