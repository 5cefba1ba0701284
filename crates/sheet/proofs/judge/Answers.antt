-- `sheet::judge` meets its contract: the sheet is one part. Assumes nothing.
use mathlib.Core.Path.{refl, sym, subst, ◌∙◌}
use mathlib.Core.List.{[]}
use Rattle.sheet.specs.Parts.{StandsAt, Behind}
use Rattle.sheet.proofs.Laws.Stands.{stands-start}
use Rattle.sheet.proofs.Laws.Parts.{behind-start, behind-part, behind-told}
use Rattle.sheet.proofs.judge.Goals as goal

pub go_over-requires : goal.go_over-requires
go_over-requires c =
    let s = c in
    let t = s.args.text.now in
    (s.requires.1, subst (StandsAt t) (sym c.start.ensures) (stands-start t s.requires.0 s.requires.2))

pub returns : goal.returns
returns c =
    let s = c in
    let t = s.args.text.now in
    let b = subst (Behind t []) (sym c.start.ensures) (behind-start t s.requires.0 s.requires.2) in
    c.told.ensures ∙ behind-told (behind-part b c.go_over.ensures refl)
