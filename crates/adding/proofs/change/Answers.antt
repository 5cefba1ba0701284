-- `adding::change` meets its contract. Assumes nothing.
use Rattle.std.specs.Prelude.{Result}
use Rattle.reading.specs.declared.Refused.{Refused}
use mathlib.Core.Path.{◌≡◌, refl, sym, subst}
use mathlib.Core.List.{List}
use Prim.Native.Nat.{ℕ, ◌≤◌}
use lib.ListN.{length, take}
use Rattle.adding.specs.declared.Edit.{Edit}
use Rattle.adding.specs.declared.Edit.TheVariants.{Cut}
use Rattle.adding.specs.Internal.Edit.{edited, EditFits}
use Rattle.adding.specs.Internal.Become.{Becomes}
use Rattle.adding.proofs.Becoming.{becomes-same, becomes-cut}
use Rattle.adding.proofs.change.Goals as goal

-- what is known of an edit is known of the case
cut_fits : {e : Edit} {a b : ℕ} (end count : ℕ) → e ≡ Cut a b → EditFits end count e → (a ≤ b) × (b ≤ end)
cut_fits end count q h = subst (λ (y : Edit). EditFits end count y) q h

of-case : (name t bytes : List ℕ) {after : List ℕ} {r : Result ℕ Refused} {e f : Edit} → e ≡ f → Becomes (edited name t f) bytes after r → Becomes (edited name t e) bytes after r
of-case name t bytes {after} {r} q h = subst (λ (y : Edit). Becomes (edited name t y) bytes after r) (sym q) h

pub returns-in-Covered : goal.returns-in-Covered
unfolding edited
returns-in-Covered c =
    let s = c in
    of-case s.args.name.now (take s.args.end s.args.text.now) s.args.text.now c.in-Covered.is
    (becomes-same s.args.name.now s.args.text.now s.args.end s.requires.0 s.requires.1 refl)

pub returns-in-Full : goal.returns-in-Full
unfolding edited
returns-in-Full c =
    let s = c in
    of-case s.args.name.now (take s.args.end s.args.text.now) s.args.text.now c.in-Full.is
    (becomes-same s.args.name.now s.args.text.now s.args.end s.requires.0 s.requires.1 refl)

pub returns-in-Cut : goal.returns-in-Cut
returns-in-Cut c =
    let s = c in
    let f = cut_fits c.args.end
    (length c.args.name.now) c.in-Cut.is
    c.requires.3 in
    of-case s.args.name.now (take s.args.end s.args.text.now) s.args.text.now c.in-Cut.is
    (becomes-cut s.args.name.now s.args.text.now s.args.end s.requires.0 s.requires.1 c.in-Cut.from
    c.in-Cut.to f.0 f.1 c.close_gap.ensures)
