-- `adding::add_near` meets its contract: the edit that is found in the text gives the text with the cell, and the list it was found in is still there.
-- Assumes nothing.
use mathlib.Core.Path.{◌≡◌, refl, sym, ap, ◌∙◌}
use mathlib.Core.Bool.{true}
use mathlib.Core.List.{List}
use Prim.Native.Nat.{ℕ, ◌-◌}
use lib.ListN.{length, take, replicate}
use lib.Seq.{length-take-le}
use Rattle.cell.specs.declared.Cell.{Cell}
use Rattle.cell.specs.Cell.{IsCell}
use Rattle.code.specs.Code.{cell_of}
use Rattle.code.proofs.Laws.Code.{code-is-cell}
use Rattle.reading.specs.TextReading.{body_start}
use Rattle.adding.specs.declared.Edit.{Edit}
use Rattle.adding.specs.Add.{text_with, keeps_with}
use Rattle.adding.specs.InMind.{InMind}
use Rattle.adding.specs.Internal.Find.{Stands, Led, NearEdit}
use Rattle.adding.proofs.Internal.WithLaws.{text_edit}
use Rattle.adding.proofs.Names.{Spelt, not-nameless, name-spelt, start, add-fits, add-breaks, add-gains}
use Rattle.adding.proofs.Nears.{text-stands, start-led, start-short, kept_near, kept-with, near-edit, near-gains}
use native.Mathlib.Omega.{arith}
use Rattle.adding.proofs.add_near.Goals as goal
use Rattle.adding.proofs.add_near.Goals.{After-heading_length-body, After-reach-list, After-start_near-from, In-Ok, Start}

-- the text, the name and the cell
abbrev text_at : Start → List ℕ
text_at s = take s.args.end s.args.text.now

abbrev name-at : In-Ok → List ℕ
name-at c = take c.in-Ok.letters c.code_name.new.name

abbrev cell_at : Start → Cell
cell_at s = cell_of s.args.code

is-cell : (s : Start) → IsCell (cell_at s)
is-cell s = code-is-cell s.args.code s.requires.1

-- states that were there before
abbrev from-letters : In-Ok → Start
from-letters c = (goal.at.In-Ok c).Start

abbrev from-body : After-heading_length-body → Start
from-body c = (goal.at.After-heading_length-body c).Start

abbrev from-reach : After-reach-list → After-heading_length-body
from-reach c = (goal.at.After-reach-list c).After-heading_length-body

abbrev letters-of : After-heading_length-body → In-Ok
letters-of c = (goal.at.After-heading_length-body c).In-Ok

-- the name's bytes, where there are so many letters
spelt : (c : In-Ok) → Spelt (from-letters c).args.code c.in-Ok.letters c.code_name.new.name
spelt c =
    let s = from-letters c in
    let n = c.code_name in
    name-spelt s.args.code s.requires.1 (replicate 16 0) refl n.ensures.value n.ensures.name_after c.in-Ok.is

-- where the nodes begin
begins : (c : After-heading_length-body) → c.heading_length-body.result ≡ body_start (text_at (from-body c))
begins c =
    let s = from-body c in
    c.heading_length-body.ensures ∙ sym (start s.requires.0 s.args.code s.requires.1 _ (spelt (letters-of c)).is)

-- the text's nodes and the cell's name
nodes : (c : After-heading_length-body) → Stands (text_at (from-body c)) (name-at (letters-of c)) c.heading_length-body.result 0
nodes c = let s = from-body c in text-stands (text_at s) s.requires.0.text (cell_at s) (is-cell s) _ (spelt (letters-of c)).is (begins c)

-- the list to begin with
began : (c : After-start_near-from) → Led (nodes (goal.at.After-start_near-from c).After-heading_length-body) c.start_near-from.result.place c.start_near-from.result.depth
unfolding nodes
began c =
    let h = (goal.at.After-start_near-from c).After-heading_length-body in
    let s = from-body h in
    start-led (text_at s) s.requires.0.text (cell_at s) (is-cell s) _ (spelt (letters-of h)).is (begins h) s.requires.2 c.start_near-from.ensures

-- the list that is reached
reached : (c : After-reach-list) → Led (nodes (from-reach c)) c.reach-list.result.place c.reach-list.result.depth
reached c = c.reach-list.ensures.led (nodes (from-reach c)) (began (goal.at.After-reach-list c).After-start_near-from)

-- what looking in it answers and keeps
abbrev Looked : (c : After-reach-list) (near : List ℕ) → Edit → Type 0
Looked c near e =
    let h = from-reach c in
    NearEdit (text_at (from-body h)) (name-at (letters-of h)) h.heading_length-body.result c.reach-list.result.place c.reach-list.result.depth
    (from-body h).args.code near e

-- the edit is the text's
edit-of : (c : After-reach-list) (near : List ℕ) (e : Edit) → Looked c near e → let s = from-body (from-reach c) in e ≡ text_edit (text_at s) s.requires.0.text (cell_at s) (is-cell s)
unfolding nodes
edit-of c near e x =
    let h = from-reach c in
    let s = from-body h in
    near-edit (text_at s) s.requires.0.text (cell_at s) (is-cell s) _ (spelt (letters-of h)).is (begins h) s.args.code refl (reached c) x

-- what is kept, for the text
keeps : (c : After-reach-list) (near : List ℕ) (e : Edit) → Looked c near e → InMind (text_at (from-body (from-reach c))) near
unfolding nodes
keeps c near e x =
    let h = from-reach c in
    let s = from-body h in
    kept_near (text_at s) s.requires.0.text (cell_at s) (is-cell s) _ (spelt (letters-of h)).is (begins h) s.args.code refl (reached c) x

-- and for the text with the cell
keeps-with :
    (c : After-reach-list) (near : List ℕ) (e : Edit) → Looked c near e → let s = from-body (from-reach c) in
    keeps_with (text_at s) (cell_at s) ≡ true → InMind (text_with (text_at s) (cell_at s)) near
unfolding nodes
keeps-with c near e x =
    let h = from-reach c in
    let s = from-body h in
    kept-with (text_at s) s.requires.0.text (cell_at s) (is-cell s) _ (spelt (letters-of h)).is (begins h) s.args.code refl (reached c) x

-- the text is as long as it is said to be
long : (s : Start) → length (text_at s) ≡ s.args.end
long s = length-take-le s.args.end s.args.text.now s.requires.0.fits

pub returns-in_default : goal.returns-in_default
returns-in_default c = let s = c in
    absurd (not-nameless s.args.code s.requires.1 (replicate 16 0) refl c.code_name.ensures.value c.in_default.is)

pub slice_bounds-name-end : goal.slice_bounds-name-end
slice_bounds-name-end c = (spelt (goal.at.slice_bounds-name-end c).In-Ok).fits

pub slice_bounds-start_near-end : goal.slice_bounds-start_near-end
slice_bounds-start_near-end c = sym (length-take-le _ _ (spelt (goal.at.slice_bounds-start_near-end c).In-Ok).fits)

pub slice_bounds-name-end-2 : goal.slice_bounds-name-end-2
slice_bounds-name-end-2 c = (spelt (goal.at.slice_bounds-name-end-2 c).In-Ok).fits

pub slice_bounds-reach-end-3 : goal.slice_bounds-reach-end-3
slice_bounds-reach-end-3 c = sym (length-take-le _ _ (spelt (goal.at.slice_bounds-reach-end-3 c).In-Ok).fits)

pub reach-list-requires : goal.reach-list-requires
reach-list-requires c =
    let h = (goal.at.reach-list-requires c).After-heading_length-body in
    let s = from-body h in
    let p = spelt (letters-of h) in (
      omega (arith, long s, s.requires.0.small),
      p.short,
      start-short h.heading_length-body.result (name-at (letters-of h)) s.args.near.now _ c.start_near-from.ensures (omega (arith, ap length p.is)),
      (h.heading_length-body.result, record { stands = nodes h; led = began (goal.at.reach-list-requires c).After-start_near-from }),
    )

pub slice_bounds-name-end-3 : goal.slice_bounds-name-end-3
slice_bounds-name-end-3 c = (spelt (goal.at.slice_bounds-name-end-3 c).In-Ok).fits

pub slice_bounds-edit_near-end-3 : goal.slice_bounds-edit_near-end-3
slice_bounds-edit_near-end-3 c = sym (length-take-le _ _ (spelt (goal.at.slice_bounds-edit_near-end-3 c).In-Ok).fits)

pub edit_near-edit-requires : goal.edit_near-edit-requires
edit_near-edit-requires c =
    let r = (goal.at.edit_near-edit-requires c).After-reach-list in
    let s = from-body (from-reach r) in
    (omega (arith, long s, s.requires.0.small), r.reach-list.ensures.short, s.requires.2.long, record { stands = nodes (from-reach r); led = reached (goal.at.edit_near-edit-requires c).After-reach-list })

pub overflow_sub-name : goal.overflow_sub-name
overflow_sub-name c = omega (arith, (spelt (goal.at.overflow_sub-name c).In-Ok).first)

pub returns-then-breaks : goal.returns-then-breaks
returns-then-breaks c =
    let r = (goal.at.returns-then-breaks c).After-reach-list in
    let h = from-reach r in
    let s = from-body h in
    let p = spelt (letters-of h) in
    let e = c.edit_near-edit.ensures in
    let g =
    add-breaks s.requires.0 s.args.code s.requires.1 _ p.is (edit-of (goal.at.returns-then-breaks c).After-reach-list _ _ e) (omega (arith, p.first)) (omega (arith, p.letters))
    c.breaks.ensures c.if-breaks.true c.refused-then-breaks.ensures in record { gains = g.0; holding = g.1; in_mind = near-gains s.args.end g.0 (keeps (goal.at.returns-then-breaks c).After-reach-list _ _ e) (keeps-with (goal.at.returns-then-breaks c).After-reach-list _ _ e) }

pub slice_bounds-name-end-4 : goal.slice_bounds-name-end-4
slice_bounds-name-end-4 c = (spelt (goal.at.slice_bounds-name-end-4 c).In-Ok).fits

pub slice_bounds-change-end : goal.slice_bounds-change-end
slice_bounds-change-end c =
    let n = c in
    sym (length-take-le _ _ (spelt (goal.at.slice_bounds-change-end c).In-Ok).fits)

pub change-requires : goal.change-requires
change-requires c =
    let r = (goal.at.change-requires c).After-reach-list in
    let h = from-reach r in
    let s = from-body h in
    let p = spelt (letters-of h) in
    (s.requires.0.fits, s.requires.0.small, p.short, add-fits s.requires.0 s.args.code s.requires.1 _ p.is (edit-of (goal.at.change-requires c).After-reach-list _ _ c.edit_near-edit.ensures))

pub returns : goal.returns
returns c =
    let r = (goal.at.returns c).After-reach-list in
    let h = from-reach r in
    let s = from-body h in
    let p = spelt (letters-of h) in
    let e = c.edit_near-edit.ensures in
    let b = c in
    let g =
    add-gains s.requires.0 s.args.code s.requires.1 _ p.is (edit-of (goal.at.returns c).After-reach-list _ _ e) (omega (arith, p.first)) (omega (arith, p.letters)) b.breaks.ensures
    c.if-breaks.false c.change.ensures in record { gains = g.0; holding = g.1; in_mind = near-gains s.args.end g.0 (keeps (goal.at.returns c).After-reach-list _ _ e) (keeps-with (goal.at.returns c).After-reach-list _ _ e) }
