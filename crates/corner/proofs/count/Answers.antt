-- `corner::count` meets its contract. Assumes nothing.
use mathlib.Core.Path.{◌≡◌, refl, sym, ap, ◌∙◌}
use Prim.Native.Nat.{ℕ}
use Rattle.cell.specs.Neighbour.{rows}
use Rattle.corner.specs.Corner.{first_or_last}
use Rattle.corner.proofs.Facts.{none-whole, counts}
use Rattle.corner.proofs.count.Goals as goal
use Rattle.corner.proofs.count.Goals.{After-first_or_last, After-first_or_last-then-first_or_last}

-- the tests, in the cell's own numbers
row-test : (c : After-first_or_last) → let x = c.args.cell in first_or_last (rows x) x.row ≡ c.first_or_last.result
row-test c =
    let x = c.args.cell in
    ap (λ (m : ℕ). first_or_last m x.row) (sym c.power-m.ensures) ∙ sym c.first_or_last.ensures

column-test : (c : After-first_or_last-then-first_or_last) → let x = c.args.cell in first_or_last (rows x) x.column ≡ c.first_or_last-then-first_or_last.result
column-test c =
    let x = c.args.cell in
    ap (λ (m : ℕ). first_or_last m x.column) (sym c.power-m.ensures) ∙ sym c.first_or_last-then-first_or_last.ensures

pub returns-then-cell-eq0 : goal.returns-then-cell-eq0
returns-then-cell-eq0 c = none-whole c.args.cell c.if-cell-eq0.true

pub returns-then-first_or_last-2 : goal.returns-then-first_or_last-2
returns-then-first_or_last-2 c =
    let b = c in
    let x = b.args.cell in
    counts x b.if-cell-eq0.false (row-test (goal.at.returns-then-first_or_last-2 c).After-first_or_last ∙ c.if-first_or_last.true) (column-test (goal.at.returns-then-first_or_last-2 c).After-first_or_last-then-first_or_last ∙ c.if-first_or_last-2.true)

pub returns-then-first_or_last : goal.returns-then-first_or_last
returns-then-first_or_last c =
    let b = c in
    let x = b.args.cell in
    counts x b.if-cell-eq0.false (row-test (goal.at.returns-then-first_or_last c).After-first_or_last ∙ c.if-first_or_last.true) (column-test (goal.at.returns-then-first_or_last c).After-first_or_last-then-first_or_last ∙ c.if-first_or_last-2.false)

pub returns : goal.returns
returns c =
    let b = c in
    let x = b.args.cell in
    counts x b.if-cell-eq0.false (row-test (goal.at.returns c).After-first_or_last ∙ c.if-first_or_last.false) refl
