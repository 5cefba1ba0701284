-- Code order by finest cells: a cell is no later than the asked one where it starts before it, or with it and is no smaller. Assumes nothing.
use Rattle.std.specs.Prelude.{◌≡◌, Bool, true, ◌&&◌, ◌||◌, ℕ, ◌+◌, ◌-◌, ◌*◌, ltb, eqb}
use Rattle.std.proofs.Math.Path.{refl, sym, ap₂}
use Rattle.std.proofs.Common.{ap, ◌∙◌, arith}
use Rattle.std.proofs.Math.Logic.{⊎_elim}
use Rattle.std.proofs.Math.Bool.{cond}
use mathlib.Core.List.{List, [], ◌∷◌, ◌++◌, map}
use Rattle.std.proofs.Math.Dec.{leb}
use borrow.Author.Tests.{le-leb, lt-leb, lt-ltb, le-ltb, eq-eqb, ne_eqb}
use Rattle.logic.specs.Laws.Order.{lt-or, three_ways}
use Rattle.ternary.proofs.Laws.Powers.{nine-le, nine-lt}
use Rattle.cell.specs.declared.Cell.{Cell}
use Rattle.cell.specs.declared.Arrangement.{Arrangement}
use Rattle.cell.specs.Cell.{IsCell}
use Rattle.code.specs.Code.{cell_code, code_of, cell_of, arrangement_of, is_code, size_of}
use Rattle.code.proofs.Laws.Code.{code-is-cell, code-cell}
use Rattle.code.specs.Inside.{start_of, end_of}
use Rattle.code.proofs.Laws.Inside.{start-code}
use Rattle.code.specs.Number.{start_as, end_as}
use Rattle.code.proofs.Laws.Number.{start-as, end-as}
use Rattle.reading.specs.Ground.{Cells}
use Rattle.walk.specs.declared.Spot.{Spot}
use Rattle.walk.specs.Walk.{spot_of}
use Rattle.asking.specs.Settle.{not_above}

-- of the finest cells from s to before e, where those asked for are from `from` to before `to`
abbrev pub no_later : (from to s e : ℕ) → Bool
no_later from to s e = ltb s from || (eqb s from && leb to e)

-- of the cell where the walk stands
unfoldable pub no_later_at : (from to : ℕ) → Spot → Bool
no_later_at from to s = no_later from to (start_as s.resolution s.number) (end_as s.resolution s.number)

-- how many of these
unfoldable pub count_no_later : (from to : ℕ) → List Spot → ℕ
unfolding no_later_at
count_no_later from to [] = 0
count_no_later from to (s ∷ ss) = cond (no_later_at from to s) 1 0 + count_no_later from to ss

pub count-append : (from to : ℕ) (a b : List Spot) → count_no_later from to (a ++ b) ≡ count_no_later from to a + count_no_later from to b
unfolding count_no_later
count-append from to [] b = omega arith
count-append from to (s ∷ a) b = omega (arith, count-append from to a b)

-- ---- it is the order of codes

module _ (c x : Cell) (v : IsCell c) (w : IsCell x) where
  code-test : leb (cell_code c) (cell_code x) ≡ no_later (start_of x) (end_of x) (start_of c) (end_of c)
  unfolding end_of size_of
  code-test =
      let i = start-code c v in
      let j = start-code x w in
      ⊎_elim
      (λ h.
      le-leb (cell_code c) (cell_code x) (omega (arith, v.fine))
      ∙ sym (ap (λ (b : Bool). b || (eqb (start_of c) (start_of x) && leb (end_of x) (end_of c))) (lt-ltb (start_of c) (start_of x) h)))
      (⊎_elim
      (λ e.
      let front : (ltb (start_of c) (start_of x) || (eqb (start_of c) (start_of x) && leb (end_of x) (end_of c))) ≡ leb (end_of x) (end_of c) =
      ap₂ (λ (a b : Bool). a || (b && leb (end_of x) (end_of c))) (le-ltb (start_of c) (start_of x) (omega arith)) (eq-eqb (start_of c) (start_of x) e) in
      ⊎_elim
      (λ h.
      let z = nine-lt (15 - c.resolution) (15 - x.resolution) (omega (arith, v.fine)) in
      lt-leb (cell_code c) (cell_code x) (omega arith) ∙ sym (front ∙ lt-leb (end_of x) (end_of c) (omega arith)))
      (λ h.
      let z = nine-le {i = 15 - x.resolution} {j = 15 - c.resolution} (omega arith) in
      le-leb (cell_code c) (cell_code x) (omega arith) ∙ sym (front ∙ le-leb (end_of x) (end_of c) (omega arith)))
      (lt-or x.resolution c.resolution))
      (λ h.
      lt-leb (cell_code c) (cell_code x) (omega (arith, w.fine))
      ∙ sym (ap₂ (λ (a b : Bool). a || (b && leb (end_of x) (end_of c))) (le-ltb (start_of c) (start_of x) (omega arith)) (ne_eqb (start_of c) (start_of x) (omega arith)))))
      (three_ways (start_of c) (start_of x))

  pub cell-no-later : leb (cell_code c) (cell_code x) ≡ no_later_at (start_of x) (end_of x) (spot_of c)
  unfolding no_later_at
  cell-no-later = code-test ∙ sym (ap₂ (λ (a b : ℕ). no_later (start_of x) (end_of x) a b) (start-as c v) (end-as c v))

-- a code of the asked code's arrangement is not above it where its cell is no later
code-above : {a : Arrangement} (c : Cell) (code : ℕ) → is_code code ≡ true → arrangement_of code ≡ a → leb (code_of a c) code ≡ leb (cell_code c) (cell_code (cell_of code))
unfolding code_of
code-above {a} c code t e =
    let k : 16 * cell_code (cell_of code) + (4 * a.north + a.south) ≡ code =
    ap (λ (b : Arrangement). 16 * cell_code (cell_of code) + (4 * b.north + b.south)) (sym e) ∙ code-cell code t in
    ⊎_elim
    (λ h. lt-leb (16 * cell_code c + (4 * a.north + a.south)) code (omega arith) ∙ sym (lt-leb (cell_code c) (cell_code (cell_of code)) h))
    (λ h. le-leb (16 * cell_code c + (4 * a.north + a.south)) code (omega arith) ∙ sym (le-leb (cell_code c) (cell_code (cell_of code)) h))
    (lt-or (cell_code (cell_of code)) (cell_code c))

module _ {a : Arrangement} (code : ℕ) (t : is_code code ≡ true) (e : arrangement_of code ≡ a) where
  pub code-not-above : (c : Cell) → IsCell c → leb (code_of a c) code ≡ no_later_at (start_of (cell_of code)) (end_of (cell_of code)) (spot_of c)
  code-not-above c v = code-above c code t e ∙ cell-no-later c (cell_of code) v (code-is-cell code t)

  pub above-spots : (qs : List Cell) → Cells qs → not_above code (map (code_of a) qs) ≡ count_no_later (start_of (cell_of code)) (end_of (cell_of code)) (map spot_of qs)
  unfolding not_above count_no_later
  above-spots [] k = refl
  above-spots (q ∷ qs) k = ap₂ (λ (b : Bool) (n : ℕ). cond b 1 0 + n) (code-not-above q k.0) (above-spots qs k.1)
