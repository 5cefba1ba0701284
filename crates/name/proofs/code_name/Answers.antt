-- `name::code_name` meets its contract: a name is written only after all tests. Assumes nothing.
use Rattle.std.specs.Prelude.{Err}
use mathlib.Core.Path.{sym, ap, ap₂, ◌∙◌}
use mathlib.Core.List.{List, ◌∷◌, ◌++◌}
use Prim.Native.Nat.{ℕ, ◌+◌, ◌/◌}
use native.Mathlib.Omega.{arith}
use lib.ListN.{length, drop}
use Rattle.logic.specs.Laws.Answer.{handed-on}
use Rattle.ternary.specs.Digits.{digits}
use Rattle.code.specs.Code.{cell_of, path_in}
use Rattle.code.proofs.Laws.Decoded.{parted, unparted, refused-four}
use Rattle.name.specs.Name.{digit_bytes, name_in}
use Rattle.name.specs.Laws.Name.{length-name, code-name-is}
use Rattle.name.proofs.Laws.{refused-4, refused-8, not-refused, nothing_written, name-written}
use Rattle.name.proofs.code_name.Goals as goal

pub returns-in_err-parts : goal.returns-in_err-parts
returns-in_err-parts c =
    let a = c.args in
    let q = refused-four a.code c.parts_of.ensures c.in_err-parts.was in
    let r = nothing_written 3 _ _ a.name.now (refused-4 a.code (length a.name.now) (unparted a.code c.parts_of.ensures c.in_err-parts.was)) in
    record { value = handed-on _ c.from_residual.ensures.1 ∙ ap Err q ∙ r.0; name_after = r.1 }

pub returns-then-name-count : goal.returns-then-name-count
returns-then-name-count c =
    let n = c in
    let a = n.args in
    let p = parted a.code n.parts_of.ensures c.in_ok-parts.was in let r = nothing_written 7 _ _ a.name.now (refused-8 a.code (length a.name.now) p.allowed (omega (arith, p.resolution, c.if-name-count.true))) in record { value = r.0; name_after = r.1 }

pub put_name-requires : goal.put_name-requires
put_name-requires c =
    let n = c in
    let p = parted n.args.code n.parts_of.ensures c.in_ok-parts.was in
    (omega arith, omega (arith, p.face, p.cell.faced))

pub returns : goal.returns
unfolding name_in
returns c =
    let w = c in
    let f = w in
    let n = f in
    let a = n.args in
    let p = parted a.code n.parts_of.ensures f.in_ok-parts.was in
    let l = length-name (cell_of a.code) in
    let room = not-refused a.code (length a.name.now) p.allowed (omega (arith, p.resolution, w.if-name-count.false)) in
    let written = w.put_name.ensures
    ∙ ap₂ (λ (x y : ℕ). (78 + x) ∷ (digit_bytes (digits 9 f.in_ok-parts.parts.resolution y) ++ drop (f.in_ok-parts.parts.resolution + 1) a.name.now)) p.face p.path
    ∙ ap (λ (x : ℕ). (78 + (cell_of a.code).face) ∷ (digit_bytes (digits 9 x (path_in (a.code / 16))) ++ drop (x + 1) a.name.now)) p.resolution in let r = name-written a.name.now room (omega (arith, p.resolution)) (written ∙ ap₂ (λ (l : List ℕ) (x : ℕ). l ++ drop x a.name.now) (sym (code-name-is a.code)) (sym l)) in record { value = r.0; name_after = r.1 }
