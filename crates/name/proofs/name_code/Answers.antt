-- `name::name_code` meets its contract. Assumes nothing.
use Rattle.std.specs.Prelude.{Ok}
use mathlib.Core.Path.{◌≡◌, sym, ap, ap₂, ◌∙◌}
use mathlib.Core.Bool.{true}
use Prim.Native.Nat.{ℕ, ◌-◌}
use native.Mathlib.Omega.{arith}
use lib.ListN.{length, drop}
use borrow.Author.Tests.{lt-ltb, le-ltb}
use Rattle.logic.specs.Refusal.{◌otherwise◌}
use Rattle.ternary.specs.Digits.{value}
use Rattle.code.specs.Code.{coded, code_at}
use Rattle.name.specs.Name.{first_letter, all_digits, digits_in, name_refusal, name_code, NameForm}
use Rattle.name.specs.Laws.Name.{letter-bounds, path-below, not-refused}
use Rattle.name.proofs.Laws.{read-bad, read-good}
use Rattle.name.proofs.name_code.Goals as goal
use Rattle.name.proofs.name_code.Goals.{Else-not-first_letter, In-Ok}

-- a short name that starts with a letter
lettered : (c : Else-not-first_letter) → first_letter c.args.name.now ≡ true
lettered c = sym c.first_letter.ensures ∙ c.if-not-first_letter.false

-- with all its digits read
read-in : (c : In-Ok) → let s = c.args.name.now in (all_digits (drop 1 s) ≡ true) ×
    (c.in-Ok.path ≡ value 9 (digits_in s))
read-in c = read-good _ _ _ (sym c.in-Ok.is ∙ c.read_path.ensures)

-- the name is one
named : (c : In-Ok) → NameForm c.args.name.now
named c =
    let e = c in
    record { short = e.if-name-gt16.false; lettered = lettered (goal.at.In-Ok c).Else-not-first_letter; digital = (read-in c).0 }

pub returns-then-name-gt16 : goal.returns-then-name-gt16
unfolding name_refusal ◌otherwise◌ coded
returns-then-name-gt16 c = simp (lt-ltb _ _ c.if-name-gt16.true)

pub returns-then-not-first_letter : goal.returns-then-not-first_letter
unfolding name_refusal ◌otherwise◌ coded
returns-then-not-first_letter c = simp (le-ltb _ _ c.if-name-gt16.false, sym c.first_letter.ensures ∙ c.if-not-first_letter.true)

pub read_path-requires : goal.read_path-requires
read_path-requires c = let l = letter-bounds _ (lettered (goal.at.read_path-requires c).Else-not-first_letter) in (l.0, omega arith)

pub returns-in_default : goal.returns-in_default
unfolding name_refusal ◌otherwise◌ coded
returns-in_default c =
    let r = c in
    let e = r in
    let s = e.args.name.now in
    let bad = read-bad (all_digits (drop 1 s)) (value 9 (digits_in s)) _ (sym c.in_default.is ∙ r.read_path.ensures) in
    simp (le-ltb _ _ e.if-name-gt16.false, lettered (goal.at.returns-in_default c).Else-not-first_letter, bad)

pub bounds-name-0 : goal.bounds-name-0
bounds-name-0 c = let l = letter-bounds _ (lettered (goal.at.bounds-name-0 c).Else-not-first_letter) in omega arith

pub overflow_sub-name : goal.overflow_sub-name
overflow_sub-name c = let l = letter-bounds _ (lettered (goal.at.overflow_sub-name c).Else-not-first_letter) in omega arith

pub overflow_sub-resolution : goal.overflow_sub-resolution
overflow_sub-resolution c = let l = letter-bounds _ (lettered (goal.at.overflow_sub-resolution c).Else-not-first_letter) in omega arith

pub code_at-requires : goal.code_at-requires
code_at-requires c =
    let p = c in
    let l = letter-bounds _ (lettered (goal.at.code_at-requires c).Else-not-first_letter) in
    let s = p in
    record { arrangement = s.requires; face_bound = (omega (arith, c.wide-face.ensures), omega (arith, (named (goal.at.code_at-requires c).In-Ok).short), rw (read-in (goal.at.code_at-requires c).In-Ok).1 (path-below _ (named (goal.at.code_at-requires c).In-Ok))) }

pub returns : goal.returns
unfolding coded name_code
returns c =
    let p = c in
    let a = p.args in
    let s = a.name.now in
    let code = c.code_at.ensures ∙ ap₂ (λ (x y : ℕ). code_at a.arrangement x (length s - 1) y) c.wide-face.ensures (read-in (goal.at.returns c).In-Ok).1 in
    ap Ok code ∙ sym (ap (λ (x : ℕ). coded x (name_code a.arrangement s)) (not-refused s (named (goal.at.returns c).In-Ok)))
