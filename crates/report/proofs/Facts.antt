-- A cell's name, where it has room; bytes put into a part of the lent memory; names one after the other. Assumes nothing.
use Rattle.std.specs.Prelude.{Err, Ok, Result}
use mathlib.Core.Path.{◌≡◌, refl, sym, ap, ◌∙◌, subst}
use mathlib.Core.Bool.{Bool}
use mathlib.Core.List.{List, [], ◌∷◌, ◌++◌, append-nil}
use Prim.Native.Nat.{ℕ, zero, suc, ◌+◌, ◌≤◌, ◌<◌}
use native.Mathlib.Numerals.{add-one}
use native.Mathlib.Omega.{arith}
use lib.ListN.{length, take, drop, get_or}
use lib.Seq.{take-suc}
use lib.Dec.{ltb}
use borrow.Author.Tests.{le-ltb}
use Rattle.logic.specs.Refusal.{refuse, ◌otherwise◌, given}
use Rattle.logic.specs.Laws.Refusal.{stops, passes, given-value}
use Rattle.code.specs.Code.{cell_of, code_refusal}
use Rattle.code.proofs.Laws.Code.{code-passes}
use Rattle.name.specs.Name.{name_of, name_in, code_name_refusal, named, length_in}
use Rattle.decimal.specs.Decimal.{printed}
use Rattle.flight.specs.declared.Setting.{Setting}
use Rattle.flight.specs.Flight.{line_code}
use Rattle.flight.proofs.Laws.Code.{line-is-code}
use Rattle.report.specs.Put.{Put}
use Rattle.report.specs.Answer.{answer_of, answer_line}
use Rattle.report.specs.Names.{name_bytes, name_line, names_of}
use Rattle.report.proofs.Laws.Names.{names-append, name-short}

-- ---- a name

-- in sixteen bytes only a code that is no cell's is refused
name-refusal : (code room : ℕ) → 16 ≤ room → code_name_refusal code room ≡ code_refusal code
unfolding code_name_refusal
name-refusal code room h = go (code_refusal code) refl
  where
    go : (q : ℕ) → code_refusal code ≡ q → q otherwise refuse (ltb room (length (name_of (cell_of code)))) 8 ≡ q
    go zero e = passes _ refl ∙ ap (λ (b : Bool). refuse b 8) (le-ltb room (length (name_of (cell_of code))) (omega (arith, name-short code e)))
    go (suc q) e = stops (suc q) _ (λ z. omega arith)

as-length : (q : ℕ) (name : List ℕ) (n : ℕ) → named q (length name) ≡ Ok n → n ≡ length (given q name [])
unfolding named given
as-length zero name n e = sym (ap length_in e)
as-length (suc q) name n e = let z : ◌≡◌ {A = ℕ} 0 1 = cc in absurd (omega arith)

as_none : (q : ℕ) (name : List ℕ) (r : ℕ) → named q (length name) ≡ Err r → ◌≡◌ {A = ℕ} 0 (length (given q name []))
unfolding named given
as_none zero name r e = let z : ◌≡◌ {A = ℕ} 0 1 = cc in absurd (omega arith)
as_none (suc q) name r e = refl

as_bytes : (q : ℕ) (name out : List ℕ) → given q (name ++ drop (length name) out) out ≡ given q name [] ++ drop (length (given q name [])) out
unfolding given
as_bytes zero name out = refl
as_bytes (suc q) name out = refl

module _ (code : ℕ) (room : List ℕ) (h : 16 ≤ length room) where
  as-refusal : {x : Result ℕ ℕ} → x ≡ named (code_name_refusal code (length room)) (length (name_of (cell_of code))) → x ≡ named (code_refusal code) (length (name_of (cell_of code)))
  as-refusal e = e ∙ ap (λ (q : ℕ). named q (length (name_of (cell_of code)))) (name-refusal code (length room) h)

  pub named-length : {x : Result ℕ ℕ} {n : ℕ} → x ≡ Ok n → x ≡ named (code_name_refusal code (length room)) (length (name_of (cell_of code))) → n ≡ length (name_bytes code)
  unfolding name_bytes
  named-length {x} {n} e f = as-length (code_refusal code) (name_of (cell_of code)) n (sym (as-refusal f) ∙ e)

  pub named_none : {x : Result ℕ ℕ} {r : ℕ} → x ≡ Err r → x ≡ named (code_name_refusal code (length room)) (length (name_of (cell_of code))) → ◌≡◌ {A = ℕ} 0 (length (name_bytes code))
  unfolding name_bytes
  named_none {x} {r} e f = as_none (code_refusal code) (name_of (cell_of code)) r (sym (as-refusal f) ∙ e)

  pub name-put : {later : List ℕ} → later ≡ given (code_name_refusal code (length room)) (name_in code room) room → later ≡ name_bytes code ++ drop (length (name_bytes code)) room
  unfolding name_bytes name_in
  name-put e = e ∙ ap (λ (q : ℕ). given q (name_in code room) room) (name-refusal code (length room) h) ∙ as_bytes (code_refusal code) (name_of (cell_of code)) room

-- ---- the answer to a line, by its code

pub answer-name : (s : Setting) (line : List ℕ) (code : ℕ) → line_code s line ≡ Ok code → name_line code ≡ answer_line s line
unfolding answer_of name_bytes
answer-name s line code e =
    ap (λ (x : List ℕ). x ++ (10 ∷ [])) (given-value _ _ (code-passes code (line-is-code s line code e)) ∙ ap answer_of (sym e))

pub answer-number : (s : Setting) (line : List ℕ) (r : ℕ) → line_code s line ≡ Err r → printed r ++ (10 ∷ []) ≡ answer_line s line
unfolding answer_of
answer-number s line r e = ap (λ (a : Result ℕ ℕ). answer_of a ++ (10 ∷ [])) (sym e)

-- ---- names

-- one name more
pub name-more : (codes : List ℕ) (i : ℕ) → i < length codes → names_of (take i codes) ++ name_line (get_or codes i 0) ≡ names_of (take (i + 1) codes)
name-more codes i h =
    let one : names_of (get_or codes i 0 ∷ []) ≡ name_line (get_or codes i 0) = append-nil (name_line (get_or codes i 0)) in
    ap (λ (l : List ℕ). names_of (take i codes) ++ l) (sym one) ∙ sym (names-append (take i codes) (get_or codes i 0 ∷ []))
    ∙ ap names_of (sym (take-suc codes i 0 h)) ∙ ap (λ (j : ℕ). names_of (take j codes)) (sym (add-one i))

pub put_as : {at : ℕ} {a b out later : List ℕ} {end : ℕ} → a ≡ b → Put at a out later end → Put at b out later end
put_as {at} {out = out} {later = later} {end = end} e p = subst (λ (x : List ℕ). Put at x out later end) e p
