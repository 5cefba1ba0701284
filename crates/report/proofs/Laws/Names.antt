-- Names one after the other, and part by part. Assumes nothing.
use Rattle.std.specs.Prelude.{◌≡◌, refl, List, [], ◌∷◌, ◌++◌, ℕ, zero, suc, ◌+◌, ◌*◌, ◌≤◌, ◌<◌, length, take}
use Rattle.std.proofs.Common.{sym, ap, ◌∙◌, ⊎_elim, append_assoc, arith, length-append, length-take-le}
use Rattle.logic.specs.Refusal.{given}
use Rattle.code.specs.Code.{cell_of, code_refusal}
use Rattle.code.proofs.Laws.Code.{a-code, code-is-cell}
use Rattle.name.specs.Name.{name_of}
use Rattle.name.specs.Laws.Name.{length-name}
use Rattle.report.specs.declared.Names.{Names}
use Rattle.report.specs.Names.{name_bytes, name_line, names_of, NamesPut}

pub names-append : (xs ys : List ℕ) → names_of (xs ++ ys) ≡ names_of xs ++ names_of ys
names-append [] ys = refl
names-append (x ∷ xs) ys = ap (λ (l : List ℕ). name_line x ++ l) (names-append xs ys) ∙ sym (append_assoc (name_line x) (names_of xs) (names_of ys))

-- where there is room for a line, a name is put
pub names-some : (codes out later : List ℕ) (r : Names) → NamesPut codes out later r → 0 < length codes → 17 ≤ length out → 0 < r.count
names-some codes out later r q h k = go r.count refl
  where
    go : (n : ℕ) → r.count ≡ n → 0 < r.count
    go zero e =
        let z : r.end ≡ 0 + length (names_of (take r.count codes)) = q.put.ends in
        let y : length (names_of (take r.count codes)) ≡ 0 = ap (λ (i : ℕ). length (names_of (take i codes))) e in
        absurd (⊎_elim (λ m. none m) (λ m. omega arith) q.most)
      where
        none : r.count ≡ length codes → ⊥
        none m = omega arith
    go (suc n) e = omega arith

-- a name has at most 16 bytes, and a line 17
pub name-short : (code : ℕ) → code_refusal code ≡ 0 → length (name_of (cell_of code)) ≤ 16
name-short code e = omega (arith, length-name (cell_of code), (code-is-cell code (a-code code e)).fine)

pub bytes-short : (code : ℕ) → length (name_bytes code) ≤ 16
unfolding name_bytes given
bytes-short code = go (code_refusal code) refl
  where
    go : (q : ℕ) → code_refusal code ≡ q → length (given q (name_of (cell_of code)) []) ≤ 16
    go zero e = name-short code e
    go (suc q) e = omega arith

pub names-length : (codes : List ℕ) → length (names_of codes) ≤ 17 * length codes
names-length [] = omega arith
names-length (x ∷ xs) =
    omega (arith, names-length xs, bytes-short x, length-append (name_line x) (names_of xs), length-append (name_bytes x) (10 ∷ []))

-- where the room has 17 bytes for each, all names are put
pub names-all : (codes out later : List ℕ) (r : Names) → NamesPut codes out later r → 17 * length codes ≤ length out → r.count ≡ length codes
names-all codes out later r q h =
    let z : r.end ≡ 0 + length (names_of (take r.count codes)) = q.put.ends in
    ⊎_elim (λ m. m)
    (λ m.
    let t : length (take r.count codes) ≡ r.count = length-take-le r.count codes q.count in
    omega (arith, names-length (take r.count codes), q.count))
    q.most
