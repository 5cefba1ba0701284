-- Sheets compared byte by byte, and record by record. Assumes nothing.
use Rattle.std.specs.Prelude.{◌≡◌, refl, Bool, true, false, ◌&&◌, not, cond, ℕ, zero, suc, ◌+◌, ◌*◌, ◌/◌, ◌^◌, ◌≤◌, ◌<◌, length, drop, eqb, ltb, leb}
use Rattle.std.proofs.Common.{sym, ap₂, ◌∙◌, ⊎_elim, pow-suc, arith, length-append, length-drop, eqb-true, eq-eqb, lt-ltb, le-ltb, le-leb}
use Rattle.std.proofs.Math.Path.{ap}
use mathlib.Core.List.{List, [], ◌∷◌, ◌++◌}
use Rattle.std.proofs.lemmas.Bool.{lt-leb}
use Rattle.logic.specs.Laws.Bools.{clash, and_left, and_right, and_none}
use Rattle.logic.specs.Laws.Order.{lt-or}
use Rattle.sheet.specs.declared.Record.{Record}
use Rattle.sheet.specs.Sheet.{low, bytes_of, joined}
use Rattle.sheet.specs.Verdict.{starts, leading, same}

and_assoc : (p q r : Bool) → (p && (q && r)) ≡ ((p && q) && r)
and_assoc true q r = refl
and_assoc false q r = refl

pub length-low : (n x : ℕ) → length (low n x) ≡ n
unfolding low
length-low zero x = refl
length-low (suc n) x = ap suc (length-low n (x / 256))

-- the number that bytes tell, the first being the lowest
abbrev pub from_low : List ℕ → ℕ
from_low [] = 0
from_low (b ∷ bs) = b + 256 * from_low bs

-- "low byte first": the bytes of a number tell it again
pub low_told : (n x : ℕ) → x < 256 ^ n → from_low (low n x) ≡ x
unfolding low
low_told zero x h = omega arith
low_told (suc n) x h =
    let p : 256 ^ suc n ≡ 256 ^ n * 256 = pow-suc 256 n in
    let i : from_low (low n (x / 256)) ≡ x / 256 = low_told n (x / 256) (omega arith) in
    omega arith

-- "five 64-bit numbers"
pub length-bytes : (r : Record) → length (bytes_of r) ≡ 40
unfolding bytes_of
length-bytes r =
    five (low 8 r.code) (low 8 r.up) (low 8 r.right) (low 8 r.down) (low 8 r.left) (length-low 8 r.code) (length-low 8 r.up)
    (length-low 8 r.right) (length-low 8 r.down) (length-low 8 r.left)
  where
    five : (a b c d e : List ℕ) → length a ≡ 8 → length b ≡ 8 → length c ≡ 8 → length d ≡ 8 → length e ≡ 8 → length (a ++ (b ++ (c ++ (d ++ e)))) ≡ 40
    five a b c d e i j k l m = omega (arith, length-append a (b ++ (c ++ (d ++ e))), length-append b (c ++ (d ++ e)), length-append c (d ++ e), length-append d e)

pub length-joined : (rs : List Record) → length (joined rs) ≡ 40 * length rs
unfolding joined
length-joined [] = refl
length-joined (r ∷ rs) = omega (arith, length-append (bytes_of r) (joined rs), length-bytes r, length-joined rs)

-- ---- one list behind the other

pub starts-append : (a x b : List ℕ) → starts (a ++ x) b ≡ (starts a b && starts x (drop (length a) b))
unfolding starts
starts-append [] x b = refl
starts-append (y ∷ a) x [] = refl
starts-append (y ∷ a) x (z ∷ b) =
    ap (λ (p : Bool). eqb z y && p) (starts-append a x b) ∙ and_assoc (eqb z y) (starts a b) (starts x (drop (length a) b))

pub same-append : (a x b : List ℕ) → same b (a ++ x) ≡ (starts a b && same (drop (length a) b) x)
unfolding starts same
same-append [] x b = refl
same-append (y ∷ a) x [] = refl
same-append (y ∷ a) x (z ∷ b) =
    ap (λ (p : Bool). eqb z y && p) (same-append a x b) ∙ and_assoc (eqb z y) (starts a b) (same (drop (length a) b) x)

pub starts-long : (a b : List ℕ) → starts a b ≡ true → length a ≤ length b
unfolding starts
starts-long [] b e = omega arith
starts-long (x ∷ a) [] e = clash (sym e)
starts-long (x ∷ a) (y ∷ b) e = omega (arith, starts-long a b (and_right (eqb y x) (starts a b) e))

pub starts-short : (a b : List ℕ) → length b < length a → starts a b ≡ false
starts-short a b h = go (starts a b) refl
  where
    go : (p : Bool) → starts a b ≡ p → p ≡ false
    go true e = absurd (omega (arith, starts-long a b e))
    go false e = refl

-- the same bytes
pub same_true : (a b : List ℕ) → same a b ≡ true → a ≡ b
unfolding same
same_true [] [] e = refl
same_true [] (y ∷ b) e = clash (sym e)
same_true (x ∷ a) [] e = clash (sym e)
same_true (x ∷ a) (y ∷ b) e = ap₂ ◌∷◌ (eqb-true x y (and_left (eqb x y) (same a b) e)) (same_true a b (and_right (eqb x y) (same a b) e))

pub same-itself : (a : List ℕ) → same a a ≡ true
unfolding same
same-itself [] = refl
same-itself (x ∷ a) = rw (eq-eqb x x refl) (same-itself a)

-- ---- records that agree

module _ {r : Record} {rs rest : List Record} (b : List ℕ) (e : rest ≡ r ∷ rs) where
  pub lead-no : starts (bytes_of r) b ≡ false → leading rest b ≡ 0
  unfolding leading
  lead-no f = ap (λ (x : List Record). leading x b) e ∙ rw f

  pub lead-yes : starts (bytes_of r) b ≡ true → leading rest b ≡ suc (leading rs (drop 40 b))
  unfolding leading
  lead-yes f = ap (λ (x : List Record). leading x b) e ∙ rw f

pub lead-none : {rs : List Record} (b : List ℕ) → rs ≡ [] → leading rs b ≡ 0
unfolding leading
lead-none b e = ap (λ (x : List Record). leading x b) e

pub lead-end : (rs : List Record) {b : List ℕ} → b ≡ [] → leading rs b ≡ 0
unfolding leading
lead-end [] e = refl
lead-end (r ∷ rs) {b} e = lead-no {r = r} {rs = rs} {rest = r ∷ rs} b refl (starts-short (bytes_of r) b (omega (arith, ap length e, length-bytes r)))

-- ---- all agree exactly where the bytes are the same

pub same-ltb : (a b c d : ℕ) → (a < b → c < d) → (b ≤ a → d ≤ c) → ltb a b ≡ ltb c d
same-ltb a b c d f g = ⊎_elim (λ h. lt-ltb a b h ∙ sym (lt-ltb c d (f h))) (λ h. le-ltb a b h ∙ sym (le-ltb c d (g h))) (lt-or a b)

same-leb : (a b : ℕ) → leb (suc a) (suc b) ≡ leb a b
same-leb a b =
    ⊎_elim (λ h. lt-leb (suc a) (suc b) (omega arith) ∙ sym (lt-leb a b h)) (λ h. le-leb (suc a) (suc b) (omega arith) ∙ sym (le-leb a b h)) (lt-or b a)

-- no byte lies behind those that agree, and no record of ours is left
abbrev pub done : List Record → List ℕ → Bool
done rs b = not (ltb (40 * leading rs b) (length b)) && leb (length rs) (leading rs b)

nothing : (b : List ℕ) → same b [] ≡ not (ltb 0 (length b))
unfolding same
nothing [] = refl
nothing (x ∷ b) = sym (ap not (lt-ltb 0 (suc (length b)) (omega arith)))

and-true : (p : Bool) → p ≡ (p && true)
and-true true = refl
and-true false = refl

pub same-done : (rs : List Record) (b : List ℕ) → same b (joined rs) ≡ done rs b
unfolding joined leading
same-done [] b = nothing b ∙ and-true (not (ltb 0 (length b)))
same-done (r ∷ rs) b = same-append (bytes_of r) (joined rs) b ∙ go (starts (bytes_of r) b) refl (same-done rs (drop 40 b))
  where
    l : ℕ
    l = leading rs (drop 40 b)

    go :
        (p : Bool) → starts (bytes_of r) b ≡ p → same (drop 40 b) (joined rs) ≡ done rs (drop 40 b) →
        (p && same (drop (length (bytes_of r)) b) (joined rs)) ≡ (not (ltb (40 * cond p (suc l) 0) (length b)) && leb (length (r ∷ rs)) (cond p (suc l) 0))
    go true e i =
        ap (λ (n : ℕ). same (drop n b) (joined rs)) (length-bytes r)
        ∙ i
        ∙ ap₂ (λ (p q : Bool). not p && q)
        (same-ltb (40 * l) (length (drop 40 b)) (40 * suc l) (length b) (λ h. omega (arith, length-drop 40 b))
        (λ h. omega (arith, length-drop 40 b, starts-long (bytes_of r) b e, length-bytes r)))
        (sym (same-leb (length rs) l))
    go false e i = sym (ap (λ (p : Bool). not (ltb 0 (length b)) && p) (lt-leb (suc (length rs)) 0 (omega arith)) ∙ and_none (not (ltb 0 (length b))))
