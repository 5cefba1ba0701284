-- The lines of bytes side by side. Assumes nothing.
use Rattle.std.specs.Prelude.{◌≡◌, refl, Bool, true, false, cond, List, [], ◌∷◌, ◌++◌, ℕ, eqb}
use Rattle.std.proofs.Common.{sym, ap, ap₂, ◌∙◌, append_assoc, append-nil, ne_eqb}
use Rattle.lines.specs.Lines.{ended, begun, Unended}

pub ended-append : (line xs ys : List ℕ) → ended line (xs ++ ys) ≡ ended line xs ++ ended (begun line xs) ys
ended-append line [] ys = refl
ended-append line (x ∷ xs) ys = go (eqb x 10) (ended-append [] xs ys) (ended-append (line ++ (x ∷ [])) xs ys)
  where
    go :
        (t : Bool) → ended [] (xs ++ ys) ≡ ended [] xs ++ ended (begun [] xs) ys →
        ended (line ++ (x ∷ [])) (xs ++ ys) ≡ ended (line ++ (x ∷ [])) xs ++ ended (begun (line ++ (x ∷ [])) xs) ys →
        cond t (line ∷ ended [] (xs ++ ys)) (ended (line ++ (x ∷ [])) (xs ++ ys)) ≡
        cond t (line ∷ ended [] xs) (ended (line ++ (x ∷ [])) xs) ++ ended (cond t (begun [] xs) (begun (line ++ (x ∷ [])) xs)) ys
    go true e f = ap (λ (ls : List (List ℕ)). line ∷ ls) e
    go false e f = f

pub begun-append : (line xs ys : List ℕ) → begun line (xs ++ ys) ≡ begun (begun line xs) ys
begun-append line [] ys = refl
begun-append line (x ∷ xs) ys = go (eqb x 10) (begun-append [] xs ys) (begun-append (line ++ (x ∷ [])) xs ys)
  where
    go :
        (t : Bool) → begun [] (xs ++ ys) ≡ begun (begun [] xs) ys → begun (line ++ (x ∷ [])) (xs ++ ys) ≡ begun (begun (line ++ (x ∷ [])) xs) ys →
        cond t (begun [] (xs ++ ys)) (begun (line ++ (x ∷ [])) (xs ++ ys)) ≡ begun (cond t (begun [] xs) (begun (line ++ (x ∷ [])) xs)) ys
    go true e f = e
    go false e f = f

pub unended : (line bs : List ℕ) → Unended bs → ended line bs ≡ []
unended line [] u = refl
unended line (b ∷ bs) u = rw (ne_eqb b 10 u.0) (unended (line ++ (b ∷ [])) bs u.1)

pub begun-on : (line bs : List ℕ) → Unended bs → begun line bs ≡ line ++ bs
begun-on line [] u = sym (append-nil line)
begun-on line (b ∷ bs) u = rw (ne_eqb b 10 u.0) (begun-on (line ++ (b ∷ [])) bs u.1 ∙ append_assoc line (b ∷ []) bs)

-- a part with no line feed, and then one
pub ended-line : (line bs : List ℕ) → Unended bs → ended line (bs ++ (10 ∷ [])) ≡ (line ++ bs) ∷ []
ended-line line bs u =
    ended-append line bs (10 ∷ []) ∙ ap₂ (λ (ls : List (List ℕ)) (l : List ℕ). ls ++ (l ∷ [])) (unended line bs u) (begun-on line bs u)

pub begun-line : (line bs : List ℕ) → begun line (bs ++ (10 ∷ [])) ≡ []
begun-line line bs = begun-append line bs (10 ∷ [])

pub unended-append : (xs ys : List ℕ) → Unended xs → Unended ys → Unended (xs ++ ys)
unended-append [] ys u v = v
unended-append (x ∷ xs) ys u v = (u.0, unended-append xs ys u.1 v)
