-- A leading part that something begins with: shorter ones do too, and there is only one longest. Assumes nothing.
use Rattle.std.specs.Prelude.{◌≡◌, List, ◌++◌, ℕ, ◌≤◌, drop, take}
use Rattle.std.proofs.Common.{sym, ap, subst, ◌∙◌, append_assoc, arith, take-append-drop, take-take}
use Rattle.logic.specs.Longest.{BeginsOne, LongestOf}

-- a string begins with any part of what it begins with
pub shorter : (P : List ℕ → Type 0) (t : List ℕ) (i j : ℕ) → i ≤ j → BeginsOne P (take j t) → BeginsOne P (take i t)
shorter P t i j h z =
    let e : take i t ++ (drop i (take j t) ++ z.0) ≡ take j t ++ z.0 =
    sym (append_assoc (take i t) (drop i (take j t)) z.0)
    ∙ ap (λ (x : List ℕ). x ++ z.0) (ap (λ (x : List ℕ). x ++ drop i (take j t)) (sym (take-take i j t h)) ∙ take-append-drop i (take j t)) in
    (drop i (take j t) ++ z.0, subst P (sym e) z.1)

-- there is only one longest part
pub longest-one : {P : List ℕ → Type 0} {t : List ℕ} {j k : ℕ} → LongestOf P t j → LongestOf P t k → j ≡ k
longest-one {j = j} {k} a b = let p = b.longest j a.within a.begun in let q = a.longest k b.within b.begun in omega arith
