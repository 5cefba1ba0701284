-- A looser body has one reading, and the definition `loose_nodes` finds it. Assumes nothing.
use Rattle.std.specs.Prelude.{◌≡◌, refl, Bool, true, false, cond, List, [], ◌∷◌, ◌++◌, ℕ, zero, suc, ◌+◌, ◌-◌, ◌≤◌, ◌<◌, length}
use Rattle.std.proofs.Common.{sym, ap, ◌∙◌, append_assoc, append-nil, arith, length-append, ne_eqb, eq-eqb, le-leb, lt-ltb}
use Rattle.reading.specs.declared.Level.{Level}
use Rattle.reading.specs.declared.Level.TheVariants.{Faces, Digits}
use Rattle.reading.specs.Reading.{Nodes, end, whole, listed, first, many, render}
use Rattle.reading.proofs.Laws.Reading.{first-big}
use Rattle.reading.specs.Parse.{Parse, bad, got, Item, bare, held, then, add_whole, add_listed}
use Rattle.reading.proofs.Laws.Parse.{Stop}
use Rattle.reading.specs.Loose.{Loose}
use Rattle.loose.specs.LooseText.{LooseBody}
use Rattle.loose.specs.LooseScan.{close, item, parse, nodes_got, loose_nodes}

bare-item : (p : ℕ → List ℕ → Parse) (d : ℕ) (l : Level) (ns : Nodes) (rest : List ℕ) → Stop rest → item p d (render l ns ++ rest) ≡ bare (render l ns ++ rest)
unfolding item
bare-item p d l end [] s = refl
bare-item p d l end (b ∷ rest) s = rw (ne_eqb b 40 (omega arith))
bare-item p d l (whole c ns) rest s = rw (ne_eqb (first l + c) 40 (omega (arith, first-big l)))
bare-item p d l (listed c is ns) rest s = rw (ne_eqb (first l + c) 40 (omega (arith, first-big l)))

held-item : (p : ℕ → List ℕ → Parse) (d : ℕ) (is : Nodes) (bs rest : List ℕ) → 0 < d → p (d - 1) bs ≡ got is (41 ∷ rest) → item p d (40 ∷ bs) ≡ held is rest
unfolding item close
held-item p d is bs rest h e = rw (ne_eqb d 0 (omega arith), e) refl

pub complete :
    (ns : Nodes) (n : ℕ) (l : Level) (d : ℕ) (rest : List ℕ) → Loose l d ns → Stop rest → length (render l ns ++ rest) < n →
    parse n l d (render l ns ++ rest) ≡ got ns rest
unfolding parse then add_whole add_listed
complete end zero l d rest g s h = absurd (omega arith)
complete end (suc n) l d [] g s h = refl
complete end (suc n) l d (b ∷ rest) g s h = rw (eq-eqb b 41 s)
complete (whole c ns) zero l d rest g s h = absurd (omega arith)
complete (whole c ns) (suc n) l d rest g s h =
    let e : first l + c - first l ≡ c = omega arith in
    rw (
      ne_eqb (first l + c) 41 (omega (arith, first-big l)),
      le-leb (first l) (first l + c) (omega arith),
      lt-ltb (first l + c) (first l + many l) (omega arith),
      e,
      bare-item (λ e cs. parse n Digits e cs) d l ns rest s,
      complete ns n l d rest g.1 s (omega arith),
    )
complete (listed c is ns) zero l d rest g s h = absurd (omega arith)
complete (listed c is ns) (suc n) l d rest g s h =
    let e : first l + c - first l ≡ c = omega arith in
    let a : (render Digits is ++ (41 ∷ render l ns)) ++ rest ≡ render Digits is ++ (41 ∷ (render l ns ++ rest)) = append_assoc (render Digits is) (41 ∷ render l ns) rest in
    rw (
      ne_eqb (first l + c) 41 (omega (arith, first-big l)),
      le-leb (first l) (first l + c) (omega arith),
      lt-ltb (first l + c) (first l + many l) (omega arith),
      e,
      a,
      held-item (λ e cs. parse n Digits e cs) d is (render Digits is ++ (41 ∷ (render l ns ++ rest))) (render l ns ++ rest) g.1
          (complete is n Digits (d - 1) (41 ∷ (render l ns ++ rest)) g.2 refl (omega (arith, ap length a))),
      complete ns n l d rest g.3 s (omega (arith, ap length a, length-append (render Digits is) (41 ∷ (render l ns ++ rest)))),
    )

pub loose-nodes : {b : List ℕ} {ns : Nodes} → LooseBody b ns → loose_nodes b ≡ ns
unfolding loose_nodes
loose-nodes {b} {ns} r =
    let e : b ≡ render Faces ns ++ [] = r.all ∙ sym (append-nil (render Faces ns)) in
    let p : parse (suc (length b)) Faces 15 (render Faces ns ++ []) ≡ got ns [] = complete ns (suc (length b)) Faces 15 [] r.loose tt (omega (arith, ap length e)) in
    ap nodes_got (ap (parse (suc (length b)) Faces 15) e ∙ p)

-- a body has one reading
pub one-loose : {b : List ℕ} {a c : Nodes} → LooseBody b a → LooseBody b c → a ≡ c
one-loose r q = sym (loose-nodes r) ∙ loose-nodes q
