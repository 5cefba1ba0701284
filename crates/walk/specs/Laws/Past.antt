-- Past a node: the bytes that its brackets tell are those of the node. Assumes nothing.
use Rattle.std.specs.Prelude.{◌≡◌, Bool, true, false, length, drop, eqb}
use Rattle.std.proofs.Math.Path.{ap}
use Rattle.std.proofs.Common.{◌∙◌, add-one, arith, length-append, ne_eqb}
use Rattle.std.proofs.Math.Bool.{not, cond}
use mathlib.Core.List.{List, ◌∷◌, ◌++◌, append_assoc}
use Prim.Native.Nat.{ℕ, suc, ◌+◌, ◌<◌}
use Rattle.reading.specs.declared.Level.{Level}
use Rattle.reading.specs.declared.Level.TheVariants.{Digits}
use Rattle.reading.specs.Reading.{Nodes, end, whole, listed, first, render}
use Rattle.walk.specs.Walk.{opens, whole_at}
use Rattle.walk.specs.Laws.Walk.{not-open, not-shut, whole-name}
use Rattle.walk.specs.Past.{open_past, shut_in, node_in}

-- ---- past a list

shut-step : (d b e : ℕ) (bs : List ℕ) → open_past d b ≡ suc e → shut_in d (b ∷ bs) ≡ 1 + shut_in (suc e) bs
unfolding shut_in
shut-step d b e bs p =
    ap (λ (x : ℕ). 1 + cond (eqb x 0) 0 (shut_in x bs)) p
    ∙ ap (λ (y : Bool). 1 + cond y 0 (shut_in (suc e) bs)) (ne_eqb (suc e) 0 (omega arith))

past-name : (c : ℕ) (l : Level) (d : ℕ) → open_past d (first l + c) ≡ d
unfolding open_past
past-name c l d = rw (not-open c l, not-shut c l)

past_open : (d : ℕ) → open_past d 40 ≡ suc d
unfolding open_past
past_open d = add-one d

past-shut : (d : ℕ) → open_past (suc d) 41 ≡ d
unfolding open_past
past-shut d = omega arith

shut-nodes : (ns : Nodes) (l : Level) (d : ℕ) (rest : List ℕ) → shut_in (suc d) (render l ns ++ rest) ≡ length (render l ns) + shut_in (suc d) rest
shut-nodes end l d rest = omega arith
shut-nodes (whole c ns) l d rest =
    omega (arith, shut-step (suc d) (first l + c) d (render l ns ++ rest) (past-name c l (suc d)), shut-nodes ns l d rest)
shut-nodes (listed c is ns) l d rest =
    let tail : List ℕ = 41 ∷ (render l ns ++ rest) in
    let body : List ℕ = render Digits is ++ tail in
    let e : shut_in (suc d) (render l (listed c is ns) ++ rest) ≡ shut_in (suc d) ((first l + c) ∷ 40 ∷ body) =
    ap (λ (x : List ℕ). shut_in (suc d) ((first l + c) ∷ 40 ∷ x)) (append_assoc (render Digits is) (41 ∷ render l ns) rest) in
    omega (
      arith,
      e,
      shut-step (suc d) (first l + c) d (40 ∷ body) (past-name c l (suc d)),
      shut-step (suc d) 40 (suc d) body (past_open (suc d)),
      shut-nodes is Digits (suc d) tail,
      shut-step (suc (suc d)) 41 d (render l ns ++ rest) (past-shut (suc d)),
      shut-nodes ns l d rest,
      length-append (render Digits is) (41 ∷ render l ns),
    )

pub shut-list : (is : Nodes) (rest : List ℕ) → shut_in 1 (render Digits is ++ (41 ∷ rest)) ≡ length (render Digits is) + 1
unfolding shut_in
shut-list is rest =
    let e : shut_in 1 (41 ∷ rest) ≡ 1 = ap (λ (x : ℕ). 1 + cond (eqb x 0) 0 (shut_in x rest)) (past-shut 0) in
    omega (arith, shut-nodes is Digits 0 (41 ∷ rest))

-- ---- past a node

pub node-some : (bs : List ℕ) → 0 < node_in bs
unfolding node_in
node-some bs = go (whole_at bs)
  where
    go : (b : Bool) → 0 < cond b 1 (2 + shut_in 1 (drop 2 bs))
    go true = omega arith
    go false = omega arith

-- it is whole, or it holds a list
module _ (c : ℕ) (l : Level) where
  pub node-whole : (bs : List ℕ) → opens bs ≡ false → node_in ((first l + c) ∷ bs) ≡ 1
  unfolding node_in
  node-whole bs e = ap (λ (b : Bool). cond b 1 (2 + shut_in 1 (drop 1 bs))) (whole-name c l bs ∙ ap not e)

  pub node-listed : (is : Nodes) (rest : List ℕ) → node_in ((first l + c) ∷ 40 ∷ (render Digits is ++ (41 ∷ rest))) ≡ length (render Digits is) + 3
  unfolding node_in
  node-listed is rest =
      let bs : List ℕ = render Digits is ++ (41 ∷ rest) in
      ap (λ (b : Bool). cond b 1 (2 + shut_in 1 bs)) (whole-name c l (40 ∷ bs)) ∙ omega (arith, shut-list is rest)
