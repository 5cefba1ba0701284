-- Nodes in the bytes of a text. Assumes nothing.
use mathlib.Core.Path.{◌≡◌, refl, sym, ap, ◌∙◌}
use mathlib.Core.Logic.{⊎_elim}
use mathlib.Core.Bool.{Bool, true, false, not, cond}
use mathlib.Core.List.{List, [], ◌∷◌, ◌++◌, append_assoc}
use Prim.Native.Nat.{ℕ, suc, ◌+◌, ◌-◌, ◌≤◌, ◌<◌}
use native.Mathlib.Omega.{arith}
use lib.ListN.{length, drop, get_or, drop_of_length-le, length-append, length-drop}
use lib.Seq.{drop-drop, drop-append-add}
use lib.Dec.{eqb}
use Rattle.logic.specs.Laws.Bools.{clash}
use Rattle.logic.specs.Laws.Order.{lt-or}
use Rattle.reading.specs.declared.Level.{Level}
use Rattle.reading.specs.declared.Level.TheVariants.{Digits}
use Rattle.reading.specs.Reading.{Nodes, end, whole, listed, first, many, render, Good}
use Rattle.reading.proofs.Laws.Parse.{Stop}
use Rattle.walk.specs.Walk.{opens, whole_at}
use Rattle.walk.specs.Laws.Walk.{not-shut, whole-name, opens-nodes, byte_at}
use Rattle.walk.specs.Past.{node_in}
use Rattle.walk.specs.Laws.Past.{node-listed}
use Rattle.adding.specs.Internal.Edit.{size, run}
use Rattle.adding.specs.Internal.Find.{run_in}

-- the byte at a place, where the bytes from there on are known
module _ (t : List ℕ) (i : ℕ) {b : ℕ} {bs : List ℕ} (e : drop i t ≡ b ∷ bs) where
  pub inside : i < length t
  inside = ⊎_elim (λ h. h) (λ h. absurd (omega (arith, ap length (sym e ∙ drop_of_length-le t {i = i} h)))) (lt-or i (length t))

  there : get_or t i 0 ∷ drop (i + 1) t ≡ b ∷ bs
  there = sym (byte_at t i inside) ∙ e

  pub byte : get_or t i 0 ≡ b
  byte = let f = there in cc

  pub after : drop (i + 1) t ≡ bs
  after = let f = there in cc

stop-opens : (rest : List ℕ) → Stop rest → opens rest ≡ false
stop-opens [] s = refl
stop-opens (b ∷ bs) s = rw s

-- a letter or digit is not `)`
pub no-shut : (l : Level) (c : ℕ) → first l + c ≡ 41 → ⊥
no-shut l c e = clash (sym (ap (λ (x : ℕ). eqb x 41) e) ∙ not-shut c l)

-- where nodes end no letter or digit stands
pub stop-byte : (t : List ℕ) (i : ℕ) (rest : List ℕ) → Stop rest → drop i t ≡ rest → i < length t → get_or t i 0 ≡ 41
stop-byte t i [] s e h = absurd (omega (arith, ap length (sym (byte_at t i h) ∙ e)))
stop-byte t i (b ∷ bs) s e h = byte t i e ∙ s

module _ (t : List ℕ) (i : ℕ) (l : Level) (c : ℕ) (k : c < many l) where
  -- a whole node
  pub whole_here : (ns : Nodes) (rest : List ℕ) → Stop rest → drop i t ≡ (first l + c) ∷ (render l ns ++ rest) → whole_at (drop i t) ≡ true
  whole_here ns rest s e = ap whole_at e ∙ whole-name c l (render l ns ++ rest) ∙ ap not (opens-nodes ns l rest (stop-opens rest s))

  -- a node that holds a list
  pub list-here : {bs : List ℕ} → drop i t ≡ (first l + c) ∷ 40 ∷ bs → whole_at (drop i t) ≡ false
  list-here {bs} e = ap whole_at e ∙ whole-name c l (40 ∷ bs)

  module _ (is ns : Nodes) (rest : List ℕ) (e : drop i t ≡ render l (listed c is ns) ++ rest) where
    pub listed_here : drop i t ≡ (first l + c) ∷ 40 ∷ (render Digits is ++ (41 ∷ (render l ns ++ rest)))
    listed_here = e ∙ ap (λ (x : List ℕ). (first l + c) ∷ 40 ∷ x) (append_assoc (render Digits is) (41 ∷ render l ns) rest)

    -- its bytes
    pub node-size : node_in (drop i t) ≡ size is
    node-size = ap node_in listed_here ∙ node-listed c l is (render l ns ++ rest)

    -- its list
    pub list-in : drop (i + 2) t ≡ render Digits is ++ (41 ∷ (render l ns ++ rest))
    list-in = sym (drop-drop 2 i t) ∙ ap (drop 2) listed_here

    -- what stands behind it
    pub list-past : drop (i + size is) t ≡ render l ns ++ rest
    list-past =
        let xs : List ℕ = (first l + c) ∷ 40 ∷ render Digits is in
        let f : size is ≡ length xs + 1 = omega arith in
        ap (λ (x : ℕ). drop (i + x) t) f ∙ sym (drop-drop (length xs + 1) i t) ∙ ap (drop (length xs + 1)) listed_here
        ∙ drop-append-add xs (41 ∷ (render l ns ++ rest)) 1

    pub size_fits : i + size is ≤ length t
    size_fits =
        let f = inside t i listed_here in
        let g : length (drop i t) ≡ length t - i = length-drop i t in
        omega (arith, ap length listed_here, length-append (render Digits is) (41 ∷ (render l ns ++ rest)))

-- the whole nodes that stand first
pub run-nodes : (ns : Nodes) (l : Level) (d lo : ℕ) (rest : List ℕ) → Good l d lo ns → Stop rest → run_in (render l ns ++ rest) ≡ run ns
unfolding run_in run whole_at
run-nodes end l d lo [] g s = refl
run-nodes end l d lo (b ∷ rest) g s = rw s
run-nodes (whole c ns) l d lo rest g s =
    ap (λ (b : Bool). cond b (suc (run_in (render l ns ++ rest))) 0)
    (whole-name c l (render l ns ++ rest) ∙ ap not (opens-nodes ns l rest (stop-opens rest s)))
    ∙ ap suc (run-nodes ns l d (suc c) rest g.2 s)
run-nodes (listed c is ns) l d lo rest g s =
    ap (λ (b : Bool). cond b (suc (run_in (40 ∷ ((render Digits is ++ (41 ∷ render l ns)) ++ rest)))) 0) (whole-name c l (40 ∷ ((render Digits is ++ (41 ∷ render l ns)) ++ rest)))
