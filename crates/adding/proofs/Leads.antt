-- A list that numbers of a name lead to: an edit of it is the edit of the text, and it stays where it is. Assumes nothing.
use mathlib.Core.Path.{◌≡◌, refl, sym, ap, ap₂, ◌∙◌, subst}
use mathlib.Core.Logic.{inl, inr, ⊎_elim}
use mathlib.Core.Bool.{Bool, false, cond}
use mathlib.Core.List.{List, [], ◌∷◌, ◌++◌}
use Prim.Native.Nat.{ℕ, suc, ◌+◌, ◌-◌, ◌≤◌, ◌<◌}
use native.Mathlib.Omega.{arith}
use lib.ListN.{length, drop}
use borrow.Author.Tests.{ne_eqb}
use Rattle.logic.specs.Laws.Bools.{clash}
use Rattle.reading.specs.declared.Level.{Level}
use Rattle.reading.specs.declared.Level.TheVariants.{Digits}
use Rattle.reading.specs.Reading.{Nodes, end, whole, listed, room, wholes, render, Good}
use Rattle.reading.proofs.Laws.Parse.{Stop}
use Rattle.reading.specs.Prefix.{Name}
use Rattle.adding.specs.declared.Edit.{Edit}
use Rattle.adding.specs.declared.Edit.TheVariants.{Covered, Put, Cut, Full}
use Rattle.adding.specs.InMind.{LeadsTo}
use Rattle.adding.specs.Internal.Grow.{by, merged, grow}
use Rattle.adding.specs.Internal.Edit.{over, size, edit_of}
use Rattle.adding.specs.Internal.Find.{becomes_whole}
use Rattle.adding.proofs.Bytes.{after, list-in, list-past, size_fits}
use Rattle.adding.proofs.Skips.{before}
use Rattle.adding.proofs.Finds.{at_x}

-- nodes lead only to numbers that may stand among them
leads-low : (ns : Nodes) (l : Level) (d lo i x : ℕ) (p : Name) (at : ℕ) (is : Nodes) → Good l d lo ns → LeadsTo i (x ∷ p) ns at is → lo ≤ x
leads-low end l d lo i x p at is g h = absurd h
leads-low (whole c ns) l d lo i x p at is g h = omega (arith, g.0, leads-low ns l d (suc c) (i + 1) x p at is g.2 h)
leads-low (listed c js ns) l d lo i x p at is g h =
    ⊎_elim (λ q. omega (arith, g.0, q.0)) (λ q. omega (arith, g.0, leads-low ns l d (suc c) (i + size js) x p at is g.6 q)) h

-- and on from there
pub leads-on :
    (ns : Nodes) (i : ℕ) (p : Name) (at : ℕ) (is : Nodes) (q : Name) (to : ℕ) (js : Nodes) → LeadsTo i p ns at is → LeadsTo at q is to js → LeadsTo i (p ++ q) ns to js
leads-on ns i [] at is q to js h k = subst (λ (x : ℕ). LeadsTo x q ns to js) h.0 (subst (λ (x : Nodes). LeadsTo at q x to js) h.1 k)
leads-on end i (x ∷ p) at is q to js h k = absurd h
leads-on (whole c ns) i (x ∷ p) at is q to js h k = leads-on ns (i + 1) (x ∷ p) at is q to js h k
leads-on (listed c ks ns) i (x ∷ p) at is q to js h k =
    ⊎_elim (λ z. inl (z.0, leads-on ks (i + 2) p at is q to js z.1 k)) (λ z. inr (leads-on ns (i + size ks) (x ∷ p) at is q to js z k)) h

-- ---- the edit

over-inner : (i w : ℕ) (ns : Nodes) (e : Edit) → becomes_whole e ≡ false → over i w ns e ≡ e
unfolding over
over-inner i w ns Covered n = refl
over-inner i w ns (Put a k) n = refl
over-inner i w ns (Cut a b) n = refl
over-inner i w ns (Full e) n = clash n

-- at the node of number x
edit-here : (i k w x c y : ℕ) (q : Name) (js ns : Nodes) → c ≡ x → edit_of i k w x (y ∷ q) (listed c js ns) ≡ over i w ns (edit_of (i + 2) (k + 1) 0 y q js)
unfolding edit_of
edit-here i k w x c y q js ns e =
    ap (λ (z : ℕ). by z x (edit_of (i + size js) k w x (y ∷ q) ns) (over i w ns (edit_of (i + 2) (k + 1) 0 y q js)) (to_put' z)) e
    ∙ at_x x (edit_of (i + size js) k w x (y ∷ q) ns) (over i w ns (edit_of (i + 2) (k + 1) 0 y q js)) (to_put' x)
  where
    to_put' : ℕ → Edit
    to_put' z = Put i k

-- behind it
edit-past : (i k w x c y : ℕ) (q : Name) (js ns : Nodes) → c < x → edit_of i k w x (y ∷ q) (listed c js ns) ≡ edit_of (i + size js) k w x (y ∷ q) ns
unfolding edit_of
edit-past i k w x c y q js ns h = before _ _ _ h

pub leads-edit :
    (ns : Nodes) (l : Level) (d lo i k w x : ℕ) (p : Name) (y : ℕ) (q : Name) (at : ℕ) (is : Nodes) (m : ℕ) (e : Edit) → Good l d lo ns → LeadsTo i (x ∷ p) ns at is →
    m ≡ k + 1 + length p → e ≡ edit_of at m 0 y q is → becomes_whole e ≡ false → edit_of i k w x (p ++ (y ∷ q)) ns ≡ e
unfolding edit_of
leads-edit end l d lo i k w x p y q at is m e g h j f n = absurd h
leads-edit (whole c ns) l d lo i k w x p y q at is m e g h j f n =
    before _ _ _ (leads-low ns l d (suc c) (i + 1) x p at is g.2 h) ∙ leads-edit ns l d (suc c) (i + 1) k (w + 1) x p y q at is m e g.2 h j f n
leads-edit (listed c js ns) l d lo i k w x [] y q at is m e g h j f n =
    ⊎_elim
    (λ z.
    let r : e ≡ edit_of (i + 2) (k + 1) 0 y q js =
    f ∙ ap (λ (a : ℕ). edit_of a m 0 y q is) z.1.0 ∙ ap₂ (λ (a : ℕ) (b : Nodes). edit_of (i + 2) a 0 y q b) (omega (arith, j)) z.1.1 in
    edit-here i k w x c y q js ns z.0 ∙ ap (over i w ns) (sym r) ∙ over-inner i w ns e n)
    (λ z.
    edit-past i k w x c y q js ns (leads-low ns l d (suc c) (i + size js) x [] at is g.6 z)
    ∙ leads-edit ns l d (suc c) (i + size js) k w x [] y q at is m e g.6 z j f n)
    h
leads-edit (listed c js ns) l d lo i k w x (u ∷ p) y q at is m e g h j f n =
    ⊎_elim
    (λ z.
    edit-here i k w x c u (p ++ (y ∷ q)) js ns z.0
    ∙ ap (over i w ns) (leads-edit js Digits (room l c d - 1) 0 (i + 2) (k + 1) 0 u p y q at is m e g.5 z.1 (omega (arith, j)) f n)
    ∙ over-inner i w ns e n)
    (λ z.
    edit-past i k w x c u (p ++ (y ∷ q)) js ns (leads-low ns l d (suc c) (i + size js) x (u ∷ p) at is g.6 z)
    ∙ leads-edit ns l d (suc c) (i + size js) k w x (u ∷ p) y q at is m e g.6 z j f n)
    h

-- ---- the nodes with the cell lead to the list with it

grow-here : (x c y : ℕ) (q : Name) (js ns : Nodes) → c ≡ x → (wholes (grow y q js) ≡ 9 → ⊥) → grow x (y ∷ q) (listed c js ns) ≡ listed c (grow y q js) ns
unfolding grow merged
grow-here x c y q js ns e h =
    subst (λ (z : ℕ). grow z (y ∷ q) (listed c js ns) ≡ listed c (grow y q js) ns) e
    (at_x c _ _ _ ∙ ap (λ (b : Bool). cond b (whole c ns) (listed c (grow y q js) ns)) (ne_eqb (wholes (grow y q js)) 9 h))

grow-past : (x c y : ℕ) (q : Name) (js ns : Nodes) → c < x → grow x (y ∷ q) (listed c js ns) ≡ listed c js (grow x (y ∷ q) ns)
unfolding grow
grow-past x c y q js ns h = before _ _ _ h

pub leads-grow :
    (ns : Nodes) (l : Level) (d lo i x : ℕ) (p : Name) (y : ℕ) (q : Name) (at : ℕ) (is : Nodes) → Good l d lo ns → LeadsTo i (x ∷ p) ns at is → (wholes (grow y q is) ≡ 9 → ⊥) →
    LeadsTo i (x ∷ p) (grow x (p ++ (y ∷ q)) ns) at (grow y q is) × (wholes (grow x (p ++ (y ∷ q)) ns) ≡ wholes ns)
unfolding grow
leads-grow end l d lo i x p y q at is g h n = absurd h
leads-grow (whole c ns) l d lo i x p y q at is g h n =
    let r = leads-grow ns l d (suc c) (i + 1) x p y q at is g.2 h n in
    let e : grow x (p ++ (y ∷ q)) (whole c ns) ≡ whole c (grow x (p ++ (y ∷ q)) ns) = before _ _ _ (leads-low ns l d (suc c) (i + 1) x p at is g.2 h) in
    (subst (λ (m : Nodes). LeadsTo i (x ∷ p) m at (grow y q is)) (sym e) r.0, ap wholes e ∙ ap suc r.1)
leads-grow (listed c js ns) l d lo i x [] y q at is g h n =
    ⊎_elim
    (λ z.
    let k : is ≡ js = z.1.1 in
    let e = grow-here x c y q js ns z.0 (λ b. n (ap (λ (m : Nodes). wholes (grow y q m)) k ∙ b)) in
    (subst (λ (m : Nodes). LeadsTo i (x ∷ []) m at (grow y q is)) (sym e) (inl (z.0, (z.1.0, ap (grow y q) k))), ap wholes e))
    (λ z.
    let r = leads-grow ns l d (suc c) (i + size js) x [] y q at is g.6 z n in
    let e = grow-past x c y q js ns (leads-low ns l d (suc c) (i + size js) x [] at is g.6 z) in
    (subst (λ (m : Nodes). LeadsTo i (x ∷ []) m at (grow y q is)) (sym e) (inr r.0), ap wholes e ∙ r.1))
    h
leads-grow (listed c js ns) l d lo i x (u ∷ p) y q at is g h n =
    ⊎_elim
    (λ z.
    let r = leads-grow js Digits (room l c d - 1) 0 (i + 2) u p y q at is g.5 z.1 n in
    let e = grow-here x c u (p ++ (y ∷ q)) js ns z.0 (λ b. g.4 (sym r.1 ∙ b)) in
    (subst (λ (m : Nodes). LeadsTo i (x ∷ u ∷ p) m at (grow y q is)) (sym e) (inl (z.0, r.0)), ap wholes e))
    (λ z.
    let r = leads-grow ns l d (suc c) (i + size js) x (u ∷ p) y q at is g.6 z n in
    let e = grow-past x c u (p ++ (y ∷ q)) js ns (leads-low ns l d (suc c) (i + size js) x (u ∷ p) at is g.6 z) in
    (subst (λ (m : Nodes). LeadsTo i (x ∷ u ∷ p) m at (grow y q is)) (sym e) (inr r.0), ap wholes e ∙ r.1))
    h

-- ---- its bytes

pub record ListBytes (t : List ℕ) (at : ℕ) (is : Nodes) : Type 0 where
  pub depth : ℕ
  pub rest : List ℕ
  pub within : at ≤ length t
  pub left : drop at t ≡ render Digits is ++ rest
  pub stop : Stop rest
  pub good : Good Digits depth 0 is
  pub few : wholes is ≡ 9 → ⊥

pub leads-lists :
    (ns : Nodes) (l : Level) (d lo i x : ℕ) (p : Name) (at : ℕ) (is : Nodes) (t rest : List ℕ) → Good l d lo ns → drop i t ≡ render l ns ++ rest →
    LeadsTo i (x ∷ p) ns at is → ListBytes t at is
leads-lists end l d lo i x p at is t rest g e h = absurd h
leads-lists (whole c ns) l d lo i x p at is t rest g e h = leads-lists ns l d (suc c) (i + 1) x p at is t rest g.2 (after t i e) h
leads-lists (listed c js ns) l d lo i x [] at is t rest g e h =
    ⊎_elim
    (λ z.
    subst (λ (a : ℕ). ListBytes t a is) (sym z.1.0)
    (subst (λ (m : Nodes). ListBytes t (i + 2) m) (sym z.1.1)
    (record {
      depth = room l c d - 1;
      rest = 41 ∷ (render l ns ++ rest);
      within = omega (arith, size_fits t i l c g.1 js ns rest e);
      left = list-in t i l c g.1 js ns rest e;
      stop = refl;
      good = g.5;
      few = g.4;
    })))
    (λ z. leads-lists ns l d (suc c) (i + size js) x [] at is t rest g.6 (list-past t i l c g.1 js ns rest e) z)
    h
leads-lists (listed c js ns) l d lo i x (u ∷ p) at is t rest g e h =
    ⊎_elim
    (λ z. leads-lists js Digits (room l c d - 1) 0 (i + 2) u p at is t (41 ∷ (render l ns ++ rest)) g.5 (list-in t i l c g.1 js ns rest e) z.1)
    (λ z. leads-lists ns l d (suc c) (i + size js) x (u ∷ p) at is t rest g.6 (list-past t i l c g.1 js ns rest e) z)
    h
