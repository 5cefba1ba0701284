-- The edited text is that of the nodes with the cell. Assumes nothing.
use Rattle.std.specs.Prelude.{◌≡◌, Bool, true, false, cond, ℕ, suc, ◌+◌, ◌-◌, ◌*◌, ◌≤◌, ◌<◌, take, drop, eqb, ltb}
use Rattle.std.proofs.Math.Path.{refl, sym, ap}
use Rattle.std.proofs.Common.{ap₂, ◌∙◌, subst, ⊎_elim, arith, length-drop, drop_of_length-le, take-append-drop, drop_at, take_at, drop-drop, length-take-le, ltb-true, ltb-false, eqb-true, eq-eqb, ne_eqb}
use mathlib.Core.List.{List, [], ◌∷◌, ◌++◌, append_assoc, append-nil}
use Rattle.std.proofs.Math.ListN.{length, length-append}
use Rattle.std.proofs.lemmas.Bool.{eqb-false}
use Rattle.logic.specs.Laws.Bools.{by_cond}
use Rattle.logic.specs.Laws.Order.{lt-or}
use Rattle.ternary.specs.Digits.{Below}
use Rattle.reading.specs.declared.Level.{Level}
use Rattle.reading.specs.declared.Level.TheVariants.{Digits}
use Rattle.reading.specs.Reading.{Nodes, end, whole, listed, first, many, room, wholes, render, Good}
use Rattle.reading.proofs.Laws.Reading.{wholes-most, many-most}
use Rattle.reading.specs.Prefix.{Name}
use Rattle.adding.specs.Internal.Grow.{by, fresh, merged, grow}
use Rattle.adding.specs.declared.Edit.{Edit}
use Rattle.adding.specs.declared.Edit.TheVariants.{Covered, Put, Cut, Full}
use Rattle.adding.specs.Internal.Edit.{name_bytes, nested, run, to_whole, to_put, over, size, edit_of, edited, EditFits}

-- ---- the whole nodes that stand first

run-le : (ns : Nodes) → run ns ≤ wholes ns
unfolding run
run-le end = omega arith
run-le (whole c ns) = omega (arith, run-le ns)
run-le (listed c is ns) = omega arith

run-full : (ns : Nodes) (l : Level) (d lo : ℕ) → Good l d lo ns → lo ≤ many l → wholes ns + lo ≡ 9 → (run ns ≡ wholes ns) × (length (render l ns) ≡ run ns)
unfolding run
run-full end l d lo g h e = (refl, refl)
run-full (whole c ns) l d lo g h e =
    let k = run-full ns l d (suc c) g.2 g.1 (omega (arith, wholes-most ns l d (suc c) g.2 g.1, many-most l)) in
    (ap suc k.0, ap suc k.1)
run-full (listed c is ns) l d lo g h e = absurd (omega (arith, wholes-most ns l d (suc c) g.6 g.1, many-most l))

module _ (ns : Nodes) (l : Level) (d x w : ℕ) (g : Good l d (suc x) ns) (a : w ≤ x) (b : x < many l) where
  nine-run : w + 1 + run ns ≡ 9 → (w + suc (wholes ns) ≡ 9) × (length (render l ns) ≡ run ns)
  nine-run e =
      let k : wholes ns + suc x ≤ 9 = omega (arith, wholes-most ns l d (suc x) g b, many-most l) in
      let f : wholes ns + suc x ≡ 9 = omega (arith, run-le ns) in
      (omega (arith, run-le ns), (run-full ns l d (suc x) g b f).1)

  not-nine : (w + 1 + run ns ≡ 9 → ⊥) → w + suc (wholes ns) ≡ 9 → ⊥
  not-nine h e =
      let f : wholes ns + suc x ≡ 9 = omega (arith, wholes-most ns l d (suc x) g b, many-most l) in
      h (omega (arith, (run-full ns l d (suc x) g b f).0))

  -- a node with a list is none of nine whole ones
  few : w + wholes ns ≡ 9 → ⊥
  few e = omega (arith, wholes-most ns l d (suc x) g b, many-most l)

-- ---- a node that holds one cell

fresh-bytes : (l : Level) (x : ℕ) (p : Name) (ns : Nodes) → render l (fresh x p ns) ≡ nested (name_bytes l (x ∷ p)) ++ render l ns
unfolding fresh
fresh-bytes l x [] ns = refl
fresh-bytes l x (y ∷ p) ns =
    ap (λ (b : List ℕ). (first l + x) ∷ 40 ∷ b)
    (ap (λ (b : List ℕ). b ++ (41 ∷ render l ns)) (fresh-bytes Digits y p end ∙ append-nil (nested (name_bytes Digits (y ∷ p))))
    ∙ sym (append_assoc (nested (name_bytes Digits (y ∷ p))) (41 ∷ []) (render l ns)))

-- ---- what an edit says of a text t: the text is then u. n of the nodes at hand are whole then, and the nodes end at `stop`

abbrev pub Says : (name t u : List ℕ) (stop n : ℕ) → Edit → Type 0
Says name t u stop n Covered = (u ≡ t) × (n ≡ 9 → ⊥)
Says name t u stop n (Put i k) =
    (a : List ℕ) × (b : List ℕ) × (t ≡ a ++ b) × (length a ≡ i) × (u ≡ a ++ (nested (drop k name) ++ b)) × (k < length name) × (n ≡ 9 → ⊥)
Says name t u stop n (Cut i j) =
    (a : List ℕ) × (m : List ℕ) × (b : List ℕ) × (t ≡ a ++ (m ++ b)) × (length a ≡ i) × (length a + length m ≡ j) × (u ≡ a ++ b) × (n ≡ 9 → ⊥)
Says name t u stop n (Full e) = (n ≡ 9) × (e ≡ stop)

says-as :
    (name : List ℕ) (e : Edit) {t t' u u' : List ℕ} {s s' n n' : ℕ} → t ≡ t' → u ≡ u' → s ≡ s' → n ≡ n' → Says name t u s n e → Says name t' u' s' n' e
says-as name e {t} {t'} {u} {u'} {s} {s'} {n} {n'} a b c d h =
    subst (λ (x : List ℕ). Says name x u' s' n' e) a
    (subst (λ (x : List ℕ). Says name t x s' n' e) b (subst (λ (x : ℕ). Says name t u x n' e) c (subst (λ (x : ℕ). Says name t u s x e) d h)))

-- there is a byte of the name
named-inside : (name : List ℕ) (k : ℕ) {b : ℕ} {bs : List ℕ} → drop k name ≡ b ∷ bs → k < length name
named-inside name k e = ⊎_elim (λ h. h) (λ h. absurd (omega (arith, ap length (sym e ∙ drop_of_length-le name {i = k} h)))) (lt-or k (length name))

module _ (name pre rest : List ℕ) where
  -- the text around nodes
  abbrev around : Level → Nodes → List ℕ
  around l ns = pre ++ (render l ns ++ rest)

  -- the node of number x becomes whole: it held a list
  whole_says :
      (l : Level) (d x w i e : ℕ) (is ns : Nodes) → Good l d (suc x) ns → w ≤ x → x < many l → i ≡ length pre → e ≡ i + size is →
      Says name (around l (listed x is ns)) (around l (whole x ns)) (i + length (render l (listed x is ns))) (w + wholes (whole x ns)) (to_whole i e w ns)
  unfolding to_whole
  whole_says l d x w i e is ns g a b j k =
      by_cond (Says name (around l (listed x is ns)) (around l (whole x ns)) (i + length (render l (listed x is ns))) (w + wholes (whole x ns))) (eqb (w + 1 + run ns) 9)
      (λ q. let v = nine-run ns l d x w g a b (eqb-true _ _ q) in (v.0, omega (arith, v.1, length-append (render Digits is) (41 ∷ render l ns))))
      (λ q. (
        pre ++ ((first l + x) ∷ []),
        40 ∷ (render Digits is ++ (41 ∷ [])),
        render l ns ++ rest,
        sym
            (append_assoc pre ((first l + x) ∷ []) ((40 ∷ (render Digits is ++ (41 ∷ []))) ++ (render l ns ++ rest))
            ∙ ap (λ (z : List ℕ). pre ++ ((first l + x) ∷ 40 ∷ z))
            (append_assoc (render Digits is) (41 ∷ []) (render l ns ++ rest) ∙ sym (append_assoc (render Digits is) (41 ∷ render l ns) rest))),
        omega (arith, length-append pre ((first l + x) ∷ [])),
        omega (arith, length-append pre ((first l + x) ∷ []), length-append (render Digits is) (41 ∷ [])),
        sym (append_assoc pre ((first l + x) ∷ []) (render l ns ++ rest)),
        not-nine ns l d x w g a b (eqb-false _ _ q),
      ))

  -- the node of the name x ∷ p is put in
  put-says :
      (l : Level) (d x w i k : ℕ) (p : Name) (ns : Nodes) → Good l d (suc x) ns → w ≤ x → x < many l → i ≡ length pre → drop k name ≡ name_bytes l (x ∷ p) →
      Says name (around l ns) (around l (fresh x p ns)) (i + length (render l ns)) (w + wholes (fresh x p ns)) (to_put i k w p ns)
  unfolding to_put fresh
  put-says l d x w i k [] ns g a b j m =
      by_cond (Says name (around l ns) (around l (whole x ns)) (i + length (render l ns)) (w + wholes (whole x ns))) (eqb (w + 1 + run ns) 9)
      (λ q. let v = nine-run ns l d x w g a b (eqb-true _ _ q) in (v.0, omega (arith, v.1)))
      (λ q. (pre, render l ns ++ rest, refl, sym j, ap (λ (z : List ℕ). pre ++ (nested z ++ (render l ns ++ rest))) (sym m), named-inside name k m, not-nine ns l d x w g a b (eqb-false _ _ q)))
  put-says l d x w i k (y ∷ p) ns g a b j m = (
    pre,
    render l ns ++ rest,
    refl,
    sym j,
    ap (λ (z : List ℕ). pre ++ z)
        (ap (λ (z : List ℕ). z ++ rest) (fresh-bytes l x (y ∷ p) ns)
        ∙ append_assoc (nested (name_bytes l (x ∷ y ∷ p))) (render l ns) rest
        ∙ ap (λ (z : List ℕ). nested z ++ (render l ns ++ rest)) (sym m)),
    named-inside name k m,
    few ns l d x w g a b,
  )

  -- an edit of the list of the node of number x
  over-says :
      (l : Level) (d x w i : ℕ) (is g ns : Nodes) → Good l d (suc x) ns → w ≤ x → x < many l → i ≡ length pre → (e : Edit) →
      Says name (around l (listed x is ns)) (around l (listed x g ns)) (i + 2 + length (render Digits is)) (wholes g) e →
      Says name (around l (listed x is ns)) (around l (merged x g ns)) (i + length (render l (listed x is ns))) (w + wholes (merged x g ns)) (over i w ns e)
  unfolding over merged
  over-says l d x w i is g ns v a b j Covered h = rw (ne_eqb (wholes g) 9 h.1) (h.0, few ns l d x w v a b)
  over-says l d x w i is g ns v a b j (Put p k) h = rw (ne_eqb (wholes g) 9 h.6) (h.0, h.1, h.2, h.3, h.4, h.5, few ns l d x w v a b)
  over-says l d x w i is g ns v a b j (Cut p q) h = rw (ne_eqb (wholes g) 9 h.7) (h.0, h.1, h.2, h.3, h.4, h.5, h.6, few ns l d x w v a b)
  over-says l d x w i is g ns v a b j (Full e) h = rw (eq-eqb (wholes g) 9 h.0) (whole_says l d x w i (e + 1) is ns v a b j (omega (arith, h.1)))

next-bytes : (name : List ℕ) (k x : ℕ) (p : Name) (l : Level) → drop k name ≡ name_bytes l (x ∷ p) → drop (k + 1) name ≡ name_bytes Digits p
next-bytes name k x p l m = sym (drop-drop 1 k name) ∙ ap (drop 1) m

-- past a node: its bytes stand before the others
past : (l : Level) (c : ℕ) (pre is rest : List ℕ) (ns : Nodes) →
    (pre ++ ((first l + c) ∷ 40 ∷ (is ++ (41 ∷ [])))) ++ (render l ns ++ rest) ≡ pre ++ (((first l + c) ∷ 40 ∷ (is ++ (41 ∷ render l ns))) ++ rest)
past l c pre is rest ns =
    append_assoc pre ((first l + c) ∷ 40 ∷ (is ++ (41 ∷ []))) (render l ns ++ rest)
    ∙ ap (λ (z : List ℕ). pre ++ ((first l + c) ∷ 40 ∷ z)) (append_assoc is (41 ∷ []) (render l ns ++ rest) ∙ sym (append_assoc is (41 ∷ render l ns) rest))

-- into its list
into : (l : Level) (c : ℕ) (pre rest : List ℕ) (is ns : Nodes) →
    (pre ++ ((first l + c) ∷ 40 ∷ [])) ++ (render Digits is ++ (41 ∷ (render l ns ++ rest))) ≡ pre ++ (render l (listed c is ns) ++ rest)
into l c pre rest is ns =
    append_assoc pre ((first l + c) ∷ 40 ∷ []) (render Digits is ++ (41 ∷ (render l ns ++ rest)))
    ∙ ap (λ (z : List ℕ). pre ++ ((first l + c) ∷ 40 ∷ z)) (sym (append_assoc (render Digits is) (41 ∷ render l ns) rest))

-- what holds of both choices
pub by_two :
    (P : Nodes → Edit → Type 0) (c x : ℕ) {u v y : Nodes} {u' v' y' : Edit} → (c < x → P u u') → (c ≡ x → P v v') → (x < c → P y y') →
    P (by c x u v y) (by c x u' v' y')
by_two P c x {u} {v} {y} {u'} {v'} {y'} f g h = go (ltb c x) (eqb c x) refl refl
  where
    behind : x ≤ c → (c ≡ x → ⊥) → x < c
    behind a b = ⊎_elim (λ i. i) (λ i. absurd (b (omega arith))) (lt-or x c)

    go : (s t : Bool) → ltb c x ≡ s → eqb c x ≡ t → P (cond s u (cond t v y)) (cond s u' (cond t v' y'))
    go true t a b = f (ltb-true c x a)
    go false true a b = g (eqb-true c x b)
    go false false a b = h (behind (ltb-false c x a) (eqb-false c x b))

pub says :
    (ns : Nodes) (l : Level) (d lo x : ℕ) (p : Name) (i k w : ℕ) (name pre rest : List ℕ) → Good l d lo ns → w ≤ lo → lo ≤ x → x < many l → Below 9 p →
    (w + wholes ns ≡ 9 → ⊥) → i ≡ length pre → drop k name ≡ name_bytes l (x ∷ p) →
    Says name (pre ++ (render l ns ++ rest)) (pre ++ (render l (grow x p ns) ++ rest)) (i + length (render l ns)) (w + wholes (grow x p ns)) (edit_of i k w x p ns)
unfolding edit_of grow
says end l d lo x p i k w name pre rest g u v b n h j m = put-says name pre rest l d x w i k p end tt (omega arith) b j m
says (whole c ns) l d lo x p i k w name pre rest g u v b n h j m =
    by_two (λ (y : Nodes) (e : Edit). Says name (pre ++ (render l (whole c ns) ++ rest)) (pre ++ (render l y ++ rest)) (i + length (render l (whole c ns))) (w + wholes y) e) c x
    (λ q.
    says-as name (edit_of (i + 1) k (w + 1) x p ns) (append_assoc pre ((first l + c) ∷ []) (render l ns ++ rest))
    (append_assoc pre ((first l + c) ∷ []) (render l (grow x p ns) ++ rest)) (omega arith) (omega arith)
    (says ns l d (suc c) x p (i + 1) k (w + 1) name (pre ++ ((first l + c) ∷ [])) rest g.2 (omega arith) q b n (λ e. h (omega arith))
    (omega (arith, length-append pre ((first l + c) ∷ []))) m))
    (λ q. (refl, h))
    (λ q. put-says name pre rest l d x w i k p (whole c ns) (q, g.1, g.2) (omega arith) b j m)
says (listed c is ns) l d lo x [] i k w name pre rest g u v b n h j m =
    by_two (λ (y : Nodes) (e : Edit). Says name (pre ++ (render l (listed c is ns) ++ rest)) (pre ++ (render l y ++ rest)) (i + length (render l (listed c is ns))) (w + wholes y) e) c x
    (λ q.
    says-as name (edit_of (i + size is) k w x [] ns) (past l c pre (render Digits is) rest ns) (past l c pre (render Digits is) rest (grow x [] ns))
    (omega (arith, length-append (render Digits is) (41 ∷ render l ns))) refl
    (says ns l d (suc c) x [] (i + size is) k w name (pre ++ ((first l + c) ∷ 40 ∷ (render Digits is ++ (41 ∷ [])))) rest g.6 (omega arith) q b n h
    (omega (arith, length-append pre ((first l + c) ∷ 40 ∷ (render Digits is ++ (41 ∷ []))), length-append (render Digits is) (41 ∷ []))) m))
    (λ q. whole_says name pre rest l d c w i (i + size is) is ns g.6 (omega arith) g.1 j refl)
    (λ q. put-says name pre rest l d x w i k [] (listed c is ns) (q, g.1, g.2, g.3, g.4, g.5, g.6) (omega arith) b j m)
says (listed c is ns) l d lo x (y ∷ p) i k w name pre rest g u v b n h j m =
    by_two (λ (z : Nodes) (e : Edit). Says name (pre ++ (render l (listed c is ns) ++ rest)) (pre ++ (render l z ++ rest)) (i + length (render l (listed c is ns))) (w + wholes z) e) c x
    (λ q.
    says-as name (edit_of (i + size is) k w x (y ∷ p) ns) (past l c pre (render Digits is) rest ns) (past l c pre (render Digits is) rest (grow x (y ∷ p) ns))
    (omega (arith, length-append (render Digits is) (41 ∷ render l ns))) refl
    (says ns l d (suc c) x (y ∷ p) (i + size is) k w name (pre ++ ((first l + c) ∷ 40 ∷ (render Digits is ++ (41 ∷ [])))) rest g.6 (omega arith) q b n h
    (omega (arith, length-append pre ((first l + c) ∷ 40 ∷ (render Digits is ++ (41 ∷ []))), length-append (render Digits is) (41 ∷ []))) m))
    (λ q.
    over-says name pre rest l d c w i is (grow y p is) ns g.6 (omega arith) g.1 j (edit_of (i + 2) (k + 1) 0 y p is)
    (says-as name (edit_of (i + 2) (k + 1) 0 y p is) (into l c pre rest is ns) (into l c pre rest (grow y p is) ns) refl (omega arith)
    (says is Digits (room l c d - 1) 0 y p (i + 2) (k + 1) 0 name (pre ++ ((first l + c) ∷ 40 ∷ [])) (41 ∷ (render l ns ++ rest)) g.5 (omega arith) (omega arith) n.0 n.1
    (λ e. g.4 (omega arith)) (omega (arith, length-append pre ((first l + c) ∷ 40 ∷ []))) (next-bytes name k x (y ∷ p) l m))))
    (λ q. put-says name pre rest l d x w i k (y ∷ p) (listed c is ns) (q, g.1, g.2, g.3, g.4, g.5, g.6) (omega arith) b j m)

-- ---- the edited text

pub says-edited : (name t u : List ℕ) (stop n : ℕ) (e : Edit) → (n ≡ 9 → ⊥) → Says name t u stop n e → edited name t e ≡ u
unfolding edited
says-edited name t u stop n Covered h s = sym s.0
says-edited name t u stop n (Put i k) h s =
    ap₂ (λ (x y : List ℕ). x ++ (nested (drop k name) ++ y))
    (ap (take i) s.2 ∙ take_at s.0 s.1 i s.3) (ap (drop i) s.2 ∙ drop_at s.0 s.1 i s.3)
    ∙ sym s.4
says-edited name t u stop n (Cut i j) h s =
    ap₂ ◌++◌ (ap (take i) s.3 ∙ take_at s.0 (s.1 ++ s.2) i s.4)
    (ap (drop j) (s.3 ∙ sym (append_assoc s.0 s.1 s.2)) ∙ drop_at (s.0 ++ s.1) s.2 j (omega (arith, length-append s.0 s.1, s.5)))
    ∙ sym s.6
says-edited name t u stop n (Full e) h s = absurd (h s.0)

-- the edit lies in the text
pub says-fits : (name t u : List ℕ) (stop n : ℕ) (e : Edit) → Says name t u stop n e → EditFits (length t) (length name) e
says-fits name t u stop n Covered s = tt
says-fits name t u stop n (Put i k) s = (omega (arith, ap length s.2, length-append s.0 s.1, s.3), s.5)
says-fits name t u stop n (Cut i j) s =
    (omega (arith, s.4, s.5), omega (arith, ap length s.3, length-append s.0 (s.1 ++ s.2), length-append s.1 s.2, s.5))
says-fits name t u stop n (Full e) s = tt

-- ---- its length

pub nested-count : (b : ℕ) (bs : List ℕ) → length (nested (b ∷ bs)) ≡ 3 * length bs + 1
nested-count b [] = refl
nested-count b (c ∷ bs) = omega (arith, nested-count c bs, length-append (nested (c ∷ bs)) (41 ∷ []))

nested-most : (bs : List ℕ) → length bs ≤ 16 → length (nested bs) ≤ 46
nested-most [] h = omega arith
nested-most (b ∷ bs) h = omega (arith, nested-count b bs)

-- at most 46 bytes more
pub edited-length : (name t : List ℕ) (e : Edit) → EditFits (length t) (length name) e → length name ≤ 16 → length (edited name t e) ≤ length t + 46
unfolding edited
edited-length name t Covered f h = omega arith
edited-length name t (Put i k) f h =
    omega (
      arith,
      nested-most (drop k name) (omega (arith, length-drop k name)),
      length-append (take i t) (nested (drop k name) ++ drop i t),
      length-append (nested (drop k name)) (drop i t),
      length-take-le i t f.0,
      length-drop i t,
    )
edited-length name t (Cut i j) f h = omega (arith, length-append (take i t) (drop j t), length-take-le i t (omega (arith, f.0, f.1)), length-drop j t, f.0, f.1)
edited-length name t (Full e) f h = omega arith

nested-some : (bs : List ℕ) → 0 < length bs → 0 < length (nested bs)
nested-some [] h = absurd (omega arith)
nested-some (b ∷ bs) h = omega (arith, nested-count b bs)

-- an edit that leaves the length leaves the text
pub edited-same : (name t : List ℕ) (e : Edit) → EditFits (length t) (length name) e → length (edited name t e) ≡ length t → edited name t e ≡ t
unfolding edited
edited-same name t Covered f h = refl
edited-same name t (Put i k) f h =
    absurd
    (omega (
      arith,
      nested-some (drop k name) (omega (arith, length-drop k name, f.1)),
      length-append (take i t) (nested (drop k name) ++ drop i t),
      length-append (nested (drop k name)) (drop i t),
      length-take-le i t f.0,
      length-drop i t,
    ))
edited-same name t (Cut i j) f h =
    let k : j ≡ i = omega (arith, length-append (take i t) (drop j t), length-take-le i t (omega (arith, f.0, f.1)), length-drop j t, f.0, f.1) in
    ap (λ (n : ℕ). take i t ++ drop n t) k ∙ take-append-drop i t
edited-same name t (Full e) f h = refl
