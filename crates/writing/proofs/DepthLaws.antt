-- The least depth that nodes keep to: they fit a depth exactly where it is not less, and each pass over the codes gives it. Assumes nothing.
use mathlib.Core.Path.{◌≡◌, refl, sym, ap, ap₂, ◌∙◌}
use mathlib.Core.Bool.{Bool, true, false, ◌&&◌, not, cond}
use mathlib.Core.Logic.{⊎_elim}
use mathlib.Core.List.{List, [], ◌∷◌, ◌++◌, map}
use Prim.Native.Nat.{ℕ, suc, ◌+◌, ◌-◌, ◌*◌, ◌/◌, ◌^◌, ◌≤◌, ◌<◌}
use native.Mathlib.Omega.{arith}
use lib.Dec.{leb, ltb, eqb}
use lib.ListN.{length, length-append}
use borrow.Author.Tests.{lt-ltb, le-ltb, le-leb, lt-leb, leb-true, eq-eqb, ne_eqb, eqb-true}
use Rattle.logic.specs.Laws.Bools.{same_truth}
use Rattle.logic.specs.Laws.Order.{lt-or}
use Rattle.ternary.proofs.Laws.Powers.{nine-lt}
use Rattle.code.specs.Code.{cell_of}
use Rattle.code.specs.Inside.{start_of}
use Rattle.reading.specs.declared.Level.{Level}
use Rattle.reading.specs.declared.Level.TheVariants.{Faces, Belt, Digits}
use Rattle.reading.specs.declared.Profile.{Profile}
use Rattle.reading.specs.declared.Profile.TheVariants.{Full, Handheld}
use Rattle.reading.specs.Reading.{Nodes, end, whole, listed, room}
use Rattle.reading.specs.Text.{IsProfile}
use Rattle.reading.specs.Ground.{cell_named, Cells}
use Rattle.reading.specs.Prefix.{Name, Ahead}
use Rattle.reading.specs.Written.{side, under, nodes_for, fitting, keeps}
use Rattle.reading.proofs.Laws.Reading.{eq-or, room-le}
use Rattle.reading.proofs.Laws.Fits.{good-fits}
use Rattle.reading.proofs.Laws.Written.{nodes-good}
use Rattle.writing.specs.Internal.Take.{rests_of, Each, Took}
use Rattle.writing.specs.Internal.TakeLaws.{side-in, side-out}
use Rattle.writing.specs.Internal.Measure.{names_from, NodeAt, NodeTakes, NodeDepth, ListDepth}
use Rattle.writing.specs.Internal.Depth.{greater, held_depth, depth_of_nodes, depth_above, breaks, level_for}
use Rattle.writing.proofs.Internal.EntryLaws.{face-start, faces-nodes}
use Rattle.writing.proofs.EntrySteps.{and-three}
use Rattle.writing.proofs.PutLaws.{node-whole, held}

-- ---- the greater of two

greater-second : (a b : ℕ) → a ≤ b → greater a b ≡ b
unfolding greater
greater-second a b h = ⊎_elim (λ l. rw (lt-ltb a b l) refl) (λ l. rw (le-ltb a b l) (omega arith)) (lt-or a b)

greater-first : (a b : ℕ) → b ≤ a → greater a b ≡ a
unfolding greater
greater-first a b h = rw (le-ltb a b h) refl

pub greater-none : (b : ℕ) → greater 0 b ≡ b
greater-none b = greater-second 0 b (omega arith)

pub greater-zero : (a : ℕ) → greater a 0 ≡ a
greater-zero a = greater-first a 0 (omega arith)

pub greater-most : (a b n : ℕ) → a ≤ n → b ≤ n → greater a b ≤ n
greater-most a b n h i = ⊎_elim (λ l. omega (arith, greater-second a b (omega arith))) (λ l. omega (arith, greater-first a b l)) (lt-or a b)

pub greater-assoc : (a b c : ℕ) → greater (greater a b) c ≡ greater a (greater b c)
greater-assoc a b c =
    ⊎_elim
    (λ l. ap (λ (x : ℕ). greater x c) (greater-second a b (omega arith)) ∙ sym (greater-second a (greater b c) (over b c l)))
    (λ l.
    ap (λ (x : ℕ). greater x c) (greater-first a b l)
    ∙ ⊎_elim (λ m. ap (greater a) (sym (greater-second b c (omega arith)))) (λ m. greater-first a c (omega arith) ∙ sym (greater-first a b l) ∙ ap (greater a) (sym (greater-first b c m)))
    (lt-or b c))
    (lt-or a b)
  where
    over : (b c : ℕ) → a < b → a ≤ greater b c
    over b c l = ⊎_elim (λ m. omega (arith, greater-second b c (omega arith))) (λ m. omega (arith, greater-first b c m)) (lt-or b c)

greater-leb : (a b d : ℕ) → leb (greater a b) d ≡ (leb a d && leb b d)
greater-leb a b d =
    ⊎_elim (λ l. ap (λ (x : ℕ). leb x d) (greater-second a b (omega arith)) ∙ small (leb b d) refl (omega arith))
    (λ l. ap (λ (x : ℕ). leb x d) (greater-first a b l) ∙ large (leb a d) refl l)
    (lt-or a b)
  where
    small : (t : Bool) → leb b d ≡ t → a ≤ b → t ≡ (leb a d && t)
    small true e l = ap (λ (x : Bool). x && true) (sym (le-leb a d (omega (arith, leb-true b d e))))
    small false e l = none (leb a d)
      where
        none : (x : Bool) → false ≡ (x && false)
        none true = refl
        none false = refl

    large : (t : Bool) → leb a d ≡ t → b ≤ a → t ≡ (t && leb b d)
    large true e l = sym (le-leb b d (omega (arith, leb-true a d e)))
    large false e l = refl

-- ---- nodes fit a depth exactly where it is not less than theirs

one_deeper : (x d : ℕ) → (ltb 0 d && leb x (d - 1)) ≡ leb (x + 1) d
one_deeper x d =
    ⊎_elim
    (λ l.
    ap (λ (b : Bool). b && leb x (d - 1)) (lt-ltb 0 d l)
    ∙ same_truth (leb x (d - 1)) (leb (x + 1) d) (λ e. le-leb (x + 1) d (omega (arith, leb-true x (d - 1) e))) (λ e. le-leb x (d - 1) (omega (arith, leb-true (x + 1) d e))))
    (λ l. ap (λ (b : Bool). b && leb x (d - 1)) (le-ltb 0 d l) ∙ sym (lt-leb (x + 1) d (omega arith)))
    (lt-or 0 d)

room-depth : (l : Level) (c x d : ℕ) → d ≤ 15 → (ltb 0 (room l c d) && leb x (room l c d - 1)) ≡ leb (held_depth l c (x + 1)) d
room-depth Faces c x d h = one_deeper x d
room-depth Belt c x d h = go (eqb c 0) (eqb c 5)
  where
    go : (s t : Bool) → (ltb 0 (cond s 0 (cond t 0 d)) && leb x (cond s 0 (cond t 0 d) - 1)) ≡ leb (cond s 16 (cond t 16 (x + 1))) d
    go true t = sym (lt-leb 16 d (omega arith))
    go false true = sym (lt-leb 16 d (omega arith))
    go false false = one_deeper x d
room-depth Digits c x d h = one_deeper x d

pub fits-depth : (ns : Nodes) (l : Level) (d : ℕ) → d ≤ 15 → fitting l d ns ≡ leb (depth_of_nodes l ns) d
unfolding fitting depth_of_nodes
fits-depth end l d h = sym (le-leb 0 d (omega arith))
fits-depth (whole c ns) l d h = fits-depth ns l d h
fits-depth (listed c is ns) l d h =
    and-three (ltb 0 (room l c d)) (fitting Digits (room l c d - 1) is) (fitting l d ns)
    ∙ ap₂ ◌&&◌
    (ap (λ (b : Bool). ltb 0 (room l c d) && b) (fits-depth is Digits (room l c d - 1) (omega (arith, room-le l c d))) ∙ room-depth l c (depth_of_nodes Digits is) d h)
    (fits-depth ns l d h)
    ∙ sym (greater-leb (held_depth l c (depth_of_nodes Digits is + 1)) (depth_of_nodes l ns) d)

-- ---- a node

pub whole-depth : {codes : List ℕ} {at : ℕ} {w : Name} {k next bytes : ℕ} → NodeTakes codes at w k next bytes 1 → NodeDepth codes at w k 0
unfolding depth_of_nodes
whole-depth {codes} {at} {w} {k} t =
    record {
      is =
          λ u c rest e.
          ap (depth_of_nodes (level_for k)) (node-whole (under k) c (rests_of w (names_from codes at)) rest (t.whole c end ∙ omega arith))
          ∙ sym (greater-none (depth_of_nodes (level_for k) rest));
    }

same-eqb : (a b c d : ℕ) → (a ≡ b → c ≡ d) → (c ≡ d → a ≡ b) → eqb a b ≡ eqb c d
same-eqb a b c d f g = same_truth (eqb a b) (eqb c d) (λ e. eq-eqb c d (f (eqb-true a b e))) (λ e. eq-eqb a b (g (eqb-true c d e)))

-- a face
cap-depth : (w u : Name) (c start below : ℕ) → length w ≡ 1 → w ≡ u ++ (c ∷ []) → start_of (cell_named w) ≡ start →
    held_depth Belt c (below + 1) ≡ depth_above start 205891132094649 below
unfolding depth_above
cap-depth w [] c start below d e s =
    let g : start_of (cell_named (c ∷ [])) ≡ start = ap (λ (q : Name). start_of (cell_named q)) (sym e) ∙ s in
    let f : c * 205891132094649 ≡ start = omega (arith, face-start c) in
    rw (same-eqb start 0 c 0 (λ z. omega arith) (λ z. omega arith), same-eqb start 1029455660473245 c 5 (λ z. omega arith) (λ z. omega arith)) refl
cap-depth w (x ∷ u) c start below d e s = absurd (omega (arith, ap length e, length-append u (c ∷ [])))

module _ (codes : List ℕ) (at : ℕ) (w : Name) (start size k : ℕ) (s : NodeAt codes at w start size (suc k)) where
  long : (u : Name) (c : ℕ) → w ≡ u ++ (c ∷ []) → 1 ≤ length w
  long u c e = omega (arith, ap length e, length-append u (c ∷ []))

  above : (u : Name) (c below : ℕ) → w ≡ u ++ (c ∷ []) → held_depth (level_for (suc k)) c (below + 1) ≡ depth_above start size below
  unfolding depth_above
  above u c below e =
      ⊎_elim
      (λ f.
      let z : size ≡ 205891132094649 = s.sized ∙ ap (λ (j : ℕ). 9 ^ j) f in
      rw (eq-eqb (suc k) 15 f, z) (cap-depth w u c start below (omega (arith, s.depth)) e s.starts))
      (λ f.
      let z : (size ≡ 205891132094649 → ⊥) = λ g. omega (arith, s.sized, nine-lt (suc k) 15 (omega (arith, long u c e, s.depth))) in
      rw (ne_eqb (suc k) 15 f, ne_eqb size 205891132094649 z) refl)
      (eq-or (suc k) 15)

  pub held-depth :
      {next bytes count below : ℕ} → at < length codes → NodeTakes codes at w (suc k) next bytes count → (count ≡ 1 → ⊥) → ListDepth codes at w 0 9 k below →
      NodeDepth codes at w (suc k) (depth_above start size below)
  unfolding depth_of_nodes
  held-depth {next} {bytes} {count} {below} h t n l =
      record {
        is =
            λ u c rest e.
            let ns : Nodes = side (under k) 9 0 (rests_of w (names_from codes at)) in
            let f : level_for k ≡ Digits = ap (λ (b : Bool). cond b Belt Digits) (ne_eqb k 15 (λ z. omega (arith, long u c e, s.depth))) in
            let g : depth_of_nodes Digits ns ≡ below = ap (λ (m : Level). depth_of_nodes m ns) (sym f) ∙ l.is in
            ap (depth_of_nodes (level_for (suc k))) (held codes at w start size k s h next bytes count t n c rest)
            ∙ ap (λ (x : ℕ). greater (held_depth (level_for (suc k)) c (x + 1)) (depth_of_nodes (level_for (suc k)) rest)) g
            ∙ ap (λ (x : ℕ). greater x (depth_of_nodes (level_for (suc k)) rest)) (above u c below e);
      }

-- it is not much more than the size
pub above_most : (start size below : ℕ) → 9 ≤ size → below ≤ size / 9 + 16 → depth_above start size below ≤ size + 16
unfolding depth_above
above_most start size below z h = go (eqb size 205891132094649) (eqb start 0) (eqb start 1029455660473245)
  where
    go : (r s t : Bool) → cond r (cond s 16 (cond t 16 (below + 1))) (below + 1) ≤ size + 16
    go true true t = omega arith
    go true false true = omega arith
    go true false false = omega arith
    go false s t = omega arith

-- ---- a list

pub none-depth : (codes : List ℕ) (at : ℕ) (w : Name) (c k : ℕ) → ListDepth codes at w c 0 k 0
unfolding side depth_of_nodes
none-depth codes at w c k = record { is = refl }

module _ {codes : List ℕ} {at : ℕ} {w : Name} {c left k : ℕ} where
  pub in-depth :
      {next a b : ℕ} → Took (w ++ (c ∷ [])) (names_from codes at) (names_from codes next) → NodeDepth codes at (w ++ (c ∷ [])) k a →
      ListDepth codes next w (suc c) left k b → ListDepth codes at w c (suc left) k (greater a b)
  in-depth {next} {a} {b} t n l =
      record {
        is =
            ap (depth_of_nodes (level_for k)) (side-in (under k) left c w (names_from codes at) (names_from codes next) t)
            ∙ n.is w c (side (under k) left (suc c) (rests_of w (names_from codes next))) refl
            ∙ ap (greater a) l.is;
      }

  pub out-depth : {b : ℕ} → Each (Ahead (w ++ (c ∷ []))) (names_from codes at) → ListDepth codes at w (suc c) left k b → ListDepth codes at w c (suc left) k b
  out-depth p l = record { is = ap (depth_of_nodes (level_for k)) (side-out (under k) left c w (names_from codes at) p) ∙ l.is }

-- ---- all of the faces

-- a good list keeps to a profile
pub top-keeps :
    (codes : List ℕ) (depth : ℕ) → Cells (map cell_of codes) → ListDepth codes 0 [] 0 6 15 depth → (p : Profile) → IsProfile p →
    not (keeps p (map cell_of codes)) ≡ breaks p depth
top-keeps codes depth v l Full q = ap not (good-fits (nodes_for (map cell_of codes)) Faces 15 0 (nodes-good (map cell_of codes) v))
top-keeps codes depth v l (Handheld d) q =
    ap not
    (fits-depth (nodes_for (map cell_of codes)) Belt d q
    ∙ ap (λ (ns : Nodes). leb (depth_of_nodes Belt ns) d) (sym (faces-nodes codes))
    ∙ ap (λ (x : ℕ). leb x d) l.is)
    ∙ turned depth d
  where
    turned : (x d : ℕ) → not (leb x d) ≡ ltb d x
    turned x d = ⊎_elim (λ h. rw (lt-leb x d h, lt-ltb d x h) refl) (λ h. rw (le-leb x d h, le-ltb d x h) refl) (lt-or d x)
