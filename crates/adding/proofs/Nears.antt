-- Where adding begins, and what is kept of its way: a list of the text, and of the text with the cell. Assumes nothing.
use Rattle.std.specs.Prelude.{Result}
use Rattle.reading.specs.declared.Refused.{Refused}
use mathlib.Core.Path.{◌≡◌, refl, sym, ap, ap₂, ◌∙◌, subst}
use mathlib.Core.Logic.{inl, inr, ⊎_elim}
use mathlib.Core.Bool.{true, false}
use mathlib.Core.List.{List, [], ◌∷◌, ◌++◌}
use Prim.Native.Nat.{ℕ, zero, suc, ◌+◌, ◌<◌}
use native.Mathlib.Omega.{arith}
use lib.ListN.{length, take, drop, get_or, length-drop, take-append-drop}
use lib.Seq.{take_at, length-take-le}
use borrow.Author.Tests.{not-false}
use Rattle.logic.specs.Refusal.{given}
use Rattle.logic.specs.Laws.Refusal.{both, allowed}
use Rattle.cell.specs.declared.Cell.{Cell}
use Rattle.cell.specs.Cell.{IsCell}
use Rattle.code.specs.Code.{cell_of}
use Rattle.name.specs.Name.{name_of}
use Rattle.reading.specs.declared.Level.{Level}
use Rattle.reading.specs.declared.Level.TheVariants.{Faces, Digits}
use Rattle.reading.specs.Reading.{Nodes, first}
use Rattle.reading.specs.Prefix.{Name, numbers_of}
use Rattle.reading.specs.Text.{heading_length}
use Rattle.reading.specs.TextReading.{nodes_of, is_text, body_start}
use Rattle.reading.proofs.Laws.TextReading.{read-nodes, read-profile}
use Rattle.adding.specs.declared.Edit.{Edit}
use Rattle.adding.specs.declared.ListAt.{ListAt}
use Rattle.adding.specs.Add.{text_with, keeps_with, with_refusal, resized, placed, length_after, Gains}
use Rattle.adding.proofs.Laws.Add.{with-reads}
use Rattle.adding.specs.InMind.{LeadsTo, InMind}
use Rattle.adding.specs.Internal.Grow.{grow}
use Rattle.adding.specs.Internal.Edit.{name_bytes, edit_of}
use Rattle.adding.specs.Internal.Find.{Stands, EditIs, Deep, Led, becomes_whole, StartIs, NearEdit}
use Rattle.adding.proofs.Internal.WithLaws.{cell_digits, cell_bytes, text_edit, name-bytes, nodes-with, stands-text}
use Rattle.adding.proofs.Ways.{own-stands, deep-grow}

-- the same bytes are the same numbers
same_numbers : (k : ℕ) (l : Level) (p r : Name) → take k (name_bytes l p) ≡ take k (name_bytes l r) → take k p ≡ take k r
same_numbers zero l p r e = refl
same_numbers (suc k) l [] [] e = refl
same_numbers (suc k) l [] (y ∷ r) e = absurd (omega (arith, ap length e))
same_numbers (suc k) l (x ∷ p) [] e = absurd (omega (arith, ap length e))
same_numbers (suc k) l (x ∷ p) (y ∷ r) e =
    let f : first l + x ≡ first l + y = cc in
    let g : take k (name_bytes Digits p) ≡ take k (name_bytes Digits r) = cc in
    ap₂ (λ (a : ℕ) (b : Name). a ∷ b) (omega arith) (same_numbers k Digits p r g)

module _ (t : List ℕ) (e : is_text t ≡ true) (c : Cell) (v : IsCell c) (name : List ℕ) (q : name ≡ cell_bytes c) {body : ℕ} (b : body ≡ body_start t) where
  -- the text's nodes and the cell's name
  unfoldable pub text-stands : Stands t name body 0
  text-stands = own-stands (stands-text t e c v name q) refl b

  -- ---- where it begins

  led-numbers : (k at : ℕ) (list : Nodes) → k < length name → LeadsTo (body_start t) (take k (numbers_of c)) (nodes_of t) at list → Led text-stands at k
  unfolding text-stands own-stands stands-text numbers_of
  led-numbers zero at list h l = inl (refl, l.0 ∙ sym b)
  led-numbers (suc k) at list h l = go (drop k (cell_digits c)) refl
    where
      m : k < length (cell_digits c)
      m = omega (arith, ap length q, bytes_of Digits (cell_digits c))
        where
          bytes_of : (l : Level) (p : Name) → length (name_bytes l p) ≡ length p
          bytes_of l [] = refl
          bytes_of l (x ∷ p) = ap suc (bytes_of Digits p)

      go : (ds : Name) → drop k (cell_digits c) ≡ ds → Led text-stands at (suc k)
      go [] f = absurd (omega (arith, ap length f, length-drop k (cell_digits c), m))
      go (y ∷ ds) f =
          inr
          (record {
            front = take k (cell_digits c);
            number = y;
            digits = ds;
            split = sym (take-append-drop k (cell_digits c)) ∙ ap (λ (x : Name). take k (cell_digits c) ++ x) f;
            deep = ap suc (sym (length-take-le k (cell_digits c) (omega (arith, m))));
            list = list;
            leads = subst (λ (x : ℕ). LeadsTo x (c.face ∷ take k (cell_digits c)) (nodes_of t) at list) (sym b) l;
          })

  pub near-led :
      {near : List ℕ} → InMind t near → get_or near 1 0 < length name → take (get_or near 1 0) name ≡ take (get_or near 1 0) (name_of (cell_of (get_or near 2 0))) →
      Led text-stands (get_or near 0 0) (get_or near 1 0)
  unfolding numbers_of
  near-led {near} n h f =
      let k = get_or near 1 0 in
      let d = cell_of (get_or near 2 0) in
      let g : take k (c.face ∷ cell_digits c) ≡ take k (d.face ∷ cell_digits d) =
      same_numbers k Faces (c.face ∷ cell_digits c) (d.face ∷ cell_digits d) (sym (ap (take k) q) ∙ f ∙ ap (take k) (name-bytes d)) in
      led-numbers k (get_or near 0 0) n.list h (subst (λ (x : Name). LeadsTo (body_start t) x (nodes_of t) (get_or near 0 0) n.list) (sym g) n.leads)

  pub start-led : {near : List ℕ} {r : ListAt} → InMind t near → StartIs body name near r → Led text-stands r.place r.depth
  start-led {near} {r} n s =
      ⊎_elim (λ z. subst (λ (x : ListAt). Led text-stands x.place x.depth) (sym z) (inl (refl, refl)))
      (λ z. subst (λ (x : ListAt). Led text-stands x.place x.depth) (sym z.0) (near-led n z.1 z.2)) s

  -- ---- what is kept

  near-with : (u : List ℕ) (at k code : ℕ) (list : Nodes) → LeadsTo (body_start u) (take k (numbers_of (cell_of code))) (nodes_of u) at list → InMind u (at ∷ k ∷ code ∷ [])
  near-with u at k code list l = record { long = refl; list = list; leads = l }

  module _ (code : ℕ) (i : cell_of code ≡ c) where
    front_of : {at k : ℕ} (d : Deep text-stands at k) → take k (numbers_of (cell_of code)) ≡ c.face ∷ d.front
    unfolding numbers_of text-stands own-stands stands-text
    front_of {at} {k} d =
        ap₂ (λ (x : ℕ) (y : Cell). take x (numbers_of y)) d.deep i
        ∙ ap (λ (x : Name). c.face ∷ x) (ap (take (length d.front)) d.split ∙ take_at d.front (d.number ∷ d.digits) (length d.front) refl)

    -- the nodes themselves, of the text and of any with as long a heading
    own-near : (u : List ℕ) → body_start u ≡ body → {at k : ℕ} → k ≡ 0 → at ≡ body → InMind u (at ∷ k ∷ code ∷ [])
    own-near u j {at} {k} y z =
        near-with u at k code (nodes_of u)
        (subst (λ (x : ℕ). LeadsTo (body_start u) (take x (numbers_of (cell_of code))) (nodes_of u) at (nodes_of u)) (sym y) (z ∙ sym j, refl))

    led-near : {at k : ℕ} → Led text-stands at k → InMind t (at ∷ k ∷ code ∷ [])
    unfolding text-stands own-stands stands-text
    led-near {at} {k} l =
        ⊎_elim (λ z. own-near t (sym b) z.0 z.1)
        (λ d.
        near-with t at k code d.list
        (subst (λ (x : Name). LeadsTo (body_start t) x (nodes_of t) at d.list) (sym (front_of d))
        (subst (λ (x : ℕ). LeadsTo x (c.face ∷ d.front) (nodes_of t) at d.list) b d.leads)))
        l

    module _ (w : keeps_with t c ≡ true) where
      abbrev u : List ℕ
      u = text_with t c

      same_start : body_start u ≡ body
      same_start = ap heading_length (read-profile (with-reads t e c v w)) ∙ sym b

      grown : nodes_of u ≡ grow c.face (cell_digits c) (nodes_of t)
      grown = read-nodes (with-reads t e c v w) ∙ nodes-with t e c v

      led-grown : {at k : ℕ} {r : Edit} → Led text-stands at k → EditIs t name at k r → becomes_whole r ≡ false → InMind u (at ∷ k ∷ code ∷ [])
      unfolding text-stands own-stands stands-text
      led-grown {at} {k} {r} l x n =
          ⊎_elim (λ z. own-near u same_start z.0 z.1)
          (λ d.
          near-with u at k code (grow d.number d.digits d.list)
          (subst (λ (y : Name). LeadsTo (body_start u) y (nodes_of u) at (grow d.number d.digits d.list)) (sym (front_of d))
          (subst (λ (y : Nodes). LeadsTo (body_start u) (c.face ∷ d.front) y at (grow d.number d.digits d.list)) (sym grown)
          (subst (λ (y : ℕ). LeadsTo y (c.face ∷ d.front) (grow c.face (cell_digits c) (nodes_of t)) at (grow d.number d.digits d.list)) (sym same_start)
          (deep-grow text-stands d x n)))))
          l

    module _ {at k : ℕ} {near : List ℕ} {r : Edit} (l : Led text-stands at k) (x : NearEdit t name body at k code near r) where
      -- of the text
      pub kept_near : InMind t near
      kept_near =
          ⊎_elim (λ z. subst (InMind t) (sym z) (own-near t (sym b) refl refl)) (λ z. subst (InMind t) (sym z.0) (led-near l)) x.kept

      -- of the text with the cell
      pub kept-with : keeps_with t c ≡ true → InMind (text_with t c) near
      kept-with w =
          ⊎_elim (λ z. subst (InMind (u w)) (sym z) (own-near (u w) (same_start w) refl refl))
          (λ z. subst (InMind (u w)) (sym z.0) (led-grown w l z.2 z.1)) x.kept

      -- the edit is the text's
      pub near-edit : r ≡ text_edit t e c v
      unfolding text-stands own-stands stands-text
      near-edit = x.is text-stands l ∙ ap (λ (y : ℕ). edit_of y 0 0 c.face (cell_digits c) (nodes_of t)) b

-- in front of the lent bytes then
pub near-gains :
    {bytes after near : List ℕ} {c : Cell} (end : ℕ) {r : Result ℕ Refused} → Gains (take end bytes) c bytes after r → InMind (take end bytes) near →
    (keeps_with (take end bytes) c ≡ true → InMind (text_with (take end bytes) c) near) → InMind (take (length_after r end) after) near
unfolding resized placed given with_refusal
near-gains {bytes} {after} {near} {c} end {r} g n m = go (with_refusal (take end bytes) c (length bytes)) refl g.answer g.bytes
  where
    u : List ℕ
    u = text_with (take end bytes) c

    go : (z : ℕ) → with_refusal (take end bytes) c (length bytes) ≡ z → r ≡ resized z (length u) → after ≡ placed z u bytes → InMind (take (length_after r end) after) near
    go zero k a f =
        subst (λ (x : Result ℕ Refused). InMind (take (length_after x end) after) near) (sym a)
        (subst (λ (x : List ℕ). InMind x near) (sym (ap (take (length u)) f ∙ take_at u (drop (length u) bytes) (length u) refl)) (m (not-false _ (allowed 14 _ (both _ _ k).0))))
    go (suc z) k a f =
        subst (λ (x : Result ℕ Refused). InMind (take (length_after x end) after) near) (sym a) (subst (λ (x : List ℕ). InMind (take end x) near) (sym f) n)

-- there is a byte to look for
pub start-short : (body : ℕ) (name near : List ℕ) (r : ListAt) → StartIs body name near r → 0 < length name → r.depth < length name
start-short body name near r s h =
    ⊎_elim (λ z. subst (λ (x : ListAt). x.depth < length name) (sym z) h) (λ z. subst (λ (x : ListAt). x.depth < length name) (sym z.0) z.1) s
