-- The edit of nodes, by what stands at the cell's place. Assumes nothing.
use mathlib.Core.Path.{◌≡◌, refl, sym, ap, ap₂, ◌∙◌, subst}
use mathlib.Core.Logic.{inl, ⊎_elim}
use mathlib.Core.Bool.{Bool, true, false, cond}
use mathlib.Core.List.{List, [], ◌∷◌, ◌++◌}
use Prim.Native.Nat.{ℕ, suc, ◌+◌, ◌-◌, ◌≤◌, ◌<◌}
use native.Mathlib.Omega.{arith}
use lib.ListN.{length, take, drop, get_or, get_or-eq_default, length-drop}
use lib.Seq.{drop-drop, length-take-le}
use lib.Dec.{eqb}
use borrow.Author.Tests.{lt-ltb, le-ltb, eq-eqb, ne_eqb, eqb-true, eqb-false}
use Rattle.logic.specs.Laws.Bools.{clash}
use Rattle.logic.specs.Laws.Order.{lt-or}
use Rattle.ternary.specs.Digits.{Below}
use Rattle.reading.specs.declared.Level.{Level}
use Rattle.reading.specs.declared.Level.TheVariants.{Digits}
use Rattle.reading.specs.Reading.{Nodes, end, whole, listed, first, room, wholes, render, Good}
use Rattle.reading.proofs.Laws.Reading.{first-big}
use Rattle.reading.specs.Prefix.{Name}
use Rattle.walk.specs.Walk.{whole_at}
use Rattle.walk.specs.Past.{node_in}
use Rattle.adding.specs.declared.Edit.{Edit}
use Rattle.adding.specs.declared.Edit.TheVariants.{Covered, Put, Cut, Full}
use Rattle.adding.specs.Internal.Grow.{by, grow}
use Rattle.adding.specs.Internal.Edit.{name_bytes, run, to_whole, to_put, over, size, edit_of}
use Rattle.adding.specs.Internal.EditLaws.{Says, says}
use Rattle.adding.specs.InMind.{LeadsTo}
use Rattle.adding.specs.Internal.Find.{run_in, whole_as, put_as, over_as, EndsIn, Stands, EditIs, Lands, From}
use Rattle.adding.proofs.Skips.{On}
use Rattle.adding.proofs.Bytes.{inside, byte, stop-byte, whole_here, list-here, listed_here, node-size, list-in, list-past, size_fits, run-nodes}

-- ---- the choice at x, and behind it

pub at_x {ℓ} : {A : Type ℓ} (x : ℕ) (u v w : A) → by x x u v w ≡ v
at_x x u v w = ap₂ (λ (a b : Bool). cond a u (cond b v w)) (le-ltb x x (omega arith)) (eq-eqb x x refl)

behind-x {ℓ} : {A : Type ℓ} {c x : ℕ} (u v w : A) → x < c → by c x u v w ≡ w
behind-x {c = c} {x = x} u v w h = ap₂ (λ (a b : Bool). cond a u (cond b v w)) (le-ltb c x (omega arith)) (ne_eqb c x (λ e. omega arith))

-- ---- a test of two bytes

pub eqb_yes : {a b : ℕ} {r : Bool} → r ≡ eqb a b → r ≡ true → a ≡ b
eqb_yes {a} {b} e f = eqb-true a b (sym e ∙ f)

pub eqb_no : {a b : ℕ} {r : Bool} → r ≡ eqb a b → r ≡ false → a ≡ b → ⊥
eqb_no {a} {b} e f = eqb-false a b (sym e ∙ f)

-- ---- the name's byte

module _ {t name : List ℕ} {at k : ℕ} (v : Stands t name at k) where
  pub name-byte : get_or name k 0 ≡ first v.level + v.number
  name-byte = byte name k v.named

  pub byte-some : 0 < get_or name k 0
  byte-some = omega (arith, name-byte, first-big v.level)

  -- how many bytes there are
  bytes_of : (l : Level) (p : Name) → length (name_bytes l p) ≡ length p
  bytes_of l [] = refl
  bytes_of l (x ∷ p) = ap suc (bytes_of Digits p)

  pub name-length : length name ≡ k + 1 + length v.digits
  name-length = omega (arith, ap length v.named, length-drop k name, inside name k v.named, bytes_of Digits v.digits)

-- a byte that is not 0 stands inside
pub stands-inside : (t : List ℕ) (i b : ℕ) → 0 < b → get_or t i 0 ≡ b → i < length t
stands-inside t i b h e = ⊎_elim (λ k. k) (λ k. absurd (omega (arith, get_or-eq_default t 0 k))) (lt-or i (length t))

-- ---- the nodes that were landed on

module _ {t name : List ℕ} {at k i w : ℕ} (v : Stands t name at k) (d : Lands v i w) where
  -- no node of the cell's number: one is put in
  pub find-put : From v.number d.nodes → (get_or t i 0 ≡ get_or name k 0 → ⊥) → put_as i k (length name) w (run_in (drop i t)) ≡ edit_of at k 0 v.number v.digits v.nodes
  unfolding edit_of to_put put_as
  find-put f n = sym (d.same ∙ go d.nodes d.left f ∙ put v.digits (name-length v))
    where
      go : (ns : Nodes) → drop i t ≡ render v.level ns ++ v.rest → From v.number ns → edit_of i k w v.number v.digits ns ≡ to_put i k w v.digits ns
      go end l h = refl
      go (whole c ns) l h = behind-x _ _ _ (behind h (λ e. n (byte t i l ∙ sym (name-byte v ∙ ap (λ (x : ℕ). first v.level + x) (sym e)))))
        where
          behind : {x c : ℕ} → x ≤ c → (c ≡ x → ⊥) → x < c
          behind {x} {c} a b = ⊎_elim (λ z. z) (λ z. absurd (b (omega arith))) (lt-or x c)
      go (listed c is ns) l h = to v.digits
        where
          behind : {x c : ℕ} → x ≤ c → (c ≡ x → ⊥) → x < c
          behind {x} {c} a b = ⊎_elim (λ z. z) (λ z. absurd (b (omega arith))) (lt-or x c)

          far : v.number < c
          far = behind h (λ e. n (byte t i l ∙ sym (name-byte v ∙ ap (λ (x : ℕ). first v.level + x) (sym e))))

          to : (p : Name) → edit_of i k w v.number p (listed c is ns) ≡ to_put i k w p (listed c is ns)
          to [] = behind-x _ _ _ far
          to (y ∷ p) = behind-x _ _ _ far

      put : (p : Name) → length name ≡ k + 1 + length p → to_put i k w p d.nodes ≡ put_as i k (length name) w (run_in (drop i t))
      put [] e =
          let r : run d.nodes ≡ run_in (drop i t) = sym (ap run_in d.left ∙ run-nodes d.nodes v.level v.depth d.lo v.rest d.good v.stop) in
          ap (λ (x : ℕ). cond (eqb (w + 1 + x) 9) (Full (i + x)) (Put i k)) r
          ∙ sym (ap (λ (b : Bool). cond b (Put i k) (cond (eqb (w + 1 + run_in (drop i t)) 9) (Full (i + run_in (drop i t))) (Put i k))) (le-ltb (k + 1) (length name) (omega arith)))
      put (y ∷ p) e = sym (ap (λ (b : Bool). cond b (Put i k) (cond (eqb (w + 1 + run_in (drop i t)) 9) (Full (i + run_in (drop i t))) (Put i k))) (lt-ltb (k + 1) (length name) (omega arith)))

  module _ (h : get_or t i 0 ≡ get_or name k 0) where
    here : i < length t
    here = stands-inside t i (get_or name k 0) (byte-some v) h

    shut : get_or t i 0 ≡ 41 → ⊥
    shut e = omega (arith, name-byte v, first-big v.level)

    -- a whole one: the cell is covered
    pub find-covered : whole_at (drop i t) ≡ true → Covered ≡ edit_of at k 0 v.number v.digits v.nodes
    unfolding edit_of
    find-covered f = sym (d.same ∙ go d.nodes d.left d.good)
      where
        go : (ns : Nodes) → drop i t ≡ render v.level ns ++ v.rest → Good v.level v.depth d.lo ns → edit_of i k w v.number v.digits ns ≡ Covered
        go end l g = absurd (shut (stop-byte t i v.rest v.stop l here))
        go (whole c ns) l g =
            let e : c ≡ v.number = omega (arith, byte t i l, h, name-byte v) in
            ap (λ (x : ℕ). by x v.number (edit_of (i + 1) k (w + 1) v.number v.digits ns) Covered (to_put i k w v.digits (whole x ns))) e
            ∙ at_x v.number (edit_of (i + 1) k (w + 1) v.number v.digits ns) Covered (to_put i k w v.digits (whole v.number ns))
        go (listed c is ns) l g = clash (sym f ∙ list-here t i v.level c g.1 (listed_here t i v.level c g.1 is ns v.rest l))

-- the node of the cell's number holds a list
pub record Holds {t name : List ℕ} {at k : ℕ} (v : Stands t name at k) (i w : ℕ) : Type 0 where
  pub lo : ℕ
  pub list : Nodes
  pub nodes : Nodes
  pub left : drop i t ≡ render v.level (listed v.number list nodes) ++ v.rest
  pub good : Good v.level v.depth lo (listed v.number list nodes)
  pub same : edit_of at k 0 v.number v.digits v.nodes ≡ edit_of i k w v.number v.digits (listed v.number list nodes)
  pub on : (p : Name) (to : ℕ) (is : Nodes) → LeadsTo (i + 2) p list to is → LeadsTo at (v.number ∷ p) v.nodes to is

pub holds :
    {t name : List ℕ} {at k i w : ℕ} (v : Stands t name at k) (d : Lands v i w) → get_or t i 0 ≡ get_or name k 0 → whole_at (drop i t) ≡ false → Holds v i w
holds {t} {name} {at} {k} {i} {w} v d h f = go d.nodes d.left d.good d.same (λ p to is h. d.on p to is h)
  where
    go :
        (ns : Nodes) → drop i t ≡ render v.level ns ++ v.rest → Good v.level v.depth d.lo ns →
        edit_of at k 0 v.number v.digits v.nodes ≡ edit_of i k w v.number v.digits ns → On v i ns → Holds v i w
    go end l g m o = absurd (shut v d h (stop-byte t i v.rest v.stop l (here v d h)))
    go (whole c ns) l g m o = clash (sym (whole_here t i v.level c g.1 ns v.rest v.stop l) ∙ f)
    go (listed c is ns) l g m o =
        let e : c ≡ v.number = omega (arith, byte t i l, h, name-byte v) in
        record {
          lo = d.lo;
          list = is;
          nodes = ns;
          left = subst (λ (x : ℕ). drop i t ≡ render v.level (listed x is ns) ++ v.rest) e l;
          good = subst (λ (x : ℕ). Good v.level v.depth d.lo (listed x is ns)) e g;
          same = subst (λ (x : ℕ). edit_of at k 0 v.number v.digits v.nodes ≡ edit_of i k w v.number v.digits (listed x is ns)) e m;
          on = λ p to js z. o p to js (inl (e, z));
        }

-- ---- the edit of its list

-- nodes that are nine whole ones then end where they end
pub full_at : {t name : List ℕ} {at k e : ℕ} (v : Stands t name at k) → edit_of at k 0 v.number v.digits v.nodes ≡ Full e → e ≡ at + length (render v.level v.nodes)
full_at {t} {name} {at} {k} {e} v q =
    (subst
    (λ (r : Edit). Says name (take at t ++ (render v.level v.nodes ++ v.rest)) (take at t ++ (render v.level (grow v.number v.digits v.nodes) ++ v.rest))
    (at + length (render v.level v.nodes)) (0 + wholes (grow v.number v.digits v.nodes)) r)
    q
    (says v.nodes v.level v.depth 0 v.number v.digits at k 0 name (take at t) v.rest v.good (omega arith) (omega arith) v.small v.below
    (λ z. v.few (omega arith)) (sym (length-take-le at t v.within)) v.named)
    ).1

module _ {t name : List ℕ} {at k i w : ℕ} (v : Stands t name at k) (h : Holds v i w) where
  node-fits : i + size h.list ≤ length t
  node-fits = size_fits t i v.level v.number v.small h.list h.nodes v.rest h.left

  behind : run_in (drop (i + size h.list) t) ≡ run h.nodes
  behind =
      ap run_in (list-past t i v.level v.number v.small h.list h.nodes v.rest h.left)
      ∙ run-nodes h.nodes v.level v.depth (suc v.number) v.rest h.good.6 v.stop

  -- the node's bytes
  pub past_is : node_in (drop i t) ≡ size h.list
  past_is = node-size t i v.level v.number v.small h.list h.nodes v.rest h.left

  pub past_fits : i + node_in (drop i t) ≤ length t
  past_fits = omega (arith, past_is, node-fits)

  -- the cell itself: the list gives way
  pub find-whole : {r : ℕ} → r ≡ i + node_in (drop i t) → length name ≡ k + 1 → whole_as i r w (run_in (drop r t)) ≡ edit_of at k 0 v.number v.digits v.nodes
  unfolding edit_of to_whole whole_as
  find-whole {r} f e =
      ap (λ (x : ℕ). whole_as i x w (run_in (drop x t))) (f ∙ ap (λ (x : ℕ). i + x) past_is) ∙ ap (whole_as i (i + size h.list) w) behind
      ∙ sym (h.same ∙ go v.digits (name-length v))
    where
      go : (p : Name) → length name ≡ k + 1 + length p → edit_of i k w v.number p (listed v.number h.list h.nodes) ≡ to_whole i (i + size h.list) w h.nodes
      go [] q = at_x v.number (edit_of (i + size h.list) k w v.number [] h.nodes) (to_whole i (i + size h.list) w h.nodes) (to_put i k w [] (listed v.number h.list h.nodes))
      go (y ∷ p) q = absurd (omega arith)

  -- a cell in it
  inner : (y : ℕ) (p : Name) → drop k name ≡ name_bytes v.level (v.number ∷ y ∷ p) → Below 9 (y ∷ p) → Stands t name (i + 2) (k + 1)
  inner y p q b =
      record {
        level = Digits;
        depth = room v.level v.number v.depth - 1;
        nodes = h.list;
        rest = 41 ∷ (render v.level h.nodes ++ v.rest);
        number = y;
        digits = p;
        within = omega (arith, node-fits);
        left = list-in t i v.level v.number v.small h.list h.nodes v.rest h.left;
        stop = refl;
        good = h.good.5;
        few = h.good.4;
        named = sym (drop-drop 1 k name) ∙ ap (drop 1) q;
        small = b.0;
        below = b.1;
      }

  pub stands-in : (length name ≡ k + 1 → ⊥) → Stands t name (i + 2) (k + 1)
  stands-in n = go v.digits v.named v.below (name-length v)
    where
      go : (p : Name) → drop k name ≡ name_bytes v.level (v.number ∷ p) → Below 9 p → length name ≡ k + 1 + length p → Stands t name (i + 2) (k + 1)
      go [] q b e = absurd (n (omega arith))
      go (y ∷ p) q b e = inner y p q b

  ends_at : {e : ℕ} (y : ℕ) (p : Name) (q : drop k name ≡ name_bytes v.level (v.number ∷ y ∷ p)) (b : Below 9 (y ∷ p)) → Full e ≡ edit_of (i + 2) (k + 1) 0 y p h.list → e + 1 ≡ i + size h.list
  unfolding inner
  ends_at y p q b r = omega (arith, full_at (inner y p q b) (sym r))

  module _ (n : length name ≡ k + 1 → ⊥) (e : Edit) (r : EditIs t name (i + 2) (k + 1) e) where
    pub ends-in : EndsIn i (length t) e
    unfolding inner
    ends-in = go e r.is v.digits v.named v.below (name-length v)
      where
        go :
            (e : Edit) → ((u : Stands t name (i + 2) (k + 1)) → e ≡ edit_of (i + 2) (k + 1) 0 u.number u.digits u.nodes) → (p : Name) →
            drop k name ≡ name_bytes v.level (v.number ∷ p) → Below 9 p → length name ≡ k + 1 + length p → EndsIn i (length t) e
        go Covered r p q b m = tt
        go (Put x y) r p q b m = tt
        go (Cut x y) r p q b m = tt
        go (Full x) r [] q b m = absurd (n (omega arith))
        go (Full x) r (y ∷ p) q b m = let z = ends_at y p q b (r (inner y p q b)) in (omega arith, omega (arith, node-fits))

    pub find-list : over_as i w t e ≡ edit_of at k 0 v.number v.digits v.nodes
    unfolding edit_of over over_as to_whole whole_as inner
    find-list = go e r.is v.digits v.named v.below (name-length v) ∙ sym h.same
      where
        ns : Nodes
        ns = listed v.number h.list h.nodes

        same :
            (e : Edit) (y : ℕ) (p : Name) → drop k name ≡ name_bytes v.level (v.number ∷ y ∷ p) → Below 9 (y ∷ p) → e ≡ edit_of (i + 2) (k + 1) 0 y p h.list →
            over_as i w t e ≡ over i w h.nodes e
        same Covered y p q b r = refl
        same (Put a c) y p q b r = refl
        same (Cut a c) y p q b r = refl
        same (Full x) y p q b r = ap (whole_as i (x + 1) w) (ap (λ (z : ℕ). run_in (drop z t)) (ends_at y p q b r) ∙ behind)

        go :
            (e : Edit) → ((u : Stands t name (i + 2) (k + 1)) → e ≡ edit_of (i + 2) (k + 1) 0 u.number u.digits u.nodes) → (p : Name) →
            drop k name ≡ name_bytes v.level (v.number ∷ p) → Below 9 p → length name ≡ k + 1 + length p → over_as i w t e ≡ edit_of i k w v.number p ns
        go e r [] q b m = absurd (n (omega arith))
        go e r (y ∷ p) q b m =
            let f : e ≡ edit_of (i + 2) (k + 1) 0 y p h.list = r (inner y p q b) in
            same e y p q b f ∙ ap (over i w h.nodes) f
            ∙ sym (at_x v.number (edit_of (i + size h.list) k w v.number (y ∷ p) h.nodes) (over i w h.nodes (edit_of (i + 2) (k + 1) 0 y p h.list)) (to_put i k w (y ∷ p) ns))
