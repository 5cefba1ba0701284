-- The way to a list, for one name in one text: the list's own edit, one list further down, and the nodes with the cell. Assumes nothing.
use mathlib.Core.Path.{◌≡◌, refl, sym, ap, ap₂, ◌∙◌, subst}
use mathlib.Core.Logic.{inl, inr, ⊎_elim}
use mathlib.Core.Bool.{false}
use mathlib.Core.List.{List, [], ◌∷◌, ◌++◌, append_assoc}
use Prim.Native.Nat.{ℕ, suc, ◌+◌, ◌≤◌, ◌<◌}
use native.Mathlib.Omega.{arith}
use lib.ListN.{length, take, drop, get_or, length-append}
use lib.Seq.{length-take-le}
use Rattle.logic.specs.Laws.Bools.{clash}
use Rattle.ternary.specs.Digits.{Below}
use Rattle.reading.specs.declared.Level.{Level}
use Rattle.reading.specs.declared.Level.TheVariants.{Digits}
use Rattle.reading.specs.Reading.{wholes, render}
use Rattle.reading.specs.Prefix.{Name}
use Rattle.adding.specs.declared.Edit.{Edit}
use Rattle.adding.specs.declared.Edit.TheVariants.{Covered, Put, Cut, Full}
use Rattle.walk.specs.Walk.{whole_at}
use Rattle.adding.specs.declared.Skipped.{Skipped}
use Rattle.adding.specs.InMind.{LeadsTo}
use Rattle.adding.specs.Internal.Grow.{grow}
use Rattle.adding.specs.Internal.Edit.{name_bytes, edit_of}
use Rattle.adding.specs.Internal.EditLaws.{Says, says}
use Rattle.adding.specs.Internal.Find.{Stands, EditIs, SkipIs, Deep, Led, OnWay, ReachIs, becomes_whole}
use Rattle.adding.proofs.Leads.{leads-on, leads-edit, leads-grow, leads-lists}
use Rattle.adding.proofs.Finds.{name-byte, byte-some, Holds, holds, name-length}

drop-bytes : (p : Name) (l : Level) (x : ℕ) (r : Name) → drop (suc (length p)) (name_bytes l (x ∷ (p ++ r))) ≡ name_bytes Digits r
drop-bytes [] l x r = refl
drop-bytes (u ∷ p) l x r = drop-bytes p Digits u r

below_at : (p : Name) (y : ℕ) (q : Name) → Below 9 (p ++ (y ∷ q)) → (y < 9) × Below 9 q
below_at [] y q h = h
below_at (u ∷ p) y q h = below_at p y q h.1

-- an edit of nodes that does not make nine of them whole
inner-few :
    {t name : List ℕ} {at k : ℕ} (w : Stands t name at k) (e : Edit) → e ≡ edit_of at k 0 w.number w.digits w.nodes → becomes_whole e ≡ false →
    wholes (grow w.number w.digits w.nodes) ≡ 9 → ⊥
inner-few {t} {name} {at} {k} w e f = go e (subst
    (λ (r : Edit). Says name (take at t ++ (render w.level w.nodes ++ w.rest)) (take at t ++ (render w.level (grow w.number w.digits w.nodes) ++ w.rest))
    (at + length (render w.level w.nodes)) (0 + wholes (grow w.number w.digits w.nodes)) r)
    (sym f)
    (says w.nodes w.level w.depth 0 w.number w.digits at k 0 name (take at t) w.rest w.good (omega arith) (omega arith) w.small w.below
    (λ z. w.few (omega arith)) (sym (length-take-le at t w.within)) w.named))
  where
    go :
        (r : Edit) →
        Says name (take at t ++ (render w.level w.nodes ++ w.rest)) (take at t ++ (render w.level (grow w.number w.digits w.nodes) ++ w.rest))
        (at + length (render w.level w.nodes)) (0 + wholes (grow w.number w.digits w.nodes)) r →
        becomes_whole r ≡ false → wholes (grow w.number w.digits w.nodes) ≡ 9 → ⊥
    go Covered s n q = s.1 (omega arith)
    go (Put a b) s n q = s.6 (omega arith)
    go (Cut a b) s n q = s.7 (omega arith)
    go (Full a) s n q = clash n

module _ {t name : List ℕ} {body : ℕ} (v : Stands t name body 0) where
  -- the nodes themselves
  unfoldable pub own-stands : {at k : ℕ} → k ≡ 0 → at ≡ body → Stands t name at k
  own-stands {at} {k} a b =
      record {
        level = v.level;
        depth = v.depth;
        nodes = v.nodes;
        rest = v.rest;
        number = v.number;
        digits = v.digits;
        within = subst (λ (x : ℕ). x ≤ length t) (sym b) v.within;
        left = ap (λ (x : ℕ). drop x t) b ∙ v.left;
        stop = v.stop;
        good = v.good;
        few = v.few;
        named = ap (λ (x : ℕ). drop x name) a ∙ v.named;
        small = v.small;
        below = v.below;
      }

  -- a list below them
  deep-stands : {at k : ℕ} → Deep v at k → Stands t name at k
  deep-stands {at} {k} d =
      let h = leads-lists v.nodes v.level v.depth 0 body v.number d.front at d.list t v.rest v.good v.left d.leads in
      let b = below_at d.front d.number d.digits (subst (Below 9) d.split v.below) in
      record {
        level = Digits;
        depth = h.depth;
        nodes = d.list;
        rest = h.rest;
        number = d.number;
        digits = d.digits;
        within = h.within;
        left = h.left;
        stop = h.stop;
        good = h.good;
        few = h.few;
        named =
            ap (λ (x : ℕ). drop x name) d.deep
            ∙ ap (drop (suc (length d.front))) (v.named ∙ ap (λ (x : Name). name_bytes v.level (v.number ∷ x)) d.split)
            ∙ drop-bytes d.front v.level v.number (d.number ∷ d.digits);
        small = b.0;
        below = b.1;
      }

  pub led-stands : {at k : ℕ} → Led v at k → Stands t name at k
  led-stands l = ⊎_elim (λ z. own-stands z.0 z.1) (λ d. deep-stands d) l

  -- its edit is that of the text
  pub led-edit : {at k : ℕ} {e : Edit} → Led v at k → EditIs t name at k e → becomes_whole e ≡ false → e ≡ edit_of body 0 0 v.number v.digits v.nodes
  unfolding own-stands deep-stands
  led-edit {at} {k} {e} l r n = ⊎_elim own deep l
    where
      own : (k ≡ 0) × (at ≡ body) → e ≡ edit_of body 0 0 v.number v.digits v.nodes
      own z = r.is (own-stands z.0 z.1) ∙ ap₂ (λ (a b : ℕ). edit_of a b 0 v.number v.digits v.nodes) z.1 z.0

      deep : Deep v at k → e ≡ edit_of body 0 0 v.number v.digits v.nodes
      deep d =
          sym
          (ap (λ (x : Name). edit_of body 0 0 v.number x v.nodes) d.split
          ∙ leads-edit v.nodes v.level v.depth 0 body 0 0 v.number d.front d.number d.digits at d.list k e v.good d.leads
          (omega (arith, d.deep)) (r.is (deep-stands d)) n)

  -- one list further down
  pub led-down : {at k i w : ℕ} (l : Led v at k) → Holds (led-stands l) i w → k + 2 < length name → Led v (i + 2) (k + 1)
  unfolding led-stands own-stands deep-stands
  led-down {at} {k} {i} {w} (inl z) h s = go v.digits refl (name-length v)
    where
      go : (ds : Name) → v.digits ≡ ds → length name ≡ 0 + 1 + length v.digits → Led v (i + 2) (k + 1)
      go [] q m = absurd (omega (arith, ap length q, z.0))
      go (y ∷ ds) q m =
          inr
          (record {
            front = [];
            number = y;
            digits = ds;
            split = q;
            deep = omega (arith, z.0);
            list = h.list;
            leads = subst (λ (x : ℕ). LeadsTo x (v.number ∷ []) v.nodes (i + 2) h.list) z.1 (h.on [] (i + 2) h.list (refl, refl));
          })
  led-down {at} {k} {i} {w} (inr d) h s = go d.digits refl (name-length (deep-stands d))
    where
      go : (ds : Name) → d.digits ≡ ds → length name ≡ k + 1 + length d.digits → Led v (i + 2) (k + 1)
      go [] q m = absurd (omega (arith, ap length q))
      go (y ∷ ds) q m =
          inr
          (record {
            front = d.front ++ (d.number ∷ []);
            number = y;
            digits = ds;
            split =
                d.split ∙ ap (λ (x : Name). d.front ++ (d.number ∷ x)) q ∙ sym (append_assoc d.front (d.number ∷ []) (y ∷ ds));
            deep = omega (arith, d.deep, length-append d.front (d.number ∷ []));
            list = h.list;
            leads =
                leads-on v.nodes body (v.number ∷ d.front) at d.list (d.number ∷ []) (i + 2) h.list d.leads
                (h.on [] (i + 2) h.list (refl, refl));
          })

  -- the nodes with the cell lead to the same place
  pub deep-grow :
      {at k : ℕ} {e : Edit} (d : Deep v at k) → EditIs t name at k e → becomes_whole e ≡ false →
      LeadsTo body (v.number ∷ d.front) (grow v.number v.digits v.nodes) at (grow d.number d.digits d.list)
  unfolding deep-stands
  deep-grow {at} {k} {e} d r n =
      subst (λ (x : Name). LeadsTo body (v.number ∷ d.front) (grow v.number x v.nodes) at (grow d.number d.digits d.list)) (sym d.split)
      (leads-grow v.nodes v.level v.depth 0 body v.number d.front d.number d.digits at d.list v.good d.leads
      (inner-few (deep-stands d) e (r.is (deep-stands d)) n)
      ).0

-- ---- going down

pub record Reaching (t name : List ℕ) (from first at k : ℕ) : Type 0 where
  pub short : k < length name
  pub way : (body : ℕ) × OnWay t name body at k
  pub led : (body : ℕ) (v : Stands t name body 0) → Led v from first → Led v at k

pub reach-start : {t name : List ℕ} {from first : ℕ} → first < length name → (body : ℕ) × OnWay t name body from first → Reaching t name from first from first
reach-start h w = record { short = h; way = w; led = λ body v l. l }

module _ {t name : List ℕ} {from first at k : ℕ} (r : Reaching t name from first at k) where
  -- the name's byte
  pub reach-byte : {byte : ℕ} → byte ≡ get_or name k 0 → 0 < byte
  reach-byte {byte} e = let s = led-stands r.way.1.stands r.way.1.led in omega (arith, byte-some s)

  -- one list further down
  pub reach-down :
      {byte : ℕ} {s : Skipped} → byte ≡ get_or name k 0 → SkipIs t at byte s → get_or t s.place 0 ≡ byte → whole_at (drop s.place t) ≡ false → k + 2 < length name →
      Reaching t name from first (s.place + 2) (k + 1)
  reach-down {byte} {s} e z f g h =
      record {
        short = omega arith;
        way = (r.way.0, record { stands = r.way.1.stands; led = down r.way.1.stands r.way.1.led });
        led = λ body v l. down v (r.led body v l);
      }
    where
      down : {body : ℕ} (v : Stands t name body 0) → Led v at k → Led v (s.place + 2) (k + 1)
      down v l =
          let d = z.is (led-stands v l) (e ∙ name-byte (led-stands v l)) in
          led-down v l (holds (led-stands v l) d.0 (f ∙ e) g) h

  pub reach-end : {place depth : ℕ} → place ≡ at → depth ≡ k → ReachIs t name from first (record { place = place; depth = depth })
  reach-end {place} {depth} a b =
      subst (λ (x : ℕ). ReachIs t name from first (record { place = x; depth = depth })) (sym a)
      (subst (λ (x : ℕ). ReachIs t name from first (record { place = at; depth = x })) (sym b) (record { short = r.short; led = λ v l. r.led _ v l }))
