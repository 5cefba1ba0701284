-- The bytes that the writing pass lays down are those of the nodes. Assumes nothing.
use mathlib.Core.Path.{◌≡◌, refl, sym, ap, ap₂, ◌∙◌}
use mathlib.Core.Bool.{Bool, true, false, ◌||◌, cond}
use mathlib.Core.List.{List, [], ◌∷◌, ◌++◌, append_assoc}
use Prim.Native.Nat.{ℕ, suc, ◌+◌, ◌<◌}
use native.Mathlib.Omega.{arith}
use lib.Dec.{eqb}
use lib.ListN.{length, set, length-append}
use lib.Seq.{sets}
use Rattle.logic.specs.Laws.Stores.{sets-append}
use Rattle.reading.specs.declared.Level.{Level}
use Rattle.reading.specs.declared.Level.TheVariants.{Digits}
use Rattle.reading.specs.Reading.{Nodes, end, whole, listed, first, render, wholes}
use Rattle.reading.specs.Prefix.{Name, numbers_of, Ahead}
use Rattle.code.specs.Code.{size_of}
use Rattle.writing.specs.declared.WrittenTo.{WrittenTo}
use Rattle.reading.specs.Written.{any_ends, node_of, side, under}
use Rattle.reading.proofs.Laws.Built.{built-side}
use Rattle.writing.specs.Internal.Take.{rests_of, Each}
use Rattle.writing.specs.Internal.TakeLaws.{rests-first, side-in, side-out, took-none, took-join, nine-past}
use Rattle.writing.specs.Internal.Measure.{names_from, next_cell, NodeAt, ListAt, NodeTakes}
use Rattle.writing.specs.Internal.MeasureLaws.{names_at, node-same}
use Rattle.writing.specs.Internal.Put.{Wrote, NodeWrote, ListWrote}

-- ---- bytes stored from a place on

pub wrote-join :
    {place : ℕ} {a b text mid later : List ℕ} {between ends : ℕ} → Wrote place a text mid between → Wrote between b mid later ends → Wrote place (a ++ b) text later ends
wrote-join {place} {a} {b} {text} {mid} {later} {between} {ends} t u =
    record {
      holds = u.holds ∙ ap₂ (λ (p : ℕ) (x : List ℕ). sets x p b) t.ended t.holds ∙ sym (sets-append text place a b);
      ended = omega (arith, t.ended, u.ended, length-append a b);
    }

pub wrote_none : {place : ℕ} {text : List ℕ} → Wrote place [] text text place
wrote_none = record { holds = refl; ended = omega arith }

pub wrote_one : {place b : ℕ} {text later : List ℕ} → later ≡ set text place b → Wrote place (b ∷ []) text later (place + 1)
wrote_one e = record { holds = e; ended = refl }

-- ---- a node's bytes, and those of what follows

pub node-render : (below : List Name → Nodes) (l : Level) (c : ℕ) (ts : List Name) (rest : Nodes) → render l (node_of below c ts rest) ≡ render l (node_of below c ts end) ++ render l rest
unfolding node_of
node-render below l c [] rest = refl
node-render below l c (t ∷ ts) rest = go (any_ends (t ∷ ts) || eqb (wholes (below (t ∷ ts))) 9)
  where
    go : (b : Bool) → render l (cond b (whole c rest) (listed c (below (t ∷ ts)) rest)) ≡ render l (cond b (whole c end) (listed c (below (t ∷ ts)) end)) ++ render l rest
    go true = refl
    go false = ap (λ (x : List ℕ). (first l + c) ∷ 40 ∷ x) (sym (append_assoc (render Digits (below (t ∷ ts))) (41 ∷ []) (render l rest)))

-- a node is whole, or holds what is built below it, whatever follows
pub node-whole :
    (below : List Name → Nodes) (c : ℕ) (ts : List Name) (rest : Nodes) → wholes (node_of below c ts end) ≡ 1 → node_of below c ts rest ≡ whole c rest
unfolding node_of
node-whole below c [] rest h = absurd (omega arith)
node-whole below c (t ∷ ts) rest h = go (any_ends (t ∷ ts) || eqb (wholes (below (t ∷ ts))) 9) h
  where
    go : (b : Bool) → wholes (cond b (whole c end) (listed c (below (t ∷ ts)) end)) ≡ 1 → cond b (whole c rest) (listed c (below (t ∷ ts)) rest) ≡ whole c rest
    go true k = refl
    go false k = absurd (omega arith)

node-listed :
    (below : List Name → Nodes) (c : ℕ) (t : Name) (ts : List Name) (rest : Nodes) → (wholes (node_of below c (t ∷ ts) end) ≡ 1 → ⊥) →
    node_of below c (t ∷ ts) rest ≡ listed c (below (t ∷ ts)) rest
unfolding node_of
node-listed below c t ts rest h = go (any_ends (t ∷ ts) || eqb (wholes (below (t ∷ ts))) 9) h
  where
    go :
        (b : Bool) → (wholes (cond b (whole c end) (listed c (below (t ∷ ts)) end)) ≡ 1 → ⊥) →
        cond b (whole c rest) (listed c (below (t ∷ ts)) rest) ≡ listed c (below (t ∷ ts)) rest
    go true k = absurd (k refl)
    go false k = refl

-- ---- a node

pub whole-wrote :
    (codes : List ℕ) (at : ℕ) (w : Name) (k place : ℕ) (l : Level) (c : ℕ) (text later : List ℕ) (next bytes count : ℕ) → NodeTakes codes at w k next bytes count →
    count ≡ 1 → later ≡ set text place (first l + c) → NodeWrote codes at w k place l c text later (record { next = next; place = place + 1 })
whole-wrote codes at w k place l c text later next bytes count t e f =
    let n : node_of (under k) c (rests_of w (names_from codes at)) end ≡ whole c end =
    node-whole (under k) c (rests_of w (names_from codes at)) end (t.whole c end ∙ omega arith) in
    record { took = t.took; past = t.past; wrote = rw n (wrote_one f) }

module _
    (codes : List ℕ) (at : ℕ) (w : Name) (start size k : ℕ) (s : NodeAt codes at w start size (suc k)) (h : at < length codes) (next bytes count : ℕ)
    (t : NodeTakes codes at w (suc k) next bytes count) (n : count ≡ 1 → ⊥)
  where
    -- a node that is not whole is of another cell than the code at hand
    pub other-size : size_of (next_cell codes at) ≡ size → ⊥
    other-size e =
        let u = node-same codes at w start size (suc k) s h e in
        n (omega (arith, t.whole 0 end, u.whole 0 end))

    pub held :
        (c : ℕ) (rest : Nodes) →
        node_of (under (suc k)) c (rests_of w (names_from codes at)) rest ≡ listed c (side (under k) 9 0 (rests_of w (names_from codes at))) rest
    held c rest =
        let f = rests-first w (names_from codes at) (numbers_of (next_cell codes at)) (names_from codes (at + 1)) (names_at codes at h) s.inside in
        let i : (wholes (node_of (under (suc k)) c (rests_of w (names_from codes at)) end) ≡ 1 → ⊥) = λ e. n (omega (arith, t.whole c end)) in
        let j : node_of (under (suc k)) c (rests_of w (names_from codes at)) rest ≡ listed c (under (suc k) (rests_of w (names_from codes at))) rest =
        rw f.2 (node-listed (under (suc k)) c f.0 f.1 rest (rw f.2 at i)) in
        j ∙ ap (λ (ns : Nodes). listed c ns rest) (built-side k 9 (rests_of w (names_from codes at)))

    pub held-wrote :
        (place : ℕ) (l : Level) (c : ℕ) (text first-text second-text third-text later : List ℕ) (last ends : ℕ) → first-text ≡ set text place (first l + c) →
        second-text ≡ set first-text (place + 1) 40 →
        ListWrote codes at w k (place + 2) Digits 0 9 second-text third-text (record { next = last; place = ends }) → later ≡ set third-text ends 41 →
        NodeWrote codes at w (suc k) place l c text later (record { next = last; place = ends + 1 })
    held-wrote place l c text first-text second-text third-text later last ends a b u d =
        let e : place + 1 + 1 ≡ place + 2 = omega arith in
        let i : Wrote place ((first l + c) ∷ []) text first-text (place + 1) = wrote_one a in
        let j : Wrote (place + 1) (40 ∷ []) first-text second-text (place + 1 + 1) = wrote_one b in
        let o : Wrote place ((first l + c) ∷ 40 ∷ []) text second-text (place + 1 + 1) = wrote-join i j in
        let m : Wrote ends (41 ∷ []) third-text later (ends + 1) = wrote_one d in
        record {
          took = u.took;
          past = nine-past w (names_from codes last) u.past.named u.past.since;
          wrote = rw (held c end) (wrote-join (rw e at o) (wrote-join u.wrote m));
        }

-- ---- a list

pub none-wrote :
    (codes : List ℕ) (at : ℕ) (w : Name) (start size k place : ℕ) (l : Level) (c : ℕ) (text : List ℕ) → ListAt codes at w c 0 start size k →
    ListWrote codes at w k place l c 0 text text (record { next = at; place = place })
unfolding side
none-wrote codes at w start size k place l c text s =
    let z : 0 + c ≡ c = omega arith in
    record { took = took-none w (names_from codes at); past = rw z s.standing; wrote = wrote_none }

module _ (codes : List ℕ) (at : ℕ) (w : Name) (k place : ℕ) (l : Level) (c left : ℕ) where
  shift : left + suc c ≡ suc left + c
  shift = omega arith

  pub in-wrote :
      (text mid later : List ℕ) (n r : WrittenTo) → NodeWrote codes at (w ++ (c ∷ [])) k place l c text mid n →
      ListWrote codes n.next w k n.place l (suc c) left mid later r → ListWrote codes at w k place l c (suc left) text later r
  in-wrote text mid later n r t u =
      let ss : List Name = names_from codes at in
      let e = side-in (under k) left c w ss (names_from codes n.next) t.took in
      let f = node-render (under k) l c (rests_of (w ++ (c ∷ [])) ss) (side (under k) left (suc c) (rests_of w (names_from codes n.next))) in
      record {
        took = took-join w c ss (names_from codes n.next) (names_from codes r.next) t.took u.took;
        past = rw shift at u.past;
        wrote = rw (e, f) (wrote-join t.wrote u.wrote);
      }

  pub out-wrote :
      (text later : List ℕ) (r : WrittenTo) → Each (Ahead (w ++ (c ∷ []))) (names_from codes at) → ListWrote codes at w k place l (suc c) left text later r →
      ListWrote codes at w k place l c (suc left) text later r
  out-wrote text later r p u =
      record { took = u.took; past = rw shift at u.past; wrote = rw (side-out (under k) left c w (names_from codes at) p) u.wrote }
