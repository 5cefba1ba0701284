-- The scan goes over the longest leading part that some body begins with. Assumes nothing.
use Rattle.std.specs.Prelude.{◌≡◌, Bool, cond, drop, leb, ltb}
use Rattle.std.proofs.Math.Path.{refl, ap}
use Rattle.std.proofs.Common.{sym, ◌∙◌, pos_of_ne-zero, length-append, take-append-drop, length-take-le}
use Rattle.std.proofs.Math.Logic.{⊎_elim}
use mathlib.Core.List.{List, [], ◌∷◌, ◌++◌, append_assoc, append-nil}
use Rattle.std.proofs.Math.Bool.{true, false}
use Prim.Native.Nat.{ℕ, suc, ◌+◌, ◌-◌, ◌≤◌, ◌<◌}
use native.Mathlib.Omega.{arith}
use Rattle.std.proofs.Math.ListN.{length, take}
use Rattle.std.proofs.Math.Dec.{eqb}
use borrow.Author.Tests.{ltb-false, leb-false, eqb-true, eqb-false, le-ltb, lt-leb, ne_eqb}
use Rattle.logic.specs.Laws.Bools.{by_cond, clash}
use Rattle.logic.specs.Longest.{BeginsOne, LongestOf}
use Rattle.reading.specs.declared.Level.{Level}
use Rattle.reading.specs.declared.Level.TheVariants.{Digits}
use Rattle.reading.specs.Reading.{Nodes, end, whole, listed, first, many, room, wholes, render, Some, Good}
use Rattle.reading.specs.Text.{Reads, Body}
use Rattle.reading.proofs.Laws.Reading.{eq-or, first-big, many-most, room-all, wholes-most}
use Rattle.reading.specs.Internal.JoinLaws.{join, next, ends, render-join, next-join, ends_join, wholes-join, some-join, good-join, good-split, next-from, next-some, some_next, last-whole}
use Rattle.reading.specs.Scan.{Frame, frame, State, at, Next, stop, on, level, open_list, shut_list, stand_node, step, go_on, scan, start}

-- ---- where the scan stands in a reading

-- the lists around: in each the nodes before, and the number of the node whose list is being read
data Around : Type 0 where
  top : Around
  into : Nodes → ℕ → Around → Around

abbrev frames : Around → List Frame
frames top = []
frames (into ns c o) = frame (suc c) (wholes ns) ∷ frames o

abbrev level_of : Level → Around → Level
level_of l top = l
level_of l (into ns c o) = Digits

abbrev depth : Around → ℕ
depth top = 0
depth (into ns c o) = suc (depth o)

-- the bytes before the nodes at hand
abbrev before : Level → Around → List ℕ
before l top = []
before l (into ns c o) = before l o ++ (render (level_of l o) ns ++ ((first (level_of l o) + c) ∷ 40 ∷ []))

abbrev GoodAround : Level → ℕ → Around → Type 0
GoodAround l d top = Unit {0}
GoodAround l d (into ns c o) =
    Good (level_of l o) (d - depth o) 0 ns × (next 0 ns ≤ c) × (c < many (level_of l o)) × (0 < room (level_of l o) c (d - depth o)) × GoodAround l d o

length-frames : (o : Around) → length (frames o) ≡ depth o
length-frames top = refl
length-frames (into ns c o) = ap suc (length-frames o)

level-frames : (l : Level) (o : Around) → level l (frames o) ≡ level_of l o
level-frames l top = refl
level-frames l (into ns c o) = refl

-- the nodes at hand can be gone on with: where nine are whole, a list can still follow the last
abbrev Open : Level → ℕ → Around → Nodes → Type 0
Open l d o ns = wholes ns ≡ 9 → (b : Nodes) × (c : ℕ) × (ns ≡ join b (whole c end)) × (0 < room (level_of l o) c (d - depth o))

-- the scan stands at s after the bytes p: in these lists, behind these nodes
record Stands (l : Level) (d : ℕ) (p : List ℕ) (s : State) : Type 0 where
  around : Around
  nodes : Nodes
  good-around : GoodAround l d around
  good : Good (level_of l around) (d - depth around) 0 nodes
  continues : Open l d around nodes
  state : s ≡ at (frames around) (next 0 nodes) (wholes nodes) (ends false nodes)
  bytes : p ≡ before l around ++ render (level_of l around) nodes

-- ---- from where the scan stands, a body can be reached

-- the nodes at hand, with all lists around closed behind them
abbrev plug : Around → Nodes → Nodes
plug top ns = ns
plug (into bs c o) ns = plug o (join bs (listed c ns end))

abbrev closes : Around → List ℕ
closes top = []
closes (into bs c o) = 41 ∷ closes o

-- nodes that can stand where they are: in a list, one or more, and not nine whole ones
abbrev Fine : Around → Nodes → Type 0
Fine top ns = Unit {0}
Fine (into bs c o) ns = Some ns × (wholes ns ≡ 9 → ⊥)

plug-render : (l : Level) (o : Around) (ns : Nodes) → render l (plug o ns) ≡ before l o ++ (render (level_of l o) ns ++ closes o)
plug-render l top ns = sym (append-nil (render l ns))
plug-render l (into bs c o) ns = plug-render l o (join bs (listed c ns end)) ∙ simp (render-join, append_assoc)

module _ (l : Level) (d : ℕ) where
  -- a list is one digit deeper than its node
  deeper : (o : Around) (c : ℕ) → 0 < room (level_of l o) c (d - depth o) → room (level_of l o) c (d - depth o) - 1 ≡ d - suc (depth o)
  deeper o c h = omega (arith, room-all (level_of l o) c (d - depth o) h)

  fine-listed :
      (o : Around) (bs is : Nodes) (c : ℕ) → Good (level_of l o) (d - depth o) 0 bs → next 0 bs ≤ c → c < many (level_of l o) →
      Fine o (join bs (listed c is end))
  fine-listed top bs is c g h k = tt
  fine-listed (into es e o) bs is c g h k =
      (some-join bs (listed c is end) tt, λ n. omega (arith, wholes-join bs (listed c is end), next-from Digits (d - suc (depth o)) 0 bs g))

  plug-good : (o : Around) (ns : Nodes) → GoodAround l d o → Good (level_of l o) (d - depth o) 0 ns → Fine o ns → Good l d 0 (plug o ns)
  plug-good top ns g h f = let e : d - 0 ≡ d = omega arith in rw e at h
  plug-good (into bs c o) ns g h f =
      plug-good o (join bs (listed c ns end)) g.4
      (good-join (level_of l o) (d - depth o) 0 bs (listed c ns end) g.0 (g.1, g.2, g.3, f.0, f.1, rw (deeper o c g.3) h, tt))
      (fine-listed o bs ns c g.0 g.1 g.2)

  finish :
      (o : Around) (ns : Nodes) → GoodAround l d o → Good (level_of l o) (d - depth o) 0 ns → Fine o ns →
      Reads [] l d (before l o ++ (render (level_of l o) ns ++ closes o)) (plug o ns)
  finish o ns g h f = record { good = plug-good o ns g h f; all = sym (plug-render l o ns) }

  -- nine whole nodes: a list follows the last
  begins-nine :
      (o : Around) (ns : Nodes) → GoodAround l d o → Good (level_of l o) (d - depth o) 0 ns → wholes ns ≡ 9 → Open l d o ns →
      BeginsOne (Body l d) (before l o ++ render (level_of l o) ns)
  begins-nine o ns g h e f =
      let k = f e in
      let bs : Nodes = k.0 in
      let c : ℕ = k.1 in
      let s = good-split (level_of l o) (d - depth o) 0 bs (whole c end) (rw k.2 at h) in
      let ms : Nodes = join bs (listed c (whole 0 end) end) in
      let t : Reads [] l d (before l o ++ (render (level_of l o) ms ++ closes o)) (plug o ms) =
      finish o ms g
      (good-join (level_of l o) (d - depth o) 0 bs (listed c (whole 0 end) end) s.0 (s.1.0, s.1.1, k.3, tt, (λ z. omega arith), (omega arith, omega arith, tt), tt))
      (fine-listed o bs (whole 0 end) c s.0 s.1.0 s.1.1) in
      (40 ∷ 48 ∷ 41 ∷ closes o, (plug o ms, record { good = t.good; all = (rw k.2 (simp (render-join, append_assoc))) ∙ t.all }))

  -- else the lists are closed, an empty one behind a `0`
  begins-open :
      (o : Around) (ns : Nodes) → GoodAround l d o → Good (level_of l o) (d - depth o) 0 ns → (wholes ns ≡ 9 → ⊥) →
      BeginsOne (Body l d) (before l o ++ render (level_of l o) ns)
  begins-open top ns g h f = ([], (ns, finish top ns g h tt))
  begins-open (into bs c o) end g h f =
      let t = finish (into bs c o) (whole 0 end) g (omega arith, omega arith, tt) (tt, (λ z. omega arith)) in
      (48 ∷ 41 ∷ closes o, (plug (into bs c o) (whole 0 end), record { good = t.good; all = (simp append_assoc) ∙ t.all }))
  begins-open (into bs c o) (whole e ns) g h f =
      let t = finish (into bs c o) (whole e ns) g h (tt, f) in
      (41 ∷ closes o, (plug (into bs c o) (whole e ns), record { good = t.good; all = (simp append_assoc) ∙ t.all }))
  begins-open (into bs c o) (listed e is ns) g h f =
      let t = finish (into bs c o) (listed e is ns) g h (tt, f) in
      (41 ∷ closes o, (plug (into bs c o) (listed e is ns), record { good = t.good; all = (simp append_assoc) ∙ t.all }))

  begins : (p : List ℕ) (s : State) → Stands l d p s → BeginsOne (Body l d) p
  begins p s z =
      rw z.bytes
      (⊎_elim (λ e. begins-nine z.around z.nodes z.good-around z.good e z.continues)
      (λ e. begins-open z.around z.nodes z.good-around z.good e) (eq-or (wholes z.nodes) 9))

  -- ---- where the scan goes on, it stands again

  abbrev Goes : List ℕ → Next → Type 0
  Goes p stop = Unit {0}
  Goes p (on s) = Stands l d p s

  module _ (o : Around) (ns : Nodes) (b : ℕ) (g : GoodAround l d o) (h : Good (level_of l o) (d - depth o) 0 ns) where
    abbrev read : List ℕ
    read = (before l o ++ render (level_of l o) ns) ++ (b ∷ [])

    -- at a `(`
    goes-open : b ≡ 40 → (t : Bool) → ends false ns ≡ t → Goes read (open_list l d (frames o) (next 0 ns) (wholes ns) t)
    unfolding open_list
    goes-open e false q = tt
    goes-open e true q =
        by_cond (Goes read) (eqb (room (level l (frames o)) (next 0 ns - 1) (d - length (frames o))) 0) (λ _. tt)
        (λ z. ⊎_elim (λ k. clash (sym k.1)) (λ k. go k.0 k.1 k.2 (eqb-false _ _ z)) (last-whole false ns q))
      where
        go :
            (bs : Nodes) (c : ℕ) → ns ≡ join bs (whole c end) → (room (level l (frames o)) (next 0 ns - 1) (d - length (frames o)) ≡ 0 → ⊥) →
            Stands l d read (at (frame (next 0 ns) (wholes ns - 1) ∷ frames o) 0 0 false)
        go bs c k z =
            let s = good-split (level_of l o) (d - depth o) 0 bs (whole c end) (rw k at h) in
            let n : next 0 ns ≡ suc c = ap (next 0) k ∙ next-join 0 bs (whole c end) in
            let w : wholes ns ≡ wholes bs + 1 = ap wholes k ∙ wholes-join bs (whole c end) in
            let w' : wholes ns - 1 ≡ wholes bs = omega arith in
            let c' : next 0 ns - 1 ≡ c = omega arith in
            let r : 0 < room (level_of l o) c (d - depth o) = rw (level-frames l o, c', length-frames o) at (pos_of_ne-zero z) in
            record {
              around = into bs c o;
              nodes = end;
              good-around = (s.0, s.1.0, s.1.1, r, g);
              good = tt;
              continues = λ y. absurd (omega arith);
              state = cc;
              bytes = rw (k, e) (simp (render-join, append_assoc, append-nil));
            }

    -- at a letter or digit
    goes-stands : (c : ℕ) → b ≡ first (level_of l o) + c → next 0 ns ≤ c → c < many (level_of l o) → Goes read (stand_node l d (frames o) (wholes ns) c)
    unfolding stand_node
    goes-stands c e lo hi =
        by_cond (Goes read) (eqb (wholes ns) 8)
        (λ y. by_cond (Goes read) (eqb (room (level l (frames o)) c (d - length (frames o))) 0) (λ _. tt) (λ z. go (λ n. has_room (eqb-false _ _ z))))
        (λ y. go (λ n. absurd (eqb-false _ _ y n)))
      where
        has_room : (room (level l (frames o)) c (d - length (frames o)) ≡ 0 → ⊥) → 0 < room (level_of l o) c (d - depth o)
        has_room z = rw (level-frames l o, length-frames o) at (pos_of_ne-zero z)

        go : (wholes ns ≡ 8 → 0 < room (level_of l o) c (d - depth o)) → Stands l d read (at (frames o) (suc c) (suc (wholes ns)) true)
        go r =
            let w : wholes (join ns (whole c end)) ≡ suc (wholes ns) = wholes-join ns (whole c end) ∙ omega arith in
            record {
              around = o;
              nodes = join ns (whole c end);
              good-around = g;
              good = good-join (level_of l o) (d - depth o) 0 ns (whole c end) h (lo, hi, tt);
              continues = λ n. (ns, c, refl, r (omega arith));
              state = cc (next-join 0 ns (whole c end), ends_join false ns (whole c end));
              bytes = rw e (simp (render-join, append_assoc));
            }

  -- at a `)`
  goes-shut :
      (o : Around) (ns : Nodes) (b : ℕ) → GoodAround l d o → Good (level_of l o) (d - depth o) 0 ns → b ≡ 41 →
      Goes ((before l o ++ render (level_of l o) ns) ++ (b ∷ [])) (shut_list (frames o) (next 0 ns) (wholes ns))
  unfolding shut_list
  goes-shut top ns b g h e = tt
  goes-shut (into bs c o) ns b g h e =
      by_cond (Goes ((before l (into bs c o) ++ render Digits ns) ++ (b ∷ []))) (eqb (next 0 ns) 0) (λ _. tt)
      (λ z. by_cond (Goes ((before l (into bs c o) ++ render Digits ns) ++ (b ∷ []))) (eqb (wholes ns) 9) (λ _. tt) (λ y. go (eqb-false _ _ z) (eqb-false _ _ y)))
    where
      go :
          (next 0 ns ≡ 0 → ⊥) → (wholes ns ≡ 9 → ⊥) →
          Stands l d ((before l (into bs c o) ++ render Digits ns) ++ (b ∷ [])) (at (frames o) (suc c) (wholes bs) false)
      go z y =
          let w : wholes (join bs (listed c ns end)) ≡ wholes bs = wholes-join bs (listed c ns end) ∙ omega arith in
          record {
            around = o;
            nodes = join bs (listed c ns end);
            good-around = g.4;
            good = good-join (level_of l o) (d - depth o) 0 bs (listed c ns end) g.0 (g.1, g.2, g.3, some_next ns z, y, rw (deeper o c g.3) h, tt);
            continues = λ n. absurd (omega (arith, next-from (level_of l o) (d - depth o) 0 bs g.0, many-most (level_of l o)));
            state = cc (next-join 0 bs (listed c ns end), ends_join false bs (listed c ns end));
            bytes = rw e (simp (render-join, append_assoc));
          }

  goes :
      (o : Around) (ns : Nodes) (b : ℕ) → GoodAround l d o → Good (level_of l o) (d - depth o) 0 ns →
      Goes ((before l o ++ render (level_of l o) ns) ++ (b ∷ [])) (step l d (at (frames o) (next 0 ns) (wholes ns) (ends false ns)) b)
  unfolding step
  goes o ns b g h =
      by_cond P (eqb b 40) (λ e. goes-open o ns b g h (eqb-true _ _ e) (ends false ns) refl)
      (λ _. by_cond P (eqb b 41) (λ e. goes-shut o ns b g h (eqb-true _ _ e))
      (λ _. by_cond P (ltb b (first (level l (frames o)) + next 0 ns)) (λ _. tt)
      (λ x. by_cond P (leb (first (level l (frames o)) + many (level l (frames o))) b) (λ _. tt)
      (λ y. go (ltb-false _ _ x) (leb-false _ _ y)))))
    where
      P : Next → Type 0
      P n = Goes ((before l o ++ render (level_of l o) ns) ++ (b ∷ [])) n

      go :
          first (level l (frames o)) + next 0 ns ≤ b → b < first (level l (frames o)) + many (level l (frames o)) →
          P (stand_node l d (frames o) (wholes ns) (b - first (level l (frames o))))
      go x y =
          let e : first (level l (frames o)) ≡ first (level_of l o) = ap first (level-frames l o) in
          let f : many (level l (frames o)) ≡ many (level_of l o) = ap many (level-frames l o) in
          rw e (goes-stands o ns b g h (b - first (level_of l o)) (omega arith) (omega arith) (omega arith))

  goes_on : (p : List ℕ) (s : State) (b : ℕ) → Stands l d p s → Goes (p ++ (b ∷ [])) (step l d s b)
  goes_on p s b z = rw (z.state, z.bytes) (goes z.around z.nodes b z.good-around z.good)

  -- what the scan goes over, some body begins with
  reached : (bs p : List ℕ) (s : State) → Stands l d p s → BeginsOne (Body l d) (p ++ take (scan l d s bs) bs)
  unfolding scan
  reached [] p s z = rw append-nil (begins p s z)
  reached (b ∷ bs) p s z = go (step l d s b) (goes_on p s b z) (λ t y. reached bs (p ++ (b ∷ [])) t y)
    where
      go :
          (n : Next) → Goes (p ++ (b ∷ [])) n →
          ((t : State) → Stands l d (p ++ (b ∷ [])) t → BeginsOne (Body l d) ((p ++ (b ∷ [])) ++ take (scan l d t bs) bs)) →
          BeginsOne (Body l d) (p ++ take (go_on n (λ t. scan l d t bs)) (b ∷ bs))
      go stop y f = rw append-nil (begins p s z)
      go (on t) y f = rw append_assoc at (f t y)

-- ---- the scan goes over every body

module _ (l : Level) (d : ℕ) (o : List Frame) (lo w : ℕ) (t : Bool) (rest : List ℕ) where
  -- over a letter or digit
  over-name :
      (c : ℕ) → lo ≤ c → c < many (level l o) → (w ≡ 8 → 0 < room (level l o) c (d - length o)) →
      scan l d (at o lo w t) ((first (level l o) + c) ∷ rest) ≡ suc (scan l d (at o (suc c) (suc w) true) rest)
  unfolding scan
  over-name c h k r =
      let e : first (level l o) + c - first (level l o) ≡ c = omega arith in
      rw (
        ne_eqb (first (level l o) + c) 40 (omega (arith, first-big (level l o))),
        ne_eqb (first (level l o) + c) 41 (omega (arith, first-big (level l o))),
        le-ltb (first (level l o) + c) (first (level l o) + lo) (omega arith),
        lt-leb (first (level l o) + many (level l o)) (first (level l o) + c) (omega arith),
        e,
      )
      (go (eqb w 8) refl)
    where
      go :
          (b : Bool) → eqb w 8 ≡ b →
          go_on (cond b (cond (eqb (room (level l o) c (d - length o)) 0) stop (on (at o (suc c) (suc w) true))) (on (at o (suc c) (suc w) true))) (λ s. scan l d s rest)
          ≡ suc (scan l d (at o (suc c) (suc w) true) rest)
      go true b = let q : 0 < room (level l o) c (d - length o) = r (eqb-true _ _ b) in rw (ne_eqb (room (level l o) c (d - length o)) 0 (omega arith))
      go false b = refl

  -- over a `(`
  over-open : (c : ℕ) → 0 < room (level l o) c (d - length o) → scan l d (at o (suc c) (suc w) true) (40 ∷ rest) ≡ suc (scan l d (at (frame (suc c) w ∷ o) 0 0 false) rest)
  unfolding scan
  over-open c r =
      let e : suc c - 1 ≡ c = omega arith in
      let f : suc w - 1 ≡ w = omega arith in
      rw (e, f, ne_eqb (room (level l o) c (d - length o)) 0 (omega arith))

  -- over a `)`
  over-shut : (c v : ℕ) → (lo ≡ 0 → ⊥) → (w ≡ 9 → ⊥) → scan l d (at (frame c v ∷ o) lo w t) (41 ∷ rest) ≡ suc (scan l d (at o c v false) rest)
  unfolding scan
  over-shut c v h k = rw (ne_eqb lo 0 h, ne_eqb w 9 k)

-- over nodes
over :
    (ns : Nodes) (l : Level) (d : ℕ) (o : List Frame) (lo w : ℕ) (t : Bool) (rest : List ℕ) → Good (level l o) (d - length o) lo ns → w + wholes ns < 9 →
    scan l d (at o lo w t) (render (level l o) ns ++ rest) ≡ length (render (level l o) ns) + scan l d (at o (next lo ns) (w + wholes ns) (ends t ns)) rest
over end l d o lo w t rest g h = let e : w + 0 ≡ w = omega arith in rw e (omega arith)
over (whole c ns) l d o lo w t rest g h =
    let e : w + suc (wholes ns) ≡ suc w + wholes ns = omega arith in
    let k = over-name l d o lo w t (render (level l o) ns ++ rest) c g.0 g.1 (λ y. absurd (omega arith)) in
    let i = over ns l d o (suc c) (suc w) true rest g.2 (omega arith) in
    rw e (omega (arith, k, i))
over (listed c is ns) l d o lo w t rest g h =
    let r : ℕ = room (level l o) c (d - length o) - 1 in
    let a : (render Digits is ++ (41 ∷ render (level l o) ns)) ++ rest ≡ render Digits is ++ (41 ∷ (render (level l o) ns ++ rest)) =
    append_assoc (render Digits is) (41 ∷ render (level l o) ns) rest in
    let e : r ≡ d - suc (length o) = omega (arith, room-all (level l o) c (d - length o) g.2) in
    let tail : List ℕ = 41 ∷ (render (level l o) ns ++ rest) in
    let n : 0 + wholes is < 9 = omega (arith, wholes-most is Digits r 0 g.5 (omega arith), g.4) in
    let k₁ = over-name l d o lo w t (40 ∷ (render Digits is ++ tail)) c g.0 g.1 (λ y. g.2) in
    let k₂ = over-open l d o lo w t (render Digits is ++ tail) c g.2 in
    let k₃ = over is l d (frame (suc c) w ∷ o) 0 0 false tail (rw e at g.5) n in
    let k₄ =
    over-shut l d o (next 0 is) (0 + wholes is) (ends false is) (render (level l o) ns ++ rest) (suc c) w
    (λ y. omega (arith, next-some Digits r 0 is g.5 g.3)) (λ y. omega arith) in
    let k₅ = over ns l d o (suc c) w false rest g.6 h in
    rw a (omega (arith, k₁, k₂, k₃, k₄, k₅, length-append (render Digits is) (41 ∷ render (level l o) ns)))

all-over : (l : Level) (d : ℕ) (ns : Nodes) → Good l d 0 ns → wholes ns < 9 → scan l d start (render l ns) ≡ length (render l ns)
unfolding scan
all-over l d ns g h =
    let e : d - 0 ≡ d = omega arith in
    let k = over ns l d [] 0 0 false [] (rw e g) (omega arith) in
    (ap (scan l d start) (sym (append-nil (render l ns)))) ∙ k ∙ omega arith

-- ---- how far the scan goes depends only on what it goes over

alike : (l : Level) (d : ℕ) (u v v' : List ℕ) (s : State) → length u ≤ scan l d s (u ++ v) → length u ≤ scan l d s (u ++ v')
unfolding scan
alike l d [] v v' s h = omega arith
alike l d (b ∷ u) v v' s h = go (step l d s b) (λ t k. alike l d u v v' t k) h
  where
    go :
        (n : Next) → ((t : State) → length u ≤ scan l d t (u ++ v) → length u ≤ scan l d t (u ++ v')) →
        suc (length u) ≤ go_on n (λ t. scan l d t (u ++ v)) → suc (length u) ≤ go_on n (λ t. scan l d t (u ++ v'))
    go stop f k = absurd (omega arith)
    go (on t) f k = omega (arith, f t (omega arith))

scan-within : (l : Level) (d : ℕ) (t : List ℕ) (s : State) → scan l d s t ≤ length t
unfolding scan
scan-within l d [] s = omega arith
scan-within l d (b ∷ t) s = go (step l d s b) (λ x. scan-within l d t x)
  where
    go : (n : Next) → ((x : State) → scan l d x t ≤ length t) → go_on n (λ x. scan l d x t) ≤ suc (length t)
    go stop f = omega arith
    go (on x) f = omega (arith, f x)

-- ---- the theorem

module _ (l : Level) (few : many l ≤ 8) (d : ℕ) (t : List ℕ) where
  not-past : (j : ℕ) → j ≤ length t → BeginsOne (Body l d) (take j t) → j ≤ scan l d start t
  not-past j h z =
      let e : length (take j t) ≡ j = length-take-le j t h in
      let u : List ℕ = take j t ++ z.0 in
      let w : wholes z.1.0 + 0 ≤ many l = wholes-most z.1.0 l d 0 z.1.1.good (omega arith) in
      let a : scan l d start u ≡ length u = rw z.1.1.all (all-over l d z.1.0 z.1.1.good (omega arith)) in
      let b : length (take j t) ≤ scan l d start (take j t ++ drop j t) = alike l d (take j t) z.0 (drop j t) start (omega (arith, a, length-append (take j t) z.0)) in
      let c : length (take j t) ≤ scan l d start t = rw (take-append-drop j t) at b in
      omega arith

  pub scan-longest : LongestOf (Body l d) t (scan l d start t)
  scan-longest =
      record {
        within = scan-within l d t start;
        begun =
            reached l d t [] start
            (record { around = top; nodes = end; good-around = tt; good = tt; continues = λ e. absurd (omega arith); state = refl; bytes = refl });
        longest = not-past;
      }
