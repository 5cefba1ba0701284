-- Nodes that come before a cell's are passed over: the nodes behind them decide. Assumes nothing.
use mathlib.Core.Path.{◌≡◌, refl, sym, ap, ◌∙◌}
use mathlib.Core.Logic.{inr}
use mathlib.Core.Bool.{Bool, true, false, cond}
use mathlib.Core.List.{List, [], ◌∷◌, ◌++◌}
use Prim.Native.Nat.{ℕ, suc, ◌+◌, ◌≤◌, ◌<◌}
use native.Mathlib.Omega.{arith}
use lib.ListN.{length, drop, get_or}
use lib.Dec.{eqb}
use borrow.Author.Tests.{lt-ltb}
use Rattle.logic.specs.Laws.Bools.{clash}
use Rattle.reading.specs.Reading.{Nodes, end, whole, listed, first, render, Good}
use Rattle.reading.specs.Prefix.{Name}
use Rattle.walk.specs.Walk.{whole_at}
use Rattle.walk.specs.Past.{node_in}
use Rattle.adding.specs.Internal.Grow.{by}
use Rattle.adding.specs.Internal.Edit.{size, edit_of}
use Rattle.adding.specs.InMind.{LeadsTo}
use Rattle.adding.specs.Internal.Find.{Stands, Lands, From}
use Rattle.adding.proofs.Bytes.{inside, byte, after, no-shut, stop-byte, whole_here, list-here, listed_here, node-size, list-past, size_fits}

-- the choice before x
pub before {ℓ} : {A : Type ℓ} {c x : ℕ} (u v w : A) → c < x → by c x u v w ≡ u
before {c = c} {x = x} u v w h = ap (λ (b : Bool). cond b u (cond (eqb c x) v w)) (lt-ltb c x h)

past-list :
    (i k w x : ℕ) (p : List ℕ) (c : ℕ) (is ns : Nodes) → c < x → edit_of i k w x p (listed c is ns) ≡ edit_of (i + size is) k w x p ns
unfolding edit_of
past-list i k w x [] c is ns h = before _ _ _ h
past-list i k w x (y ∷ p) c is ns h = before _ _ _ h

-- nodes from i on lead where all of them lead
abbrev pub On : {t name : List ℕ} {at k : ℕ} (v : Stands t name at k) (i : ℕ) (ns : Nodes) → Type 0
On {at = at} v i ns = (p : Name) (to : ℕ) (is : Nodes) → LeadsTo i (v.number ∷ p) ns to is → LeadsTo at (v.number ∷ p) v.nodes to is

-- what holds before the byte at i
pub record Skips (t : List ℕ) (at byte i w : ℕ) : Type 0 where
  pub few : w ≤ i
  pub most : w ≤ length t
  pub is : {name : List ℕ} {k : ℕ} (v : Stands t name at k) → byte ≡ first v.level + v.number → Lands v i w

pub skips-start : (t : List ℕ) (at byte : ℕ) → Skips t at byte at 0
skips-start t at byte =
    record {
      few = omega arith;
      most = omega arith;
      is = λ v e. record { lo = 0; nodes = v.nodes; within = v.within; left = v.left; good = v.good; low = omega arith; same = refl; on = λ p to is h. h };
    }

module _ {t : List ℕ} {at b i w : ℕ} (s : Skips t at b i w) (h : i < length t) (q : get_or t i 0 ≡ 41 → ⊥) (z : get_or t i 0 < b) where
  -- past a whole node
  pub skips-whole : whole_at (drop i t) ≡ true → Skips t at b (i + 1) (w + 1)
  unfolding edit_of
  skips-whole f = record { few = omega (arith, s.few); most = omega (arith, s.few); is = λ v e. go v e (s.is v e) }
    where
      go : {name : List ℕ} {k : ℕ} (v : Stands t name at k) → b ≡ first v.level + v.number → Lands v i w → Lands v (i + 1) (w + 1)
      go {name} {k} v e d = to d.nodes d.left d.good d.same (λ p to is h. d.on p to is h)
        where
          to :
              (ns : Nodes) → drop i t ≡ render v.level ns ++ v.rest → Good v.level v.depth d.lo ns →
              edit_of at k 0 v.number v.digits v.nodes ≡ edit_of i k w v.number v.digits ns → On v i ns → Lands v (i + 1) (w + 1)
          to end l g m o = absurd (q (stop-byte t i v.rest v.stop l h))
          to (whole c ns) l g m o =
              let k' : c < v.number = omega (arith, byte t i l) in
              record {
                lo = suc c;
                nodes = ns;
                within = omega arith;
                left = after t i l;
                good = g.2;
                low = k';
                same = m ∙ before _ _ _ k';
                on = λ p to js h. o p to js h;
              }
          to (listed c is ns) l g m o = clash (sym f ∙ list-here t i v.level c g.1 (listed_here t i v.level c g.1 is ns v.rest l))

  -- past one that holds a list
  pub skips-list : whole_at (drop i t) ≡ false → Skips t at b (i + node_in (drop i t)) w
  unfolding edit_of
  skips-list f = record { few = omega (arith, s.few); most = s.most; is = λ v e. go v e (s.is v e) }
    where
      go : {name : List ℕ} {k : ℕ} (v : Stands t name at k) → b ≡ first v.level + v.number → Lands v i w → Lands v (i + node_in (drop i t)) w
      go {name} {k} v e d = to d.nodes d.left d.good d.same (λ p to is h. d.on p to is h)
        where
          to :
              (ns : Nodes) → drop i t ≡ render v.level ns ++ v.rest → Good v.level v.depth d.lo ns →
              edit_of at k 0 v.number v.digits v.nodes ≡ edit_of i k w v.number v.digits ns → On v i ns → Lands v (i + node_in (drop i t)) w
          to end l g m o = absurd (q (stop-byte t i v.rest v.stop l h))
          to (whole c ns) l g m o = clash (sym (whole_here t i v.level c g.1 ns v.rest v.stop l) ∙ f)
          to (listed c is ns) l g m o =
              let k' : c < v.number = omega (arith, byte t i l) in
              rw (node-size t i v.level c g.1 is ns v.rest l)
              (record {
                lo = suc c;
                nodes = ns;
                within = size_fits t i v.level c g.1 is ns v.rest l;
                left = list-past t i v.level c g.1 is ns v.rest l;
                good = g.6;
                low = k';
                same = m ∙ past-list i k w v.number v.digits c is ns k';
                on = λ p to js h. o p to js (inr h);
              })

-- the rest of the nodes comes from the cell's number on
module _ {t : List ℕ} {at b i w : ℕ} (s : Skips t at b i w) where
  pub skips-end : length t ≤ i → {name : List ℕ} {k : ℕ} (v : Stands t name at k) → b ≡ first v.level + v.number → (d : Lands v i w) × From v.number d.nodes
  skips-end h v e = let d = s.is v e in (d, go d.nodes d.left)
    where
      go : (ns : Nodes) → drop i t ≡ render v.level ns ++ v.rest → From v.number ns
      go end l = tt
      go (whole c ns) l = absurd (omega (arith, inside t i l))
      go (listed c is ns) l = absurd (omega (arith, inside t i l))

  pub skips-shut : get_or t i 0 ≡ 41 → {name : List ℕ} {k : ℕ} (v : Stands t name at k) → b ≡ first v.level + v.number → (d : Lands v i w) × From v.number d.nodes
  skips-shut h v e = let d = s.is v e in (d, go d.nodes d.left)
    where
      go : (ns : Nodes) → drop i t ≡ render v.level ns ++ v.rest → From v.number ns
      go end l = tt
      go (whole c ns) l = absurd (no-shut v.level c (sym (byte t i l) ∙ h))
      go (listed c is ns) l = absurd (no-shut v.level c (sym (byte t i l) ∙ h))

  pub skips-from : b ≤ get_or t i 0 → {name : List ℕ} {k : ℕ} (v : Stands t name at k) → b ≡ first v.level + v.number → (d : Lands v i w) × From v.number d.nodes
  skips-from h v e = let d = s.is v e in (d, go d.nodes d.left)
    where
      go : (ns : Nodes) → drop i t ≡ render v.level ns ++ v.rest → From v.number ns
      go end l = tt
      go (whole c ns) l = omega (arith, byte t i l)
      go (listed c is ns) l = omega (arith, byte t i l)
