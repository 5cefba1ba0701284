-- What each step of the comparison finds: a cell with no list, a cell looked into, and one child after the other. Assumes nothing.
use mathlib.Core.Path.{◌≡◌, refl, sym, ap, ap₂, ◌∙◌}
use mathlib.Core.Bool.{Bool, true, false, cond}
use mathlib.Core.List.{List, [], ◌∷◌, ◌++◌, map, map-append}
use Prim.Native.Nat.{ℕ, suc, ◌+◌, ◌-◌, ◌*◌, ◌^◌, ◌≤◌, ◌<◌}
use native.Mathlib.Nat.{pow-suc, suc-mul}
use native.Mathlib.Omega.{arith}
use lib.ListN.{length, drop, length-append, length-map}
use lib.Dec.{eqb}
use lib.Seq.{sets}
use Rattle.logic.specs.Laws.Bools.{by_cond, clash, or_right}
use Rattle.logic.specs.Laws.Stores.{sets-append}
use Rattle.ternary.proofs.Laws.Powers.{nine-le, nine-add}
use Rattle.cell.specs.declared.Arrangement.{Arrangement}
use Rattle.reading.specs.declared.Level.{Level}
use Rattle.reading.specs.declared.Level.TheVariants.{Digits}
use Rattle.reading.specs.Reading.{Nodes, end, whole, listed, many, room}
use Rattle.reading.proofs.Laws.Reading.{room-le}
use Rattle.walk.specs.declared.Spot.{Spot}
use Rattle.walk.specs.Walk.{spot, spots_in}
use Rattle.listing.proofs.Laws.List.{spot_code}
use Rattle.comparing.specs.declared.Child.{Child}
use Rattle.comparing.specs.declared.Cursor.{Cursor}
use Rattle.comparing.specs.Shared.{Portion, none, all, some, portion_number, of_child, past_child, divides, divided, wanted, holding, node_shared, side_shared, below_shared}
use Rattle.comparing.specs.Compare.{ThreeLists, lists}
use Rattle.comparing.specs.Internal.Portions.{GoodPortion, child-good, past-good, inside-good, inside-room}
use Rattle.comparing.specs.Internal.Found.{bytes, closing, StopAt, past_of, ChildIs, spots_at, spots_from, sizes_of, Adds, AddsAll, weight, CellFound, NodeFound, ListFound}
use Rattle.comparing.proofs.Children.{past-closed, closing-stops}
use Rattle.comparing.proofs.Cells.{adds_none}

-- ---- cells found one after the other

sizes-append : (a b : List Spot) → sizes_of (a ++ b) ≡ sizes_of a + sizes_of b
unfolding sizes_of
sizes-append [] b = omega arith
sizes-append (s ∷ a) b = omega (arith, sizes-append a b)

adds-join :
    {a : Arrangement} {lent mid later : List ℕ} {count more most : ℕ} (x y : List Spot) → Adds a x lent mid count more → Adds a y mid later more most →
    Adds a (x ++ y) lent later count most
adds-join {a} {lent} {mid} {later} {count} {more} {most} x y f g =
    let n : more ≡ count + length (map (spot_code a) x) = f.counted ∙ ap (λ (z : ℕ). count + z) (sym (length-map x (spot_code a))) in
    record {
      counted = omega (arith, f.counted, g.counted, length-append x y);
      put =
          g.put
          ∙ ap₂ (λ (z : List ℕ) (i : ℕ). sets z i (map (spot_code a) y)) f.put n
          ∙ sym (sets-append lent count (map (spot_code a) x) (map (spot_code a) y))
          ∙ ap (sets lent count) (sym (map-append (spot_code a) x y));
    }

all_join :
    {a : Arrangement} {x y : (p q : ℕ) → List Spot} {from at r : Cursor} {lent mid later : ThreeLists} → AddsAll a x from lent mid at → AddsAll a y at mid later r →
    AddsAll a (λ p q. x p q ++ y p q) from lent later r
all_join {x = x} {y = y} f g =
    record {
      firsts = adds-join (x 1 0) (y 1 0) f.firsts g.firsts;
      seconds = adds-join (x 0 1) (y 0 1) f.seconds g.seconds;
      boths = adds-join (x 1 1) (y 1 1) f.boths g.boths;
      size = omega (arith, f.size, g.size, sizes-append (x 1 1) (y 1 1));
    }

-- the same cells
all_same :
    {a : Arrangement} {x y : (p q : ℕ) → List Spot} {from r : Cursor} {lent later : ThreeLists} → ((p q : ℕ) → x p q ≡ y p q) → AddsAll a x from lent later r →
    AddsAll a y from lent later r
all_same e f =
    record {
      firsts = rw (← e 1 0) f.firsts;
      seconds = rw (← e 0 1) f.seconds;
      boths = rw (← e 1 1) f.boths;
      size = rw (← e 1 1) f.size;
    }

-- ---- a cell for which neither text has a list

flat-first : (x y : Portion) (e : List ℕ) → divided x y ≡ false → bytes Digits x ++ closing x e ≡ e
flat-first none y e h = refl
flat-first all y e h = refl
flat-first (some ns) y e h = clash h

flat-second : (x y : Portion) (e : List ℕ) → divided x y ≡ false → bytes Digits y ++ closing y e ≡ e
flat-second x none e h = refl
flat-second x all e h = refl
flat-second x (some ns) e h = clash (or_right (eqb (portion_number x) 2) true h)

pub flat-found :
    {s t : List ℕ} {from r : Cursor} {i j k n : ℕ} {a : Arrangement} {lent later : ThreeLists} → divides i j ≡ false → CellFound from i j a k n lent later r →
    NodeFound s t from i j a k n lent later r
flat-found {s} {t} b c =
    record {
      is =
          λ x y e f d u v m g h p q.
          let w : divided x y ≡ false = ap₂ divides u v ∙ b in
          record {
            first = ap (λ (z : ℕ). drop z s) c.first ∙ p ∙ flat-first x y e w;
            second = ap (λ (z : ℕ). drop z t) c.second ∙ q ∙ flat-second x y f w;
            adds = c.adds x y u v w;
          };
      short = c.short;
    }

-- ---- a cell for which one of them has a list

-- so deep there is none
pub deep-found :
    {s t : List ℕ} {from : Cursor} {i j k n : ℕ} {a : Arrangement} {lent : ThreeLists} → divides i j ≡ true → 15 ≤ k → NodeFound s t from i j a k n lent lent from
deep-found b o =
    record { is = λ x y e f d u v m g h p q. absurd (omega (arith, inside-room d x y g h (ap₂ divides u v ∙ b))); short = omega arith }

inside-spots : (k n : ℕ) (x y : Portion) → k < 15 → divided x y ≡ true → (p q : ℕ) → spots_from (k + 1) n 9 0 x y p q ≡ spots_at k n x y p q
unfolding spots_at spots_from below_shared
inside-spots k n x y h e p q = let r : 15 - k ≡ suc (15 - (k + 1)) = omega arith in rw (e, r) refl

pub inside_found :
    {s t : List ℕ} {from ends : Cursor} {i j k n g h : ℕ} {a : Arrangement} {lent later : ThreeLists} → divides i j ≡ true → k < 15 →
    ListFound s t from i j a 9 48 (k + 1) (n * 9) lent later ends → g ≡ past_of (length s) ends.first i → h ≡ past_of (length t) ends.second j →
    NodeFound s t from i j a k n lent later
    (record { first = g; second = h; firsts = ends.firsts; seconds = ends.seconds; boths = ends.boths; size = ends.size })
inside_found {s} {t} {from} {ends} {i} {j} {k} {n} b o l eg eh =
    record {
      is =
          λ x y e f d u v m gx gy p q.
          let w : divided x y ≡ true = ap₂ divides u v ∙ b in
          let z =
          l.is Digits x y (closing x e) (closing y f) (d - 1) 0 n u v refl refl (omega arith) (omega (arith, inside-room d x y gx gy w)) (inside-good d x gx)
          (inside-good d y gy) (closing-stops x e) (closing-stops y f) p q in
          let o = all_same (inside-spots k n x y o w) z.adds in
          record {
            first =
                ap (λ (m : ℕ). drop m s) (eg ∙ ap (past_of (length s) ends.first) (sym u)) ∙ past-closed s ends.first x e z.first;
            second =
                ap (λ (m : ℕ). drop m t) (eh ∙ ap (past_of (length t) ends.second) (sym v)) ∙ past-closed t ends.second y f z.second;
            adds = record { firsts = o.firsts; seconds = o.seconds; boths = o.boths; size = o.size };
          };
      short = let q : 15 - k ≡ suc (15 - (k + 1)) = omega arith in omega (arith, l.short, ap (λ (m : ℕ). 9 ^ m) q, pow-suc 9 (15 - (k + 1)));
    }

-- ---- the children that are left

no_bytes : (l : Level) (d : ℕ) (x : Portion) (e : List ℕ) → GoodPortion l d (many l) x → bytes l x ++ e ≡ e
no_bytes l d none e g = refl
no_bytes l d all e g = refl
no_bytes l d (some end) e g = refl
no_bytes l d (some (whole b ns)) e g = absurd (omega (arith, g.0, g.1))
no_bytes l d (some (listed b is ns)) e g = absurd (omega (arith, g.0, g.1))

pub none_found :
    {s t : List ℕ} {from : Cursor} {i j m byte k n : ℕ} {a : Arrangement} {lent : ThreeLists} → m ≡ 0 → ListFound s t from i j a m byte k n lent lent from
unfolding spots_from side_shared spots_in sizes_of
none_found z =
    record {
      is =
          λ l x y e f d c p u v b q w o g h st st' r r'.
          let cm : c ≡ many l = omega arith in
          rw z
          (record {
            first = r ∙ no_bytes l d x e (rw cm at g);
            second = r' ∙ no_bytes l d y f (rw cm at h);
            adds = record { firsts = adds_none; seconds = adds_none; boths = adds_none; size = omega arith };
          });
      short = omega arith;
    }

past-portion : (c : ℕ) (x : Portion) → portion_number (past_child c x) ≡ portion_number x
past-portion c none = refl
past-portion c all = refl
past-portion c (some end) = refl
past-portion c (some (whole b ns)) = by_cond (λ (y : Portion). portion_number y ≡ 2) (eqb b c) (λ e. refl) (λ e. refl)
past-portion c (some (listed b is ns)) = by_cond (λ (y : Portion). portion_number y ≡ 2) (eqb b c) (λ e. refl) (λ e. refl)

past-stops : (c : ℕ) (x : Portion) (e : List ℕ) → StopAt x e → StopAt (past_child c x) e
past-stops c none e s = tt
past-stops c all e s = tt
past-stops c (some end) e s = s
past-stops c (some (whole b ns)) e s = by_cond (λ (y : Portion). StopAt y e) (eqb b c) (λ _. s) (λ _. s)
past-stops c (some (listed b is ns)) e s = by_cond (λ (y : Portion). StopAt y e) (eqb b c) (λ _. s) (λ _. s)

holding-spots : (k n c : ℕ) (is rest : Nodes) → spots_in k n (holding c is rest) ≡ spots_in (k + 1) (n * 9 + c) is ++ spots_in k n rest
unfolding spots_in
holding-spots k n c end rest = refl
holding-spots k n c (whole b ns) rest = refl
holding-spots k n c (listed b is ns) rest = refl

node-spots :
    (k n c p q : ℕ) (x y : Portion) (rest : Nodes) → spots_in k n (node_shared (below_shared (15 - k) p q) p q c x y rest) ≡ spots_at k (n * 9 + c) x y p q ++ spots_in k n rest
unfolding node_shared spots_at spots_in
node-spots k n c p q x y rest = go (divided x y) (wanted p q x y)
  where
    go :
        (a b : Bool) →
        spots_in k n (cond a (holding c (below_shared (15 - k) p q x y) rest) (cond b (whole c rest) rest)) ≡
        cond a (spots_in (k + 1) (n * 9 + c) (below_shared (15 - k) p q x y)) (cond b (spot k (n * 9 + c) ∷ []) []) ++ spots_in k n rest
    go true b = holding-spots k n c (below_shared (15 - k) p q x y) rest
    go false true = refl
    go false false = refl

-- those of the next child, and those of the others
next-spots :
    (k n m c : ℕ) (x y : Portion) → 0 < m → (p q : ℕ) →
    spots_at k (n * 9 + c) (of_child c x) (of_child c y) p q ++ spots_from k n (m - 1) (suc c) (past_child c x) (past_child c y) p q ≡ spots_from k n m c x y p q
unfolding spots_from side_shared
next-spots k n m c x y h p q =
    let e : suc (m - 1) ≡ m = omega arith in
    sym (node-spots k n c p q (of_child c x) (of_child c y) (side_shared (below_shared (15 - k) p q) p q (m - 1) (suc c) (past_child c x) (past_child c y)))
    ∙ ap (λ (z : ℕ). spots_in k n (side_shared (below_shared (15 - k) p q) p q z c x y)) e

pub one_less : (m z : ℕ) → 0 < m → m * z ≡ z + (m - 1) * z
one_less m z h = let e : m ≡ suc (m - 1) = omega arith in ap (λ (x : ℕ). x * z) e ∙ omega (arith, suc-mul (m - 1) z)

next-found :
    {s t : List ℕ} {from next r : Cursor} {one two : Child} {i j m byte k n : ℕ} {a : Arrangement} {lent mid later : ThreeLists} → 0 < m →
    ChildIs s from.first i byte one → ChildIs t from.second j byte two →
    NodeFound s t
    (record { first = one.next; second = two.next; firsts = from.firsts; seconds = from.seconds; boths = from.boths; size = from.size })
    one.portion two.portion a k n lent mid next →
    ListFound s t next i j a (m - 1) (byte + 1) k (n + 1) mid later r → ListFound s t from i j a m byte k n lent later r
next-found {s} {t} {from} {next} {r} {one} {two} {i} {j} {m} {byte} {k} {n} {a} {lent} {mid} {later} h p q f g =
    record {
      is =
          λ l x y e e' d c b u v w o z y' gx gy sx sy rx ry.
          let cx = p.is l d c x e u w (omega arith) gx sx rx in
          let cy = q.is l d c y e' v w (omega arith) gy sy ry in
          let i₁ =
          f.is (of_child c x) (of_child c y) (bytes l (past_child c x) ++ e) (bytes l (past_child c y) ++ e') (room l c d) (sym cx.portion) (sym cy.portion)
          (omega (arith, room-le l c d)) (child-good l d c x gx) (child-good l d c y gy) cx.stands cy.stands in
          let i₂ =
          g.is l (past_child c x) (past_child c y) e e' d (suc c) b (past-portion c x ∙ u) (past-portion c y ∙ v) (omega arith) (omega arith) (omega arith) y'
          (past-good l d c x gx) (past-good l d c y gy) (past-stops c x e sx) (past-stops c y e' sy) i₁.first i₁.second in
          let o₁ = i₁.adds in
          let j₁ : AddsAll a (spots_at k n (of_child c x) (of_child c y)) from lent mid next =
          record { firsts = o₁.firsts; seconds = o₁.seconds; boths = o₁.boths; size = o₁.size } in
          let j₂ : AddsAll a (spots_at k (b * 9 + c) (of_child c x) (of_child c y)) from lent mid next = rw z at j₁ in
          record { first = i₂.first; second = i₂.second; adds = all_same (next-spots k b m c x y h) (all_join j₂ i₂.adds) };
      short = omega (arith, f.short, g.short, one_less m (2 * 9 ^ (15 - k)) h);
    }

-- ---- the loop over the children: what is found from here on is found from the start on

pub record Going (s t : List ℕ) (at : Cursor) (i j : ℕ) (a : Arrangement) (left byte k n : ℕ) (lent : ThreeLists) (now : Cursor) (more name child : ℕ) (held : ThreeLists) : Type 0 where
  pub rest : (later : ThreeLists) (r : Cursor) → ListFound s t now i j a more name k child held later r → ListFound s t at i j a left byte k n lent later r
  pub named : name + more ≤ 255
  pub numbered : child + more ≤ 9 ^ (k + 1)
  pub light : weight now + more * (2 * 9 ^ (15 - k)) ≤ 2 ^ 62
  pub firsts : length held.firsts ≡ length lent.firsts
  pub seconds : length held.seconds ≡ length lent.seconds
  pub boths : length held.boths ≡ length lent.boths

-- the child's cells were found by one of two calls, whose answers the loop goes on with
pub going_on :
    {s t : List ℕ} {at now next next' : Cursor} {one two : Child} {i j left byte k n more name child : ℕ} {a : Arrangement} {lent held : ThreeLists}
    {f g h f' g' h' : List ℕ} → Going s t at i j a left byte k n lent now more name child held → 0 < more → ChildIs s now.first i name one →
    ChildIs t now.second j name two →
    NodeFound s t
    (record { first = one.next; second = two.next; firsts = now.firsts; seconds = now.seconds; boths = now.boths; size = now.size })
    one.portion two.portion a k child held (lists f g h) next →
    (length f ≡ length held.firsts) × (length g ≡ length held.seconds) × (length h ≡ length held.boths) →
    (f' ≡ f) × (g' ≡ g) × (h' ≡ h) × (next' ≡ next) → Going s t at i j a left byte k n lent next' (more - 1) (name + 1) (child + 1) (lists f' g' h')
going_on {k = k} {more = more} v m p q r z e =
    rw (e.0, e.1, e.2, e.3)
    (record {
      rest = λ later r' l. v.rest later r' (next-found m p q r l);
      named = omega (arith, v.named);
      numbered = omega (arith, v.numbered);
      light = omega (arith, v.light, r.short, one_less more (2 * 9 ^ (15 - k)) m);
      firsts = z.0 ∙ v.firsts;
      seconds = z.1 ∙ v.seconds;
      boths = z.2 ∙ v.boths;
    })

-- ---- numbers stay small

pub number_small : (k : ℕ) → k ≤ 15 → 9 ^ (k + 1) ≤ 1853020188851841
number_small k h = nine-le {i = k + 1} {j = 16} (omega arith)

pub power-more : (k : ℕ) → 9 ^ (k + 1 + 1) ≡ 9 ^ (k + 1) * 9
power-more k = nine-add (k + 1) 1

pub power-less : (k : ℕ) → k < 15 → 9 ^ (15 - k) ≡ 9 ^ (15 - (k + 1)) * 9
power-less k h = let e : 15 - k ≡ 15 - (k + 1) + 1 = omega arith in ap (λ (x : ℕ). 9 ^ x) e ∙ nine-add (15 - (k + 1)) 1
