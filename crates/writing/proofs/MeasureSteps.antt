-- What the measuring functions hand back at each end of theirs. Assumes nothing.
use mathlib.Core.Path.{◌≡◌, refl, ap, ◌∙◌}
use Prim.Native.Nat.{ℕ, zero, suc, ◌+◌, ◌-◌, ◌*◌, ◌/◌, ◌%◌, ◌^◌, ◌≤◌, ◌<◌}
use mathlib.Core.Bool.{true}
use mathlib.Core.Logic.{⊎_elim}
use mathlib.Core.List.{List, [], ◌∷◌, ◌++◌}
use native.Mathlib.Nat.{suc-mul, add-mul, add_assoc}
use native.Mathlib.Omega.{arith}
use lib.Arith.{digits_mod}
use lib.ListN.{length, get_or}
use borrow.Author.Tests.{le-ltb, lt-ltb}
use Rattle.code.specs.Code.{size_of}
use Rattle.code.specs.Inside.{start_of, end_of}
use Rattle.code.proofs.Laws.Code.{code-is-cell}
use Rattle.code.proofs.Laws.Inside.{size-pos, end-small, inside-within}
use Rattle.reading.specs.Ground.{cell_named}
use Rattle.reading.specs.Prefix.{Name, numbers_of, Ahead}
use Rattle.reading.proofs.Laws.Rising.{ahead_before}
use Rattle.reading.proofs.Laws.Named.{named-cell, name-named, prefix-inside}
use Rattle.logic.specs.Laws.Order.{lt-or}
use Rattle.writing.specs.declared.Measure.{Measure}
use Rattle.writing.specs.Internal.Measure.{next_cell, cell_start, StartAtPlace, NodeAt, ListAt, NodeTakes, ListTakes}
use Rattle.writing.specs.Internal.Measure.{NodeDepth, ListDepth, NodeMeasured, ListMeasured}
use Rattle.writing.specs.Write.{all_codes}
use Rattle.writing.specs.Internal.Depth.{greater, depth_above}
use Rattle.writing.specs.Internal.MeasureLaws.{code-at, names_at, end-named, node-finest, node-same, node-list, node-nine, node-held}
use Rattle.writing.specs.Internal.MeasureLaws.{list-none, list-node, list-rest, list-in, all-later, list-skip, list-out}
use Rattle.writing.proofs.DepthLaws.{greater-none, greater-zero, greater-most, greater-assoc, whole-depth, held-depth, above_most, none-depth, in-depth, out-depth}

-- ---- a node

pub n-finest :
    {codes : List ℕ} {at base size : ℕ} → at < length codes → 0 < size → size < 9 →
    NodeMeasured codes at base size (record { next = at + 1; bytes = 1; wholes = 1; depth = 0 })
n-finest {codes} {at} {base} {size} h z l =
    record {
      is = λ w k j s. node-finest codes at w (base + j * size) size k s h l;
      inside = omega arith;
      short = omega arith;
      few = omega arith;
      deep = λ w k j s. whole-depth (node-finest codes at w (base + j * size) size k s h l);
      shallow = omega arith;
    }

pub n-same :
    {codes : List ℕ} {at base size : ℕ} → at < length codes → 0 < size → size_of (next_cell codes at) ≡ size →
    NodeMeasured codes at base size (record { next = at + 1; bytes = 1; wholes = 1; depth = 0 })
n-same {codes} {at} {base} {size} h z e =
    record {
      is = λ w k j s. node-same codes at w (base + j * size) size k s h e;
      inside = omega arith;
      short = omega arith;
      few = omega arith;
      deep = λ w k j s. whole-depth (node-same codes at w (base + j * size) size k s h e);
      shallow = omega arith;
    }

-- a finest cell of the j-th cell from `base` on
cell-start : (base size j finest : ℕ) → base + j * size ≤ finest → finest < base + j * size + size → cell_start base size finest ≡ base + j * size
cell-start base size j finest l u =
    let r : ℕ = finest - (base + j * size) in
    let e : finest - base ≡ j * size + r = omega arith in
    let m : (finest - base) % size ≡ r = ap (λ (x : ℕ). x % size) e ∙ digits_mod j {m = size} {r = r} (omega arith) in
    rw (le-ltb finest base (omega arith), m) (omega arith)

pub start-most : (base size finest most : ℕ) → base ≤ most → finest ≤ most → cell_start base size finest ≤ most
start-most base size finest most h l =
    ⊎_elim (λ u. rw (lt-ltb finest base u) h) (λ u. rw (le-ltb finest base u) (omega arith)) (lt-or finest base)

pub first-most : (codes : List ℕ) (at : ℕ) → all_codes codes ≡ true → at < length codes → start_of (next_cell codes at) ≤ 9 ^ 16
unfolding end_of
first-most codes at a h =
    let v = code-is-cell (get_or codes at 0) (code-at codes at a h) in
    omega (arith, end-small (next_cell codes at) v, v.faced)

-- a cell begins no later than one inside, and ends behind where that begins
module _ {codes : List ℕ} {at : ℕ} {w : List ℕ} {start size k : ℕ} (s : NodeAt codes at w start size k) (h : at < length codes) where
  first-in : (start ≤ start_of (next_cell codes at)) × (start_of (next_cell codes at) < start + size)
  unfolding end_of
  first-in =
      let v = code-is-cell (get_or codes at 0) (code-at codes at s.coded h) in
      let i = prefix-inside (cell_named w) (next_cell codes at) (named-cell w s.named) v (rw (name-named w s.named) s.inside) in
      let j = inside-within (cell_named w) (next_cell codes at) (named-cell w s.named) v i in
      let e = end-named w (get_or codes at 0) k s.named (code-at codes at s.coded h) s.depth in
      (omega (arith, j.from, s.starts), omega (arith, j.to, size-pos (next_cell codes at), s.starts, s.sized, e))

module _ {codes : List ℕ} {at : ℕ} (base : ℕ) {start size : ℕ} {r : Measure} (h : at < length codes) (z : 9 ≤ size) (n : size_of (next_cell codes at) ≡ size → ⊥)
    (b : start ≡ cell_start base size (start_of (next_cell codes at))) (m : ListMeasured codes at 9 start (size / 9) r) where
  -- where the list begins, the cell does
  begins : {w : List ℕ} {k : ℕ} (j : ℕ) → NodeAt codes at w (base + j * size) size k → NodeAt codes at w start size k
  begins {w} {k} j s =
      let f = first-in s h in
      let e : start ≡ base + j * size = b ∙ cell-start base size j (start_of (next_cell codes at)) f.0 f.1 in
      rw e s

  pub n-nine : r.wholes ≡ 9 → NodeMeasured codes at base size (record { next = r.next; bytes = 1; wholes = 1; depth = 0 })
  n-nine e =
      record {
        is = λ w k j s. go w k (begins j s);
        inside = m.inside;
        short = omega arith;
        few = omega arith;
        deep = λ w k j s. whole-depth (go w k (begins j s));
        shallow = omega arith;
      }
    where
      go : (w : List ℕ) (k : ℕ) → NodeAt codes at w start size k → NodeTakes codes at w k r.next 1 1
      go w zero s = absurd (omega (arith, s.sized))
      go w (suc k) s = node-nine codes at w start size k s h n r.next r.bytes r.wholes (m.is w 0 k (node-list codes at w start size k s h n)) e

  pub n_held :
      {depth : ℕ} → (r.wholes ≡ 9 → ⊥) → depth ≡ depth_above start size r.depth →
      NodeMeasured codes at base size (record { next = r.next; bytes = 3 + r.bytes; wholes = 0; depth = depth })
  n_held {depth} e d =
      record {
        is = λ w k j s. go w k (begins j s);
        inside = m.inside;
        short = omega (arith, m.short);
        few = omega arith;
        deep = λ w k j s. rw d (deeper w k (begins j s));
        shallow = omega (arith, above_most start size r.depth z m.shallow);
      }
    where
      go : (w : List ℕ) (k : ℕ) → NodeAt codes at w start size k → NodeTakes codes at w k r.next (3 + r.bytes) 0
      go w zero s = absurd (omega (arith, s.sized))
      go w (suc k) s = node-held codes at w start size k s h n r.next r.bytes r.wholes (m.is w 0 k (node-list codes at w start size k s h n)) e

      deeper : (w : List ℕ) (k : ℕ) → NodeAt codes at w start size k → NodeDepth codes at w k (depth_above start size r.depth)
      deeper w zero s = absurd (omega (arith, s.sized))
      deeper w (suc k) s = held-depth codes at w start size k s h (go w (suc k) s) (λ q. omega arith) (m.deep w 0 k (node-list codes at w start size k s h n))

-- ---- a list

pub one_less : (left z : ℕ) → (left ≡ 0 → ⊥) → left * z ≡ (left - 1) * z + z
one_less zero z h = absurd (h refl)
one_less (suc n) z h = let e : suc n - 1 ≡ n = omega arith in rw e (suc-mul n z)

pub less : (n : ℕ) → suc n - 1 ≡ n
less n = omega arith

-- ---- the first finest cell of the code at hand

pub hand-inside :
    {codes : List ℕ} {at first : ℕ} (start size : ℕ) → StartAtPlace codes at first → start + size ≤ 9 ^ 16 →
    first < start + size → (at < length codes) × (start_of (next_cell codes at) < start + size)
hand-inside {codes} {at} {first} start size a c l =
    ⊎_elim (λ h. (h, omega (arith, a.some h))) (λ h. absurd (omega (arith, a.none h))) (lt-or at (length codes))

pub hand-outside :
    {codes : List ℕ} {at first : ℕ} (start size : ℕ) → StartAtPlace codes at first → (first < start + size → ⊥) →
    at < length codes → start_of (next_cell codes at) < start + size → ⊥
hand-outside start size a n h l = n (omega (arith, a.some h))

-- where it begins before a limit that is not too large, there is a code
pub hand-there : {codes : List ℕ} {at first : ℕ} (limit : ℕ) → StartAtPlace codes at first → limit < 2 ^ 60 → first < limit → at < length codes
hand-there {codes} {at} {first} limit a c l = ⊎_elim (λ h. h) (λ h. absurd (omega (arith, a.none h))) (lt-or at (length codes))

-- what the cells from the code at hand on take, of those behind w, completes what is to be taken
pub record Under (codes : List ℕ) (at : ℕ) (w : Name) (c left start size k next bytes count depth more : ℕ) : Type 0 where
  pub number : ℕ
  pub cells : ℕ
  pub passed : ℕ
  pub stands : ListAt codes next w number cells (start + passed * size) size k
  pub few : cells ≤ more
  pub placed : passed + cells ≡ left
  pub takes :
      {last long sum : ℕ} → ListTakes codes next w number cells k last long sum → ListTakes codes at w c left k last (bytes + long) (count + sum)
  pub deepens : {most : ℕ} → ListDepth codes next w number cells k most → ListDepth codes at w c left k (greater depth most)
  pub behind : 0 < left → next < length codes → start + passed * size ≤ start_of (next_cell codes next)

-- how far measuring has come: at most `more` nodes are left
pub record Measuring (codes : List ℕ) (at left start size next first bytes count depth more : ℕ) : Type 0 where
  pub under : (w : Name) (c k : ℕ) → ListAt codes at w c left start size k → Under codes at w c left start size k next bytes count depth more
  pub inside : next ≤ length codes
  pub few : more ≤ left
  pub short : bytes + left + more * (2 * size) ≤ left * (2 * size) + more
  pub counted : count + more ≤ left
  pub shallow : depth ≤ size + 16
  pub hand : StartAtPlace codes next first

-- ---- the cells that have no code, and the one that has

module _ (codes : List ℕ) (w : Name) (start size k next : ℕ) where
  abbrev cell_after : ℕ → ℕ
  cell_after passed = start + passed * size

  further : (passed : ℕ) → cell_after (suc passed) ≡ cell_after passed + size
  further passed = omega (arith, suc-mul passed size)

  shift : (passed cells : ℕ) → passed + suc cells ≡ suc passed + cells
  shift passed cells = omega arith

  all-cells : (passed cells : ℕ) → start + (passed + cells) * size ≡ cell_after passed + cells * size
  all-cells passed cells = omega (arith, add-mul passed cells size)

  -- of cells that end before the code at hand begins nothing is taken
  none_left :
      (cells number passed : ℕ) → ListAt codes next w number cells (cell_after passed) size k →
      (next < length codes → start + (passed + cells) * size ≤ start_of (next_cell codes next)) →
      ListTakes codes next w number cells k next 0 0 × ListDepth codes next w number cells k 0
  none_left zero number passed s l = (list-none codes next w number (cell_after passed) size k s, none-depth codes next w number k)
  none_left (suc cells) number passed s l =
      let p = all-later codes next w number cells (cell_after passed) size k s (λ h u. omega (arith, l h, all-cells passed (suc cells), suc-mul cells size)) in
      let s' : ListAt codes next w (suc number) cells (cell_after (suc passed)) size k = rw (further passed) (list-skip codes next w number cells (cell_after passed) size k s p) in
      let r = none_left cells (suc number) (suc passed) s' (λ h. rw (shift passed cells) at (l h)) in
      (list-out codes next w number cells (cell_after passed) size k s p r.0, out-depth p r.1)

-- the cells behind the one that has the code at hand: what these take, with the node of that one, is what all take
pub record Next (codes : List ℕ) (w : Name) (start size k next number cells passed : ℕ) (n : Measure) : Type 0 where
  pub number' : ℕ
  pub cells' : ℕ
  pub passed' : ℕ
  pub stands : ListAt codes n.next w number' cells' (start + passed' * size) size k
  pub fewer : suc cells' ≤ cells
  pub placed : passed' + cells' ≡ passed + cells
  pub takes :
      {last long sum : ℕ} → ListTakes codes n.next w number' cells' k last long sum → ListTakes codes next w number cells k last (n.bytes + long) (n.wholes + sum)
  pub deepens : {most : ℕ} → ListDepth codes n.next w number' cells' k most → ListDepth codes next w number cells k (greater n.depth most)
  pub behind : n.next < length codes → start + passed' * size ≤ start_of (next_cell codes n.next)

module _ (codes : List ℕ) (w : Name) (start size k next : ℕ) (n : Measure) (m : NodeMeasured codes next start size n) (h : next < length codes) where
  abbrev after : ℕ → ℕ
  after = cell_after codes w start size k next

  -- it is the first of them
  at_first :
      (cells number passed : ℕ) → ListAt codes next w number (suc cells) (after passed) size k → start_of (next_cell codes next) < after passed + size →
      Next codes w start size k next number (suc cells) passed n
  unfolding end_of
  at_first cells number passed s l =
      let a = list-node codes next w number cells (after passed) size k s h l in
      let t = m.is (w ++ (number ∷ [])) k passed a in
      record {
        number' = suc number;
        cells' = cells;
        passed' = suc passed;
        stands = rw (further codes w start size k next passed) (list-rest codes next w number cells (after passed) size k s t);
        fewer = omega arith;
        placed = omega arith;
        takes = λ x. list-in codes next w number cells (after passed) size k s t x;
        deepens = λ x. in-depth t.took (m.deep (w ++ (number ∷ [])) k passed a) x;
        behind =
            λ g.
            let c = code-at codes n.next s.coded g in
            let f : Ahead (w ++ (number ∷ [])) (numbers_of (next_cell codes n.next)) = (rw (names_at codes n.next g) at t.past).0 in
            let e : end_of (cell_named (w ++ (number ∷ []))) ≤ start_of (next_cell codes n.next) =
            ahead_before (cell_named (w ++ (number ∷ []))) (next_cell codes n.next) (named-cell (w ++ (number ∷ [])) a.named) (code-is-cell (get_or codes n.next 0) c)
            (rw (name-named (w ++ (number ∷ [])) a.named) f) in
            omega (arith, e, further codes w start size k next passed, a.starts, a.sized, end-named (w ++ (number ∷ [])) (get_or codes n.next 0) k a.named c a.depth);
      }

  -- it is one of them
  on-cells :
      (cells number passed : ℕ) → ListAt codes next w number cells (after passed) size k → after passed ≤ start_of (next_cell codes next) →
      start_of (next_cell codes next) < start + (passed + cells) * size → Next codes w start size k next number cells passed n
  on-cells zero number passed s l u = let z : passed + 0 ≡ passed = omega arith in absurd (omega (arith, rw z at u))
  on-cells (suc cells) number passed s l u =
      ⊎_elim (λ f. at_first cells number passed s f)
      (λ f.
      let p = all-later codes next w number cells (after passed) size k s (λ g i. omega arith) in
      let s' : ListAt codes next w (suc number) cells (after (suc passed)) size k =
      rw (further codes w start size k next passed) (list-skip codes next w number cells (after passed) size k s p) in
      let r =
      on-cells cells (suc number) (suc passed) s' (omega (arith, further codes w start size k next passed)) (rw (shift codes w start size k next passed cells) at u) in
      record {
        number' = r.number';
        cells' = r.cells';
        passed' = r.passed';
        stands = r.stands;
        fewer = omega (arith, r.fewer);
        placed = omega (arith, r.placed);
        takes = λ x. list-out codes next w number cells (after passed) size k s p (r.takes x);
        deepens = λ x. out-depth p (r.deepens x);
        behind = r.behind;
      })
      (lt-or (start_of (next_cell codes next)) (after passed + size))

-- ---- a list, node by node

pub l-starts :
    {codes : List ℕ} {at left start size first : ℕ} → at ≤ length codes → StartAtPlace codes at first → Measuring codes at left start size at first 0 0 0 left
l-starts {codes} {at} {left} {start} {size} {first} h a =
    record { under = under; inside = h; few = omega arith; short = omega arith; counted = omega arith; shallow = omega arith; hand = a }
  where
    begin : start + 0 * size ≡ start
    begin = omega arith

    behind : (n : ℕ) {w : Name} {c k : ℕ} → ListAt codes at w c n start size k → 0 < n → at < length codes → start ≤ start_of (next_cell codes at)
    behind zero s p g = absurd (omega arith)
    behind (suc n) {w} {c} {k} s p g =
        ⊎_elim (λ l. (first-in (list-node codes at w c n start size k s g l) g).0) (λ l. omega arith) (lt-or (start_of (next_cell codes at)) (start + size))

    under : (w : Name) (c k : ℕ) → ListAt codes at w c left start size k → Under codes at w c left start size k at 0 0 0 left
    under w c k s =
        record {
          number = c;
          cells = left;
          passed = 0;
          stands = rw begin s;
          few = omega arith;
          placed = omega arith;
          takes =
              λ {last} {long} {sum} t.
              let i : 0 + long ≡ long = omega arith in
              let j : 0 + sum ≡ sum = omega arith in
              rw (i, j) t;
          deepens = λ {most} d. rw (greater-none most) d;
          behind = λ p g. rw begin (behind left s p g);
        }

module _
    {codes : List ℕ} {at left start size next first bytes count depth more : ℕ} (v : Measuring codes at left start size next first bytes count depth more) (y : 0 < size)
  where
    enough : (m : ℕ) → m ≤ m * (2 * size)
    enough zero = omega arith
    enough (suc m) = omega (arith, enough m, suc-mul m (2 * size))

    -- nothing more is taken
    l-closes :
        ((w : Name) (c k : ℕ) (u : Under codes at w c left start size k next bytes count depth more) →
        ListTakes codes next w u.number u.cells k next 0 0 × ListDepth codes next w u.number u.cells k 0) →
        ListMeasured codes at left start size (record { next = next; bytes = bytes; wholes = count; depth = depth })
    l-closes f =
        let i : bytes + 0 ≡ bytes = omega arith in
        let j : count + 0 ≡ count = omega arith in
        record {
          is = λ w c k s. let u = v.under w c k s in rw (i, j) at (u.takes (f w c k u).0);
          inside = v.inside;
          short = omega (arith, v.short, enough more);
          few = omega (arith, v.counted);
          deep = λ w c k s. let u = v.under w c k s in rw (greater-zero depth) at (u.deepens (f w c k u).1);
          shallow = v.shallow;
        }

    pub l-ends : more ≡ 0 → ListMeasured codes at left start size (record { next = next; bytes = bytes; wholes = count; depth = depth })
    l-ends e = l-closes (λ w c k u. go u.cells u.passed u.few u.stands)
      where
        go :
            (cells passed : ℕ) {w : Name} {number k : ℕ} → cells ≤ more → ListAt codes next w number cells (start + passed * size) size k →
            ListTakes codes next w number cells k next 0 0 × ListDepth codes next w number cells k 0
        go zero passed {w} {number} {k} l s = (list-none codes next w number (start + passed * size) size k s, none-depth codes next w number k)
        go (suc cells) passed l s = absurd (omega arith)

    pub l-stops : start + left * size ≤ first → ListMeasured codes at left start size (record { next = next; bytes = bytes; wholes = count; depth = depth })
    l-stops l =
        l-closes
        (λ w c k u.
        none_left codes w start size k next u.cells u.number u.passed u.stands (λ h. rw u.placed (omega (arith, v.hand.some h))))

    -- the node of the code at hand
    module _ (z : more ≡ 0 → ⊥) {n : Measure} {f : ℕ} (h : next < length codes) (l : first < start + left * size) (m : NodeMeasured codes next start size n)
        (a : StartAtPlace codes n.next f) where
      under_next :
          (w : Name) (c k : ℕ) → ListAt codes at w c left start size k →
          Under codes at w c left start size k n.next (bytes + n.bytes) (count + n.wholes) (greater depth n.depth) (more - 1)
      under_next w c k s =
          let u = v.under w c k s in
          let p : 0 < left = omega (arith, v.few) in
          let r = on-cells codes w start size k next n m h u.cells u.number u.passed u.stands (u.behind p h) (rw u.placed (omega (arith, v.hand.some h))) in
          record {
            number = r.number';
            cells = r.cells';
            passed = r.passed';
            stands = r.stands;
            few = omega (arith, r.fewer, u.few);
            placed = r.placed ∙ u.placed;
            takes = λ {last} {long} {sum} t. rw (add_assoc bytes n.bytes long, add_assoc count n.wholes sum) (u.takes (r.takes t));
            deepens = λ {most} d. rw (greater-assoc depth n.depth most) (u.deepens (r.deepens d));
            behind = λ q g. r.behind g;
          }

      pub l-takes : Measuring codes at left start size n.next f (bytes + n.bytes) (count + n.wholes) (greater depth n.depth) (more - 1)
      l-takes =
          record {
            under = under_next;
            inside = m.inside;
            few = omega (arith, v.few);
            short = omega (arith, v.short, m.short, one_less more (2 * size) z);
            counted = omega (arith, v.counted, m.few);
            shallow = greater-most depth n.depth (size + 16) v.shallow m.shallow;
            hand = a;
          }
