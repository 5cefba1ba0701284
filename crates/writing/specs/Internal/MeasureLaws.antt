-- What a node takes, from what its list takes, and what a list takes, from its first node and the rest. Assumes nothing.
use Rattle.std.specs.Prelude.{◌≡◌, true, List, [], ◌∷◌, ◌++◌, map, ℕ, zero, suc, ◌+◌, ◌-◌, ◌*◌, ◌/◌, ◌%◌, ◌^◌, ◌≤◌, ◌<◌, eqb, length, drop, get_or}
use Rattle.std.proofs.Math.Path.{refl, ap}
use Rattle.std.proofs.Common.{sym, ◌∙◌, inl, inr, add-one, pow-suc, suc-mul, length-append, drop_of_length-le, drop-cons, eq-eqb, ne_eqb}
use Rattle.std.proofs.Math.Bool.{cond}
use Rattle.std.proofs.Math.Logic.{⊎_elim}
use native.Mathlib.Omega.{arith}
use Rattle.logic.specs.Laws.Bools.{and_left, and_right}
use Rattle.logic.specs.Laws.Order.{lt-or}
use Rattle.ternary.proofs.Laws.Powers.{nine-pos, nine-lt}
use Rattle.cell.specs.declared.Cell.{Cell}
use Rattle.cell.specs.Hierarchy.{child_of}
use Rattle.cell.proofs.Laws.Hierarchy.{child-is-cell}
use Rattle.code.specs.Code.{digits_of, cell_of, is_code, size_of}
use Rattle.code.proofs.Laws.Code.{code-is-cell}
use Rattle.code.specs.Inside.{Inside, start_of, end_of}
use Rattle.code.proofs.Laws.Inside.{size-pos, inside-within}
use Rattle.code.proofs.Laws.Size.{child-start}
use Rattle.reading.specs.declared.Level.TheVariants.{Digits}
use Rattle.reading.specs.Reading.{Nodes, whole, listed, render, wholes}
use Rattle.reading.specs.Ground.{cell_named, size_sum}
use Rattle.reading.specs.Prefix.{Name, numbers_of, Prefix, Ahead, IsName}
use Rattle.reading.proofs.Laws.Rising.{ahead_before}
use Rattle.reading.proofs.Laws.Named.{named-cell, name-named, cell-is-named, cell-named, prefix-inside}
use Rattle.reading.specs.Written.{node_of, side, under}
use Rattle.writing.specs.Write.{all_codes}
use Rattle.reading.proofs.Laws.Built.{built-side}
use Rattle.writing.specs.Internal.Take.{rests_of, Since, Each, Took}
use Rattle.writing.specs.Internal.TakeLaws.{prefix_same, prefix-both, side-in, side-out, took-none, took-join, standing-next}
use Rattle.writing.specs.Internal.TakeLaws.{all-ahead, self-node, self-took, self-past, deeper, deeper-node, nine-past}
use Rattle.writing.specs.Internal.Measure.{names_from, next_cell, size_from, Fills, NodeAt, ListAt, NodeTakes, ListTakes}

-- ---- codes, cells and names at a place

pub code-at : (codes : List ℕ) (at : ℕ) → all_codes codes ≡ true → at < length codes → is_code (get_or codes at 0) ≡ true
unfolding all_codes
code-at [] at a h = absurd (omega arith)
code-at (c ∷ cs) zero a h = and_left (is_code c) (all_codes cs) a
code-at (c ∷ cs) (suc at) a h = code-at cs at (and_right (is_code c) (all_codes cs) a) (omega arith)

pub names_at : (codes : List ℕ) (at : ℕ) → at < length codes → names_from codes at ≡ numbers_of (next_cell codes at) ∷ names_from codes (at + 1)
names_at codes at h =
    let e : drop at codes ≡ get_or codes at 0 ∷ drop (at + 1) codes = rw (add-one, drop-cons codes at 0) in
    ap (λ (cs : List ℕ). map numbers_of (map cell_of cs)) e

pub size-at : (codes : List ℕ) (at : ℕ) → at < length codes → size_from codes at ≡ size_of (next_cell codes at) + size_from codes (at + 1)
unfolding size_sum
size-at codes at h =
    let e : drop at codes ≡ get_or codes at 0 ∷ drop (at + 1) codes = rw (add-one, drop-cons codes at 0) in
    ap (λ (cs : List ℕ). size_sum (map cell_of cs)) e

names-end : (codes : List ℕ) (at : ℕ) → length codes ≤ at → names_from codes at ≡ []
names-end codes at h = ap (λ (cs : List ℕ). map numbers_of (map cell_of cs)) (drop_of_length-le codes h)

length-name : (q : Name) → IsName 6 15 q → length q ≤ 16
length-name [] n = absurd n
length-name (x ∷ q) n = omega (arith, n.1)

resolution-named : (w : Name) → IsName 6 15 w → length w ≡ suc (cell_named w).resolution
unfolding cell_named
resolution-named [] n = absurd n
resolution-named (x ∷ q) n = refl

-- the size of a cell with this name
size-named : (w : Name) (k : ℕ) → IsName 6 15 w → length w + k ≡ 16 → size_of (cell_named w) ≡ 9 ^ k
unfolding size_of
size-named w k n d =
    let e : 15 - (cell_named w).resolution ≡ k = omega (arith, resolution-named w n) in
    ap (λ (j : ℕ). 9 ^ j) e

-- ---- the test of the code at hand: it lies inside, or comes after

module _ (w : Name) (x k : ℕ) (n : IsName 6 15 w) (t : is_code x ≡ true) (d : length w + k ≡ 16) where
  pub end-named : end_of (cell_named w) ≡ start_of (cell_named w) + 9 ^ k
  unfolding end_of
  end-named = ap (λ (z : ℕ). start_of (cell_named w) + z) (size-named w k n d)

  pub test_in : Since w (numbers_of (cell_of x)) → start_of (cell_of x) < start_of (cell_named w) + 9 ^ k → Prefix w (numbers_of (cell_of x))
  test_in s l =
      ⊎_elim (λ h. h)
      (λ h. absurd
      (let b : end_of (cell_named w) ≤ start_of (cell_of x) =
      ahead_before (cell_named w) (cell_of x) (named-cell w n) (code-is-cell x t) (rw (name-named w n) h) in
      omega (arith, end-named)))
      s

  pub test-out : Since w (numbers_of (cell_of x)) → (start_of (cell_of x) < start_of (cell_named w) + 9 ^ k → ⊥) → Ahead w (numbers_of (cell_of x))
  unfolding end_of
  test-out s l =
      ⊎_elim
      (λ h. absurd
      (l
      (let i : Inside (cell_named w) (cell_of x) =
      prefix-inside (cell_named w) (cell_of x) (named-cell w n) (code-is-cell x t) (rw (name-named w n) h) in
      let j = inside-within (cell_named w) (cell_of x) (named-cell w n) (code-is-cell x t) i in
      omega (arith, j.to, size-pos (cell_of x), end-named))))
      (λ h. h)
      s

-- ---- a node

module _ (codes : List ℕ) (at : ℕ) (w : Name) (start size k : ℕ) (s : NodeAt codes at w start size k) (h : at < length codes) where
  first_code : is_code (get_or codes at 0) ≡ true
  first_code = code-at codes at s.coded h

  abbrev q : Name
  q = numbers_of (next_cell codes at)

  q-named : IsName 6 15 q
  q-named = cell-is-named _ (code-is-cell (get_or codes at 0) first_code)

  q-cell : cell_named q ≡ next_cell codes at
  q-cell = cell-named (next_cell codes at) (code-is-cell (get_or codes at 0) first_code)

  -- of a cell that is among the codes
  same_size : w ≡ q → size_of (next_cell codes at) ≡ 9 ^ k
  same_size e = ap size_of (sym q-cell ∙ ap cell_named (sym e)) ∙ size-named w k s.named s.depth

  self : length q ≤ length w → NodeTakes codes at w k (at + 1) 1 1
  self m =
      let e : w ≡ q = prefix_same w q s.inside m in
      let f : names_from codes at ≡ w ∷ names_from codes (at + 1) = names_at codes at h ∙ ap (λ (p : Name). p ∷ names_from codes (at + 1)) (sym e) in
      record {
        took = rw f (self-took w (names_from codes (at + 1)));
        past = self-past w (names_from codes (at + 1)) (rw f at s.standing);
        long = λ l c rest. rw (f, self-node (under k) c w (names_from codes (at + 1)) rest) (omega arith);
        whole = λ c rest. rw (f, self-node (under k) c w (names_from codes (at + 1)) rest) (omega arith);
        fills = inl (refl, omega (arith, size-at codes at h, same_size e));
      }

  pub node-finest : size < 9 → NodeTakes codes at w k (at + 1) 1 1
  node-finest l = self (omega (arith, length-name q q-named, zero-depth k s.sized l, s.depth))
    where
      zero-depth : (j : ℕ) → size ≡ 9 ^ j → size < 9 → j ≡ 0
      zero-depth zero e l = refl
      zero-depth (suc j) e l = absurd (omega (arith, pow-suc 9 j, nine-pos j))

  -- a code inside that has the cell's size is the cell's
  pub node-same : size_of (next_cell codes at) ≡ size → NodeTakes codes at w k (at + 1) 1 1
  node-same e =
      let z : size_of (cell_named q) ≡ 9 ^ (16 - length q) = size-named q (16 - length q) q-named (omega (arith, length-name q q-named)) in
      let y : size_of (cell_named q) ≡ size_of (next_cell codes at) = ap size_of q-cell in
      self
      (⊎_elim (λ l. absurd (omega (arith, nine-lt (16 - length q) k (omega (arith, length-name q q-named, s.depth)), s.sized))) (λ l. l)
      (lt-or (length w) (length q)))

  -- of one that is not
  other : (size_of (next_cell codes at) ≡ size → ⊥) → Prefix q w → ⊥
  other n p = n (same_size (prefix-both w q s.inside p) ∙ sym s.sized)

-- ---- the children of a cell, one after the other

child-name : (x : Cell) (d : ℕ) → d ≤ 8 → numbers_of (child_of x d) ≡ numbers_of x ++ (d ∷ [])
unfolding numbers_of child_of digits_of
child-name x d h =
    let i : (3 * x.row + d / 3) / 3 ≡ x.row = omega arith in
    let j : (3 * x.column + d % 3) / 3 ≡ x.column = omega arith in
    let e : 3 * ((3 * x.row + d / 3) % 3) + (3 * x.column + d % 3) % 3 ≡ d = omega arith in
    rw (add-one x.resolution, i, j, e)

module _ (w : Name) (k d : ℕ) (n : IsName 6 15 w) (l : length w + suc k ≡ 16) (h : d < 9) where
  coarse : (cell_named w).resolution < 15
  coarse = omega (arith, resolution-named w n)

  child-named : cell_named (w ++ (d ∷ [])) ≡ child_of (cell_named w) d
  child-named =
      let v = child-is-cell (cell_named w) d (named-cell w n) coarse (omega arith) in
      let e : numbers_of (child_of (cell_named w) d) ≡ w ++ (d ∷ []) = child-name (cell_named w) d (omega arith) ∙ ap (λ (q : Name). q ++ (d ∷ [])) (name-named w n) in
      ap cell_named (sym e) ∙ cell-named (child_of (cell_named w) d) v

  child-is-named : IsName 6 15 (w ++ (d ∷ []))
  child-is-named =
      let v = child-is-cell (cell_named w) d (named-cell w n) coarse (omega arith) in
      let e : numbers_of (child_of (cell_named w) d) ≡ w ++ (d ∷ []) = child-name (cell_named w) d (omega arith) ∙ ap (λ (q : Name). q ++ (d ∷ [])) (name-named w n) in
      rw e at (cell-is-named (child_of (cell_named w) d) v)

  child-starts : start_of (cell_named (w ++ (d ∷ []))) ≡ start_of (cell_named w) + d * 9 ^ k
  unfolding size_of child_of
  child-starts =
      let z : 15 - ((cell_named w).resolution + 1) ≡ k = omega (arith, resolution-named w n) in
      ap start_of child-named ∙ child-start (cell_named w) d coarse (omega arith) ∙ ap (λ (j : ℕ). start_of (cell_named w) + d * 9 ^ j) z

module _
    (codes : List ℕ) (at : ℕ) (w : Name) (start size k : ℕ) (s : NodeAt codes at w start size (suc k)) (h : at < length codes)
    (n : size_of (next_cell codes at) ≡ size → ⊥)
  where
    ninth : size / 9 ≡ 9 ^ k
    ninth = omega (arith, s.sized, pow-suc 9 k)

    first : Name
    first = numbers_of (next_cell codes at)

    -- the list of such a cell
    pub node-list : ListAt codes at w 0 9 start (size / 9) k
    unfolding first
    node-list =
        let f = names_at codes at h in
        record {
          coded = s.coded;
          standing = rw f (deeper w first (names_from codes (at + 1)) (rw f at s.standing) s.inside (other codes at w start size (suc k) s h n));
          numbered =
              λ b l u. (
                child-is-named w k b s.named s.depth (omega arith),
                child-starts w k b s.named s.depth (omega arith) ∙ (let z : b - 0 ≡ b = omega arith in rw (z, ninth, s.starts) refl),
              );
          sized = ninth;
          depth = omega (arith, s.depth);
        }

    module _ (next bytes count : ℕ) (t : ListTakes codes at w 0 9 k next bytes count) where
      -- its node, nine whole ones or not
      below-is : under (suc k) (rests_of w (names_from codes at)) ≡ side (under k) 9 0 (rests_of w (names_from codes at))
      below-is = built-side k 9 (rests_of w (names_from codes at))

      node-is :
          (c : ℕ) (rest : Nodes) →
          node_of (under (suc k)) c (rests_of w (names_from codes at)) rest ≡
          cond (eqb count 9) (whole c rest) (listed c (side (under k) 9 0 (rests_of w (names_from codes at))) rest)
      unfolding first
      node-is c rest =
          let f = names_at codes at h in
          let e : node_of (under (suc k)) c (rests_of w (names_from codes at)) rest ≡
          cond (eqb (wholes (under (suc k) (rests_of w (names_from codes at)))) 9) (whole c rest) (listed c (under (suc k) (rests_of w (names_from codes at))) rest) =
          rw f (deeper-node w first (names_from codes (at + 1)) (rw f at s.standing) s.inside (other codes at w start size (suc k) s h n) (under (suc k)) c rest) in
          e ∙ rw (below-is, t.whole) refl

      past : Each (Ahead w) (names_from codes next)
      past = nine-past w (names_from codes next) t.past.named t.past.since

      pub node-nine : count ≡ 9 → NodeTakes codes at w (suc k) next 1 1
      node-nine e =
          record {
            took = t.took;
            past = past;
            long = λ l c rest. rw (node-is c rest, eq-eqb count 9 e) (omega arith);
            whole = λ c rest. rw (node-is c rest, eq-eqb count 9 e) (omega arith);
            fills = ⊎_elim (λ f. inl (refl, omega (arith, f.1, pow-suc 9 k))) (λ f. absurd (omega (arith, f.0))) t.fills;
          }

      pub node-held : (count ≡ 9 → ⊥) → NodeTakes codes at w (suc k) next (3 + bytes) 0
      node-held e =
          record {
            took = t.took;
            past = past;
            long =
                λ l c rest.
                rw (node-is c rest, ne_eqb count 9 e)
                (omega (
                  arith,
                  t.long Digits,
                  length-append (render Digits (side (under k) 9 0 (rests_of w (names_from codes at)))) (41 ∷ render l rest),
                ));
            whole = λ c rest. rw (node-is c rest, ne_eqb count 9 e) (omega arith);
            fills = ⊎_elim (λ f. absurd (e f.0)) (λ f. inr (omega arith, omega (arith, f.1, pow-suc 9 k))) t.fills;
          }

-- ---- a list

-- one cell and then n, and a cell of which none was taken
fills-join :
    (a b n z from mid to : ℕ) → Fills a 1 z from mid → Fills b n z mid to → Fills (a + b) (suc n) z from to
fills-join a b n z from mid to (inl f) (inl g) = inl (omega arith, omega (arith, suc-mul n z))
fills-join a b n z from mid to (inl f) (inr g) = inr (omega arith, omega (arith, suc-mul n z))
fills-join a b n z from mid to (inr f) (inl g) = inr (omega arith, omega (arith, suc-mul n z))
fills-join a b n z from mid to (inr f) (inr g) = inr (omega arith, omega (arith, suc-mul n z))

fills-none : (b n z from to : ℕ) → 0 < z → Fills b n z from to → Fills b (suc n) z from to
fills-none b n z from to h (inl g) = inr (omega arith, omega (arith, suc-mul n z))
fills-none b n z from to h (inr g) = inr (omega arith, omega (arith, suc-mul n z))

pub list-none : (codes : List ℕ) (at : ℕ) (w : Name) (c start size k : ℕ) → ListAt codes at w c 0 start size k → ListTakes codes at w c 0 k at 0 0
unfolding side
list-none codes at w c start size k s =
    let z : 0 + c ≡ c = omega arith in
    record { took = took-none w (names_from codes at); past = rw z s.standing; long = λ l. refl; whole = refl; fills = inl (refl, omega arith) }

module _ (codes : List ℕ) (at : ℕ) (w : Name) (c left start size k : ℕ) (s : ListAt codes at w c (suc left) start size k) where
  named-first : IsName 6 15 (w ++ (c ∷ []))
  named-first = (s.numbered c (omega arith) (omega arith)).0

  start_first : start_of (cell_named (w ++ (c ∷ []))) ≡ start
  start_first =
      let z : c - c ≡ 0 = omega arith in
      (s.numbered c (omega arith) (omega arith)).1 ∙ rw z (omega arith)

  depth-first : length (w ++ (c ∷ [])) + k ≡ 16
  depth-first = omega (arith, length-append w (c ∷ []), s.depth)

  -- the cells after the first
  later : (b : ℕ) → suc c ≤ b → b < left + suc c → IsName 6 15 (w ++ (b ∷ [])) × (start_of (cell_named (w ++ (b ∷ []))) ≡ start + size + (b - suc c) * size)
  later b l u =
      let e = s.numbered b (omega arith) (omega arith) in
      let z : b - c ≡ suc (b - suc c) = omega arith in
      let m : (b - c) * size ≡ (b - suc c) * size + size = ap (λ (x : ℕ). x * size) z ∙ suc-mul (b - suc c) size in
      (e.0, e.1 ∙ omega arith)

  pub next-list :
      (next : ℕ) → Took (w ++ (c ∷ [])) (names_from codes at) (names_from codes next) → Each (Ahead (w ++ (c ∷ []))) (names_from codes next) →
      ListAt codes next w (suc c) left (start + size) size k
  next-list next t p =
      record {
        coded = s.coded;
        standing = standing-next w c (names_from codes at) (names_from codes next) s.standing t p;
        numbered = later;
        sized = s.sized;
        depth = s.depth;
      }

  since-first-code : (h : at < length codes) → Since (w ++ (c ∷ [])) (numbers_of (next_cell codes at))
  since-first-code h = (rw (names_at codes at h) at s.standing).since.0

  -- the first cell has the code at hand inside: its node, and then the rest
  pub list-node : at < length codes → start_of (next_cell codes at) < start + size → NodeAt codes at (w ++ (c ∷ [])) start size k
  list-node h l =
      record {
        coded = s.coded;
        standing = s.standing;
        named = named-first;
        starts = start_first;
        sized = s.sized;
        depth = depth-first;
        inside =
            test_in (w ++ (c ∷ [])) (get_or codes at 0) k named-first (code-at codes at s.coded h) depth-first (since-first-code h)
            (rw (start_first, ← s.sized) l);
      }

  pub list-rest : {next bytes count : ℕ} → NodeTakes codes at (w ++ (c ∷ [])) k next bytes count → ListAt codes next w (suc c) left (start + size) size k
  list-rest {next} t = next-list next t.took t.past

  shift : left + suc c ≡ suc left + c
  shift = omega arith

  pub list-in :
      {next bytes count last more others : ℕ} → NodeTakes codes at (w ++ (c ∷ [])) k next bytes count →
      ListTakes codes next w (suc c) left k last more others → ListTakes codes at w c (suc left) k last (bytes + more) (count + others)
  list-in {next} {bytes} {count} {last} {more} {others} t u =
      let ss : List Name = names_from codes at in
      let e = side-in (under k) left c w ss (names_from codes next) t.took in
      record {
        took = took-join w c ss (names_from codes next) (names_from codes last) t.took u.took;
        past = rw shift at u.past;
        long = λ l. ap (λ (ns : Nodes). length (render l ns)) e ∙ t.long l c (side (under k) left (suc c) (rests_of w (names_from codes next))) ∙ ap (λ (x : ℕ). bytes + x) (u.long l);
        whole = ap wholes e ∙ t.whole c (side (under k) left (suc c) (rests_of w (names_from codes next))) ∙ ap (λ (x : ℕ). count + x) u.whole;
        fills = fills-join count others left (9 ^ k) _ _ _ t.fills u.fills;
      }

  -- or it has not, and there is no node of its number
  pub all-later : (at < length codes → start_of (next_cell codes at) < start + size → ⊥) → Each (Ahead (w ++ (c ∷ []))) (names_from codes at)
  all-later n =
      ⊎_elim
      (λ h.
      let f = names_at codes at h in
      rw f
      (all-ahead (w ++ (c ∷ [])) (numbers_of (next_cell codes at)) (names_from codes (at + 1)) (rw f at s.standing)
      (test-out (w ++ (c ∷ [])) (get_or codes at 0) k named-first (code-at codes at s.coded h) depth-first (since-first-code h)
      (λ l. n h (rw (start_first, ← s.sized) at l)))))
      (λ h. rw (names-end codes at h) tt)
      (lt-or at (length codes))

  pub list-skip : Each (Ahead (w ++ (c ∷ []))) (names_from codes at) → ListAt codes at w (suc c) left (start + size) size k
  list-skip p = next-list at (took-none (w ++ (c ∷ [])) (names_from codes at)) p

  pub list-out :
      {last more others : ℕ} → Each (Ahead (w ++ (c ∷ []))) (names_from codes at) → ListTakes codes at w (suc c) left k last more others →
      ListTakes codes at w c (suc left) k last more others
  list-out {last} {more} {others} p u =
      let e = side-out (under k) left c w (names_from codes at) p in
      record {
        took = u.took;
        past = rw shift at u.past;
        long = λ l. ap (λ (ns : Nodes). length (render l ns)) e ∙ u.long l;
        whole = ap wholes e ∙ u.whole;
        fills = fills-none others left (9 ^ k) _ _ (nine-pos k) u.fills;
      }
