-- A node is whole where the codes inside cover its finest cells with no gap. Assumes nothing.
use mathlib.Core.Path.{◌≡◌, sym, ap, ◌∙◌}
use mathlib.Core.Bool.{true}
use mathlib.Core.Logic.{⊎_elim}
use mathlib.Core.List.{List, [], ◌∷◌, ◌++◌, map}
use Prim.Native.Nat.{ℕ, zero, suc, ◌+◌, ◌-◌, ◌/◌, ◌^◌, ◌≤◌, ◌<◌}
use native.Mathlib.Omega.{arith}
use lib.ListN.{length, drop, get_or, length-map, length-drop, drop_of_length-le}
use Rattle.logic.specs.Laws.Order.{lt-or}
use Rattle.code.specs.Code.{cell_of, is_code, size_of}
use Rattle.code.proofs.Laws.Code.{code-is-cell}
use Rattle.code.specs.Inside.{Inside, start_of, end_of}
use Rattle.code.proofs.Laws.Inside.{inside-within, size-pos}
use Rattle.reading.proofs.Laws.Reading.{eq-or}
use Rattle.reading.specs.Ground.{cell_named, size_sum}
use Rattle.reading.specs.Prefix.{Name, numbers_of, Prefix, Ahead, InOrder}
use Rattle.reading.proofs.Laws.Rising.{ahead_before}
use Rattle.reading.proofs.Laws.Named.{named-cell, name-named, prefix-inside}
use Rattle.writing.specs.Write.{all_codes}
use Rattle.writing.specs.Internal.Take.{Each, Took}
use Rattle.writing.specs.Internal.Measure.{names_from, next_cell, size_from, NodeAt, ListAt, NodeTakes, ListTakes}
use Rattle.writing.specs.Internal.MeasureLaws.{code-at, names_at, size-at, end-named, node-finest, node-same, node-list, node-nine}
use Rattle.writing.specs.Internal.MeasureLaws.{node-held, list-none, list-node, list-rest, list-in, all-later, list-skip, list-out}
use Rattle.writing.specs.Internal.Whole.{CoveredTo}

-- ---- some node is made of the codes

record NodeMade (codes : List ℕ) (at : ℕ) (w : Name) (k : ℕ) : Type 0 where
  pub next : ℕ
  pub bytes : ℕ
  pub count : ℕ
  pub inside : next ≤ length codes
  pub takes : NodeTakes codes at w k next bytes count

record ListMade (codes : List ℕ) (at : ℕ) (w : Name) (c left k : ℕ) : Type 0 where
  pub next : ℕ
  pub bytes : ℕ
  pub count : ℕ
  pub inside : next ≤ length codes
  pub takes : ListTakes codes at w c left k next bytes count

abbrev Makes : ℕ → Type 0
Makes k = (codes : List ℕ) (at : ℕ) (w : Name) (start size : ℕ) → NodeAt codes at w start size k → at < length codes → NodeMade codes at w k

abbrev MakesLists : (k left : ℕ) → Type 0
MakesLists k left =
    (codes : List ℕ) (at : ℕ) (w : Name) (c start size : ℕ) → ListAt codes at w c left start size k → at ≤ length codes → ListMade codes at w c left k

one_more : (k left : ℕ) → Makes k → MakesLists k left → MakesLists k (suc left)
one_more k left f g codes at w c start size s h =
    ⊎_elim (λ i. ⊎_elim (λ l. taken i l) (λ l. skipped (λ j n. omega arith)) (lt-or (start_of (next_cell codes at)) (start + size))) (λ i. skipped (λ j n. omega arith))
    (lt-or at (length codes))
  where
    taken : at < length codes → start_of (next_cell codes at) < start + size → ListMade codes at w c (suc left) k
    taken i l =
        let m = f codes at (w ++ (c ∷ [])) start size (list-node codes at w c left start size k s i l) i in
        let u = g codes m.next w (suc c) (start + size) size (list-rest codes at w c left start size k s m.takes) m.inside in
        record {
          next = u.next;
          bytes = m.bytes + u.bytes;
          count = m.count + u.count;
          inside = u.inside;
          takes = list-in codes at w c left start size k s m.takes u.takes;
        }

    skipped : (at < length codes → start_of (next_cell codes at) < start + size → ⊥) → ListMade codes at w c (suc left) k
    skipped n =
        let p = all-later codes at w c left start size k s n in
        let u = g codes at w (suc c) (start + size) size (list-skip codes at w c left start size k s p) h in
        record { next = u.next; bytes = u.bytes; count = u.count; inside = u.inside; takes = list-out codes at w c left start size k s p u.takes }

list-made : (k left : ℕ) → Makes k → MakesLists k left
list-made k zero f = λ codes at w c start size s h. record { next = at; bytes = 0; count = 0; inside = h; takes = list-none codes at w c start size k s }
list-made k (suc left) f = one_more k left f (list-made k left f)

one-level : (k : ℕ) → MakesLists k 9 → Makes (suc k)
one-level k g codes at w start size s h =
    ⊎_elim (λ e. record { next = at + 1; bytes = 1; count = 1; inside = omega arith; takes = node-same codes at w start size (suc k) s h e }) other
    (eq-or (size_of (next_cell codes at)) size)
  where
    other : (size_of (next_cell codes at) ≡ size → ⊥) → NodeMade codes at w (suc k)
    other n =
        let u = g codes at w 0 start (size / 9) (node-list codes at w start size k s h n) (omega arith) in
        ⊎_elim
        (λ e. record {
          next = u.next;
          bytes = 1;
          count = 1;
          inside = u.inside;
          takes = node-nine codes at w start size k s h n u.next u.bytes u.count u.takes e;
        })
        (λ e. record {
          next = u.next;
          bytes = 3 + u.bytes;
          count = 0;
          inside = u.inside;
          takes = node-held codes at w start size k s h n u.next u.bytes u.count u.takes e;
        })
        (eq-or u.count 9)

node_made : (k : ℕ) → Makes k
node_made zero =
    λ codes at w start size s h.
    record { next = at + 1; bytes = 1; count = 1; inside = omega arith; takes = node-finest codes at w start size 0 s h (omega (arith, s.sized)) }
node_made (suc k) = one-level k (list-made k 9 (node_made k))

-- ---- what is left of the finest cells

size-later : (codes : List ℕ) (i j : ℕ) → i ≤ j → size_from codes j ≤ size_from codes i
unfolding size_sum
size-later [] i j h = let e : size_from [] j ≡ 0 = ap (λ (cs : List ℕ). size_sum (map cell_of cs)) (drop_of_length-le [] {i = j} (omega arith)) in omega arith
size-later (c ∷ cs) zero zero h = omega arith
size-later (c ∷ cs) zero (suc j) h = omega (arith, size-later cs zero j (omega arith))
size-later (c ∷ cs) (suc i) zero h = absurd (omega arith)
size-later (c ∷ cs) (suc i) (suc j) h = size-later cs i j (omega arith)

size-end : (codes : List ℕ) (i : ℕ) → length codes ≤ i → size_from codes i ≡ 0
unfolding size_sum
size-end codes i h = ap (λ (cs : List ℕ). size_sum (map cell_of cs)) (drop_of_length-le codes h)

size_less : (codes : List ℕ) (i j : ℕ) → i < j → i < length codes → size_from codes j < size_from codes i
size_less codes i j h l = omega (arith, size-at codes i l, size-pos (next_cell codes i), size-later codes (i + 1) j (omega arith))

-- ---- places of codes and of their finest cells

rise-later : (codes : List ℕ) (at d : ℕ) → InOrder (names_from codes at) → at + d ≤ length codes → InOrder (names_from codes (at + d))
rise-later codes at zero r h = let e : at + 0 ≡ at = omega arith in rw e r
rise-later codes at (suc d) r h =
    let e : at + suc d ≡ at + 1 + d = omega arith in
    rw e (rise-later codes (at + 1) d (rw (names_at codes at (omega arith)) at r).1 (omega arith))

in-turn-at :
    (codes : List ℕ) (at i : ℕ) → all_codes codes ≡ true → InOrder (names_from codes at) → at ≤ i → i + 1 < length codes →
    end_of (next_cell codes i) ≤ start_of (next_cell codes (i + 1))
in-turn-at codes at i a r l h =
    let x : ℕ = get_or codes i 0 in
    let y : ℕ = get_or codes (i + 1) 0 in
    let t : is_code x ≡ true = code-at codes i a (omega arith) in
    let u : is_code y ≡ true = code-at codes (i + 1) a h in
    let e : at + (i - at) ≡ i = omega arith in
    let q : InOrder (names_from codes i) = rw e at (rise-later codes at (i - at) r (omega arith)) in
    let b : end_of (cell_of x) ≤ start_of (cell_of y) =
    ahead_before (cell_of x) (cell_of y) (code-is-cell x t) (code-is-cell y u) (rw (names_at codes i (omega arith), names_at codes (i + 1) h) at q).0.0 in
    b

-- ---- a node and the codes that it takes

module _ (codes : List ℕ) (at : ℕ) (w : Name) (start size k : ℕ) (s : NodeAt codes at w start size k) (h : at < length codes) where
  end_is : end_of (cell_named w) ≡ start + size
  end_is = omega (arith, end-named w (get_or codes at 0) k s.named (code-at codes at s.coded h) s.depth, s.starts, s.sized)

  -- a code inside ends where the cell does or sooner
  ends-in : (x : ℕ) → is_code x ≡ true → Prefix w (numbers_of (cell_of x)) → end_of (cell_of x) ≤ start + size
  ends-in x t p =
      let i : Inside (cell_named w) (cell_of x) = prefix-inside (cell_named w) (cell_of x) (named-cell w s.named) (code-is-cell x t) (rw (name-named w s.named) p) in
      let j = inside-within (cell_named w) (cell_of x) (named-cell w s.named) (code-is-cell x t) i in
      omega (arith, j.to, end_is)

  -- one behind begins there or later
  starts-past : (x : ℕ) → is_code x ≡ true → Ahead w (numbers_of (cell_of x)) → start + size ≤ start_of (cell_of x)
  starts-past x t p =
      let b : end_of (cell_named w) ≤ start_of (cell_of x) = ahead_before (cell_named w) (cell_of x) (named-cell w s.named) (code-is-cell x t) (rw (name-named w s.named) p) in
      omega (arith, end_is)

  module _ (next : ℕ) (l : next ≤ length codes) where
    names-length : (j : ℕ) → length (names_from codes j) ≡ length codes - j
    names-length j = length-map (map cell_of (drop j codes)) numbers_of ∙ length-map (drop j codes) cell_of ∙ length-drop j codes

    took-at : (j : ℕ) (front : List Name) (i : ℕ) → names_from codes i ≡ front ++ names_from codes next → Each (Prefix w) front → i ≤ j → j < next → Prefix w
        (numbers_of (next_cell codes j))
    took-at j [] i e p a b = absurd (omega (arith, ap length e, names-length i, names-length next))
    took-at j (q ∷ front) i e p a b =
        let f : numbers_of (next_cell codes i) ∷ names_from codes (i + 1) ≡ q ∷ (front ++ names_from codes next) = sym (names_at codes i (omega arith)) ∙ e in
        let g : numbers_of (next_cell codes i) ≡ q = cc in
        let g₂ : names_from codes (i + 1) ≡ front ++ names_from codes next = cc in
        ⊎_elim (λ z. took-at j front (i + 1) g₂ p.1 (omega arith) b)
        (λ z. let o : j ≡ i = omega arith in rw (o, g) p.0)
        (lt-or i j)

    past-at : (j i : ℕ) → Each (Ahead w) (names_from codes i) → j + i < length codes → Ahead w (numbers_of (cell_of (get_or codes (j + i) 0)))
    past-at zero i p b = let z : 0 + i ≡ i = omega arith in rw z (rw (names_at codes i (omega arith)) at p).0
    past-at (suc j) i p b =
        let z : suc j + i ≡ j + (i + 1) = omega arith in
        rw z (past-at j (i + 1) (rw (names_at codes i (omega arith)) at p).1 (omega arith))

    module _ (t : Took w (names_from codes at) (names_from codes next)) (p : Each (Ahead w) (names_from codes next)) where
      -- from a code inside to the last, they find room to the end of the cell
      room : (d i : ℕ) → i + suc d ≡ next → at ≤ i → start_of (next_cell codes i) + size_from codes i ≤ start + size + size_from codes next
      unfolding end_of
      room zero i e a =
          let o : i + 1 ≡ next = omega arith in
          omega (
            arith,
            size-at codes i (omega arith),
            ap (size_from codes) o,
            ends-in (get_or codes i 0) (code-at codes i s.coded (omega arith)) (took-at i t.front at t.split t.inside a (omega arith)),
          )
      room (suc d) i e a =
          omega (
            arith,
            size-at codes i (omega arith),
            in-turn-at codes at i s.coded s.standing.rising a (omega arith),
            room d (i + 1) (omega arith) (omega arith),
          )

      -- a code that begins before the end of the cell is inside
      before-next : (j : ℕ) → j < length codes → start_of (next_cell codes j) < start + size → j < next
      before-next j b c =
          ⊎_elim (λ z. z)
          (λ z.
          let o : j - next + next ≡ j = omega arith in
          absurd (omega (arith, starts-past (get_or codes j 0) (code-at codes j s.coded b) (rw o at (past-at (j - next) next p (rw o b))))))
          (lt-or j next)

-- ---- where the whole test ends

module _ (codes : List ℕ) (at : ℕ) (w : Name) (start size k i position : ℕ) (s : NodeAt codes at w start size k) (h : at < length codes) (v : CoveredTo codes at start size i position) where
  held-made : (m : NodeMade codes at w k) → (size_from codes at ≡ 9 ^ k + size_from codes m.next → ⊥) → (next : ℕ) × (bytes : ℕ) × NodeTakes codes at w k next bytes 0
  held-made m n =
      ⊎_elim (λ f. absurd (n (omega (arith, f.1)))) (λ f. let z : m.count ≡ 0 = omega arith in (m.next, m.bytes, rw z at m.takes)) m.takes.fills

  -- the next code begins after the position
  pub gap-held : i < length codes → position < start_of (next_cell codes i) → (next : ℕ) × (bytes : ℕ) × NodeTakes codes at w k next bytes 0
  gap-held b g =
      let m = node_made k codes at w start size s h in
      held-made m
      (λ e.
      ⊎_elim
      (λ z. omega (arith, s.sized, v.left, v.sum, room codes at w start size k s h m.next m.inside m.takes.took m.takes.past (m.next - suc i) i (omega arith) v.from))
      (λ z. omega (arith, s.sized, v.left, v.sum, size-later codes m.next i z))
      (lt-or i m.next))

  -- the codes are at an end
  pub end-held : length codes ≤ i → (next : ℕ) × (bytes : ℕ) × NodeTakes codes at w k next bytes 0
  end-held b =
      let m = node_made k codes at w start size s h in
      held-made m (λ e. omega (arith, s.sized, v.left, v.sum, size-end codes i b))

  -- the code at hand reaches the end of the cell
  pub all_whole :
      i < length codes → start_of (next_cell codes i) ≤ position → start + size ≤ position + size_of (next_cell codes i) →
      (bytes : ℕ) × NodeTakes codes at w k (i + 1) bytes 1
  all_whole b g r =
      let m = node_made k codes at w start size s h in
      let l : i < m.next = before-next codes at w start size k s h m.next m.inside m.takes.took m.takes.past i b (omega (arith, v.left)) in
      let q = size-at codes i b in
      let e : m.next ≡ i + 1 =
      ⊎_elim (λ z. absurd (⊎_elim (λ f. omega (arith, f.1, s.sized, v.sum, size_less codes (i + 1) m.next z (omega (arith, m.inside))))
      (λ f. omega (arith, f.1, s.sized, v.sum, size_less codes (i + 1) m.next z (omega (arith, m.inside)))) m.takes.fills)) (λ z. omega arith)
      (lt-or (i + 1) m.next) in
      ⊎_elim (λ f. (m.bytes, rw (e, f.0) at m.takes)) (λ f. absurd (omega (arith, f.1, s.sized, v.sum, ap (size_from codes) e))) m.takes.fills
