-- What W-204 says, over what the entries answer and leave in lent memory. Assumes nothing.
use Rattle.std.specs.Prelude.{◌≡◌, refl, ◌↔◌, Bool, true, not, List, take, drop, ltb}
use Rattle.std.proofs.Math.Path.{sym, ap}
use Rattle.std.proofs.Common.{ap₂, ◌∙◌, subst, ⊎_elim, arith, lt-ltb, le-ltb}
use Prim.Native.Nat.{ℕ, zero, suc, ◌<◌, ◌≤◌}
use Rattle.std.proofs.Math.ListN.{length}
use Rattle.std.proofs.Math.Seq.{take-append_seam, drop-append_seam}
use Rattle.logic.specs.Lists.{Mem}
use Rattle.logic.specs.Rise.{Rise}
use Rattle.logic.specs.Laws.Order.{lt-or}
use Rattle.logic.specs.Refusal.{refuse, ◌otherwise◌, given}
use Rattle.logic.specs.Laws.Refusal.{both, passes, other, given-value}
use Rattle.cell.specs.declared.Cell.{Cell}
use Rattle.cell.specs.declared.Arrangement.{Arrangement}
use Rattle.cell.specs.Cell.{IsCell, IsArrangement}
use Rattle.cell.specs.Neighbour.{neighbour_of, Neighbour}
use Rattle.cell.proofs.Laws.Neighbour.{neighbour-is-cell}
use Rattle.code.specs.Code.{code_of, cell_of, arrangement_of, is_code, code_refusal, coded}
use Rattle.code.proofs.Laws.Code.{a-code, code-passes, code-is-cell, code-arranged, code-cell, code_one, cell-code, arrangement-code, cell-has-code}
use Rattle.corner.specs.Corner.{MeetsAtCorner, corner_number}
use Rattle.corner.specs.List.{codes_at, corners_refusal, cornered, in_front, corner_memory}
use Rattle.corner.proofs.Laws.List.{corners-rise, corners-count, code-listed}
use Rattle.entries.specs.Entries.{code_answer, neighbour_code, corner_count, corner_numbers, corner_cells}
use Rattle.entries.specs.Corners.{neighbour_at, ByNeighbours}
use Rattle.entries.proofs.Laws.First.{corners-refusal}

-- ---- what jgv_neighbour answers is the code of the neighbour

neighbour-at : (code d : ℕ) → is_code code ≡ true → d < 4 → neighbour_at code d ≡ code_of (arrangement_of code) (neighbour_of (arrangement_of code) (cell_of code) d)
unfolding neighbour_code code_answer coded
neighbour-at code d i l =
    let x = code_of (arrangement_of code) (neighbour_of (arrangement_of code) (cell_of code) d) in
    let z : refuse (ltb 3 d) 3 ≡ 0 = ap (λ (t : Bool). refuse t 3) (le-ltb 3 d (omega arith)) in
    ap (λ (r : ℕ). (code_answer r x).code) (passes (code_refusal code) z ∙ code-passes code i)

module _ {a : Arrangement} (ok : IsArrangement a) where
  neighbour-of : (c : Cell) (d : ℕ) → IsCell c → d < 4 → neighbour_at (code_of a c) d ≡ code_of a (neighbour_of a c d)
  neighbour-of c d v l =
      neighbour-at (code_of a c) d (cell-has-code ok c v) l
      ∙ ap₂ (λ (b : Arrangement) (x : Cell). code_of b (neighbour_of b x d)) (arrangement-code ok c v) (cell-code ok c v)

  -- a neighbour, and what the entry answers
  near-at : {c x : Cell} → IsCell c → Neighbour a c x → (d : ℕ) × (d < 4) × (neighbour_at (code_of a c) d ≡ code_of a x)
  near-at {c} v (d, l, e) = (d, l, neighbour-of c d v l ∙ ap (code_of a) e)

  at-near : {c x : Cell} → IsCell c → IsCell x → (d : ℕ) → d < 4 → neighbour_at (code_of a c) d ≡ code_of a x → Neighbour a c x
  at-near {c} {x} v w d l e = (d, l, (code_one (neighbour_of a c d) x ok ok (neighbour-is-cell d ok v l) w (sym (neighbour-of c d v l) ∙ e)).1)

module _ (code : ℕ) (lent : List ℕ) where
  -- those of the lent codes that were listed
  abbrev pub listed_corners : List ℕ
  listed_corners = take (corner_cells code (length lent)).count (corner_memory code lent)

  -- "Other answers are 0", and no lent code is changed, beside a refusal
  pub corners-refused : ((corner_cells code (length lent)).refusal ≡ 0 → ⊥) → ((corner_cells code (length lent)).count ≡ 0) × (corner_memory code lent ≡ lent)
  unfolding corner_cells cornered given
  corners-refused = go (corners_refusal code (length lent))
    where
      n : ℕ
      n = length (codes_at code)

      go : (r : ℕ) → ((corner_numbers (cornered r n)).refusal ≡ 0 → ⊥) → ((corner_numbers (cornered r n)).count ≡ 0) × (given r (in_front (codes_at code) lent) lent ≡ lent)
      go zero h = absurd (h refl)
      go (suc r) h = (refl, refl)

  module _ (e : (corner_cells code (length lent)).refusal ≡ 0) where
    none : corners_refusal code (length lent) ≡ 0
    unfolding corner_cells
    none = sym (corners-refusal (corners_refusal code (length lent)) (length (codes_at code))) ∙ e

    is-code : is_code code ≡ true
    unfolding corners_refusal
    is-code = a-code code (both _ _ none).0

    counted : (corner_cells code (length lent)).count ≡ length (codes_at code)
    unfolding corner_cells cornered
    counted = ap (λ (r : ℕ). (corner_numbers (cornered r (length (codes_at code)))).count) none

    -- what was listed is the list
    pub listed-corners : listed_corners ≡ codes_at code
    listed-corners =
        ap₂ take counted (given-value (in_front (codes_at code) lent) lent none) ∙ take-append_seam (codes_at code) (drop (length (codes_at code)) lent)

    -- and the codes behind it are those that were lent
    pub corners-rest : drop (corner_cells code (length lent)).count (corner_memory code lent) ≡ drop (corner_cells code (length lent)).count lent
    corners-rest =
        ap₂ drop counted (given-value (in_front (codes_at code) lent) lent none)
        ∙ drop-append_seam (codes_at code) (drop (length (codes_at code)) lent) ∙ ap (λ (n : ℕ). drop n lent) (sym counted)

    -- "in rising code order"
    pub corners-rising : Rise listed_corners
    corners-rising = subst Rise (sym listed-corners) (corners-rise (arrangement_of code) (cell_of code))

    -- the codes, of the same arrangement, of the cells that meet the code's cell at a corner, and no others
    pub corners-exactly :
        (y : ℕ) →
        Mem y listed_corners ↔ ((is_code y ≡ true) × (arrangement_of y ≡ arrangement_of code) × MeetsAtCorner (arrangement_of code) (cell_of code) (cell_of y))
    corners-exactly y =
        let k = code-listed code is-code y in (
          (λ o. k.0 (subst (λ (l : List ℕ). Mem y l) listed-corners o)),
          (λ h. subst (λ (l : List ℕ). Mem y l) (sym listed-corners) (k.1 h)),
        )

    -- so a number is listed exactly when it is so by what jgv_neighbour answers
    pub corners-by-neighbours : (y : ℕ) → Mem y listed_corners ↔ ByNeighbours code y
    corners-by-neighbours y = (to, from)
      where
        a : Arrangement
        a = arrangement_of code

        c : Cell
        c = cell_of code

        ok : IsArrangement (arrangement_of code)
        ok = code-arranged code

        v : IsCell (cell_of code)
        v = code-is-cell code is-code

        same : code_of (arrangement_of code) (cell_of code) ≡ code
        same = code-cell code is-code

        -- a neighbour's code, and its own neighbours
        first : {x : Cell} → Neighbour a c x → (d : ℕ) × (d < 4) × (neighbour_at code d ≡ code_of a x)
        first {x} h = subst (λ (z : ℕ). (d : ℕ) × (d < 4) × (neighbour_at z d ≡ code_of a x)) same (near-at ok v h)

        near : {x : Cell} → Neighbour a c x → IsCell x
        near (d, l, e) = subst IsCell e (neighbour-is-cell d ok v l)

        to : Mem y listed_corners → ByNeighbours code y
        to o =
            let h = (corners-exactly y).0 o in
            let m = h.2 in
            let of : code_of a (cell_of y) ≡ y = ap (λ (b : Arrangement). code_of b (cell_of y)) (sym h.1) ∙ code-cell y h.0 in
            let p = first m.near-one in
            let q = first m.near-other in
            record {
              above = m.above;
              one = p.0;
              other = q.0;
              one-small = p.1;
              other-small = q.1;
              two = λ e. m.two (code_one m.one m.other ok ok (near m.near-one) (near m.near-other) (sym p.2 ∙ e ∙ q.2)).1;
              one-near = (let r = near-at ok (near m.near-one) m.one-near in (r.0, r.1, ap (λ (z : ℕ). neighbour_at z r.0) p.2 ∙ r.2 ∙ of));
              other-near = (let r = near-at ok (near m.near-other) m.other-near in (r.0, r.1, ap (λ (z : ℕ). neighbour_at z r.0) q.2 ∙ r.2 ∙ of));
              not-it = λ e. m.not-it (ap cell_of e);
              not-near = λ d l e. m.not-near (at-near ok v (code-is-cell y h.0) d l (ap (λ (z : ℕ). neighbour_at z d) same ∙ e ∙ sym of));
            }

        from : ByNeighbours code y → Mem y listed_corners
        from b =
            let p = neighbour-at code b.one is-code b.one-small in
            let q = neighbour-at code b.other is-code b.other-small in
            let u : Cell = neighbour_of a c b.one in
            let w : Cell = neighbour_of a c b.other in
            let us = neighbour-is-cell b.one ok v b.one-small in
            let ws = neighbour-is-cell b.other ok v b.other-small in
            let r = b.one-near in
            let s = b.other-near in
            let x : Cell = neighbour_of a u r.0 in
            let xs = neighbour-is-cell r.0 ok us r.1 in
            let e : code_of a x ≡ y = sym (neighbour-of ok u r.0 us r.1) ∙ ap (λ (z : ℕ). neighbour_at z r.0) (sym p) ∙ r.2 in
            let f : neighbour_at (code_of a w) s.0 ≡ code_of a x = ap (λ (z : ℕ). neighbour_at z s.0) (sym q) ∙ s.2 ∙ sym e in
            let m : MeetsAtCorner a c x =
            record {
              above = b.above;
              one = u;
              other = w;
              two = λ g. b.two (p ∙ ap (code_of a) g ∙ sym q);
              near-one = (b.one, b.one-small, refl);
              near-other = (b.other, b.other-small, refl);
              one-near = (r.0, r.1, refl);
              other-near = at-near ok ws xs s.0 s.1 f;
              not-it = λ g. b.not-it (sym e ∙ ap (code_of a) g ∙ same);
              not-near = λ g. let k = first g in b.not-near k.0 k.1 (k.2 ∙ e);
            } in
            (corners-exactly y).1 (
              subst (λ (z : ℕ). is_code z ≡ true) e (cell-has-code ok x xs),
              ap arrangement_of (sym e) ∙ arrangement-code ok x xs,
              subst (MeetsAtCorner a c) (sym (cell-code ok x xs) ∙ ap cell_of e) m,
            )

    -- as many as jgv_corner_count says, and that is the request's rule
    pub corners-number : ((corner_cells code (length lent)).count ≡ corner_number (cell_of code)) × ((corner_count code).count ≡ corner_number (cell_of code))
    unfolding corners_refusal corner_count
    corners-number = (
      counted ∙ corners-count (code-arranged code) (code-is-cell code is-code),
      given-value (corner_number (cell_of code)) 0 (both (code_refusal code) _ none).0,
    )

-- 8 exactly where the room is less than what jgv_corner_count answers, which is 0 beside its refusal
pub eight-by-count : (code room : ℕ) → ((corner_cells code room).refusal ≡ 8) ↔ (room < (corner_count code).count)
unfolding corner_cells corners_refusal corner_count code_refusal ◌otherwise◌ given
eight-by-count code room =
    subst (λ (r : ℕ). (r ≡ 8) ↔ (room < (corner_count code).count)) (sym (corners-refusal (corners_refusal code room) listed))
    (go (code_refusal code) (λ e. corners-count (code-arranged code) (code-is-cell code (a-code code e))) (other (not (is_code code)) 4 7 (λ e. omega arith)))
  where
    listed : ℕ
    listed = length (codes_at code)

    short : {n m : ℕ} → n ≡ m → (refuse (ltb room n) 8 ≡ 8) ↔ (room < m)
    short {n} e = (
      (λ h. ⊎_elim (λ l. omega arith) (λ l. let z = sym (ap (λ (t : Bool). refuse t 8) (le-ltb room n l)) ∙ h in omega arith) (lt-or room n)),
      (λ h. ap (λ (t : Bool). refuse t 8) (lt-ltb room n (omega arith))),
    )

    go : (r : ℕ) → (r ≡ 0 → length (codes_at code) ≡ corner_number (cell_of code)) → (r ≡ 8 → ⊥) →
        (r otherwise refuse (ltb room (length (codes_at code))) 8 ≡ 8) ↔ (room < given r (corner_number (cell_of code)) 0)
    go zero n h = short (n refl)
    go (suc r) n h = ((λ e. absurd (h e)), (λ l. absurd (omega arith)))
