-- Nine children and their parent, in a list of cells: the ground is the same, and each cell comes before the later ones as before. Assumes nothing.
use Rattle.std.specs.Prelude.{◌≡◌, refl, ◌⊎◌, List, [], ◌∷◌, ◌++◌, ℕ, zero, suc, ◌+◌, ◌-◌, ◌*◌, ◌^◌, ◌≤◌, ◌<◌}
use Rattle.std.proofs.Common.{sym, ◌∙◌, inl, inr, ⊎_elim, pow-suc, mul_assoc, mul_comm, add-mul, mul-le-mul_right, arith}
use Rattle.std.proofs.Math.Path.{ap}
use Rattle.std.proofs.Math.Nat.{suc-mul}
use Rattle.logic.specs.Laws.Order.{lt-or}
use Rattle.logic.specs.Laws.Lists.{any_left, any-right, any-or}
use Rattle.cell.specs.declared.Cell.{Cell}
use Rattle.code.specs.Code.{size_of}
use Rattle.code.specs.Inside.{Inside, start_of, end_of}
use Rattle.code.specs.Finest.{Finest}
use Rattle.code.specs.Number.{start_as, cell_as}
use Rattle.code.proofs.Laws.Inside.{finest-inside, inside-finest}
use Rattle.code.proofs.Laws.Number.{cell_as_lem, as-fine, as-start}
use Rattle.reading.specs.Ground.{Covers, SameGround}
use Rattle.writing.specs.Write.{Earlier, InTurn}

-- two lists that are in turn alike, and have the same ground
pub record Alike (xs ys : List Cell) : Type 0 where
  pub to : InTurn xs → InTurn ys
  pub back : InTurn ys → InTurn xs
  pub ground : SameGround xs ys

pub alike_same : (xs : List Cell) → Alike xs xs
alike_same xs = record { to = λ h. h; back = λ h. h; ground = λ x f. ((λ h. h), (λ h. h)) }

pub alike_then : (xs ys zs : List Cell) → Alike xs ys → Alike ys zs → Alike xs zs
alike_then xs ys zs a b =
    record {
      to = λ h. b.to (a.to h);
      back = λ h. a.back (b.back h);
      ground = λ x f. ((λ h. (b.ground x f).0 ((a.ground x f).0 h)), (λ h. (a.ground x f).1 ((b.ground x f).1 h)));
    }

-- d cells of resolution k, from number m on
abbrev pub run : (k m d : ℕ) → List Cell
run k m zero = []
run k m (suc d) = cell_as k m ∷ run k (suc m) d

earlier-less : (m n : ℕ) (xs : List Cell) → m ≤ n → Earlier n xs → Earlier m xs
earlier-less m n [] h e = tt
earlier-less m n (x ∷ xs) h e = (omega (arith, e.0), earlier-less m n xs h e.1)

module _ (k : ℕ) (h : k ≤ 15) where
  abbrev z : ℕ
  z = 9 ^ (15 - k)

  pub start-of : (m : ℕ) → m < 6 * 9 ^ k → start_of (cell_as k m) ≡ m * z
  unfolding start_as
  start-of m l = as-start k m h l

  pub end-of : (m : ℕ) → m < 6 * 9 ^ k → end_of (cell_as k m) ≡ suc m * z
  unfolding end_of size_of
  end-of m l =
      let e : 9 ^ (15 - (cell_as k m).resolution) ≡ z = ap (λ (i : ℕ). 9 ^ (15 - i)) (as-fine k m h l) in
      omega (arith, start-of m l, suc-mul m z)

  earlier-run : (n m d : ℕ) (zs : List Cell) → m + d ≤ 6 * 9 ^ k → n ≤ m * z → Earlier n zs → Earlier n (run k m d ++ zs)
  earlier-run n m zero zs l g e = e
  earlier-run n m (suc d) zs l g e =
      (omega (arith, start-of m (omega arith)), earlier-run n (suc m) d zs (omega arith) (omega (arith, suc-mul m z)) e)

  run-earlier : (n m d : ℕ) (zs : List Cell) → Earlier n (run k m d ++ zs) → Earlier n zs
  run-earlier n m zero zs e = e
  run-earlier n m (suc d) zs e = run-earlier n (suc m) d zs e.1

  turn-run : (m d : ℕ) (zs : List Cell) → m + suc d ≤ 6 * 9 ^ k → Earlier ((m + suc d) * z) zs → InTurn zs → InTurn (run k m (suc d) ++ zs)
  turn-run m zero zs l e t =
      let s : (m + 1) * z ≡ suc m * z = ap (λ (i : ℕ). i * z) (omega arith) in
      (earlier-less (end_of (cell_as k m)) ((m + 1) * z) zs (omega (arith, end-of m (omega arith))) e, t)
  turn-run m (suc d) zs l e t =
      let s : (m + suc (suc d)) * z ≡ (suc m + suc d) * z = ap (λ (i : ℕ). i * z) (omega arith) in
      let f : suc m * z ≤ (suc m + suc d) * z = mul-le-mul_right {m = suc m} {n = suc m + suc d} z (omega arith) in
      let g : end_of (cell_as k m) ≡ suc m * z = end-of m (omega arith) in (
        earlier-run (end_of (cell_as k m)) (suc m) (suc d) zs (omega arith) (omega arith) (earlier-less (end_of (cell_as k m)) ((m + suc (suc d)) * z) zs (omega arith) e),
        turn-run (suc m) d zs (omega arith) (earlier-less ((suc m + suc d) * z) ((m + suc (suc d)) * z) zs (omega arith) e) t,
      )

  run-turn : (m d : ℕ) (zs : List Cell) → m + suc d ≤ 6 * 9 ^ k → InTurn (run k m (suc d) ++ zs) → Earlier ((m + suc d) * z) zs × InTurn zs
  run-turn m zero zs l t =
      let s : (m + 1) * z ≡ suc m * z = ap (λ (i : ℕ). i * z) (omega arith) in
      (earlier-less ((m + 1) * z) (end_of (cell_as k m)) zs (omega (arith, end-of m (omega arith))) t.0, t.1)
  run-turn m (suc d) zs l t =
      let s : (m + suc (suc d)) * z ≡ (suc m + suc d) * z = ap (λ (i : ℕ). i * z) (omega arith) in
      let u = run-turn (suc m) d zs (omega arith) t.1 in
      (earlier-less ((m + suc (suc d)) * z) ((suc m + suc d) * z) zs (omega arith) u.0, u.1)

  -- what they cover
  covers-run : (m d : ℕ) (x : Cell) → m + d ≤ 6 * 9 ^ k → Finest x → Covers (run k m d) x → (m * z ≤ start_of x) × (start_of x < (m + d) * z)
  covers-run m zero x l f c = absurd c
  covers-run m (suc d) x l f (inl c) =
      let i = inside-finest (cell_as k m) x (cell_as_lem k m h (omega arith)) f.cell c in
      let g : suc m * z ≤ (m + suc d) * z = mul-le-mul_right {m = suc m} {n = m + suc d} z (omega arith) in
      (omega (arith, i.0, start-of m (omega arith)), omega (arith, i.1, end-of m (omega arith)))
  covers-run m (suc d) x l f (inr c) =
      let i = covers-run (suc m) d x (omega arith) f c in
      let s : (m + suc d) * z ≡ (suc m + d) * z = ap (λ (j : ℕ). j * z) (omega arith) in
      (omega (arith, i.0, suc-mul m z), omega (arith, i.1))

  run-covers : (m d : ℕ) (x : Cell) → m + d ≤ 6 * 9 ^ k → Finest x → m * z ≤ start_of x → start_of x < (m + d) * z → Covers (run k m d) x
  run-covers m zero x l f a b =
      let s : (m + 0) * z ≡ m * z = ap (λ (j : ℕ). j * z) (omega arith) in
      absurd (omega arith)
  run-covers m (suc d) x l f a b =
      let s : (m + suc d) * z ≡ (suc m + d) * z = ap (λ (j : ℕ). j * z) (omega arith) in
      ⊎_elim
      (λ g. inl (finest-inside (cell_as k m) x (cell_as_lem k m h (omega arith)) f.cell f.finest (omega (arith, start-of m (omega arith))) (omega (arith, end-of m (omega arith)))))
      (λ g. inr (run-covers (suc m) d x (omega arith) f g (omega arith)))
      (lt-or (start_of x) (suc m * z))

-- ---- the parent in the place of its nine children

module _ (k q : ℕ) (h : k < 15) (l : q < 6 * 9 ^ k) where
  sizes : 9 ^ (15 - k) ≡ 9 * 9 ^ (15 - suc k)
  sizes = let e : 15 - k ≡ suc (15 - suc k) = omega arith in ap (λ (i : ℕ). 9 ^ i) e ∙ pow-suc 9 (15 - suc k) ∙ mul_comm (9 ^ (15 - suc k)) 9

  -- the children are cells
  fit : 9 * q + 9 ≤ 6 * 9 ^ suc k
  fit =
      let e : 9 ^ suc k ≡ 9 ^ k * 9 = pow-suc 9 k in
      omega arith

  first : q * 9 ^ (15 - k) ≡ 9 * q * 9 ^ (15 - suc k)
  first =
      ap (λ (i : ℕ). q * i) sizes ∙ sym (mul_assoc q 9 (9 ^ (15 - suc k))) ∙ ap (λ (i : ℕ). i * 9 ^ (15 - suc k)) (mul_comm q 9)

  last : suc q * 9 ^ (15 - k) ≡ (9 * q + 9) * 9 ^ (15 - suc k)
  last =
      suc-mul q (9 ^ (15 - k)) ∙ ap (λ (i : ℕ). i + 9 ^ (15 - k)) first ∙ ap (λ (i : ℕ). 9 * q * 9 ^ (15 - suc k) + i) sizes ∙ sym (add-mul (9 * q) 9 (9 ^ (15 - suc k)))

  abbrev parent : Cell
  parent = cell_as k q

  abbrev children : List Cell
  children = run (suc k) (9 * q) 9

  ends : end_of parent ≡ (9 * q + 9) * 9 ^ (15 - suc k)
  ends = end-of k (omega arith) q l ∙ last

  starts : start_of parent ≡ 9 * q * 9 ^ (15 - suc k)
  starts = start-of k (omega arith) q l ∙ first

  earlier-parent : (n : ℕ) (ps zs : List Cell) → Earlier n (ps ++ (children ++ zs)) → Earlier n (ps ++ (parent ∷ zs))
  earlier-parent n [] zs e =
      (omega (arith, starts, start-of (suc k) (omega arith) (9 * q) (omega (arith, fit)), e.0), run-earlier (suc k) (omega arith) n (9 * q) 9 zs e)
  earlier-parent n (a ∷ ps) zs e = (e.0, earlier-parent n ps zs e.1)

  earlier-children : (n : ℕ) (ps zs : List Cell) → Earlier n (ps ++ (parent ∷ zs)) → Earlier n (ps ++ (children ++ zs))
  earlier-children n [] zs e = earlier-run (suc k) (omega arith) n (9 * q) 9 zs fit (omega (arith, starts, e.0)) e.1
  earlier-children n (a ∷ ps) zs e = (e.0, earlier-children n ps zs e.1)

  turn-parent : (ps zs : List Cell) → InTurn (ps ++ (children ++ zs)) → InTurn (ps ++ (parent ∷ zs))
  turn-parent [] zs t =
      let u = run-turn (suc k) (omega arith) (9 * q) 8 zs fit t in (earlier-less (end_of parent) ((9 * q + 9) * 9 ^ (15 - suc k)) zs (omega (arith, ends)) u.0, u.1)
  turn-parent (a ∷ ps) zs t = (earlier-parent (end_of a) ps zs t.0, turn-parent ps zs t.1)

  turn-children : (ps zs : List Cell) → InTurn (ps ++ (parent ∷ zs)) → InTurn (ps ++ (children ++ zs))
  turn-children [] zs t =
      turn-run (suc k) (omega arith) (9 * q) 8 zs fit (earlier-less ((9 * q + 9) * 9 ^ (15 - suc k)) (end_of parent) zs (omega (arith, ends)) t.0) t.1
  turn-children (a ∷ ps) zs t = (earlier-children (end_of a) ps zs t.0, turn-children ps zs t.1)

  module _ (zs : List Cell) (x : Cell) (f : Finest x) where
    abbrev In : Cell → Type 0
    In c = Inside c x

    covers-parent : (ps : List Cell) → Covers (ps ++ (children ++ zs)) x → Covers (ps ++ (parent ∷ zs)) x
    covers-parent [] c =
        ⊎_elim
        (λ d.
        let r = covers-run (suc k) (omega arith) (9 * q) 9 x fit f d in
        inl (finest-inside parent x (cell_as_lem k q (omega arith) l) f.cell f.finest (omega (arith, starts, r.0)) (omega (arith, ends, r.1))))
        (λ d. inr d) (any-or In children zs c)
    covers-parent (a ∷ ps) (inl c) = inl c
    covers-parent (a ∷ ps) (inr c) = inr (covers-parent ps c)

    covers-children : (ps : List Cell) → Covers (ps ++ (parent ∷ zs)) x → Covers (ps ++ (children ++ zs)) x
    covers-children [] (inl c) =
        let i = inside-finest parent x (cell_as_lem k q (omega arith) l) f.cell c in
        any_left In children zs (run-covers (suc k) (omega arith) (9 * q) 9 x fit f (omega (arith, starts, i.0)) (omega (arith, ends, i.1)))
    covers-children [] (inr c) = any-right In children zs c
    covers-children (a ∷ ps) (inl c) = inl c
    covers-children (a ∷ ps) (inr c) = inr (covers-children ps c)

  -- "nine whole children are the whole cell", in any list
  pub alike-parent : (ps zs : List Cell) → Alike (ps ++ (children ++ zs)) (ps ++ (parent ∷ zs))
  alike-parent ps zs =
      record { to = turn-parent ps zs; back = turn-children ps zs; ground = λ x f. (covers-parent zs x f ps, covers-children zs x f ps) }
