-- How the refusals of such a fix follow from those of its sine and of the fix with z. Assumes nothing.
use Rattle.std.specs.Prelude.{◌≡◌, refl, ◌↔◌, Bool, true, false, ◌&&◌, not, cond, ℕ, ◌≤◌, leb, ltb, ℤ, pos}
use Rattle.std.proofs.Common.{sym, ap, ◌∙◌, arith, leb-true, le-leb, le-ltb}
use Rattle.logic.specs.Laws.Bools.{and_left, and_right, refuted, same_truth, clash}
use Rattle.logic.specs.Refusal.{refuse, ◌otherwise◌}
use Rattle.logic.specs.Laws.Refusal.{passes, both, allowed}
use Rattle.cell.specs.declared.Cell.{Cell}
use Rattle.cell.specs.declared.Arrangement.{Arrangement}
use Rattle.cell.specs.Cell.{IsCell, IsArrangement, arrangement_refusal}
use Rattle.cell.proofs.Laws.Cell.{arrangement-is}
use Rattle.locate.specs.Fix.{InRange, in_range, fix_refusal, fix_cell}
use Rattle.locate.proofs.Laws.Fix.{fix-allowed, within-range, range-holds}
use Rattle.authalic.specs.Authalic.{Geodetic, is_geodetic}
use Rattle.authalic.specs.Computed.{authalic_sine}
use Rattle.authalic.proofs.Laws.Authalic.{authalic, geodetic-tests, geodetic-range}
use Rattle.geodetic.specs.GeodeticFix.{GeodeticRange, in_geodetic_range, geodetic_refusal, geodetic_cell, z_for}

-- ---- the range

pub range-tests : {L S : ℤ} {E : ℕ} → GeodeticRange L S E → in_geodetic_range L S E ≡ true
unfolding in_geodetic_range
range-tests {E = E} g = rw (within-range g.fix, le-leb E 10000000000 g.eccentricity)

pub range-of : {L S : ℤ} {E : ℕ} → in_geodetic_range L S E ≡ true → GeodeticRange L S E
unfolding in_geodetic_range
range-of {L = L} {S = S} {E = E} e =
    record { fix = range-holds (and_left (in_range L S) (leb E 10000000000) e); eccentricity = leb-true E 10000000000 (and_right (in_range L S) (leb E 10000000000) e) }

-- a sine and an eccentricity in range
range-geodetic : {L S : ℤ} {E : ℕ} → GeodeticRange L S E → Geodetic S E
range-geodetic g = record { south = g.fix.low; north = g.fix.high; eccentricity = g.eccentricity }

-- 6 is given exactly where L, S or E is out of range, where nothing before it is refused
pub six-exactly : {a : Arrangement} {k : ℕ} (L S : ℤ) (E : ℕ) → IsArrangement a → k ≤ 15 → (geodetic_refusal a k L S E ≡ 6) ↔ (GeodeticRange L S E → ⊥)
unfolding geodetic_refusal
six-exactly {a} {k} L S E v h =
    let e : geodetic_refusal a k L S E ≡ refuse (not (in_geodetic_range L S E)) 6 =
    passes _ (arrangement-is v) ∙ passes _ (ap (λ (t : Bool). refuse t 2) (le-ltb 15 k h)) in (
      (λ r g. one_way (in_geodetic_range L S E) (sym e ∙ r) (range-tests g)),
      (λ n. e ∙ other_way (in_geodetic_range L S E) (λ w. n (range-of w))),
    )
  where
    one_way : (t : Bool) → refuse (not t) 6 ≡ 6 → t ≡ true → ⊥
    one_way true r w = omega arith
    one_way false r w = clash (sym w)

    other_way : (t : Bool) → (t ≡ true → ⊥) → refuse (not t) 6 ≡ 6
    other_way true n = absurd (n refl)
    other_way false n = refl

-- ---- from the sine's refusal

-- with S and E in range z is, and L decides: such a fix is refused as the fix with z
in-range-both : (L S z : ℤ) (E : ℕ) → Geodetic S E → Geodetic z E → in_range L z ≡ in_geodetic_range L S E
in-range-both L S z E g h =
    same_truth (in_range L z) (in_geodetic_range L S E)
    (λ e.
    let r = range-holds {L = L} {z = z} e in
    range-tests (record { fix = record { west = r.west; east = r.east; low = g.south; high = g.north }; eccentricity = g.eccentricity }))
    (λ e. let r = range-of {L = L} {S = S} {E = E} e in within-range (record { west = r.fix.west; east = r.fix.east; low = h.south; high = h.north }))

answered : {S : ℤ} {E : ℕ} → Geodetic S E → Geodetic (authalic_sine S E) E
answered {S} {E} g = record { south = authalic.low S E g; north = authalic.high S E g; eccentricity = g.eccentricity }

pub same-refusal : (a : Arrangement) (k : ℕ) (L S : ℤ) (E : ℕ) → Geodetic S E → fix_refusal a k L (authalic_sine S E) ≡ geodetic_refusal a k L S E
unfolding fix_refusal geodetic_refusal
same-refusal a k L S E g =
    ap (λ (t : Bool). arrangement_refusal a otherwise refuse (ltb 15 k) 2 otherwise refuse (not t) 6) (in-range-both L S (authalic_sine S E) E g (answered g))

-- with S or E out of range it is 6, after 5 and 2
pub last-refusal : (a : Arrangement) (k : ℕ) (L S : ℤ) (E : ℕ) → is_geodetic S E ≡ false → geodetic_refusal a k L S E ≡ arrangement_refusal a otherwise refuse (ltb 15 k) 2 otherwise 6
unfolding geodetic_refusal
last-refusal a k L S E h =
    ap (λ (t : Bool). arrangement_refusal a otherwise refuse (ltb 15 k) 2 otherwise refuse (not t) 6)
    (refuted (in_geodetic_range L S E) (λ e. clash (sym (geodetic-tests (range-geodetic (range-of {L = L} {S = S} {E = E} e))) ∙ h)))

-- where nothing is refused, the answer is a cell
pub geodetic-allowed : (a : Arrangement) (k : ℕ) (L S : ℤ) (E : ℕ) → geodetic_refusal a k L S E ≡ 0 → IsArrangement a × IsCell (geodetic_cell a k L S E)
unfolding geodetic_refusal geodetic_cell
geodetic-allowed a k L S E e =
    let t = allowed 5 _ (both _ _ (both _ _ e).1).1 in
    let g = range-geodetic (range-of {L = L} {S = S} {E = E} (not-false (in_geodetic_range L S E) t)) in
    fix-allowed a k L (authalic_sine S E) (same-refusal a k L S E g ∙ e)
  where
    not-false : (b : Bool) → not b ≡ false → b ≡ true
    not-false true q = refl
    not-false false q = sym q

-- ---- by z alone

none_out : (L : ℤ) → in_range L (pos 2000000000000000000) ≡ false
none_out L = refuted (in_range L (pos 2000000000000000000)) (λ e. (range-holds {L = L} {z = pos 2000000000000000000} e).high.le)

not_none : (r q : ℕ) → (q ≡ 0 → ⊥) → r otherwise q ≡ 0 → ⊥
not_none r q n e = n (both r q e).1

-- what is made of the refusal and the cell, and with a refusal not of the cell, is made of the fix with z
pub by-z {ℓ} :
    {X : Type ℓ} (f : ℕ → Cell → X) → ((r : ℕ) (c d : Cell) → (r ≡ 0 → ⊥) → f r c ≡ f r d) → (a : Arrangement) (k : ℕ) (L S : ℤ) (E : ℕ) →
    f (fix_refusal a k L (z_for S E)) (fix_cell a k L (z_for S E)) ≡ f (geodetic_refusal a k L S E) (geodetic_cell a k L S E)
unfolding z_for geodetic_cell fix_refusal
by-z {X = X} f same a k L S E = go (is_geodetic S E) refl
  where
    go : (t : Bool) → is_geodetic S E ≡ t →
        f (fix_refusal a k L (cond t (authalic_sine S E) (pos 2000000000000000000))) (fix_cell a k L (cond t (authalic_sine S E) (pos 2000000000000000000)))
        ≡ f (geodetic_refusal a k L S E) (fix_cell a k L (authalic_sine S E))
    go true e = ap (λ (r : ℕ). f r (fix_cell a k L (authalic_sine S E))) (same-refusal a k L S E (geodetic-range e))
    go false e =
        let p : fix_refusal a k L (pos 2000000000000000000) ≡ arrangement_refusal a otherwise refuse (ltb 15 k) 2 otherwise 6 =
        ap (λ (t : Bool). arrangement_refusal a otherwise refuse (ltb 15 k) 2 otherwise refuse (not t) 6) (none_out L) in
        let q = last-refusal a k L S E e in
        ap (λ (r : ℕ). f r (fix_cell a k L (pos 2000000000000000000))) (p ∙ sym q)
        ∙ same (geodetic_refusal a k L S E) (fix_cell a k L (pos 2000000000000000000)) (fix_cell a k L (authalic_sine S E))
        (λ z. not_none (arrangement_refusal a) _ (not_none (refuse (ltb 15 k) 2) 6 (λ y. omega arith)) (sym q ∙ z))
