-- A fix with a geodetic latitude (02, W-203), over what the entries answer: z is what the request asks, and "For such a fix z is our answer". Assumes
-- nothing.
use Rattle.std.specs.Prelude.{◌≡◌, refl, Bool, true, false, ◌&&◌, not, ℕ, zero, suc, ◌^◌, ◌≤◌, ℤ, pos, negsuc, neg_ℤ, ◌≤ℤ◌, leb}
use Rattle.std.proofs.Common.{sym, ap, ap₂, subst, ◌∙◌, arith, leb-true, le-leb}
use Rattle.logic.specs.Laws.Bools.{and_left, refuted, same_truth}
use Rattle.logic.specs.Refusal.{refuse, given}
use Rattle.locate.specs.Fix.{fix_cell}
use Rattle.authalic.specs.Sums.{Near}
use Rattle.authalic.specs.Authalic.{Geodetic, is_geodetic, is_sine, sine_refusal, Authalic}
use Rattle.authalic.specs.Computed.{authalic_sine}
use Rattle.authalic.proofs.Laws.Authalic.{authalic, geodetic-tests, geodetic-range}
use Rattle.geodetic.specs.GeodeticFix.{geodetic_cell}
use Rattle.geodetic.proofs.Laws.GeodeticFix.{same-refusal}
use Rattle.code.specs.Code.{code_of}
use Rattle.entries.specs.Entries.{arrangement, code_answer, fix_code, geodetic_z, geodetic_code}

-- what jgv_geodetic_z answers beside its refusal
abbrev pub z_of : (S : ℤ) (E : ℕ) → ℤ
z_of S E = (geodetic_z S E).z

-- in range it is our answer
answered : {S : ℤ} {E : ℕ} → Geodetic S E → z_of S E ≡ authalic_sine S E
unfolding geodetic_z sine_refusal given
answered {S} {E} g = ap (λ (t : Bool). given (refuse (not t) 6) (authalic_sine S E) (pos 0)) (geodetic-tests g)

-- out of range it is 0
pub z-refused : (S : ℤ) (E : ℕ) → (Geodetic S E → ⊥) → geodetic_z S E ≡ record { refusal = 6; z = pos 0 }
unfolding geodetic_z sine_refusal given
z-refused S E h =
    ap (λ (t : Bool). record { refusal = refuse (not t) 6; z = given (refuse (not t) 6) (authalic_sine S E) (pos 0) })
    (refuted (is_geodetic S E) (λ e. h (geodetic-range e)))

-- jgv_geodetic_code is jgv_fix_code with the z of jgv_geodetic_z
pub geodetic-by-z : (n s k : ℕ) (L S : ℤ) (E : ℕ) → Geodetic S E → geodetic_code n s k L S E ≡ fix_code n s k L (z_of S E)
unfolding geodetic_code fix_code geodetic_cell
geodetic-by-z n s k L S E g =
    ap (λ (r : ℕ). code_answer r (code_of (arrangement n s) (fix_cell (arrangement n s) k L (authalic_sine S E)))) (sym (same-refusal (arrangement n s) k L S E g))
    ∙ ap (fix_code n s k L) (sym (answered g))

-- ---- z is what the request asks

opposite-size : (n : ℕ) → (leb n 999999999999999999 && true) ≡ leb (suc n) (10 ^ 18)
opposite-size n =
    same_truth (leb n 999999999999999999 && true) (leb (suc n) (10 ^ 18))
    (λ e. let h = leb-true n 999999999999999999 (and_left (leb n 999999999999999999) true e) in le-leb (suc n) (10 ^ 18) (omega arith))
    (λ e. let h = leb-true (suc n) (10 ^ 18) e in ap (λ (t : Bool). t && true) (le-leb n 999999999999999999 (omega arith)))

-- the range has with a number its opposite
opposite-sine : (S : ℤ) → is_sine (neg_ℤ S) ≡ is_sine S
unfolding is_sine
opposite-sine (pos zero) = refl
opposite-sine (pos (suc n)) = opposite-size n
opposite-sine (negsuc n) = sym (opposite-size n)

opposite-range : (S : ℤ) (E : ℕ) → is_geodetic (neg_ℤ S) E ≡ is_geodetic S E
unfolding is_geodetic
opposite-range S E = ap (λ (t : Bool). t && leb E 10000000000) (opposite-sine S)

-- our answer in range, and 0 beside a refusal
abbrev by : Bool → ℤ → ℤ
by t z = given (refuse (not t) 6) z (pos 0)

by-opposite : (t : Bool) (z : ℤ) → by t (neg_ℤ z) ≡ neg_ℤ (by t z)
unfolding given
by-opposite true z = refl
by-opposite false z = refl

by_zero : (t : Bool) → by t (pos 0) ≡ pos 0
unfolding given
by_zero true = refl
by_zero false = refl

z-odd : (S : ℤ) (E : ℕ) → z_of (neg_ℤ S) E ≡ neg_ℤ (z_of S E)
unfolding geodetic_z sine_refusal
z-odd S E = ap₂ by (opposite-range S E) (authalic.odd S E) ∙ by-opposite (is_geodetic S E) (authalic_sine S E)

z-equator : (E : ℕ) → z_of (pos 0) E ≡ pos 0
unfolding geodetic_z sine_refusal
z-equator E = ap (by (is_geodetic (pos 0) E)) (authalic.equator E) ∙ by_zero (is_geodetic (pos 0) E)

-- so what jgv_geodetic_z answers is near, odd, exact at 0 and at both poles, never outside, the sine itself on a sphere, and rising
pub z-authalic : Authalic z_of
z-authalic =
    record {
      near = λ S E g. subst (Near 200 E S) (sym (answered g)) (authalic.near S E g);
      odd = z-odd;
      equator = z-equator;
      north = λ E h. answered (record { south = record { le = tt }; north = record { le = tt }; eccentricity = h }) ∙ authalic.north E h;
      south = λ E h. answered (record { south = record { le = tt }; north = record { le = tt }; eccentricity = h }) ∙ authalic.south E h;
      low = λ S E g. subst (λ (z : ℤ). neg_ℤ (pos (10 ^ 18)) ≤ℤ z) (sym (answered g)) (authalic.low S E g);
      high = λ S E g. subst (λ (z : ℤ). z ≤ℤ pos (10 ^ 18)) (sym (answered g)) (authalic.high S E g);
      sphere = λ S g. answered g ∙ authalic.sphere S g;
      rises = λ S T E g h l. subst (λ (z : ℤ). z ≤ℤ z_of T E) (sym (answered g)) (subst (λ (z : ℤ). authalic_sine S E ≤ℤ z) (sym (answered h)) (authalic.rises S T E g h l));
    }
