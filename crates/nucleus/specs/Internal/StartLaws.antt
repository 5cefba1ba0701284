-- A cap's ground nucleus by its start: turned back, the middle of a cell is the start. The south is the north in a mirror. Assumes nothing.
use Rattle.std.specs.Prelude.{◌≡◌, refl, Bool, true, false, ◌&&◌, cond, ℕ, ◌+◌, ◌-◌, ◌*◌, ◌≤◌, ℤ, pos, neg_ℤ, nat_abs, ◌+ℤ◌, eqb}
use Rattle.std.proofs.Common.{sym, ap, ap₂, ◌∙◌, arith, eq-eqb, ne_eqb, eqb-true}
use Rattle.std.proofs.Math.IntN.{sub_ℕ, neg_ℤ-neg_ℤ}
use Rattle.std.specs.Int.Signed.{le_z, lt_z}
use Rattle.std.proofs.lemmas.Bool.{eqb-false}
use Rattle.logic.specs.Laws.Bools.{clash, not-both}
use Rattle.signed.specs.Laws.Sign.{sub-size, sub_more}
use Rattle.locate.specs.Fix.{CapPoint, turned_north, turned_south}
use Rattle.locate.proofs.Laws.Turn.{opposite-size}
use Rattle.nucleus.specs.declared.Fix.{Fix}
use Rattle.nucleus.specs.Nucleus.{starts_north, starts_south, first_of, turns_north, turns_south, tall_of, along_of, centred, fix, cap_longitude, south_z, north_nucleus, south_nucleus}
use Rattle.nucleus.specs.Internal.Caps.{cap_z, cap_nucleus, seen, row_seen, pole_of}
use Rattle.nucleus.specs.Internal.Triangle.{middle, OffCentre, IsStart}
use Rattle.nucleus.specs.Internal.MirrorLaws.{turned-back, south-seen, middle-back}

-- ---- a start in the mirror

starts-seen : (x : CapPoint) → starts_south (seen true x) ≡ starts_north x
unfolding starts_north starts_south
starts-seen x = ap (λ (v : ℤ). le_z v x.0 && lt_z x.0 (neg_ℤ x.1)) (neg_ℤ-neg_ℤ x.1)

turns-seen : (x : CapPoint) → turns_south (seen true x) ≡ turns_north x
unfolding turns_north turns_south
turns-seen x = λ i. first_of (λ r. (ap starts_south (sym (south-seen r x)) ∙ starts-seen (turned_south r x)) i)

-- ---- the centre

zero_is : (x a b : ℕ) → (x ≡ 0 → a ≡ b) → (a ≡ b → x ≡ 0) → eqb x 0 ≡ eqb a b
zero_is x a b f g = go (eqb a b) refl
  where
    go : (t : Bool) → eqb a b ≡ t → eqb x 0 ≡ t
    go true e = eq-eqb x 0 (g (eqb-true a b e))
    go false e = ne_eqb x 0 (λ h. eqb-false a b e (f h))

pub centred-is : (m a b : ℕ) → centred (middle m a b) ≡ (eqb a m && eqb b m)
unfolding centred
centred-is m a b =
    let p = sub-size a m in
    let q = sub-size m b in
    ap₂ ◌&&◌ (zero_is (nat_abs (sub_ℕ a m)) a m (λ h. omega arith) (λ h. omega arith)) (zero_is (nat_abs (sub_ℕ m b)) b m (λ h. omega arith) (λ h. omega arith))

pub centred-yes : (m a b : ℕ) → a ≡ m → b ≡ m → centred (middle m a b) ≡ true
centred-yes m a b p q = centred-is m a b ∙ rw (eq-eqb a m p, eq-eqb b m q)

centred-no : (m a b : ℕ) → OffCentre m a b → centred (middle m a b) ≡ false
centred-no m a b n = centred-is m a b ∙ not-both a m b m n

pub off-centre : (m a b : ℕ) → centred (middle m a b) ≡ false → OffCentre m a b
off-centre m a b e p q = clash (sym (centred-yes m a b p q) ∙ e)

-- ---- the ground nucleus by the start

module _ (south : Bool) (n m : ℕ) where
  -- of a start that was turned so often, and of a middle that is seen in the north
  abbrev at : ℕ → CapPoint → Fix
  at t y = fix (cap_longitude n t (tall_of y) (along_of y)) (cap_z south m (tall_of y))

  abbrev of_seen : CapPoint → Fix
  of_seen x = cond (centred x) (pole_of south) (at (turns_north x) (turned_south (turns_north x) x))

nucleus-seen : (south : Bool) (n m : ℕ) (x : CapPoint) → cap_nucleus south n m (seen south x) ≡ of_seen south n m x
unfolding north_nucleus south_nucleus centred
nucleus-seen true n m x =
    let r : ℕ = turns_north x in
    let y : CapPoint = turned_south r x in
    let c : centred (seen true x) ≡ centred x = ap (λ (v : ℕ). eqb (nat_abs x.0) 0 && eqb v 0) (opposite-size x.1) in
    (λ i. cond (c i) (pole_of true) (at true n m (turns-seen x i) (turned_north (turns-seen x i) (seen true x))))
    ∙ ap (λ (z : CapPoint). cond (centred x) (pole_of true) (at true n m r z)) (sym (south-seen r x))
    ∙ ap (λ (h : ℕ). cond (centred x) (pole_of true) (fix (cap_longitude n r h (nat_abs (y.0 +ℤ pos h))) (south_z m h))) (opposite-size y.1)
nucleus-seen false n m x = refl

-- the place along a start
along-is : (e h : ℕ) → nat_abs (sub_ℕ e h +ℤ pos h) ≡ e
along-is e h = ap nat_abs (sub_more e h h) ∙ omega (arith, sub-size (e + h) h)

pub cap-is :
    (south : Bool) (n m a b r h e : ℕ) → b ≤ 2 * m → IsStart m a (row_seen south m b) r h e →
    cap_nucleus south n m (middle m a b) ≡ fix (cap_longitude n r h e) (cap_z south m h)
cap-is south n m a b r h e l s =
    let x : CapPoint = middle m a (row_seen south m b) in
    let back : turned_south r x ≡ (sub_ℕ e h, neg_ℤ (pos h)) = ap (turned_south r) (sym s.point) ∙ turned-back r (sub_ℕ e h, neg_ℤ (pos h)) in
    ap (λ (z : CapPoint). cap_nucleus south n m z) (sym (middle-back south m a b l))
    ∙ nucleus-seen south n m x
    ∙ (λ i. cond (centred-no m a (row_seen south m b) s.apart i) (pole_of south) (at south n m (s.turns i) (turned_south (s.turns i) x)))
    ∙ ap (at south n m r) back
    ∙ ap (λ (t : ℕ). fix (cap_longitude n r t (nat_abs (sub_ℕ e h +ℤ pos t))) (cap_z south m t)) (opposite-size (pos h))
    ∙ ap (λ (t : ℕ). fix (cap_longitude n r h t) (cap_z south m h)) (along-is e h)

-- the poles
pub pole-is : (south : Bool) (n m : ℕ) (x : CapPoint) → centred x ≡ true → cap_nucleus south n m x ≡ pole_of south
unfolding north_nucleus south_nucleus
pole-is true n m x e = rw e
pole-is false n m x e = rw e
