-- The south is the north in a mirror: numbers, points and rows of a cap, seen in it. Assumes nothing.
use Rattle.std.specs.Prelude.{◌≡◌, refl, Bool, true, false, cond, ℕ, zero, suc, ◌-◌, ◌*◌, ◌≤◌, ◌<◌, ℤ, pos, negsuc, neg_ℤ, nat_abs, ◌*ℤ◌, T}
use Rattle.std.proofs.Common.{sym, ap, ◌∙◌, subst, arith, ltb→lt, lt-ltb, le-ltb}
use Rattle.std.proofs.Math.IntN.{sub_ℕ, neg_ℤ-neg_ℤ}
use Rattle.std.specs.Int.Signed.{lt_z, lt_z_yes}
use Rattle.signed.specs.Laws.Sign.{sub-neg, sub_same}
use Rattle.signed.specs.Laws.Times.{times-neg}
use Rattle.cell.specs.Neighbour.{turn_of}
use Rattle.locate.specs.Fix.{CapPoint, quarter, turned_north, turned_south}
use Rattle.locate.proofs.Laws.Turn.{opposite-size}
use Rattle.nucleus.specs.Nucleus.{quotient, remainder, north_point, south_point}
use Rattle.nucleus.specs.Internal.Caps.{cap_point, Beyond, sided, seen, row_seen, times}
use Rattle.nucleus.specs.Internal.Triangle.{middle}

-- ---- numbers

sided-twice : (south : Bool) (v : ℤ) → sided south (sided south v) ≡ v
sided-twice true v = neg_ℤ-neg_ℤ v
sided-twice false v = refl

pub sided-size : (south : Bool) (v : ℤ) → nat_abs (sided south v) ≡ nat_abs v
sided-size true v = opposite-size v
sided-size false v = refl

sided-times : (south : Bool) (k : ℕ) (v : ℤ) → sided south (pos k *ℤ v) ≡ pos k *ℤ sided south v
sided-times true k v = times-neg k v
sided-times false k v = refl

-- the sign of a number that is not 0
pub sided-sign : (south : Bool) (n : ℕ) → 0 < n → (lt_z (sided south (pos n)) (pos 0) ≡ south) × Beyond south (sided south (pos n))
sided-sign south zero h = absurd (omega arith)
sided-sign true (suc n) h = (refl, lt_z_yes tt)
sided-sign false (suc n) h = (le-ltb (suc n) 0 (omega arith), lt_z_yes (subst T (sym (lt-ltb 0 (suc n) (omega arith))) tt))

beyond-is : (south : Bool) (u : ℤ) → Beyond south u → u ≡ sided south (pos (nat_abs u))
beyond-is true (pos n) h = let l = ltb→lt n 0 h.lt in absurd (omega arith)
beyond-is true (negsuc n) h = refl
beyond-is false (pos n) h = refl
beyond-is false (negsuc n) h = absurd h.lt

-- a fraction u / v of a cap by its size
pub sided-fraction : (south : Bool) (k v n : ℕ) (u : ℤ) → Beyond south u → k * nat_abs u ≡ v * n → pos k *ℤ u ≡ pos v *ℤ sided south (pos n)
sided-fraction south k v n u h e =
    ap (λ (y : ℤ). pos k *ℤ y) (beyond-is south u h)
    ∙ sym (sided-times south k (pos (nat_abs u)))
    ∙ ap (λ (y : ℕ). sided south (pos y)) e
    ∙ sided-times south v (pos n)

-- ---- points

seen_twice : (south : Bool) (x : CapPoint) → seen south (seen south x) ≡ x
seen_twice south x = λ i. (x.0, sided-twice south x.1 i)

seen-times : (south : Bool) (k : ℕ) (x : CapPoint) → seen south (times k x) ≡ times k (seen south x)
seen-times south k x = λ i. (pos k *ℤ x.0, sided-times south k x.1 i)

-- an equation of multiples, seen in the mirror
pub multiples-seen : (south : Bool) (k j : ℕ) (x y : CapPoint) → times k x ≡ times j y → times k (seen south x) ≡ times j (seen south y)
multiples-seen south k j x y e = sym (seen-times south k x) ∙ ap (seen south) e ∙ seen-times south j y

pub south-seen : (r : ℕ) (x : CapPoint) → seen true (turned_south r x) ≡ turned_north r (seen true x)
unfolding turned_north turned_south
south-seen zero x = refl
south-seen (suc r) x = south-seen r (x.1, neg_ℤ x.0) ∙ ap (turned_north r) (λ i. (sym (neg_ℤ-neg_ℤ x.1) i, neg_ℤ-neg_ℤ x.0 i))

-- turns undo each other
pub turned-back : (r : ℕ) (x : CapPoint) → turned_south r (turned_north r x) ≡ x
unfolding turned_north turned_south
turned-back zero x = refl
turned-back (suc r) x = ap (turned_south r) (past r (neg_ℤ x.1, x.0)) ∙ turned-back r (x.0, neg_ℤ (neg_ℤ x.1)) ∙ (λ i. (x.0, neg_ℤ-neg_ℤ x.1 i))
  where
    past : (r : ℕ) (y : CapPoint) → ((turned_north r y).1, neg_ℤ (turned_north r y).0) ≡ turned_north r (y.1, neg_ℤ y.0)
    past zero y = refl
    past (suc r) y = past r (neg_ℤ y.1, y.0) ∙ ap (turned_north r) (λ i. (sym (neg_ℤ-neg_ℤ y.0) i, neg_ℤ-neg_ℤ y.1 i))

pub turned-forth : (r : ℕ) (x : CapPoint) → turned_north r (turned_south r x) ≡ x
turned-forth r x =
    ap (turned_north r) (sym (seen_twice true (turned_south r x)) ∙ ap (seen true) (south-seen r x))
    ∙ sym (south-seen r (turned_north r (seen true x)))
    ∙ ap (seen true) (turned-back r (seen true x))
    ∙ seen_twice true x

-- a start, turned
pub start_seen :
    (south : Bool) (r : ℕ) (s : ℤ) (d : ℕ) →
    cond south (turned_south r (s, pos d)) (turned_north r (s, neg_ℤ (pos d))) ≡ seen south (turned_north r (s, neg_ℤ (pos d)))
start_seen true r s d = sym (seen_twice true (turned_south r (s, pos d))) ∙ ap (seen true) (south-seen r (s, pos d))
start_seen false r s d = refl

pub point-seen : (south : Bool) (n e d : ℕ) → cap_point south n e d ≡ seen south (north_point n e d)
unfolding north_point south_point
point-seen south n e d = start_seen south (turn_of (quotient e d) n) (sub_ℕ (2 * remainder e d) (d * quarter)) (d * quarter)

pub point-back : (south : Bool) (n e d : ℕ) → seen south (cap_point south n e d) ≡ north_point n e d
point-back south n e d = ap (seen south) (point-seen south n e d) ∙ seen_twice south (north_point n e d)

-- ---- the middle of a cell

module _ (south : Bool) (m a b : ℕ) (l : b ≤ 2 * m) where
  pub middle-seen : seen south (middle m a b) ≡ middle m a (row_seen south m b)
  middle-seen = go south
    where
      go : (t : Bool) → seen t (middle m a b) ≡ middle m a (row_seen t m b)
      go true = λ i. (sub_ℕ a m, (sub-neg m b ∙ sub_same b m m (2 * m - b) (omega arith)) i)
      go false = refl

  pub middle-back : seen south (middle m a (row_seen south m b)) ≡ middle m a b
  middle-back = ap (seen south) (sym middle-seen) ∙ seen_twice south (middle m a b)
