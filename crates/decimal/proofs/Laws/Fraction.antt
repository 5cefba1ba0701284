-- Numbers with a decimal point: exactly which bytes write one, and which one; it is below 10^15, over a power of ten of at most 10^15. Assumes nothing.
use Rattle.std.proofs.Math.Path.{◌≡◌, refl}
use Rattle.std.proofs.Common.{sym, ap, ap₂, ◌∙◌, subst, inl, inr, add-mul, mul_assoc, zero-mul, mul-le-mul_right, zero-lt-suc, arith, pow-add, length-append, leb-true, le-leb, eqb-true, eq-eqb, ne_eqb}
use Rattle.std.specs.Prelude.{◌⊎◌, Bool, ◌&&◌, List, [], ◌∷◌, ◌++◌, map, ℕ, suc, ◌+◌, ◌-◌, ◌*◌, ◌^◌, ◌≤◌, ◌<◌, eqb, length, None, Option, Some}
use Rattle.std.proofs.Math.Bool.{true, false, cond}
use Rattle.std.proofs.lemmas.List.{map-append, length-map}
use Rattle.std.proofs.Math.Nat.{pow-le-pow_right}
use Rattle.std.proofs.Math.Dec.{leb}
use Rattle.std.proofs.lemmas.Bool.{eqb-false}
use Rattle.logic.specs.Laws.Bools.{and_left, and_right}
use Rattle.logic.specs.Laws.Answer.{some-is}
use Rattle.ternary.specs.Digits.{value, Below}
use Rattle.ternary.proofs.Laws.Digits.{value-below}
use Rattle.decimal.specs.Decimal.{is_decimal, all_decimal, decimal_value, whole_in, ahead, behind}
use Rattle.decimal.specs.Fraction.{as_fraction, whole_fraction, with_places, point_fraction, fraction_in}
use Rattle.decimal.proofs.Laws.Decimal.{Free, free-digits, ahead-free, behind-free}

ten-up : (i j : ℕ) → i ≤ j → 10 ^ i ≤ 10 ^ j
ten-up i j h = pow-le-pow_right (zero-lt-suc 9) h

below : (bs : List ℕ) → all_decimal bs ≡ true → Below 10 (map (λ (b : ℕ). b - 48) bs)
unfolding all_decimal
below [] e = tt
below (b ∷ bs) e =
    let d = and_left (is_decimal b) (all_decimal bs) e in
    let h = leb-true b 57 (and_right (leb 48 b) (leb b 57) d) in
    (omega arith, below bs (and_right (is_decimal b) (all_decimal bs) e))

whole_is : (bs : List ℕ) (n : ℕ) → whole_in bs ≡ Some n → (all_decimal bs ≡ true) × (n ≡ decimal_value bs)
unfolding whole_in
whole_is bs n e = go (leb 1 (length bs) && (leb (length bs) 19 && all_decimal bs)) refl e
  where
    go : (t : Bool) → (leb 1 (length bs) && (leb (length bs) 19 && all_decimal bs)) ≡ t → cond t (Some (decimal_value bs)) None ≡ Some n →
        (all_decimal bs ≡ true) × (n ≡ decimal_value bs)
    go true h f = (and_right (leb (length bs) 19) (all_decimal bs) (and_right (leb 1 (length bs)) (leb (length bs) 19 && all_decimal bs) h), cc)
    go false h f = let z : ◌≡◌ {A = ℕ} 0 1 = cc in absurd (omega arith)

-- so many digits write a number below that power of ten
pub whole_below : (bs : List ℕ) (n : ℕ) → whole_in bs ≡ Some n → n < 10 ^ length bs
whole_below bs n e =
    let w = whole_is bs n e in
    let h = value-below 10 (map (λ (b : ℕ). b - 48) bs) (below bs w.0) in
    let l = ap (λ (k : ℕ). 10 ^ k) (length-map bs (λ (b : ℕ). b - 48)) in
    omega (arith, w.1)

-- front and back together
both_below : (front back p k : ℕ) → front < 10 ^ p → back < 10 ^ k → p + k ≤ 15 → front * 10 ^ k + back < 10 ^ 15
both_below front back p k f b h =
    let m : (front + 1) * 10 ^ k ≤ 10 ^ p * 10 ^ k = mul-le-mul_right (10 ^ k) (omega arith) in
    let a : (front + 1) * 10 ^ k ≡ front * 10 ^ k + 1 * 10 ^ k = add-mul front 1 (10 ^ k) in
    let q : 10 ^ (p + k) ≡ 10 ^ p * 10 ^ k = pow-add 10 p k in
    let t : 10 ^ (p + k) ≤ 10 ^ 15 = ten-up (p + k) 15 h in
    omega arith

pub scaled-below : (front back p k : ℕ) {scale : ℕ} → scale ≡ 10 ^ k → front < 10 ^ p → back < 10 ^ k → p + k ≤ 15 → front * scale + back < 10 ^ 15
scaled-below front back p k e f b h = subst (λ (x : ℕ). front * x + back < 10 ^ 15) (sym e) (both_below front back p k f b h)

-- ahead of the point, the point, and behind it
pub about-point : (s : List ℕ) → (length (ahead 46 s) ≡ length s → ⊥) → length (ahead 46 s) + 1 + length (behind 46 s) ≡ length s
about-point [] n = absurd (n refl)
about-point (b ∷ s) n = go (about-point s) (eqb b 46) n
  where
    go : ((length (ahead 46 s) ≡ length s → ⊥) → length (ahead 46 s) + 1 + length (behind 46 s) ≡ length s) → (t : Bool) →
        (length (cond t [] (b ∷ ahead 46 s)) ≡ suc (length s) → ⊥) → length (cond t [] (b ∷ ahead 46 s)) + 1 + length (cond t s (behind 46 s)) ≡ suc (length s)
    go f true n = omega arith
    go f false n = omega (arith, f (λ e. n (ap suc e)))

-- a number and the power of ten under it
abbrev Small : ℕ → ℕ → Type 0
Small n d = (n < 10 ^ 15) × (0 < d) × (d ≤ 10 ^ 15)

module _ (n d : ℕ) where
  small-whole : (bs : List ℕ) (w : Option ℕ) → whole_in bs ≡ w → length bs ≤ 15 → as_fraction w ≡ Some (n, d) → Small n d
  small-whole bs (Some m) e h f =
      let k = ap (λ (x : ℕ × ℕ). x.0) (some-is f) in
      let o = ap (λ (x : ℕ × ℕ). x.1) (some-is f) in
      let t = ten-up (length bs) 15 h in
      (omega (arith, whole_below bs m e), omega arith, omega arith)
  small-whole bs None e h f = let z : ◌≡◌ {A = ℕ} 0 1 = cc in absurd (omega arith)

  small-places : (bs cs : List ℕ) (w v : Option ℕ) → whole_in bs ≡ w → whole_in cs ≡ v → length bs + length cs ≤ 15 → with_places (length cs) w v ≡ Some (n, d) → Small n d
  small-places bs cs (Some x) (Some y) e g h f =
      let k = ap (λ (x : ℕ × ℕ). x.0) (some-is f) in
      let o = ap (λ (x : ℕ × ℕ). x.1) (some-is f) in
      let b = both_below x y (length bs) (length cs) (whole_below bs x e) (whole_below cs y g) h in
      let t = ten-up (length cs) 15 (omega arith) in
      let p = ten-up 0 (length cs) (omega arith) in
      (omega arith, omega arith, omega arith)
  small-places bs cs (Some x) None e g h f = let z : ◌≡◌ {A = ℕ} 0 1 = cc in absurd (omega arith)
  small-places bs cs None v e g h f = let z : ◌≡◌ {A = ℕ} 0 1 = cc in absurd (omega arith)

  pub fraction-small : (bs : List ℕ) → fraction_in bs ≡ Some (n, d) → Small n d
  unfolding fraction_in whole_fraction point_fraction
  fraction-small bs e = go (eqb (length (ahead 46 bs)) (length bs)) refl e
    where
      short : (t : Bool) → leb (length bs) 15 ≡ t → cond t (as_fraction (whole_in bs)) None ≡ Some (n, d) → Small n d
      short true h f = small-whole bs (whole_in bs) refl (leb-true (length bs) 15 h) f
      short false h f = let z : ◌≡◌ {A = ℕ} 0 1 = cc in absurd (omega arith)

      long : (length (ahead 46 bs) ≡ length bs → ⊥) → (t : Bool) → leb (length bs) 16 ≡ t →
          cond t (with_places (length (behind 46 bs)) (whole_in (ahead 46 bs)) (whole_in (behind 46 bs))) None ≡ Some (n, d) → Small n d
      long p true h f =
          let k = about-point bs p in
          let m = leb-true (length bs) 16 h in
          small-places (ahead 46 bs) (behind 46 bs) (whole_in (ahead 46 bs)) (whole_in (behind 46 bs)) refl refl (omega arith) f
      long p false h f = let z : ◌≡◌ {A = ℕ} 0 1 = cc in absurd (omega arith)

      go : (t : Bool) → eqb (length (ahead 46 bs)) (length bs) ≡ t → cond t (whole_fraction bs) (point_fraction bs) ≡ Some (n, d) → Small n d
      go true h f = short (leb (length bs) 15) refl f
      go false h f = long (eqb-false (length (ahead 46 bs)) (length bs) h) (leb (length bs) 16) refl f

-- ---- exactly what is taken

-- some digits, as many as this at most
abbrev pub Written : ℕ → List ℕ → Type 0
Written most bs = (all_decimal bs ≡ true) × (0 < length bs) × (length bs ≤ most)

whole-taken : (bs : List ℕ) → Written 19 bs → whole_in bs ≡ Some (decimal_value bs)
unfolding whole_in
whole-taken bs w = simp (le-leb 1 (length bs) w.1, le-leb (length bs) 19 w.2, w.0)

ahead-all : (stop : ℕ) (bs : List ℕ) → Free stop bs → ahead stop bs ≡ bs
ahead-all stop [] f = refl
ahead-all stop (b ∷ bs) f = simp (ne_eqb b stop f.0) (ap (λ (l : List ℕ). b ∷ l) (ahead-all stop bs f.1))

-- 1 to 15 digits alone are the number they write
pub whole-read : (bs : List ℕ) → Written 15 bs → fraction_in bs ≡ Some (decimal_value bs, 1)
unfolding fraction_in whole_fraction
whole-read bs w =
    let a = ap length (ahead-all 46 bs (free-digits 46 bs (omega arith) w.0)) in
    simp (eq-eqb (length (ahead 46 bs)) (length bs) a, le-leb (length bs) 15 w.2)
    (ap as_fraction (whole-taken bs (w.0, w.1, omega (arith, w.2))))

value-both : (ds es : List ℕ) → value 10 (ds ++ es) ≡ value 10 ds * 10 ^ length es + value 10 es
unfolding value
value-both [] es = omega (arith, zero-mul (10 ^ length es))
value-both (d ∷ ds) es =
    let n : length (ds ++ es) ≡ length ds + length es = length-append ds es in
    let p : d * 10 ^ length (ds ++ es) ≡ d * 10 ^ length ds * 10 ^ length es =
    ap (λ (x : ℕ). d * 10 ^ x) n ∙ ap (λ (x : ℕ). d * x) (pow-add 10 (length ds) (length es)) ∙ sym (mul_assoc d (10 ^ length ds) (10 ^ length es)) in
    let q = value-both ds es in
    let r = add-mul (d * 10 ^ length ds) (value 10 ds) (10 ^ length es) in
    omega arith

written_both : (front back : List ℕ) → decimal_value front * 10 ^ length back + decimal_value back ≡ decimal_value (front ++ back)
written_both front back =
    ap (λ (k : ℕ). decimal_value front * 10 ^ k + decimal_value back) (sym (length-map back (λ (b : ℕ). b - 48)))
    ∙ sym (ap (value 10) (map-append (λ (b : ℕ). b - 48) front back) ∙ value-both (map (λ (b : ℕ). b - 48) front) (map (λ (b : ℕ). b - 48) back))

-- digits, a point and digits, 15 at most: the number that all digits write, over a power of ten with a zero for each digit behind the point
pub point-read : (front back : List ℕ) → Written 15 front → Written 15 back → length front + length back ≤ 15 →
    fraction_in (front ++ (46 ∷ back)) ≡ Some (decimal_value (front ++ back), 10 ^ length back)
unfolding fraction_in point_fraction
point-read front back v w h =
    let bs = front ++ (46 ∷ back) in
    let f = free-digits 46 front (omega arith) v.0 in
    let a : ahead 46 bs ≡ front = ahead-free 46 front back f in
    let b : behind 46 bs ≡ back = behind-free 46 front back f in
    let n : length bs ≡ length front + suc (length back) = length-append front (46 ∷ back) in
    let l = ap length a in
    let x = ap whole_in a ∙ whole-taken front (v.0, v.1, omega (arith, v.2)) in
    let y = ap whole_in b ∙ whole-taken back (w.0, w.1, omega (arith, w.2)) in
    simp (ne_eqb (length (ahead 46 bs)) (length bs) (λ e. omega arith), le-leb (length bs) 16 (omega arith))
    (ap (λ (k : ℕ). with_places k (whole_in (ahead 46 bs)) (whole_in (behind 46 bs))) (ap length b)
    ∙ ap₂ (with_places (length back)) x y
    ∙ ap (λ (m : ℕ). Some (m, 10 ^ length back)) (written_both front back))

-- and nothing else is taken
abbrev pub Pointed : List ℕ → Type 0
Pointed bs =
    (front : List ℕ) × (back : List ℕ) × (bs ≡ front ++ (46 ∷ back)) × Written 15 front × Written 15 back × (length front + length back ≤ 15)

whole-some : (bs : List ℕ) (w : Option ℕ) (n : ℕ) → whole_in bs ≡ w → w ≡ Some n → (all_decimal bs ≡ true) × (0 < length bs)
unfolding whole_in
whole-some bs w n e k = go (leb 1 (length bs) && (leb (length bs) 19 && all_decimal bs)) refl (e ∙ k)
  where
    go : (t : Bool) → (leb 1 (length bs) && (leb (length bs) 19 && all_decimal bs)) ≡ t → cond t (Some (decimal_value bs)) None ≡ Some n →
        (all_decimal bs ≡ true) × (0 < length bs)
    go true h f = (
      and_right (leb (length bs) 19) (all_decimal bs) (and_right (leb 1 (length bs)) (leb (length bs) 19 && all_decimal bs) h),
      leb-true 1 (length bs) (and_left (leb 1 (length bs)) (leb (length bs) 19 && all_decimal bs) h),
    )
    go false h f = let z : ◌≡◌ {A = ℕ} 0 1 = cc in absurd (omega arith)

-- a list with a point in it
at-point : (s : List ℕ) → (length (ahead 46 s) ≡ length s → ⊥) → s ≡ ahead 46 s ++ (46 ∷ behind 46 s)
at-point [] n = absurd (n refl)
at-point (b ∷ s) n = go (at-point s) (eqb b 46) refl n
  where
    go : ((length (ahead 46 s) ≡ length s → ⊥) → s ≡ ahead 46 s ++ (46 ∷ behind 46 s)) → (t : Bool) → eqb b 46 ≡ t →
        (length (cond t [] (b ∷ ahead 46 s)) ≡ suc (length s) → ⊥) → b ∷ s ≡ cond t [] (b ∷ ahead 46 s) ++ (46 ∷ cond t s (behind 46 s))
    go f true e n = ap (λ (x : ℕ). x ∷ s) (eqb-true b 46 e)
    go f false e n = ap (λ (l : List ℕ). b ∷ l) (f (λ k. n (ap suc k)))

module _ (n d : ℕ) where
  plain-only : (bs : List ℕ) (w : Option ℕ) → whole_in bs ≡ w → length bs ≤ 15 → as_fraction w ≡ Some (n, d) → Written 15 bs
  plain-only bs (Some m) e h f = let k = whole-some bs (Some m) m e refl in (k.0, k.1, h)
  plain-only bs None e h f = let z : ◌≡◌ {A = ℕ} 0 1 = cc in absurd (omega arith)

  point-only : (bs cs : List ℕ) (w v : Option ℕ) → whole_in bs ≡ w → whole_in cs ≡ v → length bs + length cs ≤ 15 → with_places (length cs) w v ≡ Some (n, d) →
      Written 15 bs × Written 15 cs
  point-only bs cs (Some x) (Some y) e g h f =
      let k = whole-some bs (Some x) x e refl in
      let l = whole-some cs (Some y) y g refl in
      ((k.0, k.1, omega arith), (l.0, l.1, omega arith))
  point-only bs cs (Some x) None e g h f = let z : ◌≡◌ {A = ℕ} 0 1 = cc in absurd (omega arith)
  point-only bs cs None v e g h f = let z : ◌≡◌ {A = ℕ} 0 1 = cc in absurd (omega arith)

  pub read_only : (bs : List ℕ) → fraction_in bs ≡ Some (n, d) → Written 15 bs ⊎ Pointed bs
  unfolding fraction_in whole_fraction point_fraction
  read_only bs e = go (eqb (length (ahead 46 bs)) (length bs)) refl e
    where
      short : (t : Bool) → leb (length bs) 15 ≡ t → cond t (as_fraction (whole_in bs)) None ≡ Some (n, d) → Written 15 bs
      short true h f = plain-only bs (whole_in bs) refl (leb-true (length bs) 15 h) f
      short false h f = let z : ◌≡◌ {A = ℕ} 0 1 = cc in absurd (omega arith)

      long : (length (ahead 46 bs) ≡ length bs → ⊥) → (t : Bool) → leb (length bs) 16 ≡ t →
          cond t (with_places (length (behind 46 bs)) (whole_in (ahead 46 bs)) (whole_in (behind 46 bs))) None ≡ Some (n, d) → Pointed bs
      long p true h f =
          let k = about-point bs p in
          let m = leb-true (length bs) 16 h in
          let l : length (ahead 46 bs) + length (behind 46 bs) ≤ 15 = omega arith in
          let w = point-only (ahead 46 bs) (behind 46 bs) (whole_in (ahead 46 bs)) (whole_in (behind 46 bs)) refl refl l f in
          (ahead 46 bs, behind 46 bs, at-point bs p, w.0, w.1, l)
      long p false h f = let z : ◌≡◌ {A = ℕ} 0 1 = cc in absurd (omega arith)

      go : (t : Bool) → eqb (length (ahead 46 bs)) (length bs) ≡ t → cond t (whole_fraction bs) (point_fraction bs) ≡ Some (n, d) → Written 15 bs ⊎ Pointed bs
      go true h f = inl (short (leb (length bs) 15) refl f)
      go false h f = inr (long (eqb-false (length (ahead 46 bs)) (length bs) h) (leb (length bs) 16) refl f)
