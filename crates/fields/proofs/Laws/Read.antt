-- What is read is what the bytes say, and where nothing is read the place is the longest leading part that begins bytes that say something.
-- Assumes nothing.
use Rattle.std.specs.Prelude.{◌≡◌, refl, Bool, true, false, cond, List, [], ◌∷◌, ◌++◌, ℕ, zero, suc, ◌+◌, ◌-◌, ◌^◌, ◌≤◌, ◌<◌, ltb, length, take, drop}
use Rattle.std.proofs.Common.{sym, ap, ap₂, subst, ◌∙◌, ⊎_elim, append-nil, append_assoc, arith, length-append, length-drop, take-append-drop, length-take-le, take_at, drop_at, take-add, take_all, take-take, ltb-true, ltb-false}
use Rattle.std.proofs.lemmas.List.{take-append-le}
use Rattle.logic.specs.Longest.{BeginsOne, LongestOf}
use Rattle.logic.specs.Laws.Bools.{by_cond}
use Rattle.logic.specs.Laws.Order.{lt-or}
use Rattle.ternary.specs.Digits.{value, digits, Below}
use Rattle.ternary.proofs.Laws.Digits.{value-digits, digits_value, length_digits, digits-below}
use Rattle.fields.specs.Form.{Form, done, number, Spells, Spelled, Sound}
use Rattle.fields.specs.Read.{reach, Read, said, wrong, behind, read_as}
use Rattle.fields.proofs.Laws.Number.{Within, bytes-some, reach-longest}

-- ---- lists

-- two beginnings of one length
split : (n : ℕ) (a b x y : List ℕ) → length a ≡ n → length b ≡ n → a ++ x ≡ b ++ y → (a ≡ b) × (x ≡ y)
split n a b x y h k e =
    (sym (take_at a x n h) ∙ ap (take n) e ∙ take_at b y n k, sym (drop_at a x n h) ∙ ap (drop n) e ∙ drop_at b y n k)

below-take : (b n : ℕ) (t : List ℕ) → Below b t → Below b (take n t)
below-take b zero t h = tt
below-take b (suc n) [] h = tt
below-take b (suc n) (x ∷ t) h = (h.0, below-take b n t h.1)

below-drop : (b n : ℕ) (t : List ℕ) → Below b t → Below b (drop n t)
below-drop b zero t h = h
below-drop b (suc n) [] h = tt
below-drop b (suc n) (x ∷ t) h = below-drop b n t h.1

-- ---- what is said

-- something can be said
some-said : {A : Type 0} (f : Form A) → Sound f → (t : List ℕ) × Spelled f t
some-said (done x) s = ([], (x, (refl, refl)))
some-said (number w least most next) s =
    let r = some-said (next least) (s.2 least (omega arith) s.0) in
    (digits 256 w least ++ r.0, (r.1.0, (least, omega arith, s.0, (r.0, refl, r.1.1))))

-- bytes say one thing
pub said-once : {A : Type 0} (f : Form A) → Sound f → (y z : A) (t : List ℕ) → Spells f y t → Spells f z t → y ≡ z
said-once (done x) s y z t h k = sym h.0 ∙ k.0
said-once {A} (number w least most next) s y z t h k =
    let p = split w (digits 256 w h.0) (digits 256 w k.0) h.3.0 k.3.0 (length_digits 256 w h.0) (length_digits 256 w k.0) (sym h.3.1 ∙ k.3.1) in
    let e : h.0 ≡ k.0 =
    sym (value-digits 256 w h.0 (omega arith) (omega (arith, s.1, h.2))) ∙ ap (value 256) p.0 ∙ value-digits 256 w k.0 (omega arith) (omega (arith, s.1, k.2)) in
    said-once (next k.0) (s.2 k.0 k.1 k.2) y z k.3.0
    (subst (λ (u : List ℕ). Spells (next k.0) y u) p.1 (subst (λ (v : ℕ). Spells (next v) y h.3.0) e h.3.2)) k.3.2

-- ---- what is read

-- what is said is right; where nothing is, the place is the longest
abbrev pub Right : {A : Type 0} → Form A → List ℕ → Read A → Type 0
Right f t (said y) = Spells f y t
Right f t (wrong k) = LongestOf (Spelled f) t k × (Spelled f t → ⊥)

module _ {A : Type 0} (w least most : ℕ) (next : ℕ → Form A) (sound : Sound (number w least most next)) (t : List ℕ) (bytes : Below 256 t) where
  abbrev f : Form A
  f = number w least most next

  abbrev k : ℕ
  k = reach w least most 0 t

  far : LongestOf (Within w least most 0) t k
  far = reach-longest w least most 0 t bytes (omega arith) sound.0 (omega (arith, sound.0, sound.1))

  -- a number and its bytes
  of_number : (v : ℕ) → least ≤ v → v ≤ most → Within w least most 0 (digits 256 w v)
  of_number v h l =
      let e : value 256 (digits 256 w v) ≡ v = value-digits 256 w v (omega arith) (omega (arith, sound.1)) in
      record { bytes = digits-below 256 w v (omega arith); wide = length_digits 256 w v; low = omega arith; high = omega arith }

  of-bytes : (u : List ℕ) → Within w least most 0 u → digits 256 w (value 256 u) ≡ u
  of-bytes u h = ap (λ (n : ℕ). digits 256 n (value 256 u)) (sym h.wide) ∙ digits_value 256 u (omega arith) h.bytes

  -- bytes that begin as the given ones do, and say something, begin with a number
  short-begins : (j : ℕ) → j ≤ length t → j ≤ w → BeginsOne (Spelled f) (take j t) → BeginsOne (Within w least most 0) (take j t)
  short-begins j h i (q, (y, (v, low, high, (u, e, r)))) =
      let d : List ℕ = digits 256 w v in
      let n : length (take j t) ≡ j = length-take-le j t h in
      let m : j ≤ length d = omega (arith, length_digits 256 w v) in
      let p : take j d ≡ take j t = sym (take-append-le j d u m) ∙ ap (take j) (sym e) ∙ take_at (take j t) q j n in
      (drop j d, subst (Within w least most 0) (sym (ap (λ (x : List ℕ). x ++ drop j d) (sym p) ∙ take-append-drop j d)) (of_number v low high))

  long-begins : (j : ℕ) → j ≤ length t → w ≤ j → (q : List ℕ) (v : ℕ) (u : List ℕ) → take j t ++ q ≡ digits 256 w v ++ u →
      (take w t ≡ digits 256 w v) × (u ≡ take (j - w) (drop w t) ++ q)
  long-begins j h i q v u e =
      let m : w + (j - w) ≡ j = omega arith in
      let p : take j t ≡ take w t ++ take (j - w) (drop w t) = ap (λ (n : ℕ). take n t) (sym m) ∙ take-add w (j - w) t in
      let s = split w (take w t) (digits 256 w v) (take (j - w) (drop w t) ++ q) u (length-take-le w t (omega arith)) (length_digits 256 w v)
      (sym (append_assoc (take w t) (take (j - w) (drop w t)) q) ∙ ap (λ (x : List ℕ). x ++ q) (sym p) ∙ e) in
      (s.0, sym s.1)

  whole-begins : (v : ℕ) (u : List ℕ) → t ≡ digits 256 w v ++ u → (take w t ≡ digits 256 w v) × (u ≡ drop w t)
  whole-begins v u e =
      (ap (take w) e ∙ take_at (digits 256 w v) u w (length_digits 256 w v), sym (ap (drop w) e ∙ drop_at (digits 256 w v) u w (length_digits 256 w v)))

  reaches : (v : ℕ) → least ≤ v → v ≤ most → take w t ≡ digits 256 w v → w ≤ length t → w ≤ k
  reaches v low high e h =
      far.longest w h ([], subst (Within w least most 0) (sym (append-nil (take w t) ∙ e)) (of_number v low high))

  -- ---- a byte of the number is wrong

  module _ (short : k < w) where
    cut-begun : BeginsOne (Spelled f) (take k t)
    cut-begun =
        let q = far.begun.0 in
        let i = far.begun.1 in
        let v = value 256 (take k t ++ q) in
        let low : least ≤ v = omega (arith, i.low) in
        let high : v ≤ most = omega (arith, i.high) in
        let r = some-said (next v) (sound.2 v low high) in
        (q ++ r.0, (r.1.0, (v, low, high, (r.0, sym (append_assoc (take k t) q r.0) ∙ ap (λ (x : List ℕ). x ++ r.0) (sym (of-bytes (take k t ++ q) i)), r.1.1))))

    cut-longest : (j : ℕ) → j ≤ length t → BeginsOne (Spelled f) (take j t) → j ≤ k
    cut-longest j h z =
        ⊎_elim
        (λ i.
        let p = z.1.1 in
        let s = long-begins j h (omega arith) z.0 p.0 p.3.0 p.3.1 in
        let m = reaches p.0 p.1 p.2 s.0 (omega arith) in
        omega arith)
        (λ i. far.longest j h (short-begins j h i z))
        (lt-or w j)

    cut-none : Spelled f t → ⊥
    cut-none (y, (v, low, high, (u, e, r))) =
        let s = whole-begins v u e in
        let n : w ≤ length t = omega (arith, ap length e, length-append (digits 256 w v) u, length_digits 256 w v) in
        let m = reaches v low high s.0 n in
        omega arith

    cut : Right f t (wrong k)
    cut = (record { within = far.within; begun = cut-begun; longest = cut-longest }, cut-none)

  -- ---- the number is right

  module _ (full : w ≤ k) where
    number-bytes : Within w least most 0 (take w t)
    number-bytes =
        let x = take k t ++ far.begun.0 in
        let i = far.begun.1 in
        let n : length (take k t) ≡ k = length-take-le k t far.within in
        let e : take w x ≡ take w t = take-append-le w (take k t) far.begun.0 (omega arith) ∙ take-take w k t full in
        subst (Within w least most 0) (sym (take_all w x (omega (arith, i.wide))) ∙ e) i

    abbrev v : ℕ
    v = value 256 (take w t)

    low : least ≤ v
    low = omega (arith, number-bytes.low)

    high : v ≤ most
    high = omega (arith, number-bytes.high)

    is : take w t ≡ digits 256 w v
    is = sym (of-bytes (take w t) number-bytes)

    enough : w ≤ length t
    enough = let n = far.within in omega arith

    -- the number is told by its bytes
    same_number : (x : ℕ) → least ≤ x → x ≤ most → take w t ≡ digits 256 w x → x ≡ v
    same_number x h i e = sym (value-digits 256 w x (omega arith) (omega (arith, sound.1))) ∙ ap (value 256) (sym e)

    go_on : (r : Read A) → Right (next v) (drop w t) r → Right f t (behind w r)
    go_on (said y) h = (v, low, high, (drop w t, sym (take-append-drop w t) ∙ ap (λ (x : List ℕ). x ++ drop w t) is, h))
    go_on (wrong m) h = (record { within = inside; begun = begun; longest = longest }, none)
      where
        inside : w + m ≤ length t
        inside = let n = h.0.within in omega (arith, length-drop w t, enough)

        begun : BeginsOne (Spelled f) (take (w + m) t)
        begun =
            let b = h.0.begun in
            let e : take (w + m) t ++ b.0 ≡ digits 256 w v ++ (take m (drop w t) ++ b.0) =
            ap (λ (x : List ℕ). x ++ b.0) (take-add w m t) ∙ append_assoc (take w t) (take m (drop w t)) b.0 ∙ ap (λ (x : List ℕ). x ++ (take m (drop w t) ++ b.0)) is in
            (b.0, (b.1.0, (v, low, high, (take m (drop w t) ++ b.0, e, b.1.1))))

        longest : (j : ℕ) → j ≤ length t → BeginsOne (Spelled f) (take j t) → j ≤ w + m
        longest j i (q, (y, (x, l, g, (u, e, r)))) = ⊎_elim past (λ p. omega arith) (lt-or w j)
          where
            past : w < j → j ≤ w + m
            past p =
                let s = long-begins j i (omega arith) q x u e in
                let a : Spells (next v) y (take (j - w) (drop w t) ++ q) =
                subst (λ (c : List ℕ). Spells (next v) y c) s.1 (subst (λ (c : ℕ). Spells (next c) y u) (same_number x l g s.0) r) in
                let d : j - w ≤ m = h.0.longest (j - w) (omega (arith, length-drop w t)) (q, (y, a)) in
                omega arith

        none : Spelled f t → ⊥
        none (y, (x, l, g, (u, e, r))) =
            let s = whole-begins x u e in
            h.1 (y, subst (λ (c : List ℕ). Spells (next v) y c) s.1 (subst (λ (c : ℕ). Spells (next c) y u) (same_number x l g s.0) r))

-- nothing follows the end
ended : {A : Type 0} (x : A) (t : List ℕ) → Right (done x) t (read_as (done x) t)
unfolding read_as
ended x [] = (refl, refl)
ended x (b ∷ t) =
    (record { within = omega arith; begun = ([], (x, (refl, refl))); longest = λ j i z. none j i z.0 (ap length z.1.1.1) }, λ z. let n = ap length z.1.1 in absurd (omega arith))
  where
    none : (j : ℕ) → j ≤ suc (length t) → (q : List ℕ) → length (take j (b ∷ t) ++ q) ≡ 0 → j ≤ 0
    none j i q e = omega (arith, length-append (take j (b ∷ t)) q, length-take-le j (b ∷ t) i)

-- what is read of any bytes is right
pub read_right : {A : Type 0} (f : Form A) → Sound f → (t : List ℕ) → Below 256 t → Right f t (read_as f t)
unfolding read_as
read_right (done x) s t b = ended x t
read_right (number w least most next) s t b =
    by_cond (Right (number w least most next) t) (ltb (reach w least most 0 t) w) (λ h. cut w least most next s t b (ltb-true _ _ h))
    (λ h.
    let full = ltb-false _ _ h in
    let v = value 256 (take w t) in
    go_on w least most next s t b full (read_as (next v) (drop w t))
    (read_right (next v) (s.2 v (low w least most next s t b full) (high w least most next s t b full)) (drop w t) (below-drop 256 w t b)))

-- what is said is read
pub said_read : {A : Type 0} (f : Form A) → Sound f → (y : A) (t : List ℕ) → Below 256 t → Spells f y t → read_as f t ≡ said y
said_read {A} f s y t b h = go (read_as f t) (read_right f s t b)
  where
    go : (r : Read A) → Right f t r → r ≡ said y
    go (said z) k = ap said (said-once f s z y t k h)
    go (wrong k) n = absurd (n.1 (y, h))
