-- The bytes that pass the test of the heading are exactly the headings of the two versions, and what passes in part begins one. Assumes nothing.
use Rattle.std.specs.Prelude.{◌≡◌, refl, Bool, true, false, cond, ◌⊎◌, List, [], ◌∷◌, ◌++◌, ℕ, zero, suc, ◌+◌, ◌-◌, ◌≤◌, ◌<◌, length, drop, take, get_or, leb, eqb}
use Rattle.std.proofs.Common.{sym, ap, ◌∙◌, inl, inr, ⊎_elim, arith, take-append-drop, length-take-le, le-leb, leb-true, eq-eqb, eqb-true}
use Rattle.std.proofs.Math.ListN.{get_or-append}
use Rattle.std.proofs.lemmas.Bool.{eqb-false}
use Rattle.logic.specs.Laws.Bools.{by_cond}
use Rattle.logic.specs.Laws.Order.{lt-or}
use Rattle.reading.specs.declared.Profile.{Profile}
use Rattle.reading.specs.declared.Profile.TheVariants.{Full, Handheld}
use Rattle.reading.specs.Text.{IsProfile, version_of, heading, heading_length}
use Rattle.reading.specs.Heading.{least, greatest, lead, profile_in}

pub lead-most : (a b t : List ℕ) → (lead a b t ≤ length a) × (lead a b t ≤ length t)
unfolding lead
lead-most [] b t = omega arith
lead-most (x ∷ a) [] t = omega arith
lead-most (x ∷ a) (y ∷ b) [] = omega arith
lead-most (x ∷ a) (y ∷ b) (z ∷ t) = go (leb x z) (leb z y) (lead-most a b t)
  where
    go :
        (p q : Bool) → (lead a b t ≤ length a) × (lead a b t ≤ length t) →
        (cond p (cond q (suc (lead a b t)) 0) 0 ≤ suc (length a)) × (cond p (cond q (suc (lead a b t)) 0) 0 ≤ suc (length t))
    go true true h = omega arith
    go true false h = omega arith
    go false q h = omega arith

pub lead-length : (a b t : List ℕ) → lead a b t ≤ length t
lead-length a b t = (lead-most a b t).1

pub lead-alike : (a b u v v' : List ℕ) → length u ≤ lead a b (u ++ v) → length u ≤ lead a b (u ++ v')
unfolding lead
lead-alike a b [] v v' h = omega arith
lead-alike [] b (z ∷ u) v v' h = absurd (omega arith)
lead-alike (x ∷ a) [] (z ∷ u) v v' h = absurd (omega arith)
lead-alike (x ∷ a) (y ∷ b) (z ∷ u) v v' h = go (leb x z) (leb z y) (λ k. lead-alike a b u v v' k) h
  where
    go :
        (p q : Bool) → (length u ≤ lead a b (u ++ v) → length u ≤ lead a b (u ++ v')) →
        suc (length u) ≤ cond p (cond q (suc (lead a b (u ++ v))) 0) 0 → suc (length u) ≤ cond p (cond q (suc (lead a b (u ++ v'))) 0) 0
    go true true f k = omega (arith, f (omega arith))
    go true false f k = k
    go false q f k = k

-- every byte in its bounds
abbrev Bounded : List ℕ → List ℕ → List ℕ → Type 0
Bounded [] [] [] = Unit {0}
Bounded [] [] (x ∷ u) = ⊥
Bounded [] (b ∷ bs) u = ⊥
Bounded (a ∷ es) [] u = ⊥
Bounded (a ∷ es) (b ∷ bs) [] = ⊥
Bounded (a ∷ es) (b ∷ bs) (x ∷ u) = (a ≤ x) × (x ≤ b) × Bounded es bs u

-- the leading part, and the least bytes behind it
fill : (a b t : List ℕ) → Bounded a b a → Bounded a b (take (lead a b t) t ++ drop (lead a b t) a)
unfolding lead
fill [] [] t h = h
fill [] (y ∷ b) t h = absurd h
fill (x ∷ a) [] t h = absurd h
fill (x ∷ a) (y ∷ b) [] h = h
fill (x ∷ a) (y ∷ b) (z ∷ t) h = go (leb x z) (leb z y) refl refl (fill a b t h.2)
  where
    go :
        (p q : Bool) → leb x z ≡ p → leb z y ≡ q → Bounded a b (take (lead a b t) t ++ drop (lead a b t) a) →
        Bounded (x ∷ a) (y ∷ b) (take (cond p (cond q (suc (lead a b t)) 0) 0) (z ∷ t) ++ drop (cond p (cond q (suc (lead a b t)) 0) 0) (x ∷ a))
    go true true e k f = (leb-true _ _ e, leb-true _ _ k, f)
    go true false e k f = h
    go false q e k f = h

-- ---- what stands in a heading

pub heading-least : (p : Profile) → 7 ≤ heading_length p
heading-least Full = omega arith
heading-least (Handheld d) = omega arith

module _ (n s : ℕ) (x : List ℕ) where
  pub length-head : (p : Profile) → length (heading p n s ++ x) ≡ heading_length p + length x
  length-head Full = omega arith
  length-head (Handheld d) = omega arith

  pub drop_head : (p : Profile) → drop (heading_length p) (heading p n s ++ x) ≡ x
  drop_head Full = refl
  drop_head (Handheld d) = refl

  pub take_head : (p : Profile) → take (heading_length p) (heading p n s ++ x) ≡ heading p n s
  take_head Full = refl
  take_head (Handheld d) = refl

  pub version-byte : (p : Profile) → get_or (heading p n s ++ x) 4 0 ≡ version_of p
  version-byte Full = refl
  version-byte (Handheld d) = refl

  pub north-byte : (p : Profile) → get_or (heading p n s ++ x) 5 0 ≡ 48 + n
  north-byte Full = refl
  north-byte (Handheld d) = refl

  pub south-byte : (p : Profile) → get_or (heading p n s ++ x) 6 0 ≡ 48 + s
  south-byte Full = refl
  south-byte (Handheld d) = refl

  pub turn-bytes : (p : Profile) → take 2 (drop 5 (heading p n s ++ x)) ≡ (48 + n) ∷ (48 + s) ∷ []
  turn-bytes Full = refl
  turn-bytes (Handheld d) = refl

  -- the profile that a heading tells is its own
  pub profile-head : (p : Profile) → profile_in (heading p n s ++ x) ≡ p
  profile-head Full = refl
  profile-head (Handheld d) = ap Handheld (omega arith)

-- ---- headings are exactly the bytes in their bounds

-- bytes that are a heading
abbrev pub Heads : List ℕ → Type 0
Heads u = (p : Profile) × (n : ℕ) × (s : ℕ) × IsProfile p × (n ≤ 3) × (s ≤ 3) × (u ≡ heading p n s)

-- eight bytes in their bounds are a heading of version 2, or begin with one of version 1
bounded-head : (u : List ℕ) → Bounded least greatest u → ((get_or u 4 0 ≡ 2) × Heads u) ⊎ ((get_or u 4 0 ≡ 1) × Heads (take 7 u))
bounded-head [] h = absurd h
bounded-head (a ∷ []) h = absurd h.2
bounded-head (a ∷ b ∷ []) h = absurd h.2.2
bounded-head (a ∷ b ∷ c ∷ []) h = absurd h.2.2.2
bounded-head (a ∷ b ∷ c ∷ d ∷ []) h = absurd h.2.2.2.2
bounded-head (a ∷ b ∷ c ∷ d ∷ e ∷ []) h = absurd h.2.2.2.2.2
bounded-head (a ∷ b ∷ c ∷ d ∷ e ∷ f ∷ []) h = absurd h.2.2.2.2.2.2
bounded-head (a ∷ b ∷ c ∷ d ∷ e ∷ f ∷ g ∷ []) h = absurd h.2.2.2.2.2.2.2
bounded-head (a ∷ b ∷ c ∷ d ∷ e ∷ f ∷ g ∷ k ∷ []) h =
    let e₀ : a ≡ 67 = omega (arith, h.0, h.1) in
    let e₁ : b ≡ 86 = omega (arith, h.2.0, h.2.1) in
    let e₂ : c ≡ 82 = omega (arith, h.2.2.0, h.2.2.1) in
    let e₃ : d ≡ 0 = omega (arith, h.2.2.2.0, h.2.2.2.1) in
    let e₅ : f ≡ 48 + (f - 48) = omega (arith, h.2.2.2.2.2.0) in
    let e₆ : g ≡ 48 + (g - 48) = omega (arith, h.2.2.2.2.2.2.0) in
    let e₇ : k ≡ 97 + (k - 97) = omega (arith, h.2.2.2.2.2.2.2.0) in
    let n : f - 48 ≤ 3 = omega (arith, h.2.2.2.2.2.1) in
    let s : g - 48 ≤ 3 = omega (arith, h.2.2.2.2.2.2.1) in
    let z : k - 97 ≤ 15 = omega (arith, h.2.2.2.2.2.2.2.1) in
    ⊎_elim
    (λ l. let e₄ : e ≡ 2 = omega (arith, h.2.2.2.2.1) in inl (e₄, (Handheld (k - 97), f - 48, g - 48, z, n, s, (cc))))
    (λ l. let e₄ : e ≡ 1 = omega (arith, h.2.2.2.2.0) in inr (e₄, (Full, f - 48, g - 48, tt, n, s, (cc))))
    (lt-or 1 e)
bounded-head (a ∷ b ∷ c ∷ d ∷ e ∷ f ∷ g ∷ k ∷ x ∷ u) h = absurd h.2.2.2.2.2.2.2.2

-- the leading part, and the least bytes behind it
abbrev pub filled : List ℕ → List ℕ
filled t = take (lead least greatest t) t ++ drop (lead least greatest t) least

pub filled-head : (t : List ℕ) → ((get_or (filled t) 4 0 ≡ 2) × Heads (filled t)) ⊎ ((get_or (filled t) 4 0 ≡ 1) × Heads (take 7 (filled t)))
filled-head t = bounded-head (filled t) (fill least greatest t (omega arith))

-- a heading is all leading part
pub lead-head : (p : Profile) (n s : ℕ) (x : List ℕ) → IsProfile p → n ≤ 3 → s ≤ 3 → heading_length p ≤ lead least greatest (heading p n s ++ x)
unfolding lead
lead-head Full n s x q h k =
    rw (le-leb 48 (48 + n) (omega arith), le-leb (48 + n) 51 (omega arith), le-leb 48 (48 + s) (omega arith), le-leb (48 + s) 51 (omega arith)) (omega arith)
lead-head (Handheld d) n s x q h k =
    rw (
      le-leb 48 (48 + n) (omega arith),
      le-leb (48 + n) 51 (omega arith),
      le-leb 48 (48 + s) (omega arith),
      le-leb (48 + s) 51 (omega arith),
      le-leb 97 (97 + d) (omega arith),
      le-leb (97 + d) 112 (omega arith),
    ) (omega arith)

-- a byte of the leading part lies in its bounds
pub lead-bounds : (a b t : List ℕ) (i : ℕ) → i < lead a b t → (get_or a i 0 ≤ get_or t i 0) × (get_or t i 0 ≤ get_or b i 0)
unfolding lead
lead-bounds [] b t i h = absurd (omega arith)
lead-bounds (x ∷ a) [] t i h = absurd (omega arith)
lead-bounds (x ∷ a) (y ∷ b) [] i h = absurd (omega arith)
lead-bounds (x ∷ a) (y ∷ b) (z ∷ t) i h = go (leb x z) (leb z y) refl refl (λ j k. lead-bounds a b t j k) i h
  where
    go :
        (p q : Bool) → leb x z ≡ p → leb z y ≡ q → ((j : ℕ) → j < lead a b t → (get_or a j 0 ≤ get_or t j 0) × (get_or t j 0 ≤ get_or b j 0)) → (i : ℕ) →
        i < cond p (cond q (suc (lead a b t)) 0) 0 → (get_or (x ∷ a) i 0 ≤ get_or (z ∷ t) i 0) × (get_or (z ∷ t) i 0 ≤ get_or (y ∷ b) i 0)
    go true true e k f zero l = (leb-true _ _ e, leb-true _ _ k)
    go true true e k f (suc i) l = f i (omega arith)
    go true false e k f i l = absurd (omega arith)
    go false q e k f i l = absurd (omega arith)

-- the first seven bytes one by one
seven-bytes :
    (t : List ℕ) → 7 ≤ length t →
    t ≡ get_or t 0 0 ∷ get_or t 1 0 ∷ get_or t 2 0 ∷ get_or t 3 0 ∷ get_or t 4 0 ∷ get_or t 5 0 ∷ get_or t 6 0 ∷ drop 7 t
seven-bytes [] h = absurd (omega arith)
seven-bytes (a ∷ []) h = absurd (omega arith)
seven-bytes (a ∷ b ∷ []) h = absurd (omega arith)
seven-bytes (a ∷ b ∷ c ∷ []) h = absurd (omega arith)
seven-bytes (a ∷ b ∷ c ∷ d ∷ []) h = absurd (omega arith)
seven-bytes (a ∷ b ∷ c ∷ d ∷ e ∷ []) h = absurd (omega arith)
seven-bytes (a ∷ b ∷ c ∷ d ∷ e ∷ f ∷ []) h = absurd (omega arith)
seven-bytes (a ∷ b ∷ c ∷ d ∷ e ∷ f ∷ g ∷ t) h = refl

next-byte : (t : List ℕ) (i : ℕ) → i < length t → drop i t ≡ get_or t i 0 ∷ drop (suc i) t
next-byte [] i h = absurd (omega arith)
next-byte (a ∷ t) zero h = refl
next-byte (a ∷ t) (suc i) h = next-byte t i (omega arith)

-- what a text that begins with a heading is made of
pub record Headed (p : Profile) (t : List ℕ) : Type 0 where
  pub north : ℕ
  pub south : ℕ
  pub profiled : IsProfile p
  pub northern : north ≤ 3
  pub southern : south ≤ 3
  pub all : t ≡ heading p north south ++ drop (heading_length p) t

module _ (t : List ℕ) (h : 7 ≤ lead least greatest t) where
  bound : (i : ℕ) → i < 7 → (get_or least i 0 ≤ get_or t i 0) × (get_or t i 0 ≤ get_or greatest i 0)
  bound i k = lead-bounds least greatest t i (omega arith)

  of-seven : (v : ℕ) → get_or t 4 0 ≡ v → t ≡ 67 ∷ 86 ∷ 82 ∷ 0 ∷ v ∷ (48 + (get_or t 5 0 - 48)) ∷ (48 + (get_or t 6 0 - 48)) ∷ drop 7 t
  of-seven v e =
      let all = seven-bytes t (omega (arith, lead-length least greatest t)) in
      let e₀ : get_or t 0 0 ≡ 67 = omega (arith, bound 0 (omega arith)) in
      let e₁ : get_or t 1 0 ≡ 86 = omega (arith, bound 1 (omega arith)) in
      let e₂ : get_or t 2 0 ≡ 82 = omega (arith, bound 2 (omega arith)) in
      let e₃ : get_or t 3 0 ≡ 0 = omega (arith, bound 3 (omega arith)) in
      let e₅ : get_or t 5 0 ≡ 48 + (get_or t 5 0 - 48) = omega (arith, bound 5 (omega arith)) in
      let e₆ : get_or t 6 0 ≡ 48 + (get_or t 6 0 - 48) = omega (arith, bound 6 (omega arith)) in
      cc

-- a leading part that is long enough is a heading
pub head_of : (t : List ℕ) → heading_length (profile_in t) ≤ lead least greatest t → Headed (profile_in t) t
head_of t = by_cond (λ (p : Profile). heading_length p ≤ lead least greatest t → Headed p t) (eqb (get_or t 4 0) 1) first second
  where
    first : eqb (get_or t 4 0) 1 ≡ true → 7 ≤ lead least greatest t → Headed Full t
    first e h =
        record {
          north = get_or t 5 0 - 48;
          south = get_or t 6 0 - 48;
          profiled = tt;
          northern = omega (arith, bound t h 5 (omega arith));
          southern = omega (arith, bound t h 6 (omega arith));
          all = of-seven t h 1 (eqb-true _ _ e);
        }

    second : eqb (get_or t 4 0) 1 ≡ false → 8 ≤ lead least greatest t → Headed (Handheld (get_or t 7 0 - 97)) t
    second e h =
        let k : 7 ≤ lead least greatest t = omega arith in
        let l = lead-bounds least greatest t 7 (omega arith) in
        let v : get_or t 4 0 ≡ 2 = version-two (get_or t 4 0) (bound t k 4 (omega arith)) (eqb-false _ _ e) in
        let d : get_or t 7 0 ≡ 97 + (get_or t 7 0 - 97) = omega (arith, l) in
        record {
          north = get_or t 5 0 - 48;
          south = get_or t 6 0 - 48;
          profiled = omega (arith, l);
          northern = omega (arith, bound t k 5 (omega arith));
          southern = omega (arith, bound t k 6 (omega arith));
          all =
              of-seven t k 2 v
              ∙ ap (λ (x : List ℕ). 67 ∷ 86 ∷ 82 ∷ 0 ∷ 2 ∷ (48 + (get_or t 5 0 - 48)) ∷ (48 + (get_or t 6 0 - 48)) ∷ x)
              (next-byte t 7 (omega (arith, lead-length least greatest t)) ∙ ap (λ (x : ℕ). x ∷ drop 8 t) d);
        }
      where
        version-two : (v : ℕ) → (1 ≤ v) × (v ≤ 2) → (v ≡ 1 → ⊥) → v ≡ 2
        version-two v h n = ⊎_elim (λ l. omega arith) (λ l. absurd (n (omega arith))) (lt-or 1 v)

-- ---- what begins as a heading does tells its profile

module _ (t q : List ℕ) (j : ℕ) (m : j ≤ length t) (p : Profile) (n s : ℕ) (x : List ℕ) (e : take j t ++ q ≡ heading p n s ++ x) where
  same_byte : (i : ℕ) → i < j → get_or t i 0 ≡ get_or (heading p n s ++ x) i 0
  same_byte i h =
      ap (λ (y : List ℕ). get_or y i 0) (sym (take-append-drop j t)) ∙ get_or-append (take j t) (drop j t) 0 i (omega (arith, length-take-le j t m))
      ∙ sym (get_or-append (take j t) q 0 i (omega (arith, length-take-le j t m))) ∙ ap (λ (y : List ℕ). get_or y i 0) e

  same_version : 5 ≤ j → get_or t 4 0 ≡ version_of p
  same_version h = same_byte 4 (omega arith) ∙ version-byte n s x p

  -- the version by five bytes
  pub same_length : 5 ≤ j → heading_length (profile_in t) ≡ heading_length p
  same_length h = go p (same_version h)
    where
      go : (o : Profile) → get_or t 4 0 ≡ version_of o → heading_length (profile_in t) ≡ heading_length o
      go Full i = ap (λ (b : Bool). heading_length (cond b Full (Handheld (get_or t 7 0 - 97)))) (eq-eqb (get_or t 4 0) 1 i)
      go (Handheld d) i = ap (λ (b : Bool). heading_length (cond b Full (Handheld (get_or t 7 0 - 97)))) (ap (λ (v : ℕ). eqb v 1) i)

-- all of it by the whole heading
pub same-profile :
    (t q : List ℕ) (j : ℕ) → j ≤ length t → (p : Profile) (n s : ℕ) (x : List ℕ) → take j t ++ q ≡ heading p n s ++ x → heading_length p ≤ j → profile_in t ≡ p
same-profile t q j m Full n s x e h =
    ap (λ (b : Bool). cond b Full (Handheld (get_or t 7 0 - 97))) (eq-eqb (get_or t 4 0) 1 (same_version t q j m Full n s x e (omega arith)))
same-profile t q j m (Handheld d) n s x e h =
    let v : get_or t 4 0 ≡ 2 = same_version t q j m (Handheld d) n s x e (omega arith) in
    let k : get_or t 7 0 ≡ 97 + d = same_byte t q j m (Handheld d) n s x e 7 (omega arith) in
    ap (λ (b : Bool). cond b Full (Handheld (get_or t 7 0 - 97))) (ap (λ (v : ℕ). eqb v 1) v) ∙ ap Handheld (omega arith)

-- two headings are the same where their bytes are
pub one-heading :
    (p p' : Profile) (n s n' s' : ℕ) (x y : List ℕ) → heading p n s ++ x ≡ heading p' n' s' ++ y → (p ≡ p') × (n ≡ n') × (s ≡ s') × (x ≡ y)
one-heading Full Full n s n' s' x y e =
    let i : 48 + n ≡ 48 + n' = cc in
    let j : 48 + s ≡ 48 + s' = cc in
    (refl, omega arith, omega arith, (cc))
one-heading Full (Handheld d) n s n' s' x y e = let z : ◌≡◌ {A = ℕ} 1 2 = cc in absurd (omega arith)
one-heading (Handheld d) Full n s n' s' x y e = let z : ◌≡◌ {A = ℕ} 2 1 = cc in absurd (omega arith)
one-heading (Handheld d) (Handheld d') n s n' s' x y e =
    let i : 48 + n ≡ 48 + n' = cc in
    let j : 48 + s ≡ 48 + s' = cc in
    let k : 97 + d ≡ 97 + d' = cc in
    let l : d ≡ d' = omega arith in
    (ap Handheld l, omega arith, omega arith, (cc))
