-- Codes looked up in a rising list, and which of them were met. Assumes nothing.
use Rattle.std.specs.Prelude.{◌≡◌, Bool, ◌&&◌, ◌||◌, not, cond, ◌⊎◌, List, [], ◌∷◌, ◌++◌, ℕ, zero, suc, ◌+◌, ◌*◌, ◌/◌, ◌%◌, ◌≤◌, ◌<◌, eqb, ltb, leb, length, take, drop, get_or, set}
use Rattle.std.proofs.Math.Path.{refl}
use Rattle.std.proofs.Common.{sym, ap, ap₂, ◌∙◌, inl, inr, append-nil, arith, length-set, drop_of_length-le, get_or-set_same, get_or-set_other, take_all, eqb-true, eq-eqb, ne_eqb, lt-ltb, le-ltb, ltb-true, ltb-false}
use Rattle.std.proofs.Math.Bool.{true, false}
use Rattle.std.proofs.Math.Logic.{⊎_elim}
use Rattle.logic.specs.Laws.Bools.{by_cond, clash}
use Rattle.logic.specs.Laws.Order.{lt-or, three_ways}
use Rattle.logic.specs.Rise.{Above, Rise}
use Rattle.track.specs.Track.{number_below, Held}
use Rattle.walk.specs.Laws.Walk.{byte_at}
use Rattle.proper.specs.Changes.{Change, when}
use Rattle.rescue.specs.Internal.Marks.{has_code, standing, bit, Seen, first_kind, fourth_kind, met_own, late_at, shuts, mask_of, kinds_at}

-- ---- found, or not

pub found : (c : ℕ) (keys : List ℕ) (k : ℕ) → k < length keys → get_or keys k 0 ≡ c → has_code c keys ≡ true
unfolding has_code
found c [] k h e = absurd (omega arith)
found c (x ∷ keys) zero h e = rw (eq-eqb x c e) refl
found c (x ∷ keys) (suc k) h e = go (eqb x c) (found c keys k (omega arith) e)
  where
    go : (t : Bool) → has_code c keys ≡ true → (t || has_code c keys) ≡ true
    go true k = refl
    go false k = k

above-none : (c n : ℕ) (keys : List ℕ) → c ≤ n → Above n keys → has_code c keys ≡ false
unfolding has_code
above-none c n [] h a = refl
above-none c n (x ∷ keys) h a = rw (ne_eqb x c (λ e. omega (arith, a.0))) (above-none c n keys h a.1)

pub missing : (c : ℕ) (keys : List ℕ) → Rise keys → (number_below c keys < length keys → get_or keys (number_below c keys) 0 ≡ c → ⊥) → has_code c keys ≡ false
unfolding has_code number_below
missing c [] r f = refl
missing c (x ∷ keys) r f = go (ltb x c) refl (missing c keys r.1) f
  where
    go :
        (t : Bool) → ltb x c ≡ t → ((number_below c keys < length keys → get_or keys (number_below c keys) 0 ≡ c → ⊥) → has_code c keys ≡ false) →
        (cond t (suc (number_below c keys)) 0 < suc (length keys) → get_or (x ∷ keys) (cond t (suc (number_below c keys)) 0) 0 ≡ c → ⊥) → (eqb x c || has_code c keys) ≡ false
    go true e k f = rw (ne_eqb x c (λ z. omega (arith, ltb-true x c e))) (k (λ h z. f (omega arith) z))
    go false e k f =
        let n : x ≡ c → ⊥ = λ z. f (omega arith) z in
        rw (ne_eqb x c n) (above-none c x keys (ltb-false x c e) r.0)

above-get : (n : ℕ) (keys : List ℕ) (k : ℕ) → Above n keys → k < length keys → n < get_or keys k 0
above-get n [] k a h = absurd (omega arith)
above-get n (x ∷ keys) zero a h = a.0
above-get n (x ∷ keys) (suc k) a h = above-get n keys k a.1 (omega arith)

pub distinct : (keys : List ℕ) → Rise keys → (j k : ℕ) → j < length keys → k < length keys → get_or keys j 0 ≡ get_or keys k 0 → j ≡ k
distinct [] r j k h i e = absurd (omega arith)
distinct (x ∷ keys) r zero zero h i e = refl
distinct (x ∷ keys) r zero (suc k) h i e = absurd (let z = above-get x keys k r.0 (omega arith) in omega arith)
distinct (x ∷ keys) r (suc j) zero h i e = absurd (let z = above-get x keys j r.0 (omega arith) in omega arith)
distinct (x ∷ keys) r (suc j) (suc k) h i e = ap suc (distinct keys r.1 j k (omega arith) (omega arith) e)

-- where it stands is its place
pub placed_at : (keys : List ℕ) → Rise keys → (k c : ℕ) → k < length keys → get_or keys k 0 ≡ c → k ≡ number_below c keys
unfolding number_below
placed_at [] r k c h e = absurd (omega arith)
placed_at (x ∷ keys) r zero c h e = rw (le-ltb x c (omega (arith, e))) refl
placed_at (x ∷ keys) r (suc k) c h e = rw (lt-ltb x c (omega (arith, above-get x keys k r.0 (omega arith), e))) (ap suc (placed_at keys r.1 k c (omega arith) e))

-- ---- what was met

pub record Noted (keys seen₀ seen₁ : List ℕ) (c r : ℕ) : Type 0 where
  pub is : (earlier : List ℕ) → Seen keys earlier seen₀ → (r ≡ standing keys earlier c) × Seen keys (c ∷ earlier) seen₁

bit-one : (t : Bool) → (bit t ≡ 0 → ⊥) → t ≡ true
bit-one true h = refl
bit-one false h = absurd (h refl)

bit-zero : (t : Bool) → bit t ≡ 0 → t ≡ false
bit-zero true h = absurd (omega arith)
bit-zero false h = refl

same_seen : (keys seen : List ℕ) (c : ℕ) (earlier : List ℕ) → Seen keys earlier seen →
    ((k : ℕ) → k < length keys → has_code (get_or keys k 0) (c ∷ earlier) ≡ has_code (get_or keys k 0) earlier) → Seen keys (c ∷ earlier) seen
same_seen keys seen c earlier s f k h = s k h ∙ sym (ap bit (f k h))

other : (c x : ℕ) (earlier : List ℕ) → (c ≡ x → ⊥) → has_code x (c ∷ earlier) ≡ has_code x earlier
unfolding has_code
other c x earlier n = rw (ne_eqb c x n) refl

already : (c x : ℕ) (earlier : List ℕ) → has_code c earlier ≡ true → c ≡ x → has_code x (c ∷ earlier) ≡ has_code x earlier
unfolding has_code
already c x earlier t e = rw (eq-eqb c x e) (sym (rw e at t))

now-met : (c x : ℕ) (earlier : List ℕ) → c ≡ x → has_code x (c ∷ earlier) ≡ true
unfolding has_code
now-met c x earlier e = rw (eq-eqb c x e) refl

module _ (keys seen : List ℕ) (c : ℕ) (r : Rise keys) where
  pub noted-none : (number_below c keys < length keys → get_or keys (number_below c keys) 0 ≡ c → ⊥) → Noted keys seen seen c 0
  unfolding standing
  noted-none f =
      record {
        is =
            λ earlier s.
            let e : has_code c keys ≡ false = missing c keys r f in
            (rw e refl, same_seen keys seen c earlier s (λ k h. other c (get_or keys k 0) earlier (λ z. clash (sym (found c keys k h (sym z)) ∙ e))));
      }

  module _ (k : ℕ) (h : k < length keys) (e : get_or keys k 0 ≡ c) where
    met-as : (earlier : List ℕ) → Seen keys earlier seen → get_or seen k 0 ≡ bit (has_code c earlier)
    met-as earlier s = s k h ∙ ap (λ (x : ℕ). bit (has_code x earlier)) e

    pub noted-again : (get_or seen k 0 ≡ 0 → ⊥) → Noted keys seen seen c 2
    unfolding standing
    noted-again n =
        record {
          is =
              λ earlier s.
              let m : has_code c earlier ≡ true = bit-one (has_code c earlier) (λ z. n (met-as earlier s ∙ z)) in (
                rw (found c keys k h e, m) refl,
                same_seen keys seen c earlier s
                    (λ j i. ⊎_elim (λ z. other c (get_or keys j 0) earlier (λ y. omega arith))
                    (⊎_elim (λ z. already c (get_or keys j 0) earlier m z) (λ z. other c (get_or keys j 0) earlier (λ y. omega arith)))
                    (three_ways c (get_or keys j 0))),
              );
        }

    store-seen : (earlier : List ℕ) → has_code c earlier ≡ false → Seen keys earlier seen → k < length seen → Seen keys (c ∷ earlier) (set seen k 1)
    store-seen earlier m s l j i =
        ⊎_elim (λ z. away (λ y. omega arith)) (⊎_elim (λ z. here z) (λ z. away (λ y. omega arith))) (three_ways j k)
      where
        away : (j ≡ k → ⊥) → get_or (set seen k 1) j 0 ≡ bit (has_code (get_or keys j 0) (c ∷ earlier))
        away n =
            get_or-set_other seen k j 1 0 n ∙ s j i ∙ sym (ap bit (other c (get_or keys j 0) earlier (λ z. n (distinct keys r j k i h (sym z ∙ sym e)))))

        here : j ≡ k → get_or (set seen k 1) j 0 ≡ bit (has_code (get_or keys j 0) (c ∷ earlier))
        here z =
            ap (λ (x : ℕ). get_or (set seen k 1) x 0) z ∙ get_or-set_same seen k 1 0 l
            ∙ sym (ap bit (now-met c (get_or keys j 0) earlier (sym e ∙ ap (λ (x : ℕ). get_or keys x 0) (sym z))))

    pub noted-first : get_or seen k 0 ≡ 0 → k < length seen → Noted keys seen (set seen k 1) c 1
    unfolding standing
    noted-first n l =
        record {
          is =
              λ earlier s.
              let m : has_code c earlier ≡ false = bit-zero (has_code c earlier) (sym (met-as earlier s) ∙ n) in
              (rw (found c keys k h e, m) refl, store-seen earlier m s l);
        }

pub holds_at : (c : ℕ) (keys : List ℕ) → Rise keys → number_below c keys < length keys → eqb (get_or keys (number_below c keys) 0) c ≡ has_code c keys
holds_at c keys r h = go (eqb (get_or keys (number_below c keys) 0) c) refl
  where
    go : (t : Bool) → eqb (get_or keys (number_below c keys) 0) c ≡ t → t ≡ has_code c keys
    go true e = sym (found c keys (number_below c keys) h (eqb-true _ _ e))
    go false e = sym (missing c keys r (λ _ z. clash (sym (eq-eqb (get_or keys (number_below c keys) 0) c z) ∙ e)))

-- ---- kinds 1 and 4

pub record FirstIs (w : Bool) (c : ℕ) (ms named₀ named₁ : List ℕ) (r : Bool) : Type 0 where
  pub is : (own : List ℕ) → Seen ms own named₀ → (r ≡ first_kind w c ms own) × Seen ms (met_own w c own) named₁

pub record FourthIs (c : ℕ) (as' stood₀ stood₁ : List ℕ) (r : Bool) : Type 0 where
  pub is : (all : List ℕ) → Seen as' all stood₀ → (r ≡ fourth_kind c as' all) × Seen as' (c ∷ all) stood₁

pub first-not : {w : Bool} {c : ℕ} {ms named : List ℕ} → w ≡ false → FirstIs w c ms named named false
unfolding first_kind
first-not {w} {c} {ms} {named} e = record { is = λ own s. rw e (refl, s) }

pub first-noted : {w : Bool} {c n : ℕ} {ms named₀ named₁ : List ℕ} {r : Bool} → w ≡ true → Noted ms named₀ named₁ c n → r ≡ not (eqb n 1) → FirstIs w c ms named₀ named₁ r
unfolding first_kind
first-noted {w} {c} {n} {ms} {named₀} {named₁} {r} e k f =
    record { is = λ own s. let z = k.is own s in rw e (f ∙ ap (λ (x : ℕ). not (eqb x 1)) z.0, z.1) }

pub fourth-noted : {c n : ℕ} {as' stood₀ stood₁ : List ℕ} {r : Bool} → Noted as' stood₀ stood₁ c n → r ≡ eqb n 1 → FourthIs c as' stood₀ stood₁ r
unfolding fourth_kind
fourth-noted {c} {n} {as'} {stood₀} {stood₁} {r} k f =
    record { is = λ all s. let z = k.is all s in (f ∙ ap (λ (x : ℕ). eqb x 1) z.0, z.1) }

pub fourth-none : {c : ℕ} {as' stood : List ℕ} → Rise as' → has_code c as' ≡ false → FourthIs c as' stood stood false
fourth-none {c} {as'} {stood} r e = fourth-noted (noted-none as' stood c r (λ h z. clash (sym (found c as' (number_below c as') h z) ∙ e))) refl

-- ---- the search

pub held_all : (keys : List ℕ) → Rise keys → Held keys (length keys)
held_all keys r = record { fits = omega arith; rises = rw (take_all (length keys) keys (omega arith)) r }

pub place_is : (keys : List ℕ) (c : ℕ) {k : ℕ} → k ≡ number_below c (take (length keys) keys) → k ≡ number_below c keys
place_is keys c e = e ∙ ap (number_below c) (take_all (length keys) keys (omega arith))

module _ (keys : List ℕ) (c : ℕ) {k : ℕ} (r : Rise keys) (e : k ≡ number_below c keys) where
  pub none-past : {seen : List ℕ} → length keys ≤ k → Noted keys seen seen c 0
  none-past {seen} h = noted-none keys seen c r (λ i z. omega (arith, e))

  pub none_other : {seen : List ℕ} → (get_or keys k 0 ≡ c → ⊥) → Noted keys seen seen c 0
  none_other {seen} h = noted-none keys seen c r (λ i z. h (ap (λ (x : ℕ). get_or keys x 0) e ∙ z))

  pub holds-past : length keys ≤ k → false ≡ has_code c keys
  holds-past h = sym (missing c keys r (λ i z. omega (arith, e)))

  pub holds-here : {t : Bool} → k < length keys → t ≡ eqb (get_or keys k 0) c → t ≡ has_code c keys
  holds-here h f = f ∙ ap (λ (x : ℕ). eqb (get_or keys x 0) c) e ∙ holds_at c keys r (omega (arith, e))

-- ---- small tests

pub late-first : (prev n m : ℕ) → prev ≡ 40 → false ≡ late_at prev n m
unfolding late_at
late-first prev n m e = rw (eq-eqb prev 40 e) refl

pub late-other : (prev n m : ℕ) {r : Bool} → (prev ≡ 40 → ⊥) → r ≡ leb m n → r ≡ late_at prev n m
unfolding late_at
late-other prev n m h e = rw (ne_eqb prev 40 h) e

pub mask_is : {a b d : ℕ} (x y z : Bool) → a ≡ bit x → b ≡ bit y → d ≡ bit z → a + b * 2 + d * 4 ≡ mask_of x y z
unfolding mask_of
mask_is x y z e f g = rw (e, f, g) refl

abbrev bracket : List ℕ → ℕ
bracket bs = cond (shuts bs) 8 0

pub shut_none : (body : List ℕ) (n : ℕ) → n ≡ length body → ◌≡◌ {A = ℕ} 0 (cond (shuts (drop n body)) 8 0)
shut_none body n h = sym (ap bracket (drop_of_length-le body {i = n} (omega arith)))

module _ (body : List ℕ) (n : ℕ) (h : n < length body) where
  pub shut-here : get_or body n 0 ≡ 41 → ◌≡◌ {A = ℕ} 8 (cond (shuts (drop n body)) 8 0)
  shut-here e = sym (ap bracket (byte_at body n h) ∙ ap (λ (t : Bool). cond {A = ℕ} t 8 0) (eq-eqb (get_or body n 0) 41 e))

  pub shut-other : (get_or body n 0 ≡ 41 → ⊥) → ◌≡◌ {A = ℕ} 0 (cond (shuts (drop n body)) 8 0)
  shut-other e = sym (ap bracket (byte_at body n h) ∙ ap (λ (t : Bool). cond {A = ℕ} t 8 0) (ne_eqb (get_or body n 0) 41 e))

when-length : (t : Bool) (x : Change) (l : List Change) → length (when t x ++ l) ≡ bit t + length l
when-length true x l = omega arith
when-length false x l = omega arith

bit-small : (t : Bool) → bit t ≤ 1
bit-small true = omega arith
bit-small false = omega arith

pub kinds-length : (p m : ℕ) → length (kinds_at p m) ≡ bit (eqb (m % 2) 1) + bit (eqb (m / 2 % 2) 1) + bit (eqb (m / 8) 1) + bit (eqb (m / 4 % 2) 1)
unfolding kinds_at
kinds-length p m =
    let a : List Change = when (eqb (m / 4 % 2) 1) (record { place = p; kind = 4 }) in
    let b : List Change = when (eqb (m / 8) 1) (record { place = p; kind = 3 }) ++ a in
    let c : List Change = when (eqb (m / 2 % 2) 1) (record { place = p; kind = 2 }) ++ b in
    let z : length a ≡ bit (eqb (m / 4 % 2) 1) + 0 = ap length (sym (append-nil a)) ∙ when-length (eqb (m / 4 % 2) 1) (record { place = p; kind = 4 }) [] in
    omega (
      arith,
      when-length (eqb (m % 2) 1) (record { place = p; kind = 1 }) c,
      when-length (eqb (m / 2 % 2) 1) (record { place = p; kind = 2 }) b,
      when-length (eqb (m / 8) 1) (record { place = p; kind = 3 }) a,
      z,
    )

pub kinds-are :
    (m : ℕ) {a b c d : ℕ} → a ≡ bit (eqb (m % 2) 1) → b ≡ bit (eqb (m / 2 % 2) 1) → c ≡ bit (eqb (m / 8) 1) → d ≡ bit (eqb (m / 4 % 2) 1) →
    (a + b + c + d ≡ length (kinds_at 7 m)) × (a + b + c + d ≤ 4)
kinds-are m e f g h =
    (omega (arith, kinds-length 7 m, e, f, g, h), omega (arith, e, f, g, h, bit-small (eqb (m % 2) 1), bit-small (eqb (m / 2 % 2) 1), bit-small (eqb (m / 8) 1), bit-small (eqb (m / 4 % 2) 1)))
