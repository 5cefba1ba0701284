-- The refusals of writing, one after the other. Assumes nothing.
use Rattle.std.specs.Prelude.{◌≡◌, ◌↔◌, ◌⊎◌, Bool, true, false, not, List, map, ltb, eqb, length}
use Rattle.std.proofs.Math.Path.{refl, ap}
use Rattle.std.proofs.Common.{sym, ◌∙◌, inl, inr, ⊎_elim, arith, lt-ltb, le-ltb, eq-eqb, eqb-true}
use Prim.Native.Nat.{ℕ, zero, suc, ◌≤◌, ◌<◌}
use Rattle.logic.specs.Laws.Bools.{or-either, or-left-true, or-right-true}
use Rattle.logic.specs.Refusal.{refuse, ◌otherwise◌}
use Rattle.logic.specs.Laws.Refusal.{passes, stops, either, other, allowed}
use Rattle.cell.specs.declared.Arrangement.{Arrangement}
use Rattle.cell.specs.Cell.{IsArrangement, arrangement_refusal}
use Rattle.cell.proofs.Laws.Cell.{is-arrangement, five-refused}
use Rattle.code.specs.Code.{cell_of}
use Rattle.reading.specs.declared.Profile.{Profile}
use Rattle.reading.specs.Written.{keeps}
use Rattle.writing.specs.Write.{all_codes, all_of, ordered, codes_refusal, asks_for, is_version, text_of, fit_refusal, write_refusal}
use Rattle.writing.proofs.Laws.List.{four-exactly, coded}
use Rattle.writing.specs.Internal.Asked.{asked_refusal}

-- ---- tests in a row

otherwise-assoc : (p q r : ℕ) → p otherwise (q otherwise r) ≡ (p otherwise q) otherwise r
unfolding ◌otherwise◌
otherwise-assoc zero q r = refl
otherwise-assoc (suc p) q r = refl

-- a refusal of another number than a test's comes behind it
pub behind : {n : ℕ} (t : Bool) (m q : ℕ) → (suc m ≡ suc n → ⊥) → refuse t (suc m) otherwise q ≡ suc n → (t ≡ false) × (q ≡ suc n)
behind {n} t m q h e = ⊎_elim (λ k. absurd (other t (suc m) n h k)) (λ k. (allowed m t k.0, k.1)) (either (refuse t (suc m)) q e)

-- of a test's own number, where none behind it has it, it is the test's
pub own : {m : ℕ} (t : Bool) (q : ℕ) → (q ≡ suc m → ⊥) → refuse t (suc m) otherwise q ≡ suc m → t ≡ true
unfolding ◌otherwise◌
own true q h e = refl
own false q h e = absurd (h e)

-- ---- a version

pub versions : (version : ℕ) → (is_version version ≡ true) ↔ ((version ≡ 1) ⊎ (version ≡ 2))
unfolding is_version
versions version = (
  (λ e. ⊎_elim (λ h. inl (eqb-true version 1 h)) (λ h. inr (eqb-true version 2 h)) (or-either (eqb version 1) (eqb version 2) e)),
  ⊎_elim (λ h. or-left-true (eqb version 1) (eqb version 2) (eq-eqb version 1 h)) (λ h. or-right-true (eqb version 1) (eqb version 2) (eq-eqb version 2 h)),
)

-- ---- what is asked

module _ (version depth : ℕ) (a : Arrangement) (codes : List ℕ) where
  -- it comes first, then whether the ground fits
  pub asked-first :
      (room : ℕ) → write_refusal version depth a codes room ≡ asked_refusal version depth a codes otherwise fit_refusal (asks_for version depth) a codes room
  unfolding write_refusal asked_refusal
  asked-first room =
      let fits : ℕ = fit_refusal (asks_for version depth) a codes room in
      ap (λ (x : ℕ). arrangement_refusal a otherwise x)
      (ap (λ (x : ℕ). refuse (ltb 15 depth) 2 otherwise x)
      (ap (λ (x : ℕ). refuse (not (all_codes codes)) 4 otherwise x) (otherwise-assoc (refuse (not (is_version version)) 10) (codes_refusal a codes) fits)
      ∙ otherwise-assoc (refuse (not (all_codes codes)) 4) (refuse (not (is_version version)) 10 otherwise codes_refusal a codes) fits)
      ∙ otherwise-assoc (refuse (ltb 15 depth) 2) (refuse (not (all_codes codes)) 4 otherwise refuse (not (is_version version)) 10 otherwise codes_refusal a codes) fits)
      ∙ otherwise-assoc (arrangement_refusal a) _ fits

  pub asked-five : (arrangement_refusal a ≡ 0 → ⊥) → asked_refusal version depth a codes ≡ arrangement_refusal a
  unfolding asked_refusal
  asked-five h = stops (arrangement_refusal a) _ h

  module _ (e : arrangement_refusal a ≡ 0) where
    pub asked-two : 15 < depth → asked_refusal version depth a codes ≡ 2
    unfolding asked_refusal ◌otherwise◌
    asked-two h = passes _ e ∙ rw (lt-ltb 15 depth h) refl

    module _ (h : depth ≤ 15) where
      pub asked-four : codes_refusal a codes ≡ 4 → asked_refusal version depth a codes ≡ 4
      unfolding asked_refusal ◌otherwise◌
      asked-four f = passes _ e ∙ rw (le-ltb 15 depth h, (four-exactly a codes).0 f) refl

      module _ (f : codes_refusal a codes ≡ 4 → ⊥) where
        pub asked-ten : is_version version ≡ false → asked_refusal version depth a codes ≡ 10
        unfolding asked_refusal ◌otherwise◌
        asked-ten v = passes _ e ∙ rw (le-ltb 15 depth h, coded a codes f, v) refl

        pub asked-list : is_version version ≡ true → asked_refusal version depth a codes ≡ codes_refusal a codes
        unfolding asked_refusal ◌otherwise◌
        asked-list v = passes _ e ∙ rw (le-ltb 15 depth h, coded a codes f, v) refl

-- ---- whether it fits

pub fit-fifteen : (p : Profile) (a : Arrangement) (codes : List ℕ) (room : ℕ) → not (keeps p (map cell_of codes)) ≡ true → fit_refusal p a codes room ≡ 15
unfolding fit_refusal ◌otherwise◌
fit-fifteen p a codes room h = rw h refl

-- ---- what a refusal's number says

-- another number than 5
pub not_five : {n : ℕ} (a : Arrangement) (q : ℕ) → (◌≡◌ {A = ℕ} 5 (suc n) → ⊥) → arrangement_refusal a otherwise q ≡ suc n → IsArrangement a × (q ≡ suc n)
not_five a q h e =
    ⊎_elim (λ k. absurd (h (sym (five-refused a (λ z. omega arith)) ∙ k))) (λ k. (is-arrangement k.0, k.1)) (either (arrangement_refusal a) q e)

late-other : {n : ℕ} (x y : Bool) → (◌≡◌ {A = ℕ} 13 (suc n) → ⊥) → (◌≡◌ {A = ℕ} 8 (suc n) → ⊥) → refuse x 13 otherwise refuse y 8 ≡ suc n → ⊥
late-other {n} x y h i e = other y 8 n i (behind x 12 (refuse y 8) h e).1

module _ (a : Arrangement) (codes : List ℕ) where
  -- 4, 14 and 11 alone are of the list
  pub codes-other :
      {n : ℕ} → (◌≡◌ {A = ℕ} 4 (suc n) → ⊥) → (◌≡◌ {A = ℕ} 14 (suc n) → ⊥) → (◌≡◌ {A = ℕ} 11 (suc n) → ⊥) → codes_refusal a codes ≡ suc n → ⊥
  unfolding codes_refusal
  codes-other {n} h i j e =
      let k = behind (not (all_codes codes)) 3 _ h e in
      other (not (ordered codes)) 11 n j (behind (not (all_of a codes)) 13 (refuse (not (ordered codes)) 11) i k.1).1

  -- 15, 13 and 8 alone are of the ground and its text
  pub fit-other :
      {n : ℕ} (p : Profile) (room : ℕ) → (◌≡◌ {A = ℕ} 15 (suc n) → ⊥) → (◌≡◌ {A = ℕ} 13 (suc n) → ⊥) → (◌≡◌ {A = ℕ} 8 (suc n) → ⊥) →
      fit_refusal p a codes room ≡ suc n → ⊥
  unfolding fit_refusal
  fit-other p room h i j e =
      late-other (ltb 65536 (length (text_of p a codes))) (ltb room (length (text_of p a codes))) i j (behind (not (keeps p (map cell_of codes))) 14 _ h e).1

  pub asked-fifteen : (version depth : ℕ) → asked_refusal version depth a codes ≡ 15 → ⊥
  unfolding asked_refusal
  asked-fifteen version depth e =
      let k = not_five a _ (λ z. omega arith) e in
      let d = behind (ltb 15 depth) 1 _ (λ z. omega arith) k.1 in
      let c = behind (not (all_codes codes)) 3 _ (λ z. omega arith) d.1 in
      let v = behind (not (is_version version)) 9 (codes_refusal a codes) (λ z. omega arith) c.1 in
      codes-other (λ z. omega arith) (λ z. omega arith) (λ z. omega arith) v.1

  pub fifteen-fit : (p : Profile) (room : ℕ) → fit_refusal p a codes room ≡ 15 → not (keeps p (map cell_of codes)) ≡ true
  unfolding fit_refusal
  fifteen-fit p room e =
      own (not (keeps p (map cell_of codes))) _
      (late-other (ltb 65536 (length (text_of p a codes))) (ltb room (length (text_of p a codes))) (λ z. omega arith) (λ z. omega arith)) e
