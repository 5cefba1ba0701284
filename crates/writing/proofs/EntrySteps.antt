-- What the parts of writing hand back: the tests of the list, and the answers. Assumes nothing.
use Rattle.std.specs.Prelude.{Err, Ok, Result}
use mathlib.Core.Path.{◌≡◌, refl, sym, ap, ap₂, ◌∙◌}
use mathlib.Core.Bool.{Bool, true, false, ◌&&◌, not}
use mathlib.Core.Logic.{◌↔◌, ◌⊎◌, inl, inr, ⊎_elim}
use mathlib.Core.List.{List, [], ◌∷◌, map}
use Prim.Native.Nat.{ℕ, zero, suc, ◌+◌, ◌-◌, ◌*◌, ◌^◌, ◌≤◌, ◌<◌}
use native.Mathlib.Numerals.{add-one}
use native.Mathlib.Omega.{arith}
use lib.Dec.{leb, ltb}
use lib.ListN.{length, drop, get_or, set, length-drop, drop_of_length-le}
use lib.Seq.{sets, drop-cons}
use borrow.Author.Tests.{lt-ltb, le-ltb, ltb-true, ltb-false, le-leb, lt-leb}
use Rattle.logic.specs.Laws.Order.{lt-or}
use Rattle.logic.specs.Refusal.{refuse, ◌otherwise◌, given}
use Rattle.logic.specs.Laws.Refusal.{stops, passes}
use Rattle.cell.specs.declared.Arrangement.{Arrangement}
use Rattle.code.specs.Code.{cell_of, cell_code, is_code, is_of, size_of}
use Rattle.code.proofs.Laws.Code.{code-is-cell, of-arrangement, codes-order}
use Rattle.code.specs.Inside.{start_of, end_of, lies_within}
use Rattle.code.proofs.Laws.Inside.{code-start, end-small, size-pos}
use Rattle.reading.specs.declared.Profile.{Profile}
use Rattle.reading.specs.declared.Profile.TheVariants.{Full, Handheld}
use Rattle.reading.specs.Text.{IsProfile, version_of, heading}
use Rattle.reading.specs.Written.{keeps}
use Rattle.writing.specs.Write.{all_codes, all_of, ordered, codes_refusal, asks_for, text_of, fit_refusal, write_refusal, text_in, written}
use Rattle.writing.specs.Internal.Put.{front}
use Rattle.writing.specs.Internal.Asked.{asked_refusal}
use Rattle.writing.proofs.Internal.AskedLaws.{asked-first}
use Rattle.writing.proofs.Laws.List.{not-lies, tested}

-- ---- the tests of the list

drop_at : (codes : List ℕ) (i : ℕ) → i < length codes → drop i codes ≡ get_or codes i 0 ∷ drop (i + 1) codes
drop_at codes i h = rw (add-one, drop-cons codes i 0)

pub codes-step : (codes : List ℕ) (i : ℕ) → i < length codes → all_codes (drop i codes) ≡ (is_code (get_or codes i 0) && all_codes (drop (i + 1) codes))
unfolding all_codes
codes-step codes i h = ap all_codes (drop_at codes i h)

pub codes-end : (codes : List ℕ) (i : ℕ) → length codes ≤ i → all_codes (drop i codes) ≡ true
unfolding all_codes
codes-end codes i h = ap all_codes (drop_of_length-le codes h)

module _ (a : Arrangement) where
  own-step : (codes : List ℕ) (i : ℕ) → i < length codes → all_of a (drop i codes) ≡ (is_of a (get_or codes i 0) && all_of a (drop (i + 1) codes))
  unfolding all_of
  own-step codes i h = ap (all_of a) (drop_at codes i h)

  own-end : (codes : List ℕ) (i : ℕ) → length codes ≤ i → all_of a (drop i codes) ≡ true
  unfolding all_of
  own-end codes i h = ap (all_of a) (drop_of_length-le codes h)

pub and-three : (a b c : Bool) → (a && (b && c)) ≡ ((a && b) && c)
and-three true b c = refl
and-three false b c = refl

pub order-step :
    (codes : List ℕ) (i : ℕ) → i + 1 < length codes →
    ordered (drop i codes) ≡
    ((ltb (get_or codes i 0) (get_or codes (i + 1) 0) && not (lies_within (cell_of (get_or codes i 0)) (cell_of (get_or codes (i + 1) 0)))) && ordered (drop (i + 1) codes))
unfolding ordered
order-step codes i h =
    let c : ℕ = get_or codes i 0 in
    let x : ℕ = get_or codes (i + 1) 0 in
    let e : drop (i + 1) codes ≡ x ∷ drop (i + 1 + 1) codes = drop_at codes (i + 1) h in
    ap ordered (drop_at codes i (omega arith) ∙ ap (λ (cs : List ℕ). c ∷ cs) e)
    ∙ and-three (ltb c x) (not (lies_within (cell_of c) (cell_of x))) (ordered (x ∷ drop (i + 1 + 1) codes))
    ∙ ap (λ (cs : List ℕ). (ltb c x && not (lies_within (cell_of c) (cell_of x))) && ordered cs) (sym e)

short-order : (codes : List ℕ) → length codes ≤ 1 → ordered codes ≡ true
unfolding ordered
short-order [] h = refl
short-order (c ∷ []) h = refl
short-order (c ∷ x ∷ cs) h = absurd (omega arith)

pub order-end : (codes : List ℕ) (i : ℕ) → length codes ≤ i + 1 → ordered (drop i codes) ≡ true
order-end codes i h = short-order (drop i codes) (rw (length-drop i codes) (omega arith))

-- two codes of one arrangement: the second comes after the first and not inside where its cell starts at the end of the first one's, or later
after :
    (a : Arrangement) (c x : ℕ) → is_code c ≡ true → is_code x ≡ true → is_of a c ≡ true → is_of a x ≡ true →
    (ltb c x && not (lies_within (cell_of c) (cell_of x))) ≡ leb (start_of (cell_of c) + size_of (cell_of c)) (start_of (cell_of x))
unfolding end_of
after a c x i j m n = go (ltb c x) refl
  where
    rise : (c < x) ↔ (cell_code (cell_of c) < cell_code (cell_of x))
    rise = codes-order c x i j (of-arrangement a c m) (of-arrangement a x n)

    go :
        (b : Bool) → ltb c x ≡ b →
        (b && not (lies_within (cell_of c) (cell_of x))) ≡ leb (start_of (cell_of c) + size_of (cell_of c)) (start_of (cell_of x))
    go true e = not-lies (cell_of c) (cell_of x) (code-is-cell c i) (code-is-cell x j) (rise.0 (ltb-true c x e))
    go false e =
        let h : x ≤ c = ltb-false c x e in
        let k : cell_code (cell_of x) ≤ cell_code (cell_of c) =
        ⊎_elim (λ l. absurd (let m : c < x = rise.1 l in omega arith)) (λ l. l) (lt-or (cell_code (cell_of c)) (cell_code (cell_of x))) in
        let r = code-start (cell_of x) (cell_of c) (code-is-cell x j) (code-is-cell c i) k in
        sym (lt-leb (start_of (cell_of c) + size_of (cell_of c)) (start_of (cell_of x)) (omega (arith, r, size-pos (cell_of c))))

-- where a cell ends is a small number
pub end-small-at : (c : ℕ) {start size : ℕ} → is_code c ≡ true → start ≡ start_of (cell_of c) → size ≡ size_of (cell_of c) → start + size < 2 ^ 64
unfolding end_of
end-small-at c t s z =
    let v = code-is-cell c t in
    let b : start_of (cell_of c) + size_of (cell_of c) ≤ (cell_of c).face * 205891132094649 + 205891132094649 = end-small (cell_of c) v in
    omega (arith, s, z, v.faced)

-- ---- the codes, one after the other

abbrev code_at : List ℕ → ℕ → ℕ
code_at codes i = get_or codes i 0

-- the codes up to the place i are of the arrangement
pub record Own (a : Arrangement) (codes : List ℕ) (i : ℕ) : Type 0 where
  pub left : all_of a codes ≡ all_of a (drop i codes)
  pub before : 0 < i → is_of a (code_at codes (i - 1)) ≡ true

-- the order of the codes up to the place i is judged
abbrev pub Order : List ℕ → (i refusal : ℕ) → Type 0
Order codes i refusal = ((refusal ≡ 0) × (ordered codes ≡ ordered (drop (i - 1) codes))) ⊎ ((refusal ≡ 11) × (ordered codes ≡ false))

-- the codes up to the place i are cells', they are judged, and the last of their cells ends at `end`
pub record Judged (a : Arrangement) (codes : List ℕ) (i refusal end : ℕ) : Type 0 where
  pub to : i ≤ length codes
  pub coded : all_codes codes ≡ all_codes (drop i codes)
  pub said : (Own a codes i × Order codes i refusal) ⊎ ((refusal ≡ 14) × (all_of a codes ≡ false))
  pub first : i ≡ 0 → end ≡ 0
  pub last : 0 < i → (is_code (code_at codes (i - 1)) ≡ true) × (end ≡ start_of (cell_of (code_at codes (i - 1))) + size_of (cell_of (code_at codes (i - 1))))

pub judge-starts : (a : Arrangement) (codes : List ℕ) → Judged a codes 0 0 0
judge-starts a codes =
    record {
      to = omega arith;
      coded = refl;
      said = inl (record { left = refl; before = λ h. absurd (omega arith) }, inl (refl, refl));
      first = λ h. refl;
      last = λ h. absurd (omega arith);
    }

module _ {a : Arrangement} {codes : List ℕ} {i refusal end : ℕ} (v : Judged a codes i refusal end) where
  pub judge-four : i < length codes → is_code (code_at codes i) ≡ false → 4 ≡ codes_refusal a codes
  unfolding ◌otherwise◌
  judge-four h e = sym (tested a codes (v.coded ∙ codes-step codes i h ∙ ap (λ (b : Bool). b && all_codes (drop (i + 1) codes)) e) refl refl)

  pub judge-ends : length codes ≤ i → refusal ≡ codes_refusal a codes
  unfolding ◌otherwise◌
  judge-ends h =
      let t : all_codes codes ≡ true = v.coded ∙ codes-end codes i h in
      ⊎_elim
      (λ k.
      let o : all_of a codes ≡ true = k.0.left ∙ own-end a codes i h in
      ⊎_elim (λ m. m.0 ∙ sym (tested a codes t o (m.1 ∙ order-end codes (i - 1) (omega arith)))) (λ m. m.0 ∙ sym (tested a codes t o m.1)) k.1)
      (λ k. k.0 ∙ sym (tested a codes t k.1 refl))
      v.said

  module _ {start : ℕ} (h : i < length codes) (e : is_code (code_at codes i) ≡ true) (s : start ≡ start_of (cell_of (code_at codes i))) where
    -- a later code, by where the cell before it ends
    pair : Own a codes i → is_of a (code_at codes i) ≡ true → 0 < i → ordered (drop (i - 1) codes) ≡ (leb end start && ordered (drop i codes))
    pair o f z =
        let p : i - 1 + 1 ≡ i = omega arith in
        let l = v.last z in
        rw p at (order-step codes (i - 1) (omega arith))
        ∙ ap (λ (b : Bool). b && ordered (drop i codes)) (after a (code_at codes (i - 1)) (code_at codes i) l.0 e (o.before z) f ∙ ap₂ leb (sym l.1) (sym s))

    -- the first code always follows
    follows : Own a codes i → is_of a (code_at codes i) ≡ true → ordered (drop (i - 1) codes) ≡ (leb end start && ordered (drop i codes))
    follows o f = ⊎_elim (pair o f) at_first (lt-or 0 i)
      where
        at_first : i ≤ 0 → ordered (drop (i - 1) codes) ≡ (leb end start && ordered (drop i codes))
        at_first z =
            let p : i - 1 ≡ i = omega arith in
            let g : end ≡ 0 = v.first (omega arith) in
            ap (λ (j : ℕ). ordered (drop j codes)) p ∙ sym (ap (λ (b : Bool). b && ordered (drop i codes)) (le-leb end start (omega arith)))

    own-next : Own a codes i → is_of a (code_at codes i) ≡ true → Own a codes (i + 1)
    own-next o f =
        let p : i + 1 - 1 ≡ i = omega arith in
        record { left = o.left ∙ own-step a codes i h ∙ ap (λ (b : Bool). b && all_of a (drop (i + 1) codes)) f; before = λ z. rw p f }

    -- what is said with one code more
    next-said : (o f : Bool) → is_of a (code_at codes i) ≡ o → leb end start ≡ f → let r = refuse (not o) 14 otherwise refusal otherwise refuse (not f) 11 in
        (Own a codes (i + 1) × Order codes (i + 1) r) ⊎ ((r ≡ 14) × (all_of a codes ≡ false))
    unfolding ◌otherwise◌
    next-said false f g k =
        inr (refl, ⊎_elim (λ m. m.0.left ∙ own-step a codes i h ∙ ap (λ (b : Bool). b && all_of a (drop (i + 1) codes)) g) (λ m. m.1) v.said)
    next-said true f g k = ⊎_elim (λ m. inl (own-next m.0 g, rw p (judge-order f k m.0 m.1))) (λ m. inr (ap (λ (x : ℕ). x otherwise refuse (not f) 11) m.0, m.1)) v.said
      where
        p : i + 1 - 1 ≡ i
        p = omega arith

        judge-order :
            (f : Bool) → leb end start ≡ f → Own a codes i → Order codes i refusal →
            ((refusal otherwise refuse (not f) 11 ≡ 0) × (ordered codes ≡ ordered (drop i codes))) ⊎ ((refusal otherwise refuse (not f) 11 ≡ 11) × (ordered codes ≡ false))
        judge-order true k o (inl n) = inl (passes 0 n.0, n.1 ∙ follows o g ∙ ap (λ (b : Bool). b && ordered (drop i codes)) k)
        judge-order false k o (inl n) = inr (passes 11 n.0, n.1 ∙ follows o g ∙ ap (λ (b : Bool). b && ordered (drop i codes)) k)
        judge-order f k o (inr n) = inr (ap (λ (x : ℕ). x otherwise refuse (not f) 11) n.0, n.1)

    pub judge-next :
        {r next : ℕ} → r ≡ refuse (not (is_of a (code_at codes i))) 14 otherwise refusal otherwise refuse (not (leb end start)) 11 → next ≡ start + size_of (cell_of (code_at codes i)) →
        Judged a codes (i + 1) r next
    judge-next q n =
        let p : i + 1 - 1 ≡ i = omega arith in
        record {
          to = omega arith;
          coded = v.coded ∙ codes-step codes i h ∙ ap (λ (b : Bool). b && all_codes (drop (i + 1) codes)) e;
          said = rw q (next-said (is_of a (code_at codes i)) (leb end start) refl refl);
          first = λ z. absurd (omega arith);
          last = λ z. rw p (e, n ∙ ap (λ (x : ℕ). x + size_of (cell_of (code_at codes i))) s);
        }

-- ---- the heading

pub front-put :
    (v n s : ℕ) (a : List ℕ) {b c d e f g h : List ℕ} → b ≡ set a 0 67 → c ≡ set b 1 86 → d ≡ set c 2 82 → e ≡ set d 3 0 → f ≡ set e 4 v → g ≡ set f 5 (48 + n) →
    h ≡ set g 6 (48 + s) → h ≡ sets a 0 (front v n s)
front-put v n s a i j k l m o p =
    p ∙ ap (λ t. set t 6 (48 + s))
    (o ∙ ap (λ t. set t 5 (48 + n)) (m ∙ ap (λ t. set t 4 v) (l ∙ ap (λ t. set t 3 0) (k ∙ ap (λ t. set t 2 82) (j ∙ ap (λ t. set t 1 86) i)))))

-- what more version 2 has
module _ (p : Profile) (v n s : ℕ) (a : List ℕ) {h : List ℕ} (e : v ≡ version_of p) (f : h ≡ sets a 0 (front v n s)) where
  seven : h ≡ sets a 0 (front (version_of p) n s)
  seven = f ∙ ap (λ (x : ℕ). sets a 0 (front x n s)) e

  pub heading-full : p ≡ Full → h ≡ sets a 0 (heading p n s)
  heading-full q = rw q (rw q at seven)

  pub heading-handheld : {d : ℕ} {t : List ℕ} → p ≡ Handheld d → t ≡ set h 7 (97 + d) → t ≡ sets a 0 (heading p n s)
  heading-handheld {d} q g = rw q (g ∙ ap (λ (x : List ℕ). set x 7 (97 + d)) (rw q at seven))

pub depth_small : {p : Profile} {d : ℕ} → p ≡ Handheld d → IsProfile p → d ≤ 15
depth_small q h = rw q at h

-- ---- the answers

pub refused : (w r n : ℕ) (x text : List ℕ) → w ≡ r → (r ≡ 0 → ⊥) → (Err r ≡ written w n) × (text ≡ given w x text)
unfolding written given
refused w r n x text e h = rw e (go r h)
  where
    go : (r : ℕ) → (r ≡ 0 → ⊥) → (Err r ≡ written r n) × (text ≡ given r x text)
    go zero h = absurd (h refl)
    go (suc r) h = (refl, refl)

pub answered : (w m n : ℕ) (x text later : List ℕ) → w ≡ 0 → m ≡ n → later ≡ x → (Ok m ≡ written w n) × (later ≡ given w x text)
unfolding written given
answered w m n x text later e f g = rw e (ap Ok f, g)

-- ---- what is written

module _ (p : Profile) (a : Arrangement) (codes : List ℕ) (room : ℕ) where
  module _ (e : not (keeps p (map cell_of codes)) ≡ false) where
    pub fit-thirteen : 65536 < length (text_of p a codes) → fit_refusal p a codes room ≡ 13
    unfolding fit_refusal ◌otherwise◌
    fit-thirteen h = rw (e, lt-ltb 65536 (length (text_of p a codes)) h) refl

    pub fit-eight : length (text_of p a codes) ≤ 65536 → room < length (text_of p a codes) → fit_refusal p a codes room ≡ 8
    unfolding fit_refusal ◌otherwise◌
    fit-eight g h = rw (e, le-ltb 65536 (length (text_of p a codes)) g, lt-ltb room (length (text_of p a codes)) h) refl

    pub fit_none : length (text_of p a codes) ≤ 65536 → length (text_of p a codes) ≤ room → fit_refusal p a codes room ≡ 0
    unfolding fit_refusal ◌otherwise◌
    fit_none g h = rw (e, le-ltb 65536 (length (text_of p a codes)) g, le-ltb room (length (text_of p a codes)) h) refl

-- what is asked comes first, then whether it fits
module _ (version depth : ℕ) (a : Arrangement) (codes text : List ℕ) where
  abbrev whole : ℕ
  whole = write_refusal version depth a codes (length text)

  pub asked-refused : (asked_refusal version depth a codes ≡ 0 → ⊥) → whole ≡ asked_refusal version depth a codes
  asked-refused h = asked-first version depth a codes (length text) ∙ stops (asked_refusal version depth a codes) _ h

  pub fit-answered :
      (p : Profile) {r : Result ℕ ℕ} {later : List ℕ} → asks_for version depth ≡ p → asked_refusal version depth a codes ≡ 0 →
      (r ≡ written (fit_refusal p a codes (length text)) (length (text_of p a codes))) × (later ≡ given (fit_refusal p a codes (length text)) (text_in p a codes text) text) →
      (r ≡ written whole (length (text_of (asks_for version depth) a codes))) × (later ≡ given whole (text_in (asks_for version depth) a codes text) text)
  fit-answered p e z h = rw (asked-first version depth a codes (length text) ∙ passes _ z, e) h
