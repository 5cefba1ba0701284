-- The gathered list is refused as the list of all that came is, and has the same text. Assumes nothing.
use Rattle.std.specs.Prelude.{◌≡◌, Bool, not, eqb, ltb, length, take, get_or}
use Rattle.std.proofs.Math.Path.{refl, sym, ap, ap₂}
use Rattle.std.proofs.Common.{◌∙◌, subst, pow-suc, length-take-le, take_all, take-suc, take-take}
use Rattle.std.proofs.Math.Bool.{true, false, ◌&&◌}
use mathlib.Core.List.{List, [], ◌∷◌, ◌++◌, map, map-append, append_assoc, append-nil}
use Prim.Native.Nat.{ℕ, zero, suc, ◌+◌, ◌-◌, ◌*◌, ◌/◌, ◌%◌, ◌^◌, ◌≤◌, ◌<◌}
use native.Mathlib.Omega.{arith}
use borrow.Author.Tests.{ltb-true, eqb-true, eq-eqb}
use Rattle.logic.specs.Laws.Lists.{all_append}
use Rattle.logic.specs.Laws.Bools.{and_left, and_right, by_cond}
use Rattle.logic.specs.Refusal.{refuse, ◌otherwise◌}
use Rattle.cell.specs.declared.Cell.{Cell}
use Rattle.cell.specs.declared.Arrangement.{Arrangement}
use Rattle.cell.specs.Cell.{IsCell, IsArrangement, arrangement_refusal}
use Rattle.code.specs.Code.{cell_of, is_code, is_of, arrangement_of, code_of}
use Rattle.code.specs.Number.{number_of, code_as, cell_code_as, cell_as}
use Rattle.code.proofs.Laws.Code.{cell-code, code-is-cell, north-part, south-part}
use Rattle.code.proofs.Laws.Number.{code-as, as_code, as-cell}
use Rattle.reading.specs.declared.Profile.{Profile}
use Rattle.reading.specs.Reading.{Nodes, render}
use Rattle.reading.specs.Text.{level_of, depth_of, heading}
use Rattle.reading.specs.Written.{nodes_for, written_text, fitting}
use Rattle.reading.proofs.Laws.Written.{one-nodes}
use Rattle.writing.specs.Write.{all_codes, all_of, ordered, codes_refusal, asks_for, is_version, text_of, fit_refusal, write_refusal, InTurn}
use Rattle.writing.proofs.Laws.List.{codes-cells, in-turn, in-turn-list, list-good, tested}
use Rattle.gathering.specs.Gather.{follows, merges, gathered_as, gathered}
use Rattle.gathering.proofs.Laws.Alike.{Alike, alike_same, alike_then, run, alike-parent}
use Rattle.gathering.proofs.Laws.Bare.{Own, Bare, turn-put, bare-take, bare-put, number_small}

-- ---- siblings at the end of a list

-- the codes of d cells of resolution k, from number m on
abbrev pub siblings : Arrangement → (k m d : ℕ) → List ℕ
siblings a k m zero = []
siblings a k m (suc d) = code_as a k m ∷ siblings a k (suc m) d

siblings-last : (a : Arrangement) (k m d : ℕ) → siblings a k m d ++ (code_as a k (m + d) ∷ []) ≡ siblings a k m (suc d)
siblings-last a k m zero = let e : m + 0 ≡ m = omega arith in ap (λ (i : ℕ). code_as a k i ∷ []) e
siblings-last a k m (suc d) =
    let e : m + suc d ≡ suc m + d = omega arith in
    ap (λ (x : List ℕ). code_as a k m ∷ x) (ap (λ (i : ℕ). siblings a k (suc m) d ++ (code_as a k i ∷ [])) e ∙ siblings-last a k (suc m) d)

run-last : (k m d : ℕ) (zs : List Cell) → run k m d ++ (cell_as k (m + d) ∷ zs) ≡ run k m (suc d) ++ zs
run-last k m zero zs = let e : m + 0 ≡ m = omega arith in ap (λ (i : ℕ). cell_as k i ∷ zs) e
run-last k m (suc d) zs =
    let e : m + suc d ≡ suc m + d = omega arith in
    ap (λ (x : List Cell). cell_as k m ∷ x) (ap (λ (i : ℕ). run k (suc m) d ++ (cell_as k i ∷ zs)) e ∙ run-last k (suc m) d zs)

-- a list whose last codes are those ends in them
pub follows-ends : (a : Arrangement) (k m d : ℕ) (xs : List ℕ) → follows a k (m + d) d xs ≡ true → (d ≤ length xs) × (xs ≡ take (length xs - d) xs ++ siblings a k m d)
unfolding follows
follows-ends a k m zero xs t = (omega arith, sym (append-nil (take (length xs - 0) xs) ∙ take_all (length xs - 0) xs (omega arith)))
follows-ends a k m (suc d) xs t =
    let n : ℕ = length xs - 1 in
    let b : Bool = eqb (get_or xs n 0) (code_as a k (m + suc d - 1)) in
    let f : Bool = follows a k (m + suc d - 1) d (take n xs) in
    let s : 0 < length xs = ltb-true 0 (length xs) (and_left (ltb 0 (length xs)) (b && f) t) in
    let u : (b && f) ≡ true = and_right (ltb 0 (length xs)) (b && f) t in
    let j : m + suc d - 1 ≡ m + d = omega arith in
    let e : get_or xs n 0 ≡ code_as a k (m + d) = eqb-true _ _ (and_left b f u) ∙ ap (code_as a k) j in
    let r = follows-ends a k m d (take n xs) (sym (ap (λ (i : ℕ). follows a k i d (take n xs)) j) ∙ and_right b f u) in
    let w : length (take n xs) ≡ n = length-take-le n xs (omega arith) in
    let o : length (take n xs) - d ≡ length xs - suc d = omega arith in
    let p : suc n ≡ length xs = omega arith in (
      omega (arith, r.0),
      sym (take_all (suc n) xs (omega arith))
          ∙ take-suc xs n 0 (omega arith)
          ∙ ap₂ (λ (x : List ℕ) (c : ℕ). x ++ (c ∷ [])) (r.1 ∙ ap (λ (i : ℕ). take i (take n xs) ++ siblings a k m d) o
          ∙ ap (λ (x : List ℕ). x ++ siblings a k m d) (take-take (length xs - suc d) n xs (omega arith))) e
          ∙ append_assoc (take (length xs - suc d) xs) (siblings a k m d) (code_as a k (m + d) ∷ [])
          ∙ ap (λ (x : List ℕ). take (length xs - suc d) xs ++ x) (siblings-last a k m d),
    )

-- a ninth child behind its eight siblings
module _ (a : Arrangement) (k n : ℕ) (xs : List ℕ) (t : merges a k n xs ≡ true) where
  pub merges-finer : 0 < k
  unfolding merges
  merges-finer = ltb-true 0 k (and_left (ltb 0 k) (eqb (n % 9) 8 && follows a k n 8 xs) t)

  pub merges-ninth : n ≡ 9 * (n / 9) + 8
  unfolding merges
  merges-ninth =
      let e : n % 9 ≡ 8 = eqb-true _ _ (and_left (eqb (n % 9) 8) (follows a k n 8 xs) (and_right (ltb 0 k) (eqb (n % 9) 8 && follows a k n 8 xs) t)) in
      omega arith

  pub merges-ends : (8 ≤ length xs) × (xs ≡ take (length xs - 8) xs ++ siblings a k (9 * (n / 9)) 8)
  unfolding merges
  merges-ends =
      follows-ends a k (9 * (n / 9)) 8 xs
      (sym (ap (λ (i : ℕ). follows a k i 8 xs) merges-ninth) ∙ and_right (eqb (n % 9) 8) (follows a k n 8 xs) (and_right (ltb 0 k) (eqb (n % 9) 8 && follows a k n 8 xs) t))

-- ---- what the functions do

pub gathered-merges : (a : Arrangement) (k n : ℕ) (xs : List ℕ) → merges a k n xs ≡ true → gathered_as a k n xs ≡ gathered_as a (k - 1) (n / 9) (take (length xs - 8) xs)
unfolding gathered_as
gathered-merges a zero n xs t = absurd (omega (arith, merges-finer a zero n xs t))
gathered-merges a (suc k) n xs t = let e : suc k - 1 ≡ k = omega arith in rw (t, e) refl

pub gathered-stays : (a : Arrangement) (k n : ℕ) (xs : List ℕ) → merges a k n xs ≡ false → gathered_as a k n xs ≡ xs ++ (code_as a k n ∷ [])
unfolding gathered_as
gathered-stays a zero n xs t = refl
gathered-stays a (suc k) n xs t = rw t refl

-- the number of the parent
number-under : (k n : ℕ) → n < 6 * 9 ^ suc k → n / 9 < 6 * 9 ^ k
number-under k n l = let e : 9 ^ suc k ≡ 9 ^ k * 9 = pow-suc 9 k in omega arith

pub number-down : (k n : ℕ) → 0 < k → n < 6 * 9 ^ k → n / 9 < 6 * 9 ^ (k - 1)
number-down zero n h l = absurd (omega arith)
number-down (suc k) n h l = let f : suc k - 1 ≡ k = omega arith in rw f (number-under k n l)

-- ---- codes of one arrangement

pub own-codes : (a : Arrangement) (xs : List ℕ) → Own a xs → all_codes xs ≡ true
unfolding all_codes
own-codes a [] o = refl
own-codes a (c ∷ xs) o = ap₂ ◌&&◌ o.0.0 (own-codes a xs o.1)

own-all : (a : Arrangement) (xs : List ℕ) → Own a xs → all_of a xs ≡ true
unfolding all_of
own-all a [] o = refl
own-all a (c ∷ xs) o = ap₂ ◌&&◌ o.0.1 (own-all a xs o.1)

own-take : (a : Arrangement) (n : ℕ) (xs : List ℕ) → Own a xs → Own a (take n xs)
own-take a zero xs o = tt
own-take a (suc n) [] o = tt
own-take a (suc n) (c ∷ xs) o = (o.0, own-take a n xs o.1)

module _ {a : Arrangement} (g : IsArrangement a) where
  own-as : (k n : ℕ) → is_of a (code_as a k n) ≡ true
  unfolding is_of arrangement_of code_as
  own-as k n = ap₂ ◌&&◌ (eq-eqb _ _ (north-part g (cell_code_as k n))) (eq-eqb _ _ (south-part g (cell_code_as k n)))

  own_put : (k n : ℕ) (xs : List ℕ) → k ≤ 15 → n < 6 * 9 ^ k → Own a xs → Own a (xs ++ (code_as a k n ∷ []))
  own_put k n xs h l o = all_append (λ (c : ℕ). (is_code c ≡ true) × (is_of a c ≡ true)) xs (code_as a k n ∷ []) o ((as_code k n h l g, own-as k n), tt)

  gathered-own : (k n : ℕ) (xs : List ℕ) → k ≤ 15 → n < 6 * 9 ^ k → Own a xs → Own a (gathered_as a k n xs)
  unfolding gathered_as
  gathered-own zero n xs h l o = own_put zero n xs h l o
  gathered-own (suc k) n xs h l o =
      by_cond (Own a) (merges a (suc k) n xs)
      (λ e. gathered-own k (n / 9) (take (length xs - 8) xs) (omega arith) (number-under k n l) (own-take a (length xs - 8) xs o))
      (λ e. own_put (suc k) n xs h l o)

  map-siblings : (k m d : ℕ) → k ≤ 15 → m + d ≤ 6 * 9 ^ k → map cell_of (siblings a k m d) ≡ run k m d
  map-siblings k m zero h l = refl
  map-siblings k m (suc d) h l = ap₂ ◌∷◌ (as-cell k m h (omega arith) g) (map-siblings k (suc m) d h (omega arith))

  map-put : (k n : ℕ) (xs : List ℕ) (zs : List Cell) → k ≤ 15 → n < 6 * 9 ^ k → map cell_of (xs ++ (code_as a k n ∷ [])) ++ zs ≡ map cell_of xs ++ (cell_as k n ∷ zs)
  map-put k n xs zs h l =
      ap (λ (x : List Cell). x ++ zs) (map-append cell_of xs (code_as a k n ∷ []))
      ∙ append_assoc (map cell_of xs) (cell_of (code_as a k n) ∷ []) zs
      ∙ ap (λ (x : Cell). map cell_of xs ++ (x ∷ zs)) (as-cell k n h l g)

  stays : (k n : ℕ) (xs : List ℕ) (zs : List Cell) → k ≤ 15 → n < 6 * 9 ^ k →
      Alike (map cell_of xs ++ (cell_as k n ∷ zs)) (map cell_of (xs ++ (code_as a k n ∷ [])) ++ zs)
  stays k n xs zs h l =
      subst (λ (y : List Cell). Alike (map cell_of xs ++ (cell_as k n ∷ zs)) y) (sym (map-put k n xs zs h l)) (alike_same (map cell_of xs ++ (cell_as k n ∷ zs)))

  -- eight siblings and the ninth, as cells
  module _ (k n : ℕ) (xs : List ℕ) (zs : List Cell) (h : suc k ≤ 15) (l : n < 6 * 9 ^ suc k) (t : merges a (suc k) n xs ≡ true) where
    abbrev before : List ℕ
    before = take (length xs - 8) xs

    down : n / 9 < 6 * 9 ^ k
    down = number-under k n l

    nine : map cell_of xs ++ (cell_as (suc k) n ∷ zs) ≡ map cell_of before ++ (run (suc k) (9 * (n / 9)) 9 ++ zs)
    nine =
        let m : ℕ = 9 * (n / 9) in
        let e : n ≡ m + 8 = merges-ninth a (suc k) n xs t in
        ap₂ (λ (x : List Cell) (i : ℕ). x ++ (cell_as (suc k) i ∷ zs))
        (ap (map cell_of) (merges-ends a (suc k) n xs t).1 ∙ map-append cell_of before (siblings a (suc k) m 8)
        ∙ ap (λ (x : List Cell). map cell_of before ++ x) (map-siblings (suc k) m 8 h (omega arith))) e
        ∙ append_assoc (map cell_of before) (run (suc k) m 8) (cell_as (suc k) (m + 8) ∷ zs)
        ∙ ap (λ (x : List Cell). map cell_of before ++ x) (run-last (suc k) m 8 zs)

    merged : Alike (map cell_of xs ++ (cell_as (suc k) n ∷ zs)) (map cell_of before ++ (cell_as k (n / 9) ∷ zs))
    merged =
        subst (λ (y : List Cell). Alike y (map cell_of before ++ (cell_as k (n / 9) ∷ zs))) (sym nine) (alike-parent k (n / 9) (omega arith) down (map cell_of before) zs)

  gathered-alike : (k n : ℕ) (xs : List ℕ) (zs : List Cell) → k ≤ 15 → n < 6 * 9 ^ k →
      Alike (map cell_of xs ++ (cell_as k n ∷ zs)) (map cell_of (gathered_as a k n xs) ++ zs)
  unfolding gathered_as
  gathered-alike zero n xs zs h l = stays zero n xs zs h l
  gathered-alike (suc k) n xs zs h l =
      by_cond (λ (y : List ℕ). Alike (map cell_of xs ++ (cell_as (suc k) n ∷ zs)) (map cell_of y ++ zs)) (merges a (suc k) n xs)
      (λ e.
      alike_then (map cell_of xs ++ (cell_as (suc k) n ∷ zs)) (map cell_of (take (length xs - 8) xs) ++ (cell_as k (n / 9) ∷ zs))
      (map cell_of (gathered_as a k (n / 9) (take (length xs - 8) xs)) ++ zs) (merged k n xs zs h l e)
      (gathered-alike k (n / 9) (take (length xs - 8) xs) zs (omega arith) (down k n xs zs h l e)))
      (λ e. stays (suc k) n xs zs h l)

  -- nine siblings are merged, so that no nine are held, where the cells come in turn
  put-turn : (k n : ℕ) (xs : List ℕ) → k ≤ 15 → n < 6 * 9 ^ k → InTurn (map cell_of xs ++ (cell_as k n ∷ [])) → InTurn (map cell_of (xs ++ (code_as a k n ∷ [])))
  put-turn k n xs h l t = subst InTurn (sym (map-put k n xs [] h l) ∙ append-nil (map cell_of (xs ++ (code_as a k n ∷ [])))) t

  gathered-bare : (k n : ℕ) (xs : List ℕ) → k ≤ 15 → n < 6 * 9 ^ k → InTurn (map cell_of xs ++ (cell_as k n ∷ [])) → Bare a xs → Bare a (gathered_as a k n xs)
  unfolding gathered_as merges
  gathered-bare zero n xs h l t b = bare-put g xs zero n h (put-turn zero n xs h l t) refl b
  gathered-bare (suc k) n xs h l t b =
      by_cond (Bare a) (merges a (suc k) n xs)
      (λ e.
      gathered-bare k (n / 9) (take (length xs - 8) xs) (omega arith) (down k n xs [] h l e) ((merged k n xs [] h l e).to t) (bare-take a (length xs - 8) xs b))
      (λ e. bare-put g xs (suc k) n h (put-turn (suc k) n xs h l t) e b)

-- ---- all that came, and what is held of it

pub record Holds (a : Arrangement) (codes held : List ℕ) : Type 0 where
  pub came : Own a codes
  pub kept : Own a held
  pub alike : (zs : List Cell) → Alike (map cell_of codes ++ zs) (map cell_of held ++ zs)
  pub bare : InTurn (map cell_of codes) → Bare a held

pub holds-none : (a : Arrangement) → Holds a [] []
holds-none a = record { came = tt; kept = tt; alike = λ zs. alike_same zs; bare = λ t k m h l f. f 0 (omega arith) }

pub holds_more :
    {a : Arrangement} → IsArrangement a → (code : ℕ) (codes held : List ℕ) → is_code code ≡ true → is_of a code ≡ true → Holds a codes held →
    Holds a (codes ++ (code ∷ [])) (gathered a code held)
holds_more {a} g code codes held i o p =
    record {
      came = all_append (λ (c : ℕ). (is_code c ≡ true) × (is_of a c ≡ true)) codes (code ∷ []) p.came ((i, o), tt);
      kept = gathered-own g k n held v.fine small p.kept;
      alike = λ zs.
          subst (λ (y : List Cell). Alike y (map cell_of (gathered a code held) ++ zs)) (sym (put zs))
          (alike_then (map cell_of codes ++ (cell_of code ∷ zs)) (map cell_of held ++ (cell_of code ∷ zs)) (map cell_of (gathered a code held) ++ zs) (p.alike (cell_of code ∷ zs))
          (subst (λ (x : Cell). Alike (map cell_of held ++ (x ∷ zs)) (map cell_of (gathered a code held) ++ zs)) is (gathered-alike g k n held zs v.fine small)));
      bare = λ t. gathered-bare g k n held v.fine small (comes t) (p.bare (turn-put codes code t).0);
    }
  where
    k : ℕ
    k = (cell_of code).resolution

    n : ℕ
    n = number_of (cell_of code)

    v : IsCell (cell_of code)
    v = code-is-cell code i

    small : number_of (cell_of code) < 6 * 9 ^ (cell_of code).resolution
    small = number_small (cell_of code) v

    is : cell_as (cell_of code).resolution (number_of (cell_of code)) ≡ cell_of code
    is =
        sym (as-cell (cell_of code).resolution (number_of (cell_of code)) v.fine small g) ∙ ap cell_of (code-as a (cell_of code) v) ∙ cell-code g (cell_of code) v

    put : (zs : List Cell) → map cell_of (codes ++ (code ∷ [])) ++ zs ≡ map cell_of codes ++ (cell_of code ∷ zs)
    put zs = ap (λ (x : List Cell). x ++ zs) (map-append cell_of codes (code ∷ [])) ∙ append_assoc (map cell_of codes) (cell_of code ∷ []) zs

    comes : InTurn (map cell_of (codes ++ (code ∷ []))) → InTurn (map cell_of held ++ (cell_as (cell_of code).resolution (number_of (cell_of code)) ∷ []))
    comes t =
        subst (λ (x : Cell). InTurn (map cell_of held ++ (x ∷ []))) (sym is) ((p.alike (cell_of code ∷ [])).to (subst InTurn (map-append cell_of codes (code ∷ [])) t))

-- ---- so they are written alike

-- of codes of one arrangement
abbrev said : Bool → ℕ
said b = refuse (not true) 4 otherwise refuse (not true) 14 otherwise refuse (not b) 11

module _ {a : Arrangement} {codes held : List ℕ} (p : Holds a codes held) where
  whole : Alike (map cell_of codes) (map cell_of held)
  whole =
      subst (λ (x : List Cell). Alike (map cell_of codes) x) (append-nil (map cell_of held))
      (subst (λ (x : List Cell). Alike x (map cell_of held ++ [])) (append-nil (map cell_of codes)) (p.alike []))

  good : (xs ys : List ℕ) → Own a ys → (InTurn (map cell_of xs) → InTurn (map cell_of ys)) → codes_refusal a xs ≡ 0 → codes_refusal a ys ≡ 0
  good xs ys o f e =
      let r = in-turn-list (map cell_of ys) (codes-cells ys (own-codes a ys o)) (f (in-turn a xs e)) in
      list-good a ys (record { coded = own-codes a ys o; own = own-all a ys o; rising = r.0; apart = r.1 })

  -- 11 for the one exactly where it is 11 for the other
  codes-alike : codes_refusal a codes ≡ codes_refusal a held
  unfolding ◌otherwise◌
  codes-alike =
      go (ordered codes) (ordered held) (tested a codes (own-codes a codes p.came) (own-all a codes p.came) refl)
      (tested a held (own-codes a held p.kept) (own-all a held p.kept) refl)
    where
      go : (b d : Bool) → codes_refusal a codes ≡ said b → codes_refusal a held ≡ said d → codes_refusal a codes ≡ codes_refusal a held
      go true true e f = e ∙ sym f
      go false false e f = e ∙ sym f
      go true false e f = e ∙ sym (good codes held p.kept whole.to e)
      go false true e f = good held codes p.came whole.back f ∙ sym f

  nodes-alike : nodes_for (map cell_of codes) ≡ nodes_for (map cell_of held)
  nodes-alike =
      one-nodes (map cell_of codes) (map cell_of held) (codes-cells codes (own-codes a codes p.came)) (codes-cells held (own-codes a held p.kept)) whole.ground

  -- "gives the accepted text of the same ground"
  pub text-alike : (f : Profile) → text_of f a codes ≡ text_of f a held
  unfolding text_of written_text
  text-alike f = ap (λ (x : Nodes). heading f a.north a.south ++ render (level_of f) x) nodes-alike

  fit-alike : (f : Profile) (room : ℕ) → fit_refusal f a codes room ≡ fit_refusal f a held room
  unfolding fit_refusal
  fit-alike f room =
      ap₂ (λ (x : Nodes) (t : List ℕ). refuse (not (fitting (level_of f) (depth_of f) x)) 15 otherwise refuse (ltb 65536 (length t)) 13 otherwise refuse (ltb room (length t)) 8)
      nodes-alike (text-alike f)

  -- and refused alike
  pub refused-alike : (version depth room : ℕ) → write_refusal version depth a codes room ≡ write_refusal version depth a held room
  unfolding write_refusal
  refused-alike version depth room =
      let c : all_codes codes ≡ all_codes held = own-codes a codes p.came ∙ sym (own-codes a held p.kept) in
      ap₂ (λ (b : Bool) (r : ℕ). arrangement_refusal a otherwise refuse (ltb 15 depth) 2 otherwise refuse (not b) 4 otherwise refuse (not (is_version version)) 10 otherwise r) c
      (ap₂ (λ (x y : ℕ). x otherwise y) codes-alike (fit-alike (asks_for version depth) room))
