-- "Show that another accepted text with the same heading, the same bytes through the last one counted and the same report gives the same answer"
-- (02, W-213). Codes rise as the letters and digits stand, so the count stops at the first one above the asked code, and from there on no cell holds
-- the asked one. Assumes nothing.
use Rattle.std.specs.Prelude.{◌≡◌, Bool, ◌&&◌, not, cond, length, take, leb, ltb, eqb, Ok}
use Rattle.std.proofs.Math.Path.{refl, sym, ap, ap₂, subst}
use Rattle.std.proofs.Common.{◌∙◌, ⊎_elim, arith, leb-true, leb-false, lt-ltb, le-ltb, ltb-false}
use Rattle.std.proofs.Math.Bool.{true, false, ◌||◌}
use mathlib.Core.List.{List, [], ◌∷◌, ◌++◌, map}
use Prim.Native.Nat.{ℕ, zero, suc, ◌+◌, ◌≤◌, ◌<◌}
use Rattle.std.proofs.Math.ListN.{drop}
use Rattle.std.proofs.lemmas.Bool.{lt-leb, eqb-false}
use Rattle.logic.specs.Lists.{All}
use Rattle.logic.specs.Laws.Lists.{all-each}
use Rattle.logic.specs.Rise.{Above, Rise}
use Rattle.logic.specs.Laws.Bools.{clash, and_none}
use Rattle.logic.specs.Laws.Order.{lt-or}
use Rattle.cell.specs.declared.Cell.{Cell}
use Rattle.cell.specs.declared.Arrangement.{Arrangement}
use Rattle.cell.specs.Cell.{IsCell}
use Rattle.code.specs.Code.{cell_code, code_of, cell_of, arrangement_of, is_code}
use Rattle.code.proofs.Laws.Code.{code-is-cell}
use Rattle.code.specs.Inside.{start_of, end_of}
use Rattle.code.specs.Number.{start_as, end_as}
use Rattle.reading.specs.Ground.{whole_cells, Cells, Rising}
use Rattle.reading.specs.Letters.{letter_cells, letter_codes, is_letter, letter_count, through}
use Rattle.reading.proofs.Laws.Letters.{letter-cells}
use Rattle.reading.proofs.Laws.Rising.{codes-rise}
use Rattle.reading.proofs.Laws.Demand.{whole_cells_lem}
use Rattle.reading.specs.TextReading.{nodes_of, text_arrangement, is_text, body_start}
use Rattle.reading.proofs.Laws.TextReading.{reads-body}
use Rattle.walk.specs.declared.Spot.{Spot}
use Rattle.walk.specs.Walk.{origin, spot_of, after, opens, whole_at, walk}
use Rattle.walk.specs.LetterWalk.{letters_from, Filled}
use Rattle.walk.specs.Laws.Walk.{walk-text}
use Rattle.walk.specs.Laws.LetterWalk.{letters-text, filled-text, count-from}
use Rattle.asking.specs.Ask.{AllCovered, any_within, asked}
use Rattle.asking.proofs.Laws.Ask.{text-asked}
use Rattle.asking.specs.Settle.{not_above, settled_by, settled, counted}
use Rattle.asking.specs.Internal.AskNodes.{holds, any_holds, any-spots}
use Rattle.asking.specs.Internal.CodeOrder.{no_later, no_later_at, cell-no-later, code-not-above}

-- ---- the letters and digits that are counted are the first ones

module _ (code : ℕ) where
  none-counted : (cs : List ℕ) → Above code cs → not_above code cs ≡ 0
  unfolding not_above
  none-counted [] h = refl
  none-counted (c ∷ cs) h = rw (lt-leb c code h.0) (omega (arith, none-counted cs h.1))

  later-above : (c : ℕ) (cs : List ℕ) → code < c → Above c cs → Above code cs
  later-above c cs h g = all-each (λ (x : ℕ). c < x) (λ (x : ℕ). code < x) (λ x k. omega arith) cs g

  -- "those .. whose codes are not above the asked one's" come first, and a "later one" is one that is not counted
  counted-lead : (cs : List ℕ) → Rise cs → All (λ (c : ℕ). c ≤ code) (take (not_above code cs) cs) × Above code (drop (not_above code cs) cs)
  unfolding not_above
  counted-lead [] r = (tt, tt)
  counted-lead (c ∷ cs) r = go (leb c code) refl (counted-lead cs r.1)
    where
      n : ℕ
      n = not_above code cs

      go :
          (b : Bool) → leb c code ≡ b → All (λ (x : ℕ). x ≤ code) (take n cs) × Above code (drop n cs) →
          All (λ (x : ℕ). x ≤ code) (take (cond b 1 0 + n) (c ∷ cs)) × Above code (drop (cond b 1 0 + n) (c ∷ cs))
      go true e h =
          let s : 1 + n ≡ suc n = omega arith in rw s ((leb-true _ _ e, h.0), h.1)
      go false e h =
          let z : 0 + n ≡ 0 = omega (arith, none-counted cs (later-above c cs (leb-false _ _ e) r.0)) in
          rw z (tt, (leb-false _ _ e, later-above c cs (leb-false _ _ e) r.0))

  -- so the count stops at the first one above
  unfoldable stops_at : List ℕ → ℕ
  stops_at [] = 0
  stops_at (c ∷ cs) = cond (leb c code) (1 + stops_at cs) 1

  ltb-suc : (n m : ℕ) → ltb (1 + n) (suc m) ≡ ltb n m
  ltb-suc n m =
      ⊎_elim (λ h. lt-ltb (1 + n) (suc m) (omega arith) ∙ sym (lt-ltb n m h)) (λ h. le-ltb (1 + n) (suc m) (omega arith) ∙ sym (le-ltb n m h)) (lt-or n m)

  settled-stops : (cs : List ℕ) → Rise cs → settled_by code cs ≡ stops_at cs
  unfolding settled_by not_above stops_at
  settled-stops [] r = refl
  settled-stops (c ∷ cs) r = go (leb c code) refl (settled-stops cs r.1)
    where
      n : ℕ
      n = not_above code cs

      go :
          (b : Bool) → leb c code ≡ b → n + cond (ltb n (length cs)) 1 0 ≡ stops_at cs →
          (cond b 1 0 + n) + cond (ltb (cond b 1 0 + n) (suc (length cs))) 1 0 ≡ cond b (1 + stops_at cs) 1
      go true e h = rw (ltb-suc n (length cs)) (omega arith)
      go false e h =
          let z : n ≡ 0 = none-counted cs (later-above c cs (leb-false _ _ e) r.0) in
          rw (lt-ltb (0 + n) (suc (length cs)) (omega arith)) (omega arith)

-- ---- over the bytes. Of spots: none holds the asked cell's finest cells; from the first one above it on, none does

abbrev None : (from to : ℕ) → List Spot → Type 0
None from to ss = All (λ (s : Spot). holds from to s ≡ false) ss

abbrev Tame : (from to : ℕ) → List Spot → Type 0
Tame from to [] = Unit {0}
Tame from to (s ∷ ss) = (no_later_at from to s ≡ false → None from to (s ∷ ss)) × Tame from to ss

-- how many are counted
unfoldable stops : (from to : ℕ) → List Spot → ℕ
stops from to [] = 0
stops from to (s ∷ ss) = cond (no_later_at from to s) (1 + stops from to ss) 1

stops-none : (from to : ℕ) (ss : List Spot) → stops from to ss ≡ 0 → None from to ss × (length ss ≡ 0)
unfolding stops
stops-none from to [] e = (tt, refl)
stops-none from to (s ∷ ss) e = absurd (go (no_later_at from to s) e)
  where
    go : (b : Bool) → cond b (1 + stops from to ss) 1 ≡ 0 → ⊥
    go true h = omega arith
    go false h = omega arith

module _ (from to : ℕ) where
  none_walk : (bs : List ℕ) (s : Spot) → None from to (letters_from s bs) → any_holds from to (walk s bs) ≡ false
  unfolding letters_from is_letter walk whole_at any_holds
  none_walk [] s h = refl
  none_walk (b ∷ bs) s h = go (eqb b 40) (eqb b 41) (opens bs) (λ k. none_walk bs (after s b) k) h
    where
      go :
          (x y z : Bool) → (None from to (letters_from (after s b) bs) → any_holds from to (walk (after s b) bs) ≡ false) →
          None from to (cond (cond x false (cond y false true)) (after s b ∷ letters_from (after s b) bs) (letters_from (after s b) bs)) →
          any_holds from to (cond (cond x false (cond y false (not z))) (after s b ∷ walk (after s b) bs) (walk (after s b) bs)) ≡ false
      go true y z i k = i k
      go false true z i k = i k
      go false false true i k = i k.1
      go false false false i k = ap₂ ◌||◌ k.0 (i k.1)

  none-step : (q : Spot) (bs : List ℕ) (z : Bool) → None from to (q ∷ letters_from q bs) → any_holds from to (cond z (q ∷ walk q bs) (walk q bs)) ≡ false
  unfolding any_holds
  none-step q bs true h = ap₂ ◌||◌ h.0 (none_walk bs q h.1)
  none-step q bs false h = none_walk bs q h.1

-- no `(` stands before bytes with no letter
not-opens : (bs : List ℕ) → Filled bs → letter_count bs ≡ 0 → opens bs ≡ false
unfolding letter_count is_letter
not-opens [] f e = refl
not-opens (b ∷ bs) f e = go (eqb b 40) f.0 e
  where
    go : (x : Bool) → (x ≡ true → 0 < letter_count bs) → cond (cond x false (cond (eqb b 41) false true)) 1 0 + letter_count bs ≡ 0 → x ≡ false
    go true h k = absurd (omega (arith, h refl))
    go false h k = refl

-- Over a byte that is a `(` or not, and a `)` or not: the bytes behind it through the last one counted; the spots of the letters and digits from it on;
-- and those of the whole ones.
abbrev rest : (r : ℕ) (bs more : List ℕ) (x y : Bool) → List ℕ
rest r bs more x y = cond (cond x false (cond y false true)) (through r bs) (through (suc r) bs) ++ more

abbrev spots : (q : Spot) (cs : List ℕ) (x y : Bool) → List Spot
spots q cs x y = cond (cond x false (cond y false true)) (q ∷ letters_from q cs) (letters_from q cs)

abbrev wholes : (q : Spot) (cs : List ℕ) (x y : Bool) → List Spot
wholes q cs x y = cond (cond x false (cond y false (not (opens cs)))) (q ∷ walk q cs) (walk q cs)

module _ (from to : ℕ) where
  opens-same :
      (bs more : List ℕ) (q : Spot) (r : ℕ) → stops from to (letters_from q bs) ≡ r → stops from to (letters_from q (through r bs ++ more)) ≡ r →
      Filled bs → Filled (through r bs ++ more) → opens (through r bs ++ more) ≡ opens bs
  unfolding through stops letters_from
  opens-same bs more q zero e f g h =
      not-opens more h (sym (count-from more q) ∙ (stops-none from to (letters_from q more) f).1)
      ∙ sym (not-opens bs g (sym (count-from bs q) ∙ (stops-none from to (letters_from q bs) e).1))
  opens-same [] more q (suc r) e f g h = absurd (omega arith)
  opens-same (b ∷ bs) more q (suc r) e f g h = refl

  -- a letter or digit
  step :
      (bs cs : List ℕ) (q : Spot) (r : ℕ) (w : Bool) → no_later_at from to q ≡ w →
      cond w (1 + stops from to (letters_from q bs)) 1 ≡ suc r → cond w (1 + stops from to (letters_from q cs)) 1 ≡ suc r →
      Tame from to (q ∷ letters_from q bs) → Tame from to (q ∷ letters_from q cs) →
      (stops from to (letters_from q bs) ≡ r → stops from to (letters_from q cs) ≡ r →
      (opens cs ≡ opens bs) × (any_holds from to (walk q cs) ≡ any_holds from to (walk q bs))) →
      any_holds from to (cond (not (opens cs)) (q ∷ walk q cs) (walk q cs)) ≡ any_holds from to (cond (not (opens bs)) (q ∷ walk q bs) (walk q bs))
  unfolding any_holds
  step bs cs q r false l e f g h i = none-step from to q cs (not (opens cs)) (h.0 l) ∙ sym (none-step from to q bs (not (opens bs)) (g.0 l))
  step bs cs q r true l e f g h i =
      let k = i (omega arith) (omega arith) in
      ap (λ (x : Bool). any_holds from to (cond (not x) (q ∷ walk q cs) (walk q cs))) k.0 ∙ go (opens bs) k.1
    where
      go :
          (x : Bool) → any_holds from to (walk q cs) ≡ any_holds from to (walk q bs) →
          any_holds from to (cond (not x) (q ∷ walk q cs) (walk q cs)) ≡ any_holds from to (cond (not x) (q ∷ walk q bs) (walk q bs))
      go true p = p
      go false p = ap (λ (x : Bool). holds from to q || x) p

  -- Bytes of which so many are counted, and others that begin with them through the last one counted and count as many.
  abbrev Alike : (bs more : List ℕ) (s : Spot) (r : ℕ) → Type 0
  Alike bs more s r =
      stops from to (letters_from s bs) ≡ r → stops from to (letters_from s (through r bs ++ more)) ≡ r →
      Filled bs → Filled (through r bs ++ more) → Tame from to (letters_from s bs) → Tame from to (letters_from s (through r bs ++ more)) →
      any_holds from to (walk s (through r bs ++ more)) ≡ any_holds from to (walk s bs)

  none_alike : (bs more : List ℕ) (s : Spot) → Alike bs more s 0
  unfolding through
  none_alike bs more s e f g h i j =
      none_walk from to more s (stops-none from to (letters_from s more) f).0 ∙ sym (none_walk from to bs s (stops-none from to (letters_from s bs) e).0)

  byte-alike : (b : ℕ) (bs more : List ℕ) (s : Spot) (r : ℕ) → ((r' : ℕ) → Alike bs more (after s b) r') → Alike (b ∷ bs) more s r
  unfolding through stops letters_from is_letter walk whole_at
  byte-alike b bs more s zero o e f g h i j = none_alike (b ∷ bs) more s e f g h i j
  byte-alike b bs more s (suc r) o e f g h i j = go (eqb b 40) (eqb b 41) e f h.1 i j
    where
      go :
          (x y : Bool) → stops from to (spots (after s b) bs x y) ≡ suc r → stops from to (spots (after s b) (rest r bs more x y) x y) ≡ suc r →
          Filled (rest r bs more x y) → Tame from to (spots (after s b) bs x y) → Tame from to (spots (after s b) (rest r bs more x y) x y) →
          any_holds from to (wholes (after s b) (rest r bs more x y) x y) ≡ any_holds from to (wholes (after s b) bs x y)
      go true y a c k m n = o (suc r) a c g.1 k m n
      go false true a c k m n = o (suc r) a c g.1 k m n
      go false false a c k m n =
          step bs (through r bs ++ more) (after s b) r (no_later_at from to (after s b)) refl a c m n
          (λ v w. (opens-same bs more (after s b) r v w g.1 k, o r v w g.1 k m.1 n.1))

  same-walk : (bs more : List ℕ) (s : Spot) (r : ℕ) → Alike bs more s r
  unfolding stops letters_from
  same-walk [] more s r e f g h i j = subst (λ (n : ℕ). Alike [] more s n) e (none_alike [] more s) e f g h i j
  same-walk (b ∷ bs) more s r e f g h i j = byte-alike b bs more s r (λ r'. same-walk bs more (after s b) r') e f g h i j

-- ---- a cell above the asked one in code does not hold it

later-not-holds : (from to s e : ℕ) → no_later from to s e ≡ false → (leb s from && leb to e) ≡ false
later-not-holds from to s e h = go (ltb s from) (eqb s from) (leb to e) refl refl h
  where
    go : (x y z : Bool) → ltb s from ≡ x → eqb s from ≡ y → (x || (y && z)) ≡ false → (leb s from && z) ≡ false
    go true y z k l h = clash h
    go false true true k l h = clash h
    go false true false k l h = and_none (leb s from)
    go false false z k l h = ap (λ (b : Bool). b && z) (lt-leb s from (omega (arith, ltb-false s from k, eqb-false s from l)))

not-holds : (from to : ℕ) (s : Spot) → no_later_at from to s ≡ false → holds from to s ≡ false
unfolding no_later_at
not-holds from to s h = later-not-holds from to (start_as s.resolution s.number) (end_as s.resolution s.number) h

module _ (x : Cell) (w : IsCell x) where
  none-spots : (qs : List Cell) → Cells qs → All (λ (p : Cell). cell_code x < cell_code p) qs → None (start_of x) (end_of x) (map spot_of qs)
  none-spots [] k h = tt
  none-spots (q ∷ qs) k h =
      (not-holds _ _ (spot_of q) (sym (cell-no-later q x k.0 w) ∙ lt-leb (cell_code q) (cell_code x) h.0), none-spots qs k.1 h.1)

  tame-spots : (qs : List Cell) → Cells qs → Rising qs → Tame (start_of x) (end_of x) (map spot_of qs)
  tame-spots [] k g = tt
  tame-spots (q ∷ qs) k g = (
    (λ e.
        let h : cell_code x < cell_code q = leb-false (cell_code q) (cell_code x) (cell-no-later q x k.0 w ∙ e) in
        none-spots (q ∷ qs) k (h, all-each (λ (p : Cell). cell_code q < cell_code p) (λ (p : Cell). cell_code x < cell_code p) (λ p m. omega arith) qs g.0)),
    tame-spots qs k.1 g.1,
  )

-- ---- of a text, of either version

stops-spots :
    {a : Arrangement} (code : ℕ) → is_code code ≡ true → arrangement_of code ≡ a → (qs : List Cell) → Cells qs →
    stops_at code (map (code_of a) qs) ≡ stops (start_of (cell_of code)) (end_of (cell_of code)) (map spot_of qs)
unfolding stops_at stops
stops-spots code c a [] k = refl
stops-spots code c a (q ∷ qs) k = ap₂ (λ (b : Bool) (n : ℕ). cond b (1 + n) 1) (code-not-above code c a q k.0) (stops-spots code c a qs k.1)

module _ (t : List ℕ) (e : is_text t ≡ true) where
  rise : (a : Arrangement) → Rise (letter_codes a (nodes_of t))
  unfolding letter_codes
  rise a = codes-rise a (letter_cells (nodes_of t)) (letter-cells tt (omega arith) (reads-body t e)).1

  pub counted-first :
      (code : ℕ) → let cs = letter_codes (text_arrangement t) (nodes_of t) in
      All (λ (c : ℕ). c ≤ code) (take (not_above code cs) cs) × Above code (drop (not_above code cs) cs)
  counted-first code = counted-lead code (letter_codes (text_arrangement t) (nodes_of t)) (rise (text_arrangement t))

  module _ (code : ℕ) (c : is_code code ≡ true) (a : arrangement_of code ≡ text_arrangement t) where
    body-stops : stops (start_of (cell_of code)) (end_of (cell_of code)) (letters_from origin (drop (body_start t) t)) ≡ settled (text_arrangement t) code (nodes_of t)
    unfolding settled letter_codes
    body-stops =
        ap (stops (start_of (cell_of code)) (end_of (cell_of code))) (letters-text t e)
        ∙ sym (stops-spots code c a (letter_cells (nodes_of t)) (letter-cells tt (omega arith) (reads-body t e)).0)
        ∙ sym (settled-stops code (letter_codes (text_arrangement t) (nodes_of t)) (rise (text_arrangement t)))

    body-tame : Tame (start_of (cell_of code)) (end_of (cell_of code)) (letters_from origin (drop (body_start t) t))
    body-tame =
        let k = letter-cells tt (omega arith) (reads-body t e) in
        rw (letters-text t e) (tame-spots (cell_of code) (code-is-cell code c) (letter_cells (nodes_of t)) k.0 k.1)

  body-holds : (x : Cell) → any_holds (start_of x) (end_of x) (walk origin (drop (body_start t) t)) ≡ any_within (whole_cells (nodes_of t)) x
  body-holds x =
      ap (any_holds (start_of x) (end_of x)) (walk-text t e) ∙ any-spots (whole_cells (nodes_of t)) x (whole_cells_lem tt (omega arith) (reads-body t e)).0

-- all bytes, from those through number r on
through-more : (r : ℕ) (bs : List ℕ) → (more : List ℕ) × (bs ≡ through r bs ++ more)
unfolding through
through-more zero bs = (bs, refl)
through-more (suc r) [] = ([], refl)
through-more (suc r) (b ∷ bs) = go (is_letter b) (through-more r bs) (through-more (suc r) bs)
  where
    go :
        (x : Bool) → ((more : List ℕ) × (bs ≡ through r bs ++ more)) → ((more : List ℕ) × (bs ≡ through (suc r) bs ++ more)) →
        (more : List ℕ) × (b ∷ bs ≡ (b ∷ cond x (through r bs) (through (suc r) bs)) ++ more)
    go true m n = (m.0, ap (λ (x : List ℕ). b ∷ x) m.1)
    go false m n = (n.0, ap (λ (x : List ℕ). b ∷ x) n.1)

-- Two accepted texts of the asked code's arrangement, as two with the same heading are where neither is refused, with the same report and the same bytes
-- through the last letter or digit counted.
module _ (t u : List ℕ) (code : ℕ) (e : is_text t ≡ true) (f : is_text u ≡ true) (c : is_code code ≡ true) (a : arrangement_of code ≡ text_arrangement t)
    (b : arrangement_of code ≡ text_arrangement u) (s : settled (text_arrangement u) code (nodes_of u) ≡ settled (text_arrangement t) code (nodes_of t))
    (k : counted (settled (text_arrangement t) code (nodes_of t)) u ≡ counted (settled (text_arrangement t) code (nodes_of t)) t) where
  pub same-covered : any_within (whole_cells (nodes_of u)) (cell_of code) ≡ any_within (whole_cells (nodes_of t)) (cell_of code)
  unfolding counted
  same-covered =
      let x : Cell = cell_of code in
      let r : ℕ = settled (text_arrangement t) code (nodes_of t) in
      let bs : List ℕ = drop (body_start t) t in
      let m = through-more r (drop (body_start u) u) in
      let y : drop (body_start u) u ≡ through r bs ++ m.0 = m.1 ∙ ap (λ (z : List ℕ). z ++ m.0) k in
      sym (body-holds u f x)
      ∙ ap (λ (z : List ℕ). any_holds (start_of x) (end_of x) (walk origin z)) y
      ∙ same-walk (start_of x) (end_of x) bs m.0 origin r (body-stops t e code c a)
      (ap (λ (z : List ℕ). stops (start_of x) (end_of x) (letters_from origin z)) (sym y) ∙ body-stops u f code c b ∙ s)
      (filled-text t e) (subst (λ (z : List ℕ). Filled z) y (filled-text u f))
      (body-tame t e code c a) (subst (λ (z : List ℕ). Tame (start_of x) (end_of x) (letters_from origin z)) y (body-tame u f code c b))
      ∙ body-holds t e x

  -- "whether all of one cell's finest cells are covered"
  pub same-ground : (AllCovered (whole_cells (nodes_of u)) (cell_of code) → AllCovered (whole_cells (nodes_of t)) (cell_of code))
      × (AllCovered (whole_cells (nodes_of t)) (cell_of code) → AllCovered (whole_cells (nodes_of u)) (cell_of code))
  same-ground =
      let w = code-is-cell code c in (
        (λ g. (text-asked t e (cell_of code) w).0 (sym same-covered ∙ (text-asked u f (cell_of code) w).1 g)),
        (λ g. (text-asked u f (cell_of code) w).0 (same-covered ∙ (text-asked t e (cell_of code) w).1 g)),
      )

  -- "gives the same answer", the report included
  pub same_answer : asked 0 u code ≡ asked 0 t code
  unfolding asked
  same_answer = ap₂ (λ (a : Bool) (b : ℕ). Ok (record { covered = a; settled = b })) same-covered s
