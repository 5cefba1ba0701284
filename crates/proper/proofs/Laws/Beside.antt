-- "Kind 2 is a letter or digit not above the one right before it in the same list or body", over the bytes of the text. Assumes nothing.
use Rattle.std.specs.Prelude.{◌≡◌, refl, Bool, true, false, cond, ◌↔◌, ◌⊎◌, List, [], ◌∷◌, ◌++◌, ℕ, zero, suc, ◌+◌, ◌-◌, ◌≤◌, ◌<◌, eqb, length, take, drop, get_or}
use Rattle.std.proofs.Common.{sym, ap, ap₂, subst, ◌∙◌, inl, inr, ⊎_elim, append-nil, arith, drop-cons, drop-drop, take-add, ne_eqb}
use Rattle.logic.specs.Lists.{Mem}
use Rattle.logic.specs.Laws.Bools.{clash}
use Rattle.logic.specs.Laws.Order.{lt-or}
use Rattle.reading.specs.declared.Level.{Level}
use Rattle.reading.specs.declared.Level.TheVariants.{Faces, Digits}
use Rattle.reading.specs.Reading.{Nodes, end, whole, listed, first, render}
use Rattle.reading.proofs.Laws.Reading.{first-big}
use Rattle.reading.specs.Prefix.{Name}
use Rattle.loose.specs.LooseText.{LooseAs}
use Rattle.proper.specs.Changes.{Item, items, changes}
use Rattle.proper.proofs.Laws.Lists.{IMem, imem-or}
use Rattle.proper.proofs.Laws.Given.{at}
use Rattle.proper.proofs.Laws.Told.{Heads, Beside, told-2}
use Rattle.proper.proofs.Laws.Bytes.{shut, even, SameList, At, at_byte, front, past, at-whole, opened, listing, at-list, at-behind, flat-same}
use Rattle.proper.proofs.Laws.Bytes.{even-render, body, byte-item}

-- what stands at r and at q stands side by side in one list or body: nothing between them, or the list of the one at r
abbrev pub SideBySide : List ℕ → (r q : ℕ) → Type 0
SideBySide t r q = (r + 1 ≡ q) ⊎ ((r + 3 ≤ q) × (get_or t (r + 1) 0 ≡ 40) × SameList t (r + 2) (q - 1) × (get_or t (q - 1) 0 ≡ 41))

-- ---- brackets: one that opens before bytes whose brackets are in pairs stays open

none-even : even 0 [] ≡ true
unfolding even
none-even = refl

raise : (m : List ℕ) (i j : ℕ) → even i m ≡ true → i < j → even j m ≡ false
unfolding even
raise [] i j e h = ne_eqb j 0 (omega arith)
raise (b ∷ m) i j e h = go (λ x y f g. raise m x y f g) (eqb b 40) (eqb b 41) i j e h
  where
    go : ((i j : ℕ) → even i m ≡ true → i < j → even j m ≡ false) → (x y : Bool) (i j : ℕ) →
        cond x (even (suc i) m) (cond y (shut i (λ k. even k m)) (even i m)) ≡ true → i < j →
        cond x (even (suc j) m) (cond y (shut j (λ k. even k m)) (even j m)) ≡ false
    go r true y i j e h = r (suc i) (suc j) e (omega arith)
    go r false true zero j e h = clash (sym e)
    go r false true (suc i) zero e h = absurd (omega arith)
    go r false true (suc i) (suc j) e h = r i j e (omega arith)
    go r false false i j e h = r i j e h

stays_open : (u : List ℕ) (k : ℕ) (m : List ℕ) → even 0 m ≡ true → even k (u ++ (40 ∷ m)) ≡ false
unfolding even
stays_open [] k m e = raise m 0 (suc k) e (omega arith)
stays_open (b ∷ u) k m e = go (λ j. stays_open u j m e) (eqb b 40) (eqb b 41) k
  where
    go : ((j : ℕ) → even j (u ++ (40 ∷ m)) ≡ false) → (x y : Bool) (k : ℕ) →
        cond x (even (suc k) (u ++ (40 ∷ m))) (cond y (shut k (λ j. even j (u ++ (40 ∷ m)))) (even k (u ++ (40 ∷ m)))) ≡ false
    go r true y k = r (suc k)
    go r false true zero = refl
    go r false true (suc k) = r k
    go r false false k = r k

module _ (t : List ℕ) where
  -- a bracket that opens between them is not in a pair
  not-between : (p r q : ℕ) → p ≤ r → r < q → r < length t → get_or t r 0 ≡ 40 → even 0 (take (q - (r + 1)) (drop (r + 1) t)) ≡ true → even 0 (take (q - p) (drop p t)) ≡ true → ⊥
  not-between p r q h k n b e f =
      let z : q - p ≡ (r - p) + suc (q - (r + 1)) = omega arith in
      let i : p + (r - p) ≡ r = omega arith in
      let j : suc r ≡ r + 1 = omega arith in
      let g : drop r t ≡ 40 ∷ drop (r + 1) t = drop-cons t r 0 n ∙ ap₂ (λ (x y : ℕ). x ∷ drop y t) b j in
      let d : drop (r - p) (drop p t) ≡ 40 ∷ drop (r + 1) t = drop-drop (r - p) p t ∙ ap (λ (x : ℕ). drop x t) i ∙ g in
      let s : take (q - p) (drop p t) ≡ take (r - p) (drop p t) ++ (40 ∷ take (q - (r + 1)) (drop (r + 1) t)) =
      ap (λ (x : ℕ). take x (drop p t)) z
      ∙ take-add (r - p) (suc (q - (r + 1))) (drop p t)
      ∙ ap (λ (x : List ℕ). take (r - p) (drop p t) ++ take (suc (q - (r + 1))) x) d in
      clash (sym f ∙ ap (even 0) s ∙ stays_open (take (r - p) (drop p t)) 0 (take (q - (r + 1)) (drop (r + 1) t)) e)

  inside_of : (q : ℕ) → 1 ≤ get_or t q 0 → q < length t
  inside_of q e = ⊎_elim (λ h. h) (λ h. absurd (omega (arith, outside t q h))) (lt-or q (length t))
    where
      outside : (u : List ℕ) (i : ℕ) → length u ≤ i → get_or u i 0 ≡ 0
      outside [] i h = refl
      outside (y ∷ u) zero h = absurd (omega arith)
      outside (y ∷ u) (suc i) h = outside u i (omega arith)

  -- only one stands right before
  one-before : (r s q : ℕ) → 48 ≤ get_or t r 0 → 48 ≤ get_or t s 0 → SideBySide t r q → SideBySide t s q → r ≡ s
  one-before r s q a b (inl h) (inl k) = omega arith
  one-before r s q a b (inl h) (inr k) =
      let z : q - 1 ≡ r = omega arith in absurd (omega (arith, k.3, ap (λ (x : ℕ). get_or t x 0) z))
  one-before r s q a b (inr h) (inl k) =
      let z : q - 1 ≡ s = omega arith in absurd (omega (arith, h.3, ap (λ (x : ℕ). get_or t x 0) z))
  one-before r s q a b (inr h) (inr k) =
      ⊎_elim (λ l. absurd (wrong r s l h k))
      (λ l. ⊎_elim (λ j. absurd (wrong s r j k h)) (λ j. omega arith) (lt-or s r)) (lt-or r s)
    where
      wrong :
          (r s : ℕ) → r < s → (r + 3 ≤ q) × (get_or t (r + 1) 0 ≡ 40) × SameList t (r + 2) (q - 1) × (get_or t (q - 1) 0 ≡ 41) →
          (s + 3 ≤ q) × (get_or t (s + 1) 0 ≡ 40) × SameList t (s + 2) (q - 1) × (get_or t (q - 1) 0 ≡ 41) → ⊥
      wrong r s l h k =
          let z : s + 1 + 1 ≡ s + 2 = omega arith in
          not-between (r + 2) (s + 1) (q - 1) (omega arith) (omega (arith, k.0)) (inside_of (s + 1) (omega (arith, k.1))) k.1
          (ap (λ (x : ℕ). even 0 (take (q - 1 - x) (drop x t))) z ∙ k.2.1) h.2.1

  -- ---- of the nodes from p on

  abbrev Both : (p q b c : ℕ) → Type 0
  Both p q b c = (r : ℕ) × (l : Level) × (p ≤ r) × SideBySide t r q × (get_or t r 0 ≡ first l + b) × (get_or t q 0 ≡ first l + c)

  wider : (p o q b c : ℕ) → o ≤ p → Both p q b c → Both o q b c
  wider p o q b c h x = (x.0, x.1, omega (arith, x.2), x.3, x.4, x.5)

  head_byte : (ns : Nodes) (l : Level) (p c : ℕ) (rest : List ℕ) → At t l p ns rest → Heads ns c → get_or t p 0 ≡ first l + c
  head_byte end l p c rest v h = absurd h
  head_byte (whole a ns) l p c rest v h = front t p _ v.bytes ∙ ap (λ (x : ℕ). first l + x) h
  head_byte (listed a is ns) l p c rest v h = front t p _ v.bytes ∙ ap (λ (x : ℕ). first l + x) h

  beside-bytes : (ns : Nodes) (l : Level) (p : ℕ) (rest : List ℕ) → At t l p ns rest → (q b c : ℕ) → Beside p ns q b c → Both p q b c
  beside-bytes end l p rest v q b c h = absurd h
  beside-bytes (whole a ns) l p rest v q b c (inl h) = (
    p,
    l,
    omega arith,
    inl h.2,
    front t p _ v.bytes ∙ ap (λ (x : ℕ). first l + x) h.1,
    ap (λ (x : ℕ). get_or t x 0) (sym h.2) ∙ head_byte ns l (p + 1) c rest (at-whole t l p a ns rest v) h.0,
  )
  beside-bytes (whole a ns) l p rest v q b c (inr h) =
      wider (p + 1) p q b c (omega arith) (beside-bytes ns l (p + 1) rest (at-whole t l p a ns rest v) q b c h)
  beside-bytes (listed a is ns) l p rest v q b c (inl h) = (
    p,
    l,
    omega arith,
    inr (omega (arith, h.2), at_byte t (p + 1) 40 _ (opened t l p a is ns rest v), subst (λ (x : ℕ). SameList t (p + 2) x) z over, ap (λ (x : ℕ). get_or t x 0) (sym z) ∙ shuts),
    front t p _ v.bytes ∙ ap (λ (x : ℕ). first l + x) h.1,
    ap (λ (x : ℕ). get_or t x 0) (sym h.2) ∙ head_byte ns l (p + 3 + length (render Digits is)) c rest (at-behind t l p a is ns rest v) h.0,
  )
    where
      z : p + 2 + length (render Digits is) ≡ q - 1
      z = omega (arith, h.2)

      gone : drop (p + 2 + length (render Digits is)) t ≡ 41 ∷ (render l ns ++ rest)
      gone = past t (p + 2) (render Digits is) _ (listing t l p a is ns rest v)

      shuts : get_or t (p + 2 + length (render Digits is)) 0 ≡ 41
      shuts = at_byte t (p + 2 + length (render Digits is)) 41 _ gone

      over : SameList t (p + 2) (p + 2 + length (render Digits is))
      over =
          flat-same t (p + 2) (p + 2 + length (render Digits is)) (
            render Digits is,
            listing t l p a is ns rest v ∙ ap (λ (x : List ℕ). render Digits is ++ x) (sym gone),
            refl,
            ap (even 0) (sym (append-nil (render Digits is))) ∙ even-render is Digits 0 [] ∙ none-even,
          )
  beside-bytes (listed a is ns) l p rest v q b c (inr (inl h)) =
      wider (p + 2) p q b c (omega arith) (beside-bytes is Digits (p + 2) _ (at-list t l p a is ns rest v) q b c h)
  beside-bytes (listed a is ns) l p rest v q b c (inr (inr h)) =
      wider (p + 3 + length (render Digits is)) p q b c (omega arith)
      (beside-bytes ns l (p + 3 + length (render Digits is)) rest (at-behind t l p a is ns rest v) q b c h)

  -- each is the first of its list or body, or stands right behind another in it
  abbrev Placed : (p : ℕ) → Nodes → (q : ℕ) → Type 0
  Placed p ns q = (q ≡ p) ⊎ ((get_or t (q - 1) 0 ≡ 40) ⊎ ((b : ℕ) × (c : ℕ) × Beside p ns q b c))

  head_of : (ns : Nodes) (p : ℕ) (w : Name) (lo : ℕ) (e : Item) → IMem e (items p w lo ns) → (c : ℕ) × Heads ns c
  head_of end p w lo e m = absurd m
  head_of (whole a ns) p w lo e m = (a, refl)
  head_of (listed a is ns) p w lo e m = (a, refl)

  first-or :
      (ns : Nodes) (l : Level) (p : ℕ) (w : Name) (lo : ℕ) (rest : List ℕ) → At t l p ns rest → (e : Item) → IMem e (items p w lo ns) → Placed p ns e.place
  first-or end l p w lo rest v e m = absurd m
  first-or (whole a ns) l p w lo rest v e (inl m) = inl (sym (ap (λ (x : Item). x.place) m))
  first-or (whole a ns) l p w lo rest v e (inr m) =
      ⊎_elim (λ h. let x = head_of ns (p + 1) w (suc a) e m in inr (inr (a, x.0, inl (x.1, refl, sym h))))
      (λ h. ⊎_elim (λ k. inr (inl k)) (λ k. inr (inr (k.0, k.1, inr k.2))) h)
      (first-or ns l (p + 1) w (suc a) rest (at-whole t l p a ns rest v) e m)
  first-or (listed a is ns) l p w lo rest v e (inl m) = inl (sym (ap (λ (x : Item). x.place) m))
  first-or (listed a is ns) l p w lo rest v e (inr m) =
      ⊎_elim
      (λ i.
      ⊎_elim
      (λ h.
      let z : e.place - 1 ≡ p + 1 = omega arith in
      inr (inl (ap (λ (x : ℕ). get_or t x 0) z ∙ at_byte t (p + 1) 40 _ (opened t l p a is ns rest v))))
      (λ h. ⊎_elim (λ k. inr (inl k)) (λ k. inr (inr (k.0, k.1, inr (inl k.2)))) h)
      (first-or is Digits (p + 2) (w ++ (a ∷ [])) 0 _ (at-list t l p a is ns rest v) e i))
      (λ i.
      ⊎_elim
      (λ h.
      let x = head_of ns (p + 3 + length (render Digits is)) w (suc a) e i in
      inr (inr (a, x.0, inl (x.1, refl, sym h))))
      (λ h. ⊎_elim (λ k. inr (inl k)) (λ k. inr (inr (k.0, k.1, inr (inr k.2)))) h)
      (first-or ns l (p + 3 + length (render Digits is)) w (suc a) rest (at-behind t l p a is ns rest v) e i))
      (imem-or e (items (p + 2) (w ++ (a ∷ [])) 0 is) _ m)

-- at a letter or digit whose byte is not above that of the one right before it in the same list or body
pub told-beside :
    {n s : ℕ} {t : List ℕ} {ns : Nodes} → LooseAs n s t ns → (q : ℕ) →
    Mem (at q 2) (changes ns) ↔ ((r : ℕ) × (7 ≤ r) × SideBySide t r q × (48 ≤ get_or t q 0) × (get_or t q 0 ≤ get_or t r 0))
told-beside {n} {s} {t} {ns} v q = (
  (λ m.
      let x = (told-2 ns q).0 m in
      let y = beside-bytes t ns Faces 7 [] (body v) q x.0 x.1 x.2 in
      (y.0, y.2, y.3, omega (arith, first-big y.1, y.5), omega (arith, x.3, y.4, y.5))),
  (λ x. back x.0 x.1 x.2 x.3 x.4),
)
  where
    back : (r : ℕ) → 7 ≤ r → SideBySide t r q → 48 ≤ get_or t q 0 → get_or t q 0 ≤ get_or t r 0 → Mem (at q 2) (changes ns)
    back r h k a b =
        let o : r + 1 ≤ q = ⊎_elim (λ i. omega arith) (λ i. omega (arith, i.0)) k in
        let e = byte-item v q (omega arith) (inside_of t q (omega arith)) (λ z. omega arith) (λ z. omega arith) in
        ⊎_elim (λ i. absurd (omega (arith, e.2)))
        (λ i.
        ⊎_elim (λ j. absurd (opens (ap (λ (x : ℕ). get_or t (x - 1) 0) (sym e.2) ∙ j) k))
        (λ j.
        let f : Beside 7 ns q j.0 j.1 = subst (λ (x : ℕ). Beside 7 ns x j.0 j.1) e.2 j.2 in
        ends j.0 j.1 f (beside-bytes t ns Faces 7 [] (body v) q j.0 j.1 f))
        i)
        (first-or t ns Faces 7 [] 0 [] (body v) e.0 e.1)
      where
        ends : (d c : ℕ) → Beside 7 ns q d c → Both t 7 q d c → Mem (at q 2) (changes ns)
        ends d c f y =
            let z : r ≡ y.0 = one-before t r y.0 q (omega arith) (omega (arith, first-big y.1, y.4)) k y.3 in
            (told-2 ns q).1 (d, c, f, omega (arith, ap (λ (x : ℕ). get_or t x 0) z, y.4, y.5))

        opens : get_or t (q - 1) 0 ≡ 40 → SideBySide t r q → ⊥
        opens g (inl i) = let z : q - 1 ≡ r = omega arith in omega (arith, ap (λ (x : ℕ). get_or t x 0) z)
        opens g (inr i) = omega (arith, i.3)
