-- Where the letters and digits of a looser text stand, over its bytes: the byte at an item's place is the last of its name, the rest of the name is
-- that of the item whose list it stands in, and it is whole where no list follows it. Assumes nothing.
use Rattle.std.specs.Prelude.{◌≡◌, refl, Bool, true, false, cond, ◌↔◌, ◌⊎◌, ℕ, zero, suc, ◌+◌, ◌-◌, ◌≤◌, ◌<◌, eqb, length, take, get_or}
use Rattle.std.proofs.Math.Path.{sym, ap}
use Rattle.std.proofs.Common.{◌∙◌, inl, inr, ⊎_elim, length-drop, get_or-drop, drop-drop, take_at, ne_eqb}
use mathlib.Core.List.{List, [], ◌∷◌, ◌++◌, append_assoc, append-nil}
use native.Mathlib.Omega.{arith}
use Rattle.std.proofs.Math.ListN.{drop, length-append}
use Rattle.std.proofs.Math.Seq.{drop-append_seam}
use Rattle.logic.specs.Laws.Bools.{clash}
use Rattle.logic.specs.Laws.Order.{lt-or}
use Rattle.reading.specs.declared.Level.{Level}
use Rattle.reading.specs.declared.Level.TheVariants.{Faces, Digits}
use Rattle.reading.specs.Reading.{Nodes, end, whole, listed, first, many, render}
use Rattle.reading.proofs.Laws.Reading.{first-big}
use Rattle.reading.specs.Loose.{Loose}
use Rattle.reading.specs.Prefix.{Name}
use Rattle.loose.specs.LooseText.{LooseAs}
use Rattle.proper.specs.Changes.{Item, is_end, items}
use Rattle.proper.proofs.Laws.Lists.{IMem, imem-left, imem-right, imem-or}
use Rattle.proper.proofs.Laws.Order.{Spaced, items-spaced}

-- ---- brackets in some bytes

abbrev pub shut : ℕ → (ℕ → Bool) → Bool
shut zero f = false
shut (suc k) f = f k

-- with k lists open before these bytes: no bracket shuts a list that is not open, and behind them none is open
unfoldable pub even : ℕ → List ℕ → Bool
even k [] = eqb k 0
even k (b ∷ bs) = cond (eqb b 40) (even (suc k) bs) (cond (eqb b 41) (shut k (λ j. even j bs)) (even k bs))

-- from the place p up to q the same lists are open: each one that opens between them is shut, and no other is
abbrev pub SameList : List ℕ → (p q : ℕ) → Type 0
SameList t p q = (p ≤ q) × (even 0 (take (q - p) (drop p t)) ≡ true)

-- ---- where an item stands

-- in no list: its name is one number, and its letter stands there
abbrev pub InBody : List ℕ → Item → Type 0
InBody t e = (c : ℕ) × (e.name ≡ c ∷ []) × (c < 6) × (get_or t e.place 0 ≡ 78 + c) × SameList t 7 e.place

-- in the list that opens right behind another: its name is that one's and one number more, whose digit stands there
abbrev pub InList : List ℕ → List Item → Item → Type 0
InList t all e =
    (d : Item) × (c : ℕ) × IMem d all × (e.name ≡ d.name ++ (c ∷ [])) × (c < 9) × (get_or t e.place 0 ≡ 48 + c) × (get_or t (d.place + 1) 0 ≡ 40) ×
    SameList t (d.place + 2) e.place

even-letter : (k b : ℕ) (bs : List ℕ) → 48 ≤ b → even k (b ∷ bs) ≡ even k bs
unfolding even
even-letter k b bs h = rw (ne_eqb b 40 (omega arith), ne_eqb b 41 (omega arith))

pub even-render : (ns : Nodes) (l : Level) (k : ℕ) (rest : List ℕ) → even k (render l ns ++ rest) ≡ even k rest
unfolding even
even-render end l k rest = refl
even-render (whole c ns) l k rest = even-letter k (first l + c) (render l ns ++ rest) (omega (arith, first-big l)) ∙ even-render ns l k rest
even-render (listed c is ns) l k rest =
    let a : (render Digits is ++ (41 ∷ render l ns)) ++ rest ≡ render Digits is ++ (41 ∷ (render l ns ++ rest)) = append_assoc (render Digits is) (41 ∷ render l ns) rest in
    even-letter k (first l + c) (40 ∷ ((render Digits is ++ (41 ∷ render l ns)) ++ rest)) (omega (arith, first-big l))
    ∙ ap (even (suc k)) a
    ∙ even-render is Digits (suc k) (41 ∷ (render l ns ++ rest))
    ∙ even-render ns l k rest

module _ (t : List ℕ) where
  pub at_byte : (p b : ℕ) (r : List ℕ) → drop p t ≡ b ∷ r → get_or t p 0 ≡ b
  at_byte p b r e =
      let z : p ≡ p + 0 = omega arith in
      ap (λ (x : ℕ). get_or t x 0) z ∙ sym (get_or-drop p t 0 0) ∙ ap (λ (x : List ℕ). get_or x 0 0) e

  next : (p b : ℕ) (r : List ℕ) → drop p t ≡ b ∷ r → drop (p + 1) t ≡ r
  next p b r e = sym (drop-drop 1 p t) ∙ ap (drop 1) e

  pub past : (p : ℕ) (a r : List ℕ) → drop p t ≡ a ++ r → drop (p + length a) t ≡ r
  past p a r e = sym (drop-drop (length a) p t) ∙ ap (drop (length a)) e ∙ drop-append_seam a r

  inside : (p b : ℕ) (r : List ℕ) → drop p t ≡ b ∷ r → p < length t
  inside p b r e = omega (arith, ap length e, length-drop p t)

  -- the bytes between two places, with all brackets in pairs
  abbrev pub Flat : (p q : ℕ) → Type 0
  Flat p q = (m : List ℕ) × (drop p t ≡ m ++ drop q t) × (q ≡ p + length m) × (even 0 m ≡ true)

  flat-none : (p q : ℕ) → p ≡ q → Flat p q
  unfolding even
  flat-none p q z = ([], ap (λ (x : ℕ). drop x t) z, omega arith, refl)

  flat-letter : (p q b : ℕ) (r : List ℕ) → 48 ≤ b → drop p t ≡ b ∷ r → Flat (p + 1) q → Flat p q
  flat-letter p q b r h e f = (
    b ∷ f.0,
    e ∙ ap (λ (x : List ℕ). b ∷ x) (sym (next p b r e) ∙ f.1),
    omega (arith, f.2),
    even-letter 0 b f.0 h ∙ f.3,
  )

  -- these nodes stand from p on, and what follows them opens no list
  pub record At (l : Level) (p : ℕ) (ns : Nodes) (rest : List ℕ) : Type 0 where
    pub bytes : drop p t ≡ render l ns ++ rest
    pub closed : get_or rest 0 0 ≡ 40 → ⊥

  pub at-whole : (l : Level) (p c : ℕ) (ns : Nodes) (rest : List ℕ) → At l p (whole c ns) rest → At l (p + 1) ns rest
  at-whole l p c ns rest v = record { bytes = next p (first l + c) (render l ns ++ rest) v.bytes; closed = v.closed }

  module _ (l : Level) (p c : ℕ) (is ns : Nodes) (rest : List ℕ) (v : At l p (listed c is ns) rest) where
    abbrev pub behind : List ℕ
    behind = 41 ∷ (render l ns ++ rest)

    pub joined : drop p t ≡ (first l + c) ∷ 40 ∷ (render Digits is ++ behind)
    joined = v.bytes ∙ ap (λ (x : List ℕ). (first l + c) ∷ 40 ∷ x) (append_assoc (render Digits is) (41 ∷ render l ns) rest)

    pub opened : drop (p + 1) t ≡ 40 ∷ (render Digits is ++ behind)
    opened = next p (first l + c) _ joined

    pub listing : drop (p + 2) t ≡ render Digits is ++ behind
    listing = let z : p + 2 ≡ p + 1 + 1 = omega arith in ap (λ (x : ℕ). drop x t) z ∙ next (p + 1) 40 _ opened

    left : drop (p + 3 + length (render Digits is)) t ≡ render l ns ++ rest
    left =
        let z : p + 3 + length (render Digits is) ≡ p + 2 + length (render Digits is) + 1 = omega arith in
        ap (λ (x : ℕ). drop x t) z ∙ next (p + 2 + length (render Digits is)) 41 _ (past (p + 2) (render Digits is) behind listing)

    pub at-list : At Digits (p + 2) is behind
    at-list = record { bytes = listing; closed = λ h. omega arith }

    pub at-behind : At l (p + 3 + length (render Digits is)) ns rest
    at-behind = record { bytes = left; closed = v.closed }

    flat-list : (q : ℕ) → Flat (p + 3 + length (render Digits is)) q → Flat p q
    unfolding even
    flat-list q f = (
      (first l + c) ∷ 40 ∷ (render Digits is ++ (41 ∷ f.0)),
      joined ∙ ap (λ (x : List ℕ). (first l + c) ∷ 40 ∷ x)
          (ap (λ (x : List ℕ). render Digits is ++ (41 ∷ x)) (sym left ∙ f.1) ∙ sym (append_assoc (render Digits is) (41 ∷ f.0) (drop q t))),
      omega (arith, f.2, length-append (render Digits is) (41 ∷ f.0)),
      even-letter 0 (first l + c) (40 ∷ (render Digits is ++ (41 ∷ f.0))) (omega (arith, first-big l)) ∙ even-render is Digits 1 (41 ∷ f.0) ∙ f.3,
    )

  -- ---- the byte, and the list that it stands in

  abbrev Direct : Level → ℕ → Name → Item → Type 0
  Direct l p w e = (c : ℕ) × (e.name ≡ w ++ (c ∷ [])) × (c < many l) × (get_or t e.place 0 ≡ first l + c) × Flat p e.place

  abbrev Under : List Item → Item → Type 0
  Under es e =
      (d : Item) × (c : ℕ) × IMem d es × (e.name ≡ d.name ++ (c ∷ [])) × (c < 9) × (get_or t e.place 0 ≡ 48 + c) × (get_or t (d.place + 1) 0 ≡ 40) ×
      Flat (d.place + 2) e.place

  -- the first of these nodes
  here : (l : Level) (p c : ℕ) (w : Name) (r : List ℕ) (e : Item) → c < many l → drop p t ≡ (first l + c) ∷ r → p ≡ e.place → w ++ (c ∷ []) ≡ e.name → Direct l p w e
  here l p c w r e h k z n = (c, sym n, h, ap (λ (x : ℕ). get_or t x 0) (sym z) ∙ at_byte p (first l + c) r k, flat-none p e.place z)

  stands :
      (ns : Nodes) (l : Level) (d p : ℕ) (w : Name) (lo : ℕ) (rest : List ℕ) → Loose l d ns → At l p ns rest → (e : Item) → IMem e (items p w lo ns) →
      Direct l p w e ⊎ Under (items p w lo ns) e
  stands end l d p w lo rest g v e m = absurd m
  stands (whole c ns) l d p w lo rest g v e (inl m) =
      inl (here l p c w (render l ns ++ rest) e g.0 v.bytes (ap (λ (x : Item). x.place) m) (ap (λ (x : Item). x.name) m))
  stands (whole c ns) l d p w lo rest g v e (inr m) =
      ⊎_elim
      (λ x. inl (x.0, x.1, x.2, x.3, flat-letter p e.place (first l + c) (render l ns ++ rest) (omega (arith, first-big l)) v.bytes x.4))
      (λ x. inr (x.0, x.1, inr x.2, x.3, x.4, x.5, x.6, x.7))
      (stands ns l d (p + 1) w (suc c) rest g.1 (at-whole l p c ns rest v) e m)
  stands (listed c is ns) l d p w lo rest g v e (inl m) =
      inl (here l p c w _ e g.0 (joined l p c is ns rest v) (ap (λ (x : Item). x.place) m) (ap (λ (x : Item). x.name) m))
  stands (listed c is ns) l d p w lo rest g v e (inr m) =
      ⊎_elim
      (λ k.
      ⊎_elim
      (λ x.
      inr (
        record { place = p; name = w ++ (c ∷ []); own = false; late = _; void = is_end is },
        x.0,
        inl refl,
        x.1,
        x.2,
        x.3,
        at_byte (p + 1) 40 _ (opened l p c is ns rest v),
        x.4,
      ))
      (λ x. inr (x.0, x.1, inr (imem-left x.0 (items (p + 2) (w ++ (c ∷ [])) 0 is) _ x.2), x.3, x.4, x.5, x.6, x.7))
      (stands is Digits (d - 1) (p + 2) (w ++ (c ∷ [])) 0 _ g.2 (at-list l p c is ns rest v) e k))
      (λ k.
      ⊎_elim
      (λ x. inl (x.0, x.1, x.2, x.3, flat-list l p c is ns rest v e.place x.4))
      (λ x. inr (x.0, x.1, inr (imem-right x.0 (items (p + 2) (w ++ (c ∷ [])) 0 is) _ x.2), x.3, x.4, x.5, x.6, x.7))
      (stands ns l d (p + 3 + length (render Digits is)) w (suc c) rest g.3 (at-behind l p c is ns rest v) e k))
      (imem-or e (items (p + 2) (w ++ (c ∷ [])) 0 is) _ m)

  -- ---- whole: no list opens right behind

  pub front : (p : ℕ) (r : List ℕ) → drop p t ≡ r → get_or t p 0 ≡ get_or r 0 0
  front p r e =
      let z : p ≡ p + 0 = omega arith in
      ap (λ (x : ℕ). get_or t x 0) z ∙ sym (get_or-drop p t 0 0) ∙ ap (λ (x : List ℕ). get_or x 0 0) e

  opens-none : (ns : Nodes) (l : Level) (rest : List ℕ) → (get_or rest 0 0 ≡ 40 → ⊥) → get_or (render l ns ++ rest) 0 0 ≡ 40 → ⊥
  opens-none end l rest s h = s h
  opens-none (whole c ns) l rest s h = omega (arith, first-big l)
  opens-none (listed c is ns) l rest s h = omega (arith, first-big l)

  whole_is :
      (ns : Nodes) (l : Level) (p : ℕ) (w : Name) (lo : ℕ) (rest : List ℕ) → At l p ns rest → (e : Item) → IMem e (items p w lo ns) →
      (e.own ≡ true) ↔ (get_or t (e.place + 1) 0 ≡ 40 → ⊥)
  whole_is end l p w lo rest v e m = absurd m
  whole_is (whole c ns) l p w lo rest v e (inl m) =
      let z : p ≡ e.place = ap (λ (x : Item). x.place) m in
      let b = front (p + 1) (render l ns ++ rest) (at-whole l p c ns rest v).bytes in
      ((λ k h. opens-none ns l rest v.closed (sym b ∙ ap (λ (x : ℕ). get_or t (x + 1) 0) z ∙ h)), (λ k. sym (ap (λ (x : Item). x.own) m)))
  whole_is (whole c ns) l p w lo rest v e (inr m) = whole_is ns l (p + 1) w (suc c) rest (at-whole l p c ns rest v) e m
  whole_is (listed c is ns) l p w lo rest v e (inl m) =
      let z : p ≡ e.place = ap (λ (x : Item). x.place) m in
      let b = at_byte (p + 1) 40 _ (opened l p c is ns rest v) in
      ((λ k. clash (sym k ∙ sym (ap (λ (x : Item). x.own) m))), (λ k. absurd (k (ap (λ (x : ℕ). get_or t (x + 1) 0) (sym z) ∙ b))))
  whole_is (listed c is ns) l p w lo rest v e (inr m) =
      ⊎_elim (λ k. whole_is is Digits (p + 2) (w ++ (c ∷ [])) 0 _ (at-list l p c is ns rest v) e k)
      (λ k. whole_is ns l (p + 3 + length (render Digits is)) w (suc c) rest (at-behind l p c is ns rest v) e k)
      (imem-or e (items (p + 2) (w ++ (c ∷ [])) 0 is) _ m)

  -- ---- each byte that is no bracket

  abbrev Named : List Item → ℕ → Type 0
  Named es q = (e : Item) × IMem e es × (e.place ≡ q)

  named :
      (ns : Nodes) (l : Level) (p : ℕ) (w : Name) (lo : ℕ) (rest : List ℕ) → At l p ns rest → (q : ℕ) → p ≤ q → q < p + length (render l ns) →
      (get_or t q 0 ≡ 40 → ⊥) → (get_or t q 0 ≡ 41 → ⊥) → Named (items p w lo ns) q
  named end l p w lo rest v q a b f g = absurd (omega arith)
  named (whole c ns) l p w lo rest v q a b f g =
      ⊎_elim
      (λ h. let x = named ns l (p + 1) w (suc c) rest (at-whole l p c ns rest v) q (omega arith) (omega arith) f g in (x.0, inr x.1, x.2))
      (λ h. (_, inl refl, omega arith))
      (lt-or p q)
  named (listed c is ns) l p w lo rest v q a b f g =
      let n = length-append (render Digits is) (41 ∷ render l ns) in
      ⊎_elim
      (λ h.
      ⊎_elim
      (λ i.
      ⊎_elim
      (λ j.
      ⊎_elim
      (λ k.
      let x = named ns l (p + 3 + length (render Digits is)) w (suc c) rest (at-behind l p c is ns rest v) q (omega arith) (omega arith) f g in
      (x.0, inr (imem-right x.0 (items (p + 2) (w ++ (c ∷ [])) 0 is) _ x.1), x.2))
      (λ k.
      let z : q ≡ p + 2 + length (render Digits is) = omega arith in
      absurd (g (ap (λ (x : ℕ). get_or t x 0) z ∙ at_byte _ 41 _ (past (p + 2) (render Digits is) _ (listing l p c is ns rest v)))))
      (lt-or (p + 2 + length (render Digits is)) q))
      (λ j.
      let x = named is Digits (p + 2) (w ++ (c ∷ [])) 0 _ (at-list l p c is ns rest v) q (omega arith) (omega arith) f g in
      (x.0, inr (imem-left x.0 (items (p + 2) (w ++ (c ∷ [])) 0 is) _ x.1), x.2))
      (lt-or (p + 1 + length (render Digits is)) q))
      (λ i. let z : q ≡ p + 1 = omega arith in absurd (f (ap (λ (x : ℕ). get_or t x 0) z ∙ at_byte (p + 1) 40 _ (opened l p c is ns rest v))))
      (lt-or (p + 1) q))
      (λ h. (_, inl refl, omega arith))
      (lt-or p q)

  pub flat-same : (p q : ℕ) → Flat p q → SameList t p q
  flat-same p q f = (
    omega (arith, f.2),
    ap (even 0) (ap (take (q - p)) f.1 ∙ take_at f.0 (drop q t) (q - p) (omega (arith, f.2))) ∙ f.3,
  )

-- ---- the items of a looser text

one_place : (es : List Item) → Spaced es → (e d : Item) → IMem e es → IMem d es → e.place ≡ d.place → e ≡ d
one_place [] s e d m n h = absurd m
one_place (x ∷ es) s e d (inl m) (inl n) h = sym m ∙ n
one_place (x ∷ es) s e d (inl m) (inr n) h = absurd (omega (arith, (s.0 d n).0, ap (λ (y : Item). y.place) m))
one_place (x ∷ es) s e d (inr m) (inl n) h = absurd (omega (arith, (s.0 e m).0, ap (λ (y : Item). y.place) n))
one_place (x ∷ es) s e d (inr m) (inr n) h = one_place es s.1 e d m n h

module _ {n s : ℕ} {t : List ℕ} {ns : Nodes} (r : LooseAs n s t ns) where
  abbrev all : List Item
  all = items 7 [] 0 ns

  pub body : At t Faces 7 ns []
  body = record { bytes = ap (drop 7) r.all ∙ sym (append-nil (render Faces ns)); closed = λ h. omega arith }

  -- the letter or digit at an item's place is the last of its name; the rest of its name is that of the item whose list it stands in
  pub item-stands : (e : Item) → IMem e all → InBody t e ⊎ InList t all e
  item-stands e m =
      ⊎_elim (λ x. inl (x.0, x.1, x.2, x.3, flat-same t 7 e.place x.4))
      (λ x. inr (x.0, x.1, x.2, x.3, x.4, x.5, x.6, flat-same t (x.0.place + 2) e.place x.7))
      (stands t ns Faces 15 7 [] 0 [] r.loose body e m)

  -- "a letter or digit with a list is not whole, whatever the list holds"
  pub item-whole : (e : Item) → IMem e all → (e.own ≡ true) ↔ (get_or t (e.place + 1) 0 ≡ 40 → ⊥)
  item-whole e m = whole_is t ns Faces 7 [] 0 [] body e m

  -- each letter and digit behind the heading is one item's
  pub byte-item : (p : ℕ) → 7 ≤ p → p < length t → (get_or t p 0 ≡ 40 → ⊥) → (get_or t p 0 ≡ 41 → ⊥) → (e : Item) × IMem e all × (e.place ≡ p)
  byte-item p a b f g = named t ns Faces 7 [] 0 [] body p a (omega (arith, ap length r.all)) f g

  pub item-one : (e d : Item) → IMem e all → IMem d all → e.place ≡ d.place → e ≡ d
  item-one e d m n h = one_place all (items-spaced ns 7 [] 0) e d m n h
