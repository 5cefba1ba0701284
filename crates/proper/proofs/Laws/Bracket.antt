-- "Kind 3 is the opening bracket of an empty list", over the bytes of the text. Assumes nothing.
use Rattle.std.specs.Prelude.{◌≡◌, refl, true, ◌↔◌, List, [], ◌∷◌, ◌++◌, ℕ, zero, suc, ◌+◌, ◌-◌, ◌≤◌, ◌<◌, length, get_or}
use Rattle.std.proofs.Common.{sym, ap, ap₂, ◌∙◌, inl, inr, ⊎_elim, arith, length-append, get_or-append-add}
use Rattle.std.proofs.Math.ListN.{get_or-append}
use Rattle.logic.specs.Lists.{Mem}
use Rattle.logic.specs.Laws.Bools.{clash}
use Rattle.logic.specs.Laws.Order.{lt-or}
use Rattle.reading.specs.declared.Level.{Level}
use Rattle.reading.specs.declared.Level.TheVariants.{Faces, Belt, Digits}
use Rattle.reading.specs.declared.Profile.TheVariants.{Full}
use Rattle.reading.specs.Reading.{Nodes, end, whole, listed, first, render}
use Rattle.reading.specs.Prefix.{Name}
use Rattle.reading.specs.Text.{heading}
use Rattle.loose.specs.LooseText.{LooseAs}
use Rattle.proper.specs.Changes.{Item, items, changes}
use Rattle.proper.proofs.Laws.Lists.{IMem, imem-left, imem-right, imem-or}
use Rattle.proper.proofs.Laws.Given.{at}
use Rattle.proper.proofs.Laws.Told.{told-void}

-- no letter or digit is a bracket
no-bracket : (l : Level) (c x : ℕ) → x < 48 → first l + c ≡ x → ⊥
no-bracket Faces c x h e = omega arith
no-bracket Belt c x h e = omega arith
no-bracket Digits c x h e = omega arith

-- behind the first part
behind : (a b : List ℕ) (x j k : ℕ) → j ≡ length a + suc k → get_or (a ++ (x ∷ b)) j 0 ≡ get_or b k 0
behind a b x j k e = ap (λ (i : ℕ). get_or (a ++ (x ∷ b)) i 0) e ∙ get_or-append-add a (x ∷ b) (suc k) 0

between : (a b : List ℕ) (x j : ℕ) → j ≡ length a → get_or (a ++ (x ∷ b)) j 0 ≡ x
between a b x j e = ap (λ (i : ℕ). get_or (a ++ (x ∷ b)) i 0) (omega (arith, e)) ∙ get_or-append-add a (x ∷ b) 0 0

within : (a : List ℕ) (j x : ℕ) → get_or a j 0 ≡ suc x → j < length a
within [] j x e = absurd (omega arith)
within (y ∷ a) zero x e = omega arith
within (y ∷ a) (suc j) x e = let k = within a j x e in omega arith

-- the last byte of nodes is no opening bracket
last-not : (ns : Nodes) (l : Level) (j : ℕ) → suc j ≡ length (render l ns) → get_or (render l ns) j 0 ≡ 40 → ⊥
last-not end l j e h = omega arith
last-not (whole c ns) l zero e h = no-bracket l c 40 (omega arith) h
last-not (whole c ns) l (suc j) e h = last-not ns l j (omega arith) h
last-not (listed c is ns) l zero e h = no-bracket l c 40 (omega arith) h
last-not (listed c is ns) l (suc zero) e h = omega (arith, length-append (render Digits is) (41 ∷ render l ns))
last-not (listed c is ns) l (suc (suc j)) e h =
    let n = length-append (render Digits is) (41 ∷ render l ns) in
    ⊎_elim
    (λ k.
    let i : j ≡ length (render Digits is) + suc (j - suc (length (render Digits is))) = omega arith in
    last-not ns l (j - suc (length (render Digits is))) (omega arith) (sym (behind (render Digits is) (render l ns) 41 j _ i) ∙ h))
    (λ k. let z = sym (between (render Digits is) (render l ns) 41 j (omega arith)) ∙ h in omega arith)
    (lt-or (length (render Digits is)) j)

-- an item with an empty list, whose bracket is at this place
abbrev Opens : List Item → ℕ → Type 0
Opens es q = (e : Item) × IMem e es × (e.place + 1 ≡ q) × (e.void ≡ true)

opens-list :
    (c : ℕ) (is ns : Nodes) (l : Level) (p : ℕ) (w : Name) (lo : ℕ) → get_or (render Digits is ++ (41 ∷ render l ns)) 0 0 ≡ 41 →
    Opens (items p w lo (listed c is ns)) (p + 1)
opens-list c end ns l p w lo h = (_, inl refl, refl, refl)
opens-list c (whole d is) ns l p w lo h = absurd (no-bracket Digits d 41 (omega arith) h)
opens-list c (listed d js is) ns l p w lo h = absurd (no-bracket Digits d 41 (omega arith) h)

bracket-item :
    (ns : Nodes) (l : Level) (p : ℕ) (w : Name) (lo i : ℕ) → get_or (render l ns) i 0 ≡ 40 → get_or (render l ns) (suc i) 0 ≡ 41 →
    Opens (items p w lo ns) (p + i)
bracket-item end l p w lo i h k = absurd (omega arith)
bracket-item (whole c ns) l p w lo zero h k = absurd (no-bracket l c 40 (omega arith) h)
bracket-item (whole c ns) l p w lo (suc i) h k =
    let x = bracket-item ns l (p + 1) w (suc c) i h k in (x.0, inr x.1, x.2 ∙ omega arith, x.3)
bracket-item (listed c is ns) l p w lo zero h k = absurd (no-bracket l c 40 (omega arith) h)
bracket-item (listed c is ns) l p w lo (suc zero) h k = opens-list c is ns l p w lo k
bracket-item (listed c is ns) l p w lo (suc (suc i)) h k =
    ⊎_elim
    (λ m.
    let e : i ≡ length (render Digits is) + suc (i - suc (length (render Digits is))) = omega arith in
    let f : suc i ≡ length (render Digits is) + suc (suc (i - suc (length (render Digits is)))) = omega arith in
    let x = bracket-item ns l (p + 3 + length (render Digits is)) w (suc c) (i - suc (length (render Digits is)))
    (sym (behind (render Digits is) (render l ns) 41 i _ e) ∙ h) (sym (behind (render Digits is) (render l ns) 41 (suc i) _ f) ∙ k) in
    (x.0, inr (imem-right x.0 (items (p + 2) (w ++ (c ∷ [])) 0 is) _ x.1), x.2 ∙ omega arith, x.3))
    (λ m.
    ⊎_elim
    (λ o.
    let x = bracket-item is Digits (p + 2) (w ++ (c ∷ [])) 0 i
    (sym (get_or-append (render Digits is) (41 ∷ render l ns) 0 i (omega arith)) ∙ h)
    (sym (get_or-append (render Digits is) (41 ∷ render l ns) 0 (suc i) o) ∙ k) in
    (x.0, inr (imem-left x.0 (items (p + 2) (w ++ (c ∷ [])) 0 is) _ x.1), x.2 ∙ omega arith, x.3))
    (λ o.
    ⊎_elim
    (λ q. absurd (last-not is Digits i (omega arith) (sym (get_or-append (render Digits is) (41 ∷ render l ns) 0 i q) ∙ h)))
    (λ q. let z = sym (between (render Digits is) (render l ns) 41 i (omega arith)) ∙ h in absurd (omega arith))
    (lt-or i (length (render Digits is))))
    (lt-or (suc i) (length (render Digits is))))
    (lt-or (length (render Digits is)) i)

-- the bytes at a bracket and behind it
abbrev Bytes : List ℕ → ℕ → ℕ → Type 0
Bytes t p q = (i : ℕ) × (q ≡ p + i) × (get_or t i 0 ≡ 40) × (get_or t (suc i) 0 ≡ 41)

item-bracket :
    (ns : Nodes) (l : Level) (p : ℕ) (w : Name) (lo : ℕ) (e : Item) → IMem e (items p w lo ns) → e.void ≡ true → Bytes (render l ns) p (e.place + 1)
item-bracket end l p w lo e m v = absurd m
item-bracket (whole c ns) l p w lo e (inl m) v = clash (sym (ap (λ (x : Item). x.void) m ∙ v))
item-bracket (whole c ns) l p w lo e (inr m) v =
    let x = item-bracket ns l (p + 1) w (suc c) e m v in (suc x.0, x.1 ∙ omega arith, x.2, x.3)
item-bracket (listed c end ns) l p w lo e (inl m) v =
    let z : p ≡ e.place = ap (λ (x : Item). x.place) m in (1, omega arith, refl, refl)
item-bracket (listed c (whole d is) ns) l p w lo e (inl m) v = clash (sym (ap (λ (x : Item). x.void) m ∙ v))
item-bracket (listed c (listed d js is) ns) l p w lo e (inl m) v = clash (sym (ap (λ (x : Item). x.void) m ∙ v))
item-bracket (listed c is ns) l p w lo e (inr m) v =
    ⊎_elim
    (λ h.
    let x = item-bracket is Digits (p + 2) (w ++ (c ∷ [])) 0 e h v in (
      suc (suc x.0),
      x.1 ∙ omega arith,
      get_or-append (render Digits is) (41 ∷ render l ns) 0 x.0 (within (render Digits is) x.0 39 x.2) ∙ x.2,
      get_or-append (render Digits is) (41 ∷ render l ns) 0 (suc x.0) (within (render Digits is) (suc x.0) 40 x.3) ∙ x.3,
    ))
    (λ h.
    let x = item-bracket ns l (p + 3 + length (render Digits is)) w (suc c) e h v in (
      suc (suc (length (render Digits is) + suc x.0)),
      x.1 ∙ omega arith,
      behind (render Digits is) (render l ns) 41 _ x.0 refl ∙ x.2,
      behind (render Digits is) (render l ns) 41 _ (suc x.0) (omega arith) ∙ x.3,
    ))
    (imem-or e (items (p + 2) (w ++ (c ∷ [])) 0 is) _ m)

-- at a place behind the heading, an opening bracket and right behind it a closing one
pub told-3 :
    {n s : ℕ} {t : List ℕ} {ns : Nodes} → LooseAs n s t ns → (p : ℕ) →
    Mem (at p 3) (changes ns) ↔ ((7 ≤ p) × (get_or t p 0 ≡ 40) × (get_or t (p + 1) 0 ≡ 41))
told-3 {n} {s} {t} {ns} r p = (
  (λ m.
      let x = (told-void ns p).0 m in
      let b = item-bracket ns Faces 7 [] 0 x.0 x.1 x.3 in
      let e : p ≡ 7 + b.0 = sym x.2 ∙ b.1 in
      (omega (arith, e), byte p b.0 e ∙ b.2, byte (p + 1) (suc b.0) (omega (arith, e)) ∙ b.3)),
  (λ h.
      let e : p ≡ 7 + (p - 7) = omega (arith, h.0) in
      let x = bracket-item ns Faces 7 [] 0 (p - 7) (sym (byte p (p - 7) e) ∙ h.1) (sym (byte (p + 1) (suc (p - 7)) (omega (arith, h.0))) ∙ h.2) in
      (told-void ns p).1 (x.0, x.1, x.2 ∙ sym e, x.3)),
)
  where
    byte : (q i : ℕ) → q ≡ 7 + i → get_or t q 0 ≡ get_or (render Faces ns) i 0
    byte q i e = ap₂ (λ (u : List ℕ) (k : ℕ). get_or u k 0) r.all e ∙ get_or-append-add (heading Full n s) (render Faces ns) i 0
