-- What stands at a place says how much of a child is covered; and what stands behind a list. Assumes nothing.
use mathlib.Core.Path.{◌≡◌, refl, sym, ap, ap₂, ◌∙◌}
use mathlib.Core.Logic.{⊎_elim}
use mathlib.Core.List.{List, [], ◌∷◌, ◌++◌, append_assoc}
use Prim.Native.Nat.{ℕ, suc, ◌+◌, ◌≤◌, ◌<◌}
use native.Mathlib.Omega.{arith}
use lib.ListN.{length, drop, get_or, drop_of_length-le}
use borrow.Author.Tests.{eq-eqb, ne_eqb, lt-ltb}
use Rattle.logic.specs.Laws.Order.{lt-or}
use Rattle.reading.specs.declared.Level.{Level}
use Rattle.reading.specs.declared.Level.TheVariants.{Digits}
use Rattle.reading.specs.Reading.{Nodes, end, whole, listed, first, many, render}
use Rattle.reading.proofs.Laws.Reading.{first-big}
use Rattle.reading.proofs.Laws.Parse.{Stop}
use Rattle.walk.specs.Laws.Walk.{byte_at}
use Rattle.comparing.specs.declared.Child.{Child}
use Rattle.comparing.specs.Shared.{Portion, none, all, some, portion_number, of_child, past_child}
use Rattle.comparing.specs.Internal.Portions.{GoodPortion}
use Rattle.comparing.specs.Internal.Found.{bytes, closing, StopAt, past_of, ChildPortion, ChildIs}

-- ---- the portion of a child, by what stands at the place

other-whole : (c b : ℕ) (ns : Nodes) → (b ≡ c → ⊥) → (of_child c (some (whole b ns)) ≡ none) × (past_child c (some (whole b ns)) ≡ some (whole b ns))
other-whole c b ns h = (rw (ne_eqb b c h) refl, rw (ne_eqb b c h) refl)

other-list : (c b : ℕ) (is ns : Nodes) → (b ≡ c → ⊥) → (of_child c (some (listed b is ns)) ≡ none) × (past_child c (some (listed b is ns)) ≡ some (listed b is ns))
other-list c b is ns h = (rw (ne_eqb b c h) refl, rw (ne_eqb b c h) refl)

own-whole : (c b : ℕ) (ns : Nodes) → b ≡ c → (of_child c (some (whole b ns)) ≡ all) × (past_child c (some (whole b ns)) ≡ some ns)
own-whole c b ns h = (rw (eq-eqb b c h) refl, rw (eq-eqb b c h) refl)

own-list : (c b : ℕ) (is ns : Nodes) → b ≡ c → (of_child c (some (listed b is ns)) ≡ some is) × (past_child c (some (listed b is ns)) ≡ some ns)
own-list c b is ns h = (rw (eq-eqb b c h) refl, rw (eq-eqb b c h) refl)

-- the portion and what is left are these
child-as :
    (s : List ℕ) (l : Level) (c : ℕ) (x y z : Portion) (e : List ℕ) (r : Child) → (of_child c x ≡ y) × (past_child c x ≡ z) → r.portion ≡ portion_number y →
    drop r.next s ≡ bytes Digits y ++ closing y (bytes l z ++ e) → ChildPortion s l c x e r
child-as s l c x y z e r k t d =
    record {
      portion = t ∙ ap portion_number (sym k.0);
      stands = d ∙ ap₂ (λ (u v : Portion). bytes Digits u ++ closing u (bytes l v ++ e)) (sym k.0) (sym k.1);
    }

pub flat-child : {s : List ℕ} {at t byte : ℕ} → (t ≡ 2 → ⊥) → ChildIs s at t byte (record { portion = t; next = at })
flat-child {s} {at} {t} {byte} h = record { is = go }
  where
    go :
        (l : Level) (d c : ℕ) (x : Portion) (e : List ℕ) → portion_number x ≡ t → byte ≡ first l + c → c < many l → GoodPortion l d c x → StopAt x e →
        drop at s ≡ bytes l x ++ e → ChildPortion s l c x e (record { portion = t; next = at })
    go l d c none e i b m g p k = record { portion = sym i; stands = k }
    go l d c all e i b m g p k = record { portion = sym i; stands = k }
    go l d c (some ns) e i b m g p k = absurd (h (sym i))

no-cons : (x : ℕ) (xs : List ℕ) → [] ≡ x ∷ xs → ⊥
no-cons x xs e = let k : ◌≡◌ {A = ℕ} 0 (suc (length xs)) = ap length e in omega arith

pub no-child : {s : List ℕ} {at t byte : ℕ} → t ≡ 2 → length s ≤ at → ChildIs s at t byte (record { portion = 0; next = at })
no-child {s} {at} {t} {byte} h o = record { is = go }
  where
    go :
        (l : Level) (d c : ℕ) (x : Portion) (e : List ℕ) → portion_number x ≡ t → byte ≡ first l + c → c < many l → GoodPortion l d c x → StopAt x e →
        drop at s ≡ bytes l x ++ e → ChildPortion s l c x e (record { portion = 0; next = at })
    go l d c none e i b m g p k = absurd (omega arith)
    go l d c all e i b m g p k = absurd (omega arith)
    go l d c (some end) e i b m g p k = record { portion = refl; stands = k }
    go l d c (some (whole a ns)) e i b m g p k = absurd (no-cons _ _ (sym (drop_of_length-le s o) ∙ k))
    go l d c (some (listed a is ns)) e i b m g p k = absurd (no-cons _ _ (sym (drop_of_length-le s o) ∙ k))

pub other-child : {s : List ℕ} {at t byte : ℕ} → t ≡ 2 → at < length s → (get_or s at 0 ≡ byte → ⊥) → ChildIs s at t byte (record { portion = 0; next = at })
other-child {s} {at} {t} {byte} h o n = record { is = go }
  where
    go :
        (l : Level) (d c : ℕ) (x : Portion) (e : List ℕ) → portion_number x ≡ t → byte ≡ first l + c → c < many l → GoodPortion l d c x → StopAt x e →
        drop at s ≡ bytes l x ++ e → ChildPortion s l c x e (record { portion = 0; next = at })
    go l d c none e i b m g p k = absurd (omega arith)
    go l d c all e i b m g p k = absurd (omega arith)
    go l d c (some end) e i b m g p k = record { portion = refl; stands = k }
    go l d c (some (whole a ns)) e i b m g p k =
        let q : get_or s at 0 ∷ drop (at + 1) s ≡ (first l + a) ∷ (render l ns ++ e) = sym (byte_at s at o) ∙ k in
        let q₁ : get_or s at 0 ≡ first l + a = cc in
        child-as s l c (some (whole a ns)) none (some (whole a ns)) e (record { portion = 0; next = at }) (other-whole c a ns (λ w. n (omega arith))) refl k
    go l d c (some (listed a is ns)) e i b m g p k =
        let q : get_or s at 0 ∷ drop (at + 1) s ≡ (first l + a) ∷ ((40 ∷ (render Digits is ++ (41 ∷ render l ns))) ++ e) = sym (byte_at s at o) ∙ k in
        let q₁ : get_or s at 0 ≡ first l + a = cc in
        child-as s l c (some (listed a is ns)) none (some (listed a is ns)) e (record { portion = 0; next = at }) (other-list c a is ns (λ w. n (omega arith))) refl k

-- what stands behind a letter or digit: no `(`
abbrev NoList : (s : List ℕ) (next : ℕ) → Type 0
NoList s next = (rest : List ℕ) → drop next s ≡ 40 ∷ rest → ⊥

pub whole-child : {s : List ℕ} {at t byte : ℕ} → t ≡ 2 → at < length s → get_or s at 0 ≡ byte → NoList s (at + 1) → ChildIs s at t byte (record { portion = 1; next = at + 1 })
whole-child {s} {at} {t} {byte} h o n z = record { is = go }
  where
    go :
        (l : Level) (d c : ℕ) (x : Portion) (e : List ℕ) → portion_number x ≡ t → byte ≡ first l + c → c < many l → GoodPortion l d c x → StopAt x e →
        drop at s ≡ bytes l x ++ e → ChildPortion s l c x e (record { portion = 1; next = at + 1 })
    go l d c none e i b m g p k = absurd (omega arith)
    go l d c all e i b m g p k = absurd (omega arith)
    go l d c (some end) [] i b m g p k = absurd (no-cons _ _ (sym k ∙ byte_at s at o))
    go l d c (some end) (v ∷ e) i b m g p k =
        let q : get_or s at 0 ∷ drop (at + 1) s ≡ v ∷ e = sym (byte_at s at o) ∙ k in
        let q₁ : get_or s at 0 ≡ v = cc in
        absurd (omega (arith, first-big l))
    go l d c (some (whole a ns)) e i b m g p k =
        let q : get_or s at 0 ∷ drop (at + 1) s ≡ (first l + a) ∷ (render l ns ++ e) = sym (byte_at s at o) ∙ k in
        let q₁ : get_or s at 0 ≡ first l + a = cc in
        let q₂ : drop (at + 1) s ≡ render l ns ++ e = cc in
        child-as s l c (some (whole a ns)) all (some ns) e (record { portion = 1; next = at + 1 }) (own-whole c a ns (omega arith)) refl q₂
    go l d c (some (listed a is ns)) e i b m g p k =
        let q : get_or s at 0 ∷ drop (at + 1) s ≡ (first l + a) ∷ ((40 ∷ (render Digits is ++ (41 ∷ render l ns))) ++ e) = sym (byte_at s at o) ∙ k in
        let q₂ : drop (at + 1) s ≡ (40 ∷ (render Digits is ++ (41 ∷ render l ns))) ++ e = cc in
        absurd (z ((render Digits is ++ (41 ∷ render l ns)) ++ e) q₂)

pub last-no-list : (s : List ℕ) (next : ℕ) → length s ≤ next → NoList s next
last-no-list s next h rest e = no-cons _ _ (sym (drop_of_length-le s h) ∙ e)

pub other-no-list : (s : List ℕ) (next : ℕ) → next < length s → (get_or s next 0 ≡ 40 → ⊥) → NoList s next
other-no-list s next h n rest e =
    let q : get_or s next 0 ∷ drop (next + 1) s ≡ 40 ∷ rest = sym (byte_at s next h) ∙ e in
    let q₁ : get_or s next 0 ≡ 40 = cc in n q₁

pub list-child :
    {s : List ℕ} {at t byte : ℕ} → t ≡ 2 → at < length s → get_or s at 0 ≡ byte → at + 1 < length s → get_or s (at + 1) 0 ≡ 40 →
    ChildIs s at t byte (record { portion = 2; next = at + 1 + 1 })
list-child {s} {at} {t} {byte} h o n u z = record { is = go }
  where
    open₁ : drop (at + 1) s ≡ 40 ∷ drop (at + 1 + 1) s
    open₁ = byte_at s (at + 1) u ∙ ap (λ (v : ℕ). v ∷ drop (at + 1 + 1) s) z

    no-open : (l : Level) (ns : Nodes) (e : List ℕ) → Stop e → 40 ∷ drop (at + 1 + 1) s ≡ render l ns ++ e → ⊥
    no-open l end [] p q = no-cons _ _ (sym q)
    no-open l end (v ∷ e) p q = let k : 40 ≡ v = cc in omega arith
    no-open l (whole a ns) e p q = let k : 40 ≡ first l + a = cc in omega (arith, first-big l)
    no-open l (listed a is ns) e p q = let k : 40 ≡ first l + a = cc in omega (arith, first-big l)

    go :
        (l : Level) (d c : ℕ) (x : Portion) (e : List ℕ) → portion_number x ≡ t → byte ≡ first l + c → c < many l → GoodPortion l d c x → StopAt x e →
        drop at s ≡ bytes l x ++ e → ChildPortion s l c x e (record { portion = 2; next = at + 1 + 1 })
    go l d c none e i b m g p k = absurd (omega arith)
    go l d c all e i b m g p k = absurd (omega arith)
    go l d c (some end) [] i b m g p k = absurd (no-cons _ _ (sym k ∙ byte_at s at o))
    go l d c (some end) (v ∷ e) i b m g p k =
        let q : get_or s at 0 ∷ drop (at + 1) s ≡ v ∷ e = sym (byte_at s at o) ∙ k in
        let q₁ : get_or s at 0 ≡ v = cc in
        absurd (omega (arith, first-big l))
    go l d c (some (whole a ns)) e i b m g p k =
        let q : get_or s at 0 ∷ drop (at + 1) s ≡ (first l + a) ∷ (render l ns ++ e) = sym (byte_at s at o) ∙ k in
        let q₂ : drop (at + 1) s ≡ render l ns ++ e = cc in
        absurd (no-open l ns e p (sym open₁ ∙ q₂))
    go l d c (some (listed a is ns)) e i b m g p k =
        let q : get_or s at 0 ∷ drop (at + 1) s ≡ (first l + a) ∷ (40 ∷ ((render Digits is ++ (41 ∷ render l ns)) ++ e)) = sym (byte_at s at o) ∙ k in
        let q₁ : get_or s at 0 ≡ first l + a = cc in
        let q₂ : drop (at + 1) s ≡ 40 ∷ ((render Digits is ++ (41 ∷ render l ns)) ++ e) = cc in
        let q₃ : 40 ∷ drop (at + 1 + 1) s ≡ 40 ∷ ((render Digits is ++ (41 ∷ render l ns)) ++ e) = sym open₁ ∙ q₂ in
        let q₄ : drop (at + 1 + 1) s ≡ (render Digits is ++ (41 ∷ render l ns)) ++ e = cc in
        child-as s l c (some (listed a is ns)) (some is) (some ns) e (record { portion = 2; next = at + 1 + 1 }) (own-list c a is ns (omega arith)) refl
        (q₄ ∙ append_assoc (render Digits is) (41 ∷ render l ns) e)

-- ---- behind a list

pub past-closed : (s : List ℕ) (at : ℕ) (x : Portion) (e : List ℕ) → drop at s ≡ closing x e → drop (past_of (length s) at (portion_number x)) s ≡ e
unfolding past_of
past-closed s at none e h = h
past-closed s at all e h = h
past-closed s at (some ns) e h =
    ⊎_elim
    (λ k.
    let q : get_or s at 0 ∷ drop (at + 1) s ≡ 41 ∷ e = sym (byte_at s at k) ∙ h in
    let q₁ : drop (at + 1) s ≡ e = cc in
    rw (lt-ltb at (length s) k) q₁)
    (λ k. absurd (no-cons _ _ (sym (drop_of_length-le s k) ∙ h)))
    (lt-or at (length s))

pub closing-stops : (x : Portion) (e : List ℕ) → StopAt x (closing x e)
closing-stops none e = tt
closing-stops all e = tt
closing-stops (some ns) e = refl
