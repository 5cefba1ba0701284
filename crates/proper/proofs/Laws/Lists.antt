-- Tests over lists, and names compared. Assumes nothing.
use Rattle.std.specs.Prelude.{◌≡◌, refl, Bool, true, false, ◌⊎◌, List, [], ◌∷◌, ◌++◌, map, ℕ, suc, eqb, length}
use Rattle.std.proofs.Common.{sym, ap, ap₂, ◌∙◌, inl, inr, ⊎_elim, arith, eqb-true, eq-eqb}
use Rattle.logic.specs.Lists.{Mem}
use Rattle.logic.specs.Laws.Lists.{any_left, any-right, any-or, any-mem}
use Rattle.logic.specs.Laws.Bools.{clash, and_left, and_right, or-either, or-left-true, or-right-true}
use Rattle.reading.specs.Prefix.{Name, Prefix, Covered}
use Rattle.proper.specs.Changes.{Item, Change, same, larger, any, has, when}

-- ---- names

pub same_true : (q p : Name) → same q p ≡ true → q ≡ p
unfolding same
same_true [] [] e = refl
same_true [] (b ∷ p) e = clash (sym e)
same_true (a ∷ q) [] e = clash (sym e)
same_true (a ∷ q) (b ∷ p) e = ap₂ ◌∷◌ (eqb-true a b (and_left (eqb a b) _ e)) (same_true q p (and_right (eqb a b) _ e))

pub same_self : (q : Name) → same q q ≡ true
unfolding same
same_self [] = refl
same_self (a ∷ q) = rw (eq-eqb a a refl) (same_self q)

-- what begins a name is larger than what lies below it
pub larger-below : (a v : Name) (y : ℕ) → Prefix a v → larger a (v ++ (y ∷ [])) ≡ true
unfolding larger
larger-below [] [] y h = refl
larger-below [] (b ∷ v) y h = refl
larger-below (a ∷ q) [] y h = absurd h
larger-below (a ∷ q) (b ∷ v) y h = rw (eq-eqb a b h.0) (larger-below q v y h.1)

-- ---- members

abbrev pub IMem : Item → List Item → Type 0
IMem e es = Mem e es

pub imem-left : (e : Item) (a b : List Item) → IMem e a → IMem e (a ++ b)
imem-left e a b = any_left (λ (x : Item). x ≡ e) a b

pub imem-right : (e : Item) (a b : List Item) → IMem e b → IMem e (a ++ b)
imem-right e a b = any-right (λ (x : Item). x ≡ e) a b

pub imem-or : (e : Item) (a b : List Item) → IMem e (a ++ b) → IMem e a ⊎ IMem e b
imem-or e a b = any-or (λ (x : Item). x ≡ e) a b

pub mem-left : (q : Name) (a b : List Name) → Mem q a → Mem q (a ++ b)
mem-left q a b = any_left (λ (x : Name). x ≡ q) a b

pub mem-right : (q : Name) (a b : List Name) → Mem q b → Mem q (a ++ b)
mem-right q a b = any-right (λ (x : Name). x ≡ q) a b

pub mem-or : (q : Name) (a b : List Name) → Mem q (a ++ b) → Mem q a ⊎ Mem q b
mem-or q a b = any-or (λ (x : Name). x ≡ q) a b

pub mem-map : (c : ℕ) (q : Name) (a : List Name) → Mem q a → Mem (c ∷ q) (map (λ (x : Name). c ∷ x) a)
mem-map c q [] h = absurd h
mem-map c q (x ∷ a) (inl h) = inl (ap (λ (y : Name). c ∷ y) h)
mem-map c q (x ∷ a) (inr h) = inr (mem-map c q a h)

pub map-mem : (c : ℕ) (p : Name) (a : List Name) → Mem p (map (λ (x : Name). c ∷ x) a) → (q : Name) × Mem q a × (p ≡ c ∷ q)
map-mem c p [] h = absurd h
map-mem c p (x ∷ a) (inl h) = (x, inl refl, sym h)
map-mem c p (x ∷ a) (inr h) = let k = map-mem c p a h in (k.0, inr k.1, k.2)

pub covered-mem : (vs : List Name) (p : Name) → Covered vs p → (q : Name) × Mem q vs × Prefix q p
covered-mem vs p h = any-mem (λ (q : Name). Prefix q p) vs h

-- ---- tests

pub any_some : (f : Item → Bool) (es : List Item) (e : Item) → IMem e es → f e ≡ true → any f es ≡ true
unfolding any
any_some f [] e m h = absurd m
any_some f (x ∷ es) e (inl m) h = or-left-true (f x) (any f es) (ap f m ∙ h)
any_some f (x ∷ es) e (inr m) h = or-right-true (f x) (any f es) (any_some f es e m h)

pub some-any : (f : Item → Bool) (es : List Item) → any f es ≡ true → (e : Item) × IMem e es × (f e ≡ true)
unfolding any
some-any f [] h = clash (sym h)
some-any f (x ∷ es) h =
    ⊎_elim (λ k. (x, inl refl, k)) (λ k. let i = some-any f es k in (i.0, inr i.1, i.2)) (or-either (f x) (any f es) h)

pub has-mem : (q : Name) (ps : List Name) → Mem q ps → has q ps ≡ true
unfolding has
has-mem q [] m = absurd m
has-mem q (p ∷ ps) (inl m) = or-left-true (same p q) (has q ps) (rw m (same_self q))
has-mem q (p ∷ ps) (inr m) = or-right-true (same p q) (has q ps) (has-mem q ps m)

pub mem-has : (q : Name) (ps : List Name) → has q ps ≡ true → Mem q ps
unfolding has
mem-has q [] h = clash (sym h)
mem-has q (p ∷ ps) h = ⊎_elim (λ k. inl (same_true p q k)) (λ k. inr (mem-has q ps k)) (or-either (same p q) (has q ps) h)

-- ---- lists of changes

pub none_left : (a b : List Change) → a ++ b ≡ [] → (a ≡ []) × (b ≡ [])
none_left [] b e = (refl, e)
none_left (x ∷ a) b e = let k : ◌≡◌ {A = ℕ} (suc (length (a ++ b))) 0 = ap length e in absurd (omega arith)

pub when-none : (t : Bool) (x : Change) → when t x ≡ [] → t ≡ false
when-none true x e = let k : ◌≡◌ {A = ℕ} 1 0 = ap length e in absurd (omega arith)
when-none false x e = refl
