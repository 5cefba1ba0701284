-- A cell with more digits than may lie below its face breaks the profile of a text, unless it is covered: no eight of its siblings are there, so it
-- merges with none. Assumes nothing.
use Rattle.std.specs.Prelude.{◌≡◌, refl, ◌⊎◌, Bool, true, false, ◌&&◌, not, [], ◌∷◌, ℕ, suc, ◌+◌, ◌-◌, ◌≤◌, ◌<◌, ltb, eqb, length}
use Rattle.std.proofs.Common.{sym, ap, ◌∙◌, inl, inr, ⊎_elim, arith, lt-ltb, le-ltb, ne_eqb}
use Rattle.logic.specs.Laws.Bools.{by_cond}
use Rattle.logic.specs.Laws.Order.{lt-or}
use Rattle.ternary.specs.Digits.{Below}
use Rattle.reading.specs.declared.Level.{Level}
use Rattle.reading.specs.declared.Level.TheVariants.{Digits}
use Rattle.reading.specs.declared.Profile.{Profile}
use Rattle.reading.specs.Reading.{Nodes, end, whole, listed, many, room, wholes, Good}
use Rattle.reading.specs.Text.{level_of, depth_of}
use Rattle.reading.specs.Prefix.{Name}
use Rattle.reading.specs.Written.{fitting}
use Rattle.reading.proofs.Laws.Fits.{good-fits}
use Rattle.adding.specs.declared.Edit.{Edit}
use Rattle.adding.specs.declared.Edit.TheVariants.{Covered, Put, Cut, Full}
use Rattle.adding.specs.Internal.Grow.{fresh, merged, grow}
use Rattle.adding.specs.Internal.GrowLaws.{grow-good}
use Rattle.adding.specs.Internal.Edit.{run, to_whole, to_put, over, size, edit_of}
use Rattle.adding.specs.Internal.EditLaws.{by_two}
use Rattle.adding.specs.Internal.Fit.{breaks}

and_no : (a : Bool) → (a && false) ≡ false
and_no true = refl
and_no false = refl

and_none : {b : Bool} (a c : Bool) → b ≡ false → (a && (b && c)) ≡ false
and_none {b} a c e = rw e (and_no a)

and_last : {c : Bool} (a b : Bool) → c ≡ false → (a && (b && c)) ≡ false
and_last {c} a b e = rw (e, and_no b) (and_no a)

-- the edit is not that of a covered cell
abbrev Changes : Edit → Type 0
Changes Covered = ⊥
Changes (Put i k) = Unit {0}
Changes (Cut i j) = Unit {0}
Changes (Full e) = Unit {0}

over-changes : (i w : ℕ) (ns : Nodes) (e : Edit) → Changes e → Changes (over i w ns e)
unfolding over to_whole
over-changes i w ns Covered h = absurd h
over-changes i w ns (Put a k) h = tt
over-changes i w ns (Cut a b) h = tt
over-changes i w ns (Full e) h = by_cond Changes (eqb (w + 1 + run ns) 9) (λ q. tt) (λ q. tt)

put-changes : (i k w : ℕ) (p : Name) (ns : Nodes) → Changes (to_put i k w p ns)
unfolding to_put
put-changes i k w [] ns = by_cond Changes (eqb (w + 1 + run ns) 9) (λ q. tt) (λ q. tt)
put-changes i k w (y ∷ p) ns = tt

-- a node of its own has no room
fresh-breaks : (l : Level) (d x : ℕ) (p : Name) (ns : Nodes) → room l x d < length p → (fitting l d (fresh x p ns) ≡ false) × (wholes (fresh x p ns) ≡ wholes ns)
unfolding fresh fitting
fresh-breaks l d x [] ns h = absurd (omega arith)
fresh-breaks l d x (y ∷ p) ns h = (go (lt-or 0 (room l x d)) (λ k. (fresh-breaks Digits (room l x d - 1) y p end (omega arith)).0), refl)
  where
    go :
        ((0 < room l x d) ⊎ (room l x d ≤ 0)) → (0 < room l x d → fitting Digits (room l x d - 1) (fresh y p end) ≡ false) →
        (ltb 0 (room l x d) && (fitting Digits (room l x d - 1) (fresh y p end) && fitting l d ns)) ≡ false
    go (inl k) below = and_none (ltb 0 (room l x d)) (fitting l d ns) (below k)
    go (inr k) below = rw (le-ltb 0 (room l x d) k)

-- covered, so that nothing changes; or the nodes do not fit, and no node more is whole
abbrev Breaks : Level → (d : ℕ) (old new : Nodes) → Edit → Type 0
Breaks l d old new e = ((e ≡ Covered) × (new ≡ old)) ⊎ ((fitting l d new ≡ false) × (wholes new ≡ wholes old) × Changes e)

put-breaks :
    (l : Level) (d x i k w : ℕ) (p : Name) (ns : Nodes) → room l x d < length p → Breaks l d ns (fresh x p ns) (to_put i k w p ns)
put-breaks l d x i k w p ns h = let f = fresh-breaks l d x p ns h in inr (f.0, f.1, put-changes i k w p ns)

grow-breaks :
    (ns : Nodes) (l : Level) (d lo x : ℕ) (p : Name) (i k w : ℕ) → Good l d lo ns → room l x d < length p → Breaks l d ns (grow x p ns) (edit_of i k w x p ns)
unfolding grow edit_of merged over fitting
grow-breaks end l d lo x p i k w g h = put-breaks l d x i k w p end h
grow-breaks (whole c ns) l d lo x p i k w g h =
    by_two (λ (y : Nodes) (e : Edit). Breaks l d (whole c ns) y e) c x
    (λ q.
    ⊎_elim (λ v. inl (v.0, ap (whole c) v.1)) (λ v. inr (v.0, ap suc v.1, v.2)) (grow-breaks ns l d (suc c) x p (i + 1) k (w + 1) g.2 h))
    (λ q. inl (refl, refl))
    (λ q. put-breaks l d x i k w p (whole c ns) h)
grow-breaks (listed c is ns) l d lo x [] i k w g h = absurd (omega arith)
grow-breaks (listed c is ns) l d lo x (y ∷ p) i k w g h =
    by_two (λ (z : Nodes) (e : Edit). Breaks l d (listed c is ns) z e) c x
    (λ q.
    ⊎_elim (λ v. inl (v.0, ap (listed c is) v.1))
    (λ v. inr (and_last (ltb 0 (room l c d)) (fitting Digits (room l c d - 1) is) v.0, v.1, v.2))
    (grow-breaks ns l d (suc c) x (y ∷ p) (i + size is) k w g.6 h))
    (λ q. inside q (grow-breaks is Digits (room l c d - 1) 0 y p (i + 2) (k + 1) 0 g.5 (room-below q)))
    (λ q. put-breaks l d x i k w (y ∷ p) (listed c is ns) h)
  where
    room-below : c ≡ x → room l c d - 1 < length p
    room-below q = let e : room l c d ≡ room l x d = ap (λ (z : ℕ). room l z d) q in omega (arith, g.2)

    unmerged : {new : Nodes} → (wholes new ≡ 9 → ⊥) → merged c new ns ≡ listed c new ns
    unmerged {new} n = rw (ne_eqb (wholes new) 9 n)

    inside :
        c ≡ x → Breaks Digits (room l c d - 1) is (grow y p is) (edit_of (i + 2) (k + 1) 0 y p is) →
        Breaks l d (listed c is ns) (merged c (grow y p is) ns) (over i w ns (edit_of (i + 2) (k + 1) 0 y p is))
    inside q (inl v) =
        inl (ap (over i w ns) v.0, unmerged {new = grow y p is} (λ z. g.4 (sym (ap wholes v.1) ∙ z)) ∙ ap (λ (z : Nodes). listed c z ns) v.1)
    inside q (inr v) =
        let m : merged c (grow y p is) ns ≡ listed c (grow y p is) ns = unmerged {new = grow y p is} (λ z. g.4 (sym v.1 ∙ z)) in
        inr (ap (fitting l d) m ∙ and_none (ltb 0 (room l c d)) (fitting l d ns) v.0, ap wholes m, over-changes i w ns (edit_of (i + 2) (k + 1) 0 y p is) v.2)

-- the nodes with the cell keep to the profile exactly where it is not broken
pub fits-with :
    (pr : Profile) (ns : Nodes) (x : ℕ) (p : Name) (i : ℕ) → Good (level_of pr) (depth_of pr) 0 ns → x < many (level_of pr) → Below 9 p →
    fitting (level_of pr) (depth_of pr) (grow x p ns) ≡ not (breaks pr x (length p) (edit_of i 0 0 x p ns))
fits-with pr ns x p i g b n = go (lt-or r (length p))
  where
    r : ℕ
    r = room (level_of pr) x (depth_of pr)

    within : (e : Edit) → length p ≤ r → breaks pr x (length p) e ≡ false
    within Covered h = refl
    within (Put a c) h = le-ltb r (length p) h
    within (Cut a c) h = le-ltb r (length p) h
    within (Full a) h = le-ltb r (length p) h

    beyond : (e : Edit) → r < length p → Changes e → breaks pr x (length p) e ≡ true
    beyond Covered h c = absurd c
    beyond (Put a b) h c = lt-ltb r (length p) h
    beyond (Cut a b) h c = lt-ltb r (length p) h
    beyond (Full a) h c = lt-ltb r (length p) h

    by-breaks :
        (e : Edit) → r < length p → Breaks (level_of pr) (depth_of pr) ns (grow x p ns) e →
        fitting (level_of pr) (depth_of pr) (grow x p ns) ≡ not (breaks pr x (length p) e)
    by-breaks e h (inl v) =
        ap (fitting (level_of pr) (depth_of pr)) v.1 ∙ good-fits ns (level_of pr) (depth_of pr) 0 g ∙ sym (ap (λ (z : Edit). not (breaks pr x (length p) z)) v.0)
    by-breaks e h (inr v) = v.0 ∙ sym (ap not (beyond e h v.2))

    go : ((r < length p) ⊎ (length p ≤ r)) → fitting (level_of pr) (depth_of pr) (grow x p ns) ≡ not (breaks pr x (length p) (edit_of i 0 0 x p ns))
    go (inl h) = by-breaks (edit_of i 0 0 x p ns) h (grow-breaks ns (level_of pr) (depth_of pr) 0 x p i 0 0 g h)
    go (inr h) =
        good-fits (grow x p ns) (level_of pr) (depth_of pr) 0 (grow-good ns (level_of pr) (depth_of pr) 0 x p g (omega arith) b h n)
        ∙ sym (ap not (within (edit_of i 0 0 x p ns) h))
