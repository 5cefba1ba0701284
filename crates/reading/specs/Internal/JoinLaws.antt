-- Nodes put behind nodes, and what may come after nodes. Assumes nothing.
use Rattle.std.specs.Prelude.{◌≡◌, refl, ◌⊎◌, List, ◌∷◌, ◌++◌, Bool, true, false, ℕ, suc, ◌+◌, ◌≤◌, ◌<◌}
use Rattle.std.proofs.Common.{sym, ap, inl, inr, ⊎_elim, append_assoc, arith}
use Rattle.logic.specs.Laws.Bools.{clash}
use Rattle.reading.specs.declared.Level.{Level}
use Rattle.reading.specs.Reading.{Nodes, end, whole, listed, first, wholes, render, Some, Good}

abbrev pub join : Nodes → Nodes → Nodes
join end b = b
join (whole c a) b = whole c (join a b)
join (listed c is a) b = listed c is (join a b)

-- the least number that may come after nodes
abbrev pub next : ℕ → Nodes → ℕ
next lo end = lo
next lo (whole c ns) = next (suc c) ns
next lo (listed c is ns) = next (suc c) ns

-- the last node is whole
abbrev pub ends : Bool → Nodes → Bool
ends t end = t
ends t (whole c ns) = ends true ns
ends t (listed c is ns) = ends false ns

-- ---- of nodes joined

pub render-join : (l : Level) (a b : Nodes) → render l (join a b) ≡ render l a ++ render l b
render-join l end b = refl
render-join l (whole c a) b = ap (λ (t : List ℕ). (first l + c) ∷ t) (render-join l a b)
render-join l (listed c is a) b = rw (render-join l a b, append_assoc)

pub next-join : (lo : ℕ) (a b : Nodes) → next lo (join a b) ≡ next (next lo a) b
next-join lo end b = refl
next-join lo (whole c a) b = next-join (suc c) a b
next-join lo (listed c is a) b = next-join (suc c) a b

pub ends_join : (t : Bool) (a b : Nodes) → ends t (join a b) ≡ ends (ends t a) b
ends_join t end b = refl
ends_join t (whole c a) b = ends_join true a b
ends_join t (listed c is a) b = ends_join false a b

pub wholes-join : (a b : Nodes) → wholes (join a b) ≡ wholes a + wholes b
wholes-join end b = omega arith
wholes-join (whole c a) b = omega (arith, wholes-join a b)
wholes-join (listed c is a) b = wholes-join a b

pub some-join : (a b : Nodes) → Some b → Some (join a b)
some-join end b h = h
some-join (whole c a) b h = tt
some-join (listed c is a) b h = tt

pub good-join : (l : Level) (d lo : ℕ) (a b : Nodes) → Good l d lo a → Good l d (next lo a) b → Good l d lo (join a b)
good-join l d lo end b g h = h
good-join l d lo (whole c a) b g h = (g.0, g.1, good-join l d (suc c) a b g.2 h)
good-join l d lo (listed c is a) b g h = (g.0, g.1, g.2, g.3, g.4, g.5, good-join l d (suc c) a b g.6 h)

pub good-split : (l : Level) (d lo : ℕ) (a b : Nodes) → Good l d lo (join a b) → Good l d lo a × Good l d (next lo a) b
good-split l d lo end b g = (tt, g)
good-split l d lo (whole c a) b g = let k = good-split l d (suc c) a b g.2 in ((g.0, g.1, k.0), k.1)
good-split l d lo (listed c is a) b g = let k = good-split l d (suc c) a b g.6 in ((g.0, g.1, g.2, g.3, g.4, g.5, k.0), k.1)

-- ---- of what comes next

pub next-from : (l : Level) (d lo : ℕ) (a : Nodes) → Good l d lo a → lo + wholes a ≤ next lo a
next-from l d lo end g = omega arith
next-from l d lo (whole c a) g = omega (arith, next-from l d (suc c) a g.2)
next-from l d lo (listed c is a) g = omega (arith, next-from l d (suc c) a g.6)

pub next-some : (l : Level) (d lo : ℕ) (ns : Nodes) → Good l d lo ns → Some ns → 0 < next lo ns
next-some l d lo end g h = absurd h
next-some l d lo (whole c ns) g h = omega (arith, next-from l d (suc c) ns g.2)
next-some l d lo (listed c is ns) g h = omega (arith, next-from l d (suc c) ns g.6)

pub some_next : (ns : Nodes) → (next 0 ns ≡ 0 → ⊥) → Some ns
some_next end h = absurd (h refl)
some_next (whole c ns) h = tt
some_next (listed c is ns) h = tt

-- nodes of which the last is whole
pub last-whole : (t : Bool) (a : Nodes) → ends t a ≡ true → ((a ≡ end) × (t ≡ true)) ⊎ ((b : Nodes) × (c : ℕ) × (a ≡ join b (whole c end)))
last-whole t end e = inl (refl, e)
last-whole t (whole c a) e =
    inr (⊎_elim (λ k. (end, c, ap (λ (x : Nodes). whole c x) k.0)) (λ k. (whole c k.0, k.1, ap (λ (x : Nodes). whole c x) k.2)) (last-whole true a e))
last-whole t (listed c is a) e =
    ⊎_elim (λ k. clash (sym k.1)) (λ k. inr (listed c is k.0, k.1, ap (λ (x : Nodes). listed c is x) k.2)) (last-whole false a e)
