-- Portions of the cells of readings that are of the grammar (02, W-205). Assumes nothing.
use Rattle.std.specs.Prelude.{◌≡◌, true, ℕ, suc, ◌-◌, ◌≤◌, ◌<◌, eqb}
use Rattle.std.proofs.Common.{sym, ⊎_elim, arith, eqb-true}
use Rattle.std.proofs.lemmas.Bool.{eqb-false}
use Rattle.logic.specs.Laws.Order.{lt-or}
use Rattle.logic.specs.Laws.Bools.{by_cond, clash}
use Rattle.reading.specs.declared.Level.{Level}
use Rattle.reading.specs.declared.Level.TheVariants.{Digits}
use Rattle.reading.specs.Reading.{end, whole, listed, room, wholes, Some, Good}
use Rattle.comparing.specs.Shared.{Portion, none, all, some, of_child, past_child, divided}

-- the nodes that are left of a list are of the grammar, from the number lo on
abbrev pub GoodPortion : Level → ℕ → ℕ → Portion → Type 0
GoodPortion l d lo none = Unit {0}
GoodPortion l d lo all = Unit {0}
GoodPortion l d lo (some ns) = Good l d lo ns

-- what a node holds, below which d digits may lie
abbrev pub GoodInside : ℕ → Portion → Type 0
GoodInside d none = Unit {0}
GoodInside d all = Unit {0}
GoodInside d (some ns) = (0 < d) × Some ns × (wholes ns ≡ 9 → ⊥) × Good Digits (d - 1) 0 ns

pub child-good : (l : Level) (d c : ℕ) (x : Portion) → GoodPortion l d c x → GoodInside (room l c d) (of_child c x)
child-good l d c none g = tt
child-good l d c all g = tt
child-good l d c (some end) g = tt
child-good l d c (some (whole b ns)) g = by_cond (GoodInside (room l c d)) (eqb b c) (λ e. tt) (λ e. tt)
child-good l d c (some (listed b is ns)) g =
    by_cond (GoodInside (room l c d)) (eqb b c) (λ e. let k : GoodInside (room l b d) (some is) = (g.2, g.3, g.4, g.5) in rw (eqb-true b c e) at k) (λ e. tt)

above : (b c : ℕ) → c ≤ b → (b ≡ c → ⊥) → suc c ≤ b
above b c h k = ⊎_elim (λ i. i) (λ i. absurd (k (omega arith))) (lt-or c b)

pub past-good : (l : Level) (d c : ℕ) (x : Portion) → GoodPortion l d c x → GoodPortion l d (suc c) (past_child c x)
past-good l d c none g = tt
past-good l d c all g = tt
past-good l d c (some end) g = tt
past-good l d c (some (whole b ns)) g =
    by_cond (GoodPortion l d (suc c)) (eqb b c) (λ e. rw (eqb-true b c e) at g.2) (λ e. (above b c g.0 (eqb-false b c e), g.1, g.2))
past-good l d c (some (listed b is ns)) g =
    by_cond (GoodPortion l d (suc c)) (eqb b c) (λ e. rw (eqb-true b c e) at g.6)
    (λ e. (above b c g.0 (eqb-false b c e), g.1, g.2, g.3, g.4, g.5, g.6))

-- the nodes of a list, looked at from its first number
pub inside-good : (d : ℕ) (x : Portion) → GoodInside d x → GoodPortion Digits (d - 1) 0 x
inside-good d none g = tt
inside-good d all g = tt
inside-good d (some ns) g = g.3

-- where there is a list, there is room
pub inside-room : (d : ℕ) (x y : Portion) → GoodInside d x → GoodInside d y → divided x y ≡ true → 0 < d
inside-room d (some ns) y g h e = g.0
inside-room d none none g h e = clash (sym e)
inside-room d none all g h e = clash (sym e)
inside-room d none (some ns) g h e = h.0
inside-room d all none g h e = clash (sym e)
inside-room d all all g h e = clash (sym e)
inside-room d all (some ns) g h e = h.0
