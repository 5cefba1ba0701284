-- Every run of calls from a fresh history gives a valid one, and what is read of a valid one is settings that are not refused. Assumes nothing.
use Rattle.std.specs.Prelude.{◌≡◌, refl, List, [], ◌∷◌, ℕ, zero, suc, ◌+◌, ◌%◌, ◌≤◌, ◌<◌, get_or, set, replicate}
use Rattle.std.proofs.Common.{sym, ap, subst, ◌∙◌, ⊎_elim, arith, length-set, get_or-set_same, get_or-set_other}
use Rattle.std.proofs.lemmas.List.{get_or-replicate}
use Rattle.logic.specs.Laws.Order.{three_ways}
use Rattle.logic.specs.Refusal.{◌otherwise◌, given}
use Rattle.logic.specs.Laws.Refusal.{both, given-value}
use Rattle.history.specs.declared.Settings.{Settings}
use Rattle.history.specs.declared.History.{History}
use Rattle.history.specs.Settings.{none, settings_refusal, next_refusal, read_refusal}
use Rattle.history.specs.Log.{Call, change, back, after}
use Rattle.history.specs.History.{empty, placed, next, answer, fresh, changed, backed, as_call, keeper}
use Rattle.history.proofs.Laws.History.{room-left, kept-is}
use Rattle.history.specs.Valid.{Valid}

-- what stands at a kept revision's place is not refused
pub valid-placed : (h : History) (r : ℕ) → Valid h → r ≤ h.newest → h.newest < r + 32 → settings_refusal (placed h r) ≡ 0
valid-placed h r v a b = v.reached (r % 32) (omega arith) (omega arith)

pub valid-read : (h : History) (r : ℕ) → Valid h → read_refusal h.newest r ≡ 0 → settings_refusal (placed h r) ≡ 0
valid-read h r v e = let k = kept-is h.newest r e in valid-placed h r v k.0 k.1

-- ---- one revision more

first-valid : (x : Settings) → settings_refusal x ≡ 0 → Valid (record { newest = 0; kept = set (replicate 32 none) 0 x })
first-valid x e =
    record {
      few = omega arith;
      places = refl;
      reached = λ q l m. let z : q ≡ 0 = omega arith in ap (λ (i : ℕ). settings_refusal (get_or (set (replicate 32 none) 0 x) i none)) z ∙ e;
      others = λ q l m. get_or-set_other (replicate 32 none) 0 q x none (λ z. omega arith) ∙ get_or-replicate 32 q none none l;
    }

module _ (h : History) (x : Settings) (v : Valid h) (room : h.newest < 65535) (good : settings_refusal x ≡ 0) where
  abbrev p : ℕ
  p = (h.newest + 1) % 32

  next-reached : (q : ℕ) → q < 32 → q ≤ h.newest + 1 → settings_refusal (get_or (set h.kept p x) q none) ≡ 0
  next-reached q l m = ⊎_elim (λ a. other (λ e. omega arith)) (⊎_elim here (λ a. other (λ e. omega arith))) (three_ways q p)
    where
      here : q ≡ p → settings_refusal (get_or (set h.kept p x) q none) ≡ 0
      here e =
          ap (λ (i : ℕ). settings_refusal (get_or (set h.kept p x) i none)) e
          ∙ ap settings_refusal (get_or-set_same h.kept p x none (let i : p < 32 = omega arith in omega (arith, v.places))) ∙ good

      other : (q ≡ p → ⊥) → settings_refusal (get_or (set h.kept p x) q none) ≡ 0
      other n = ap settings_refusal (get_or-set_other h.kept p q x none n) ∙ v.reached q l (omega arith)

  next-valid : Valid (next h x)
  next-valid =
      record {
        few = omega arith;
        places = length-set h.kept p x ∙ v.places;
        reached = next-reached;
        others = λ q l m. get_or-set_other h.kept p q x none (λ e. omega arith) ∙ v.others q l (omega arith);
      }

-- ---- one call

go_on : (h : History) (x : Settings) (r : ℕ) → Valid h → (r ≡ 0 → (h.newest < 65535) × (settings_refusal x ≡ 0)) → Valid (given r (next h x) h)
unfolding given
go_on h x zero v f = next-valid h x v (f refl).0 (f refl).1
go_on h x (suc r) v f = v

call-valid : (h : History) → Valid h → (c : Call) → Valid (as_call h c).history
unfolding changed backed answer
call-valid h v (change from x) =
    go_on h x (settings_refusal x otherwise next_refusal h.newest from) v
    (λ e. let p = both (settings_refusal x) (next_refusal h.newest from) e in (room-left h.newest from p.1, p.0))
call-valid h v (back from to) =
    go_on h (placed h to) (read_refusal h.newest to otherwise next_refusal h.newest from) v
    (λ e. let p = both (read_refusal h.newest to) (next_refusal h.newest from) e in (room-left h.newest from p.1, valid-read h to v p.0))

-- ---- any run

pub run-valid : (h : History) (run : List Call) → Valid h → Valid (after keeper h run)
unfolding after
run-valid h [] v = v
run-valid h (c ∷ run) v = run-valid (as_call h c).history run (call-valid h v c)

pub fresh-valid : (x : Settings) → settings_refusal x ≡ 0 → Valid (fresh x).history
unfolding fresh answer
fresh-valid x e = subst Valid (sym (given-value (record { newest = 0; kept = set (replicate 32 none) 0 x }) empty e)) (first-valid x e)

pub runs-valid : (x : Settings) → settings_refusal x ≡ 0 → (run : List Call) → Valid (after keeper (fresh x).history run)
runs-valid x e run = run-valid (fresh x).history run (fresh-valid x e)
