-- The whole nodes that stand first, counted. Assumes nothing.
use mathlib.Core.Path.{◌≡◌, sym, ap, ◌∙◌}
use mathlib.Core.Bool.{Bool, true, false, cond}
use mathlib.Core.List.{List}
use Prim.Native.Nat.{ℕ, suc, ◌+◌, ◌-◌, ◌≤◌, ◌<◌}
use native.Mathlib.Omega.{arith}
use lib.ListN.{length, drop, drop_of_length-le}
use Rattle.walk.specs.Walk.{whole_at}
use Rattle.walk.specs.Laws.Walk.{byte_at}
use Rattle.adding.specs.Internal.Find.{run_in}

-- what holds before the byte at i
pub record Runs (t : List ℕ) (at i : ℕ) : Type 0 where
  pub tied : i + run_in (drop i t) ≡ at + run_in (drop at t)
  pub from : at ≤ i
  pub to : i ≤ length t

pub runs-end : {t : List ℕ} {at i : ℕ} → Runs t at i → length t ≤ i → i - at ≡ run_in (drop at t)
unfolding run_in
runs-end {t} {at} {i} v h = let e : run_in (drop i t) ≡ 0 = ap run_in (drop_of_length-le t {i = i} h) in omega (arith, v.tied, v.from)

module _ {t : List ℕ} {at i : ℕ} (v : Runs t at i) (h : i < length t) where
  here : run_in (drop i t) ≡ cond (whole_at (drop i t)) (suc (run_in (drop (i + 1) t))) 0
  unfolding run_in
  here =
      ap run_in (byte_at t i h)
      ∙ ap (λ (x : List ℕ). cond (whole_at x) (suc (run_in (drop (i + 1) t))) 0) (sym (byte_at t i h))

  pub runs-stop : whole_at (drop i t) ≡ false → i - at ≡ run_in (drop at t)
  runs-stop w =
      let e : run_in (drop i t) ≡ 0 = here ∙ ap (λ (b : Bool). cond b (suc (run_in (drop (i + 1) t))) 0) w in omega (arith, v.tied, v.from)

  pub runs_on : whole_at (drop i t) ≡ true → Runs t at (i + 1)
  runs_on w =
      let e : run_in (drop i t) ≡ suc (run_in (drop (i + 1) t)) = here ∙ ap (λ (b : Bool). cond b (suc (run_in (drop (i + 1) t))) 0) w in
      record { tied = omega (arith, v.tied); from = omega (arith, v.from); to = omega arith }
