-- Turned points: a turn keeps the sizes, and the south's turns are the north's, counted back. Assumes nothing.
use Rattle.std.specs.Prelude.{◌≡◌, refl, ℕ, zero, suc, ◌+◌, ◌-◌, ◌*◌, ◌%◌, ◌≤◌, ◌<◌, ℤ, pos, negsuc, neg_ℤ, nat_abs}
use Rattle.std.proofs.Common.{sym, ap, ◌∙◌, subst, arith}
use Rattle.std.proofs.Math.IntN.{sub_ℕ, neg_ℤ-neg_ℤ}
use Rattle.cell.specs.Neighbour.{turn_of}
use Rattle.signed.specs.Laws.Sign.{sub-size}
use Rattle.locate.specs.Fix.{CapPoint, quarter, start_north, start_south, turned_north, turned_south}

-- both numbers are at most n in size
pub record Spanned (n : ℕ) (x : CapPoint) : Type 0 where
  pub first : nat_abs x.0 ≤ n
  pub second : nat_abs x.1 ≤ n

pub opposite-size : (x : ℤ) → nat_abs (neg_ℤ x) ≡ nat_abs x
opposite-size (pos zero) = refl
opposite-size (pos (suc n)) = refl
opposite-size (negsuc n) = refl

pub opposite-le : {n : ℕ} (x : ℤ) → nat_abs x ≤ n → nat_abs (neg_ℤ x) ≤ n
opposite-le {n} x h = subst (λ (y : ℕ). y ≤ n) (sym (opposite-size x)) h

pub north-within : {n : ℕ} (j : ℕ) (x : CapPoint) → Spanned n x → Spanned n (turned_north j x)
unfolding turned_north
north-within zero x w = w
north-within (suc j) x w = north-within j (neg_ℤ x.1, x.0) (record { first = opposite-le x.1 w.second; second = w.first })

pub south-within : {n : ℕ} (j : ℕ) (x : CapPoint) → Spanned n x → Spanned n (turned_south j x)
unfolding turned_south
south-within zero x w = w
south-within (suc j) x w = south-within j (x.1, neg_ℤ x.0) (record { first = w.second; second = opposite-le x.0 w.first })

-- t is from -1/2 to 1/2
across-small : (a : ℕ) → a < quarter → nat_abs (sub_ℕ (2 * a) quarter) ≤ quarter
across-small a h = let e = sub-size (2 * a) quarter in omega arith

pub start-north : (a : ℕ) → a < quarter → Spanned quarter (start_north a)
unfolding start_north
start-north a h = record { first = across-small a h; second = omega arith }

pub start-south : (a : ℕ) → a < quarter → Spanned quarter (start_south a)
unfolding start_south
start-south a h = record { first = across-small a h; second = omega arith }

-- (u, v) -> (v, -u) so many times is (u, v) -> (-v, u) the other times of four
turned-back : (j : ℕ) (x : CapPoint) → j < 4 → turned_south j x ≡ turned_north ((4 - j) % 4) x
unfolding turned_north turned_south
turned-back zero x h = refl
turned-back (suc zero) x h = let e : x.1 ≡ neg_ℤ (neg_ℤ x.1) = sym (neg_ℤ-neg_ℤ x.1) in λ i. (e i, neg_ℤ x.0)
turned-back (suc (suc zero)) x h = refl
turned-back (suc (suc (suc zero))) x h = λ i. (neg_ℤ x.1, neg_ℤ-neg_ℤ x.0 i)
turned-back (suc (suc (suc (suc j)))) x h = absurd (omega arith)

-- (c - s) mod 4 turns of the south are (s - c) mod 4 of the north
pub south-turned : (c s : ℕ) (x : CapPoint) → c ≤ 3 → s ≤ 3 → turned_north ((s + 4 - c) % 4) x ≡ turned_south (turn_of c s) x
south-turned c s x h l =
    let e : (s + 4 - c) % 4 ≡ (4 - turn_of c s) % 4 = omega arith in
    ap (λ (j : ℕ). turned_north j x) e ∙ sym (turned-back (turn_of c s) x (omega arith))
