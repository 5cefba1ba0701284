-- `put_kind` meets its contract: each kind has its words. Assumes nothing.
use mathlib.Core.Path.{◌≡◌}
use Prim.Native.Nat.{ℕ}
use borrow.Author.Tests.{eq-eqb, ne_eqb}
use Rattle.report.specs.Changes.{already_named, not_above, empty_list, whole_by_parts, kind_words}
use Rattle.report.proofs.Facts.{put_as}
use native.Mathlib.Omega.{arith}
use Rattle.report.proofs.put_kind.Goals as goal

first : (k : ℕ) → k ≡ 1 → already_named ≡ kind_words k
unfolding kind_words
first k e = rw (eq-eqb k 1 e)

second : (k : ℕ) → (k ≡ 1 → ⊥) → k ≡ 2 → not_above ≡ kind_words k
unfolding kind_words
second k n e = rw (ne_eqb k 1 n, eq-eqb k 2 e)

third : (k : ℕ) → (k ≡ 1 → ⊥) → (k ≡ 2 → ⊥) → k ≡ 3 → empty_list ≡ kind_words k
unfolding kind_words
third k n m e = rw (ne_eqb k 1 n, ne_eqb k 2 m, eq-eqb k 3 e)

fourth : (k : ℕ) → (k ≡ 1 → ⊥) → (k ≡ 2 → ⊥) → (k ≡ 3 → ⊥) → whole_by_parts ≡ kind_words k
unfolding kind_words
fourth k n m l = rw (ne_eqb k 1 n, ne_eqb k 2 m, ne_eqb k 3 l)

pub returns-then-kind-eq1 : goal.returns-then-kind-eq1
returns-then-kind-eq1 c =
    let q = c.copy.ensures in
    record { put = put_as (first _ c.if-kind-eq1.true) (record { ends = q.value; is = q.bytes }); upper_bound = omega (arith, q.value) }

pub returns-then-kind-eq2 : goal.returns-then-kind-eq2
returns-then-kind-eq2 c =
    let q = c.copy-then-kind-eq2.ensures in
    record { put = put_as (second _ c.if-kind-eq1.false c.if-kind-eq2.true) (record { ends = q.value; is = q.bytes }); upper_bound = omega (arith, q.value) }

pub returns-then-kind-eq3 : goal.returns-then-kind-eq3
returns-then-kind-eq3 c =
    let q = c.copy-then-kind-eq3.ensures in
    record { put = put_as (third _ c.if-kind-eq1.false c.if-kind-eq2.false c.if-kind-eq3.true) (record { ends = q.value; is = q.bytes }); upper_bound = omega (arith, q.value) }

pub returns : goal.returns
returns c =
    let q = c.copy-2.ensures in
    record { put = put_as (fourth _ c.if-kind-eq1.false c.if-kind-eq2.false c.if-kind-eq3.false) (record { ends = q.value; is = q.bytes }); upper_bound = omega (arith, q.value) }
