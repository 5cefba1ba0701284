-- After any run of calls the 32 places hold what was accepted under the last 32 revisions. Assumes nothing.
use Rattle.std.specs.Prelude.{◌≡◌, refl, true, ◌&&◌, not, List, [], ◌∷◌, ◌++◌, ℕ, zero, suc, ◌+◌, ◌%◌, ◌≤◌, ◌<◌, leb, ltb, eqb, length, get_or, set, replicate}
use Rattle.std.proofs.Common.{sym, ap, ◌∙◌, ⊎_elim, arith, length-set, length-append, get_or-set_same, get_or-set_other, leb-true, leb-false, ltb-true, le-leb, lt-ltb}
use Rattle.std.proofs.Math.ListN.{get_or-append}
use Rattle.std.proofs.lemmas.List.{get_or_at}
use Rattle.std.proofs.lemmas.Bool.{not-false}
use Rattle.logic.specs.Laws.Bools.{and_left, and_right}
use Rattle.logic.specs.Laws.Order.{lt-or}
use Rattle.logic.specs.Refusal.{refuse, ◌otherwise◌, given}
use Rattle.logic.specs.Laws.Refusal.{both, allowed, given-value, given-none}
use Rattle.history.specs.declared.Settings.{Settings}
use Rattle.history.specs.declared.History.{History}
use Rattle.history.specs.Settings.{none, settings_refusal, is_kept, next_refusal, read_refusal}
use Rattle.history.specs.Log.{Call, change, back, newest, call_refusal, log_after, log_of, after, Keeps}
use Rattle.history.specs.History.{empty, placed, next, answer, fresh, changed, backed, read_of, as_call, keeper}

-- the history keeps this log
pub record Holds (log : List Settings) (h : History) : Type 0 where
  pub long : length log ≡ h.newest + 1
  pub few : h.newest ≤ 65535
  pub places : length h.kept ≡ 32
  pub kept : (r : ℕ) → r ≤ h.newest → h.newest < r + 32 → placed h r ≡ get_or log r none

-- the newest revision of the log is that of the history
newest-is : {log : List Settings} {h : History} → Holds log h → newest log ≡ h.newest
newest-is w = omega (arith, w.long)

-- ---- a history that holds a log goes on to hold the next

first_holds : (x : Settings) → Holds (x ∷ []) (record { newest = 0; kept = set (replicate 32 none) 0 x })
first_holds x =
    record {
      long = refl;
      few = omega arith;
      places = refl;
      kept = λ r l m. let e : r ≡ 0 = omega arith in ap (λ (i : ℕ). get_or (set (replicate 32 none) 0 x) (i % 32) none) e ∙ sym (ap (λ (i : ℕ). get_or (x ∷ []) i none) e);
    }

module _ (log : List Settings) (h : History) (x : Settings) (w : Holds log h) where
  -- the new one, and one that was kept
  new-place : (r : ℕ) → r ≡ h.newest + 1 → placed (next h x) r ≡ get_or (log ++ (x ∷ [])) r none
  new-place r e =
      ap (λ (i : ℕ). get_or (set h.kept ((h.newest + 1) % 32) x) (i % 32) none) e
      ∙ get_or-set_same h.kept ((h.newest + 1) % 32) x none (omega (arith, w.places))
      ∙ sym (get_or_at log x [] none r (w.long ∙ sym e))

  old-place : (r : ℕ) → r ≤ h.newest → h.newest + 1 < r + 32 → placed (next h x) r ≡ get_or (log ++ (x ∷ [])) r none
  old-place r l m =
      get_or-set_other h.kept ((h.newest + 1) % 32) (r % 32) x none (λ e. omega arith)
      ∙ w.kept r l (omega arith)
      ∙ sym (get_or-append log (x ∷ []) none r (omega (arith, w.long)))

  next-holds : h.newest < 65535 → Holds (log ++ (x ∷ [])) (next h x)
  next-holds l =
      record {
        long = length-append log (x ∷ []) ∙ ap (λ (n : ℕ). n + 1) w.long;
        few = omega arith;
        places = length-set h.kept ((h.newest + 1) % 32) x ∙ w.places;
        kept = λ r a b. ⊎_elim (λ k. old-place r (omega arith) b) (λ k. new-place r (omega arith)) (lt-or r (h.newest + 1));
      }

-- ---- refusals are those of the log

-- 17 is not given
pub room-left : (n from : ℕ) → next_refusal n from ≡ 0 → n < 65535
unfolding next_refusal
room-left n from e =
    let f : refuse (leb 65535 n) 17 ≡ 0 = (both (refuse (not (eqb from n)) 16) (refuse (leb 65535 n) 17) e).1 in
    leb-false 65535 n (allowed 16 (leb 65535 n) f)

-- 18 is not given
pub kept-is : (n r : ℕ) → read_refusal n r ≡ 0 → (r ≤ n) × (n < r + 32)
unfolding read_refusal is_kept
kept-is n r e =
    let f : (leb r n && ltb n (r + 32)) ≡ true = not-false _ (allowed 17 (not (leb r n && ltb n (r + 32))) e) in
    (leb-true r n (and_left (leb r n) (ltb n (r + 32)) f), ltb-true n (r + 32) (and_right (leb r n) (ltb n (r + 32)) f))

pub is-kept : (n r : ℕ) → r ≤ n → n < r + 32 → read_refusal n r ≡ 0
unfolding read_refusal is_kept
is-kept n r h k = rw (le-leb r n h, lt-ltb n (r + 32) k)

same-refusal : (log : List Settings) (h : History) → Holds log h → (c : Call) → (as_call h c).refusal ≡ call_refusal log c
unfolding changed backed answer
same-refusal log h w (change from x) = ap (λ (n : ℕ). settings_refusal x otherwise next_refusal n from) (sym (newest-is w))
same-refusal log h w (back from to) = ap (λ (n : ℕ). read_refusal n to otherwise next_refusal n from) (sym (newest-is w))

-- ---- one call

go_on : (log : List Settings) (h : History) (x y : Settings) (r : ℕ) → Holds log h → (r ≡ 0 → (h.newest < 65535) × (x ≡ y)) → Holds (given r (log ++ (y ∷ [])) log) (given r (next h x) h)
unfolding given
go_on log h x y zero w f = rw (f refl).1 (next-holds log h y w (f refl).0)
go_on log h x y (suc r) w f = w

call-holds : (log : List Settings) (h : History) → Holds log h → (c : Call) → Holds (log_after log c) (as_call h c).history
unfolding changed backed answer
call-holds log h w (change from x) =
    rw (newest-is w)
    (go_on log h x x (settings_refusal x otherwise next_refusal h.newest from) w
    (λ e. (room-left h.newest from (both (settings_refusal x) (next_refusal h.newest from) e).1, refl)))
call-holds log h w (back from to) =
    rw (newest-is w)
    (go_on log h (placed h to) (get_or log to none) (read_refusal h.newest to otherwise next_refusal h.newest from) w
    (λ e.
    let p = both (read_refusal h.newest to) (next_refusal h.newest from) e in
    let k = kept-is h.newest to p.0 in
    (room-left h.newest from p.1, w.kept to k.0 k.1)))

-- ---- any run

pub run_holds : (log : List Settings) (h : History) (run : List Call) → Holds log h → Holds (log_of log run) (after keeper h run)
unfolding log_of after
run_holds log h [] w = w
run_holds log h (c ∷ run) w = run_holds (log_after log c) (as_call h c).history run (call-holds log h w c)

pub fresh_holds : (x : Settings) → settings_refusal x ≡ 0 → Holds (x ∷ []) (fresh x).history
unfolding fresh answer
fresh_holds x e = rw (given-value (record { newest = 0; kept = set (replicate 32 none) 0 x }) empty e) (first_holds x)

read-holds : (log : List Settings) (h : History) (r : ℕ) → Holds log h →
    ◌≡◌ {A = ℕ × Settings} ((read_of h r).refusal, (read_of h r).settings) (read_refusal (newest log) r, given (read_refusal (newest log) r) (get_or log r none) none)
unfolding read_of given
read-holds log h r w = rw (newest-is w) (λ i. (read_refusal h.newest r, go (read_refusal h.newest r) refl i))
  where
    go : (q : ℕ) → read_refusal h.newest r ≡ q → given q (placed h r) none ≡ given q (get_or log r none) none
    go zero e = let k = kept-is h.newest r e in w.kept r k.0 k.1
    go (suc q) e = refl

call_same : (h : History) (c : Call) → ((as_call h c).refusal ≡ 0 → ⊥) → (as_call h c).history ≡ h
unfolding changed backed answer
call_same h (change from x) n = given-none _ (next h x) h n
call_same h (back from to) n = given-none _ (next h (placed h to)) h n

-- the functions of `history` keep the settings
pub kept : Keeps keeper
unfolding fresh answer
kept =
    record {
      starts = λ x. refl;
      refuses = λ x e run c. same-refusal (log_of (x ∷ []) run) (after keeper (fresh x).history run) (run_holds (x ∷ []) (fresh x).history run (fresh_holds x e)) c;
      reads = λ x e run r. read-holds (log_of (x ∷ []) run) (after keeper (fresh x).history run) r (run_holds (x ∷ []) (fresh x).history run (fresh_holds x e));
      same = call_same;
    }
