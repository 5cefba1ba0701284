-- The lent bytes with an edited text in front. Assumes nothing.
use Rattle.std.specs.Prelude.{Err, Ok, Result}
use Rattle.reading.specs.declared.Refused.{Refused}
use mathlib.Core.Path.{◌≡◌, refl, sym, ap, ap₂, ◌∙◌}
use mathlib.Core.List.{List, [], ◌∷◌, ◌++◌, append_assoc}
use Prim.Native.Nat.{ℕ, zero, suc, ◌+◌, ◌-◌, ◌≤◌, ◌<◌}
use native.Mathlib.Omega.{arith}
use lib.ListN.{length, take, drop, length-append, length-drop, take-append-drop}
use lib.Seq.{take-take, length-take-le, take-append-le, drop_at, sets, sets-eq, paste}
use borrow.Author.Tests.{lt-ltb, le-ltb}
use Rattle.logic.specs.Refusal.{◌otherwise◌, given}
use Rattle.adding.specs.declared.Edit.TheVariants.{Put, Cut}
use Rattle.adding.specs.Internal.Edit.{nested, edited}
use Rattle.adding.specs.Add.{size_refusal, resized, placed}
use Rattle.adding.specs.Internal.Become.{Becomes}

-- ---- by the length

module _ (u before : List ℕ) where
  size-0 : length u ≤ 65536 → length u ≤ length before → size_refusal (length u) (length before) ≡ 0
  unfolding size_refusal ◌otherwise◌
  size-0 h k = rw (le-ltb 65536 (length u) h, le-ltb (length before) (length u) k)

  size-13 : 65536 < length u → size_refusal (length u) (length before) ≡ 13
  unfolding size_refusal ◌otherwise◌
  size-13 h = rw (lt-ltb 65536 (length u) h)

  size-8 : length u ≤ 65536 → length before < length u → size_refusal (length u) (length before) ≡ 8
  unfolding size_refusal ◌otherwise◌
  size-8 h k = rw (le-ltb 65536 (length u) h, lt-ltb (length before) (length u) k)

  pub becomes-new : {after : List ℕ} {n : ℕ} → length u ≤ 65536 → length u ≤ length before → n ≡ length u → after ≡ u ++ drop (length u) before → Becomes u before after (Ok n)
  unfolding resized placed given
  becomes-new {after} {n} h k e f =
      record {
        answer = ap Ok e ∙ sym (ap (λ (x : ℕ). resized x (length u)) (size-0 h k));
        bytes = f ∙ sym (ap (λ (x : ℕ). placed x u before) (size-0 h k));
      }

  pub becomes-13 : {r : Result ℕ Refused} → r ≡ Err (record { refusal = 13; place = 0 }) → 65536 < length u → Becomes u before before r
  unfolding resized placed given
  becomes-13 e h =
      record { answer = e ∙ sym (ap (λ (x : ℕ). resized x (length u)) (size-13 h)); bytes = sym (ap (λ (x : ℕ). placed x u before) (size-13 h)) }

  pub becomes-8 : {r : Result ℕ Refused} → r ≡ Err (record { refusal = 8; place = 0 }) → length u ≤ 65536 → length before < length u → Becomes u before before r
  unfolding resized placed given
  becomes-8 e h k =
      record { answer = e ∙ sym (ap (λ (x : ℕ). resized x (length u)) (size-8 h k)); bytes = sym (ap (λ (x : ℕ). placed x u before) (size-8 h k)) }

-- ---- by the edit

drop-take : (m n : ℕ) (l : List ℕ) → drop m (take n l) ≡ take (n - m) (drop m l)
drop-take zero n l = ap (λ (x : ℕ). take x l) all
  where
    all : n ≡ n - zero
    all = omega arith
drop-take (suc m) zero l = sym (ap (λ (x : ℕ). take x (drop (suc m) l)) zeroed)
  where
    zeroed : zero - suc m ≡ zero
    zeroed = omega arith
drop-take (suc m) (suc n) [] = sym (take_none (suc n - suc m))
  where
    take_none : (k : ℕ) → ◌≡◌ {A = List ℕ} (take k []) []
    take_none zero = refl
    take_none (suc k) = refl
drop-take (suc m) (suc n) (x ∷ l) = drop-take m n l ∙ ap (λ (k : ℕ). take k (drop m l)) less
  where
    less : n - m ≡ suc n - suc m
    less = omega arith

module _ (name bytes : List ℕ) (end : ℕ) (h : end ≤ length bytes) (s : end ≤ 65536) where
  long : length (take end bytes) ≡ end
  long = length-take-le end bytes h

  -- nothing is changed
  pub becomes-same : {u : List ℕ} → u ≡ take end bytes → Becomes u bytes bytes (Ok end)
  becomes-same {u} e =
      let n : length u ≡ end = ap length e ∙ long in
      becomes-new u bytes (omega arith) (omega arith) (sym n) (sym (ap₂ (λ (x : List ℕ) (y : ℕ). x ++ drop y bytes) e n ∙ take-append-drop end bytes))

  -- bytes are cut out
  pub becomes-cut :
      {after : List ℕ} (from to : ℕ) → from ≤ to → to ≤ end → after ≡ paste bytes from (drop to bytes) (end - to) →
      Becomes (edited name (take end bytes) (Cut from to)) bytes after (Ok (from + (end - to)))
  unfolding edited
  becomes-cut {after} from to a b f =
      let front : take from (take end bytes) ≡ take from bytes = take-take from end bytes (omega arith) in
      let back : drop to (take end bytes) ≡ take (end - to) (drop to bytes) = drop-take to end bytes in
      let u : List ℕ = take from (take end bytes) ++ drop to (take end bytes) in
      let e : u ≡ take from bytes ++ take (end - to) (drop to bytes) = ap₂ ◌++◌ front back in
      let n : length u ≡ from + (end - to) =
      omega (
        arith,
        length-append (take from (take end bytes)) (drop to (take end bytes)),
        ap length front,
        length-take-le from bytes (omega arith),
        length-drop to (take end bytes),
        long,
      ) in
      becomes-new u bytes (omega arith) (omega arith) (sym n) (f ∙ ap₂ (λ (x : List ℕ) (y : ℕ). x ++ drop y bytes) (sym e) (sym n))

  -- bytes are put in
  module _ (at k gap : ℕ) (a : at ≤ end) (g : length (nested (drop k name)) ≡ gap) where
    abbrev put_in : List ℕ
    put_in = edited name (take end bytes) (Put at k)

    pub put-long : length put_in ≡ end + gap
    unfolding edited
    put-long =
        omega (
          arith,
          g,
          length-append (take at (take end bytes)) (nested (drop k name) ++ drop at (take end bytes)),
          length-append (nested (drop k name)) (drop at (take end bytes)),
          length-take-le at (take end bytes) (omega (arith, long)),
          length-drop at (take end bytes),
          long,
        )

    pub becomes-put :
        {after opened : List ℕ} → end + gap ≤ 65536 → end + gap ≤ length bytes →
        opened ≡ take (at + gap) bytes ++ (take (end - at) (drop at bytes) ++ drop (end + gap) bytes) → after ≡ sets opened at (nested (drop k name)) →
        Becomes put_in bytes after (Ok (end + gap))
    unfolding edited
    becomes-put {after} {opened} p q o f =
        let v : List ℕ = nested (drop k name) in
        let x : List ℕ = take (at + gap) bytes in
        let y : List ℕ = take (end - at) (drop at bytes) in
        let z : List ℕ = drop (end + gap) bytes in
        let nx : length x ≡ at + gap = length-take-le (at + gap) bytes (omega arith) in
        let no : length opened ≡ length bytes =
        omega (arith, ap length o, length-append x (y ++ z), length-append y z, length-take-le (end - at) (drop at bytes) (omega (arith, length-drop at bytes)), length-drop (end + gap) bytes) in
        let front : take at opened ≡ take at (take end bytes) =
        ap (take at) o ∙ take-append-le at x (y ++ z) (omega arith) ∙ take-take at (at + gap) bytes (omega arith) ∙ sym (take-take at end bytes a) in
        let back : drop (at + length v) opened ≡ drop at (take end bytes) ++ z =
        ap₂ drop (ap (λ (i : ℕ). at + i) g) o ∙ drop_at x (y ++ z) (at + gap) nx ∙ ap (λ (i : List ℕ). i ++ z) (sym (drop-take at end bytes)) in
        let e : after ≡ (take at (take end bytes) ++ v) ++ (drop at (take end bytes) ++ z) =
        f ∙ sets-eq v opened at (omega (arith, g)) ∙ ap₂ (λ (i j : List ℕ). (i ++ v) ++ j) front back in
        let r : (take at (take end bytes) ++ v) ++ (drop at (take end bytes) ++ z) ≡ put_in ++ z =
        append_assoc (take at (take end bytes)) v (drop at (take end bytes) ++ z)
        ∙ ap (λ (i : List ℕ). take at (take end bytes) ++ i) (sym (append_assoc v (drop at (take end bytes)) z))
        ∙ sym (append_assoc (take at (take end bytes)) (v ++ drop at (take end bytes)) z) in
        becomes-new put_in bytes (omega (arith, put-long)) (omega (arith, put-long)) (sym put-long)
        (e ∙ r ∙ ap (λ (i : ℕ). put_in ++ drop i bytes) (sym put-long))
