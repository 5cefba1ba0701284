-- What a rescue puts stands in front of its rooms. Assumes nothing.
use Rattle.std.specs.Prelude.{Err, Ok, Result}
use Rattle.reading.specs.declared.Refused.{Refused}
use Rattle.rescue.specs.declared.Rescued.{Rescued}
use mathlib.Core.Path.{◌≡◌, refl, sym, ap, ◌∙◌, subst}
use mathlib.Core.List.{List, []}
use Prim.Native.Nat.{ℕ, zero, suc, ◌*◌, ◌≤◌}
use native.Mathlib.Omega.{arith}
use lib.Dec.{ltb}
use lib.ListN.{length, take, drop, length-append, length-drop}
use lib.Seq.{take_at}
use borrow.Author.Tests.{ltb-false}
use Rattle.logic.specs.Lent.{in_front}
use Rattle.logic.specs.Refusal.{given}
use Rattle.logic.specs.Laws.Bools.{or_left, or_right}
use Rattle.logic.specs.Laws.Refusal.{both, allowed}
use Rattle.loose.specs.Look.{loose_refusal, place_with}
use Rattle.proper.specs.Proper.{proper_of}
use Rattle.rescue.specs.Rescue.{flat, changes_of, rescue_refusal, told, RescueIs}
use Rattle.rescue.specs.Laws.Flat.{flat-length}
use Rattle.rescue.proofs.Laws.Room.{never-short}
use Rattle.coverage.specs.declared.RescueRooms.{RescueRooms}
use Rattle.coverage.specs.Rescued.{RescueLeft}
use Rattle.logic.specs.Laws.Answer.{ok-is, err-is}

front_long : (x l : List ℕ) → length x ≤ length l → length (in_front x l) ≡ length l
front_long x l h = length-append x (drop (length x) l) ∙ omega (arith, length-drop (length x) l)

-- both rooms are long enough where nothing is refused
rooms : (t : List ℕ) (a b : ℕ) → rescue_refusal t a b ≡ 0 → (length (proper_of t) ≤ a) × (length (flat (changes_of t)) ≤ b)
unfolding rescue_refusal
rooms t a b z =
    let o = allowed 7 _ (both (loose_refusal t) _ z).1 in
    (ltb-false _ _ (or_left (ltb a (length (proper_of t))) _ o), ltb-false _ _ (or_right (ltb a (length (proper_of t))) _ o))

rescued-done :
    {t out out' list list' : List ℕ} {r : Result Rescued Refused} {m n : ℕ} → RescueIs t out out' list list' r → r ≡ Ok (record { length = m; changes = n }) →
    RescueLeft (rescue_refusal t (length out) (length list)) t out' list' (record { end = m; numbers = n * 2; refusal = 0; place = 0 })
unfolding told given
rescued-done {t} {out} {out'} {list} {list'} {r} {m} {n} h e =
    go (rescue_refusal t (length out) (length list)) refl (sym e ∙ h.answer) h.text h.changed
  where
    go :
        (q : ℕ) → rescue_refusal t (length out) (length list) ≡ q → Ok (record { length = m; changes = n }) ≡ told q t → out' ≡ given q (in_front (proper_of t) out) out →
        list' ≡ given q (in_front (flat (changes_of t)) list) list → RescueLeft q t out' list' (record { end = m; numbers = n * 2; refusal = 0; place = 0 })
    go zero f d x y =
        let i : m ≡ length (proper_of t) = ap (λ (z : Rescued). z.length) (ok-is d) in
        let j : n ≡ length (changes_of t) = ap (λ (z : Rescued). z.changes) (ok-is d) in
        let s : length (flat (changes_of t)) ≡ n * 2 = flat-length (changes_of t) ∙ ap (λ (k : ℕ). k * 2) (sym j) in
        let k = rooms t (length out) (length list) f in
        let p : length out' ≡ length out = ap length x ∙ front_long (proper_of t) out k.0 in
        let o : length list' ≡ length list = ap length y ∙ front_long (flat (changes_of t)) list k.1 in
        record {
          text = ap (take m) x ∙ take_at (proper_of t) (drop (length (proper_of t)) out) m (sym i);
          changed = ap (take (n * 2)) y ∙ take_at (flat (changes_of t)) (drop (length (flat (changes_of t))) list) (n * 2) s;
          refused = refl;
          placed = refl;
          text-fits = omega (arith, k.0);
          list-fits = omega (arith, k.1);
        }
    go (suc q) f d x y = let k : ◌≡◌ {A = ℕ} 0 1 = cc in absurd (omega arith)

rescued-refused :
    {t out out' list list' : List ℕ} {r : Result Rescued Refused} {q p : ℕ} → RescueIs t out out' list list' r → r ≡ Err (record { refusal = q; place = p }) →
    RescueLeft (rescue_refusal t (length out) (length list)) t out' list' (record { end = 0; numbers = 0; refusal = q; place = p })
unfolding told given
rescued-refused {t} {out} {out'} {list} {list'} {r} {q} {p} h e = go (rescue_refusal t (length out) (length list)) (sym e ∙ h.answer)
  where
    go : (x : ℕ) → Err (record { refusal = q; place = p }) ≡ told x t → RescueLeft x t out' list' (record { end = 0; numbers = 0; refusal = q; place = p })
    go zero d = let k : ◌≡◌ {A = ℕ} 0 1 = cc in absurd (omega arith)
    go (suc x) d =
        let i : q ≡ suc x = ap (λ (x : Refused). x.refusal) (err-is d) in
        let j : p ≡ place_with (suc x) t = ap (λ (x : Refused). x.place) (err-is d) in
        record { text = refl; changed = refl; refused = i; placed = j; text-fits = omega arith; list-fits = omega arith }

-- in rooms that are enough for any text
module _ {t out out' list list' : List ℕ} {r : Result Rescued Refused} (a : 65536 ≤ length out) (b : 262144 ≤ length list) (h : RescueIs t out out' list list' r) where
  pub room-done : {m n : ℕ} → r ≡ Ok (record { length = m; changes = n }) → RescueLeft (loose_refusal t) t out' list' (record { end = m; numbers = n * 2; refusal = 0; place = 0 })
  room-done {m} {n} e =
      subst (λ (x : ℕ). RescueLeft x t out' list' (record { end = m; numbers = n * 2; refusal = 0; place = 0 })) (never-short t (length out) (length list) a b) (rescued-done h e)

  pub room-refused : {q p : ℕ} → r ≡ Err (record { refusal = q; place = p }) → RescueLeft (loose_refusal t) t out' list' (record { end = 0; numbers = 0; refusal = q; place = p })
  room-refused {q} {p} e =
      subst (λ (x : ℕ). RescueLeft x t out' list' (record { end = 0; numbers = 0; refusal = q; place = p })) (never-short t (length out) (length list) a b) (rescued-refused h e)

-- what it left, by the refusal that it tells
pub left_so : {q : ℕ} {t out list : List ℕ} {r : RescueRooms} → RescueLeft q t out list r → RescueLeft r.refusal t out list r
left_so {t = t} {out} {list} {r} h = subst (λ (x : ℕ). RescueLeft x t out list r) (sym h.refused) h

module _ {q : ℕ} {t out list : List ℕ} {r : RescueRooms} (h : RescueLeft q t out list r) (z : q ≡ 0) where
  pub left-text : take r.end out ≡ proper_of t
  unfolding given
  left-text = h.text ∙ ap (λ (x : ℕ). given x (proper_of t) []) z

  pub left-changes : take r.numbers list ≡ flat (changes_of t)
  unfolding given
  left-changes = h.changed ∙ ap (λ (x : ℕ). given x (flat (changes_of t)) []) z
