-- The lines of changes, one behind the other. Assumes nothing.
use mathlib.Core.Path.{◌≡◌, refl, sym, ap, ap₂, ◌∙◌}
use mathlib.Core.Bool.{Bool, true, false, cond}
use mathlib.Core.List.{List, ◌++◌, append_assoc, append-nil}
use Prim.Native.Nat.{ℕ, suc, ◌+◌, ◌-◌, ◌*◌, ◌≤◌, ◌<◌}
use native.Mathlib.Omega.{arith}
use lib.Dec.{ltb}
use lib.ListN.{length, take, drop, get_or}
use lib.Seq.{drop-cons, drop-length}
use borrow.Author.Tests.{ltb-true, ltb-false}
use Rattle.proper.specs.Changes.{Change}
use Rattle.rescue.specs.Rescue.{flat}
use Rattle.rescue.specs.Laws.Flat.{flat-length, flat-at}
use Rattle.report.specs.Put.{Put}
use Rattle.report.specs.Changes.{change_line}
use Rattle.report.proofs.Laws.Put.{put-taken}
use Rattle.console.specs.Room.{start_for}
use Rattle.coverage.specs.Rescued.{change_lines, ChangesWritten}

-- what waits before number i of a list: the lines of the changes from one on, up to that one
pub record Waiting (a : List Change) (lines : List ℕ) (i end : ℕ) : Type 0 where
  pub from : ℕ
  pub next : ℕ
  pub place : i ≡ next * 2
  pub tied : change_lines (drop from a) ≡ take end lines ++ change_lines (drop next a)
  pub before : from ≤ next
  pub some : 0 < next → from < next
  pub all : 81 * length a ≤ length lines → (from ≡ 0) × (end ≤ 81 * next)

pub waiting_none : (a : List Change) (lines : List ℕ) → Waiting a lines 0 0
waiting_none a lines = record { from = 0; next = 0; place = refl; tied = refl; before = omega arith; some = λ z. omega arith; all = λ z. (refl, omega arith) }

-- the line of the next change
module _ (a : List Change) (list : List ℕ) (e : list ≡ flat a) (i j : ℕ) (p : i ≡ j * 2) (h : i + 1 < length list) where
  within : j < length a
  within = omega (arith, ap length e, flat-length a)

  nothing : Change
  nothing = record { place = 0; kind = 0 }

  line-is : change_line (get_or list i 0) (get_or list (i + 1) 0) ≡ change_line (get_or a j nothing).place (get_or a j nothing).kind
  line-is =
      let k = flat-at a j nothing within in
      let x : i ≡ 2 * j = omega arith in
      let y : i + 1 ≡ 2 * j + 1 = omega arith in
      ap₂ change_line (ap₂ (λ (l : List ℕ) (n : ℕ). get_or l n 0) e x ∙ k.0) (ap₂ (λ (l : List ℕ) (n : ℕ). get_or l n 0) e y ∙ k.1)

  lines_next : change_lines (drop j a) ≡ change_line (get_or list i 0) (get_or list (i + 1) 0) ++ change_lines (drop (suc j) a)
  unfolding change_lines
  lines_next = ap change_lines (drop-cons a j nothing within) ∙ ap (λ (x : List ℕ). x ++ change_lines (drop (suc j) a)) (sym line-is)

-- a line has room where one is made
pub line-fits : {room end at : ℕ} → 81 ≤ room → end ≤ room → at ≡ start_for room end 81 → at + 81 ≤ room
line-fits {room} {end} {at} h k e = go (ltb (room - end) 81) refl
  where
    go : (b : Bool) → ltb (room - end) 81 ≡ b → at + 81 ≤ room
    go true t = let z : at ≡ 0 = e ∙ ap (λ (x : Bool). cond x 0 end) t in omega arith
    go false t = let z : at ≡ end = e ∙ ap (λ (x : Bool). cond x 0 end) t in omega (arith, ltb-false (room - end) 81 t)

-- one line more, behind those that wait or, where there is no room, after they were said
pub waiting-next :
    (a : List Change) (list : List ℕ) {lines later : List ℕ} {i end at r : ℕ} → list ≡ flat a → i + 1 < length list → end ≤ length lines → r ≤ length lines → length later ≡ length lines →
    at ≡ start_for (length lines) end 81 → Put at (change_line (get_or list i 0) (get_or list (i + 1) 0)) lines later r → r ≤ at + 81 → Waiting a lines i end → Waiting a later (i + 2) r
waiting-next a list {lines} {later} {i} {end} {at} {r} e h f k same s put most w = go (ltb (length lines - end) 81) refl
  where
    line : List ℕ
    line = change_line (get_or list i 0) (get_or list (i + 1) 0)

    go : (b : Bool) → ltb (length lines - end) 81 ≡ b → Waiting a later (i + 2) r
    go true t =
        let z : at ≡ 0 = s ∙ ap (λ (x : Bool). cond x 0 end) t in
        let front : take r later ≡ line = put-taken put k ∙ ap (λ (x : ℕ). take x lines ++ line) z in
        record {
          from = w.next;
          next = suc w.next;
          place = omega (arith, w.place);
          tied = lines_next a list e i w.next w.place h ∙ ap (λ (x : List ℕ). x ++ change_lines (drop (suc w.next) a)) (sym front);
          before = omega arith;
          some = λ y. omega arith;
          all = λ y. absurd (full (w.all (omega arith)) y);
        }
      where
        full : (w.from ≡ 0) × (end ≤ 81 * w.next) → 81 * length a ≤ length later → ⊥
        full x y = omega (arith, x.1, within a list e i w.next w.place h, ltb-true (length lines - end) 81 t)
    go false t =
        let z : at ≡ end = s ∙ ap (λ (x : Bool). cond x 0 end) t in
        let front : take r later ≡ take end lines ++ line = put-taken put k ∙ ap (λ (x : ℕ). take x lines ++ line) z in
        let rest : List ℕ = change_lines (drop (suc w.next) a) in
        record {
          from = w.from;
          next = suc w.next;
          place = omega (arith, w.place);
          tied =
              w.tied
              ∙ ap (λ (x : List ℕ). take end lines ++ x) (lines_next a list e i w.next w.place h)
              ∙ sym (append_assoc (take end lines) line rest)
              ∙ ap (λ (x : List ℕ). x ++ rest) (sym front);
          before = omega (arith, w.before);
          some = λ y. omega (arith, w.before);
          all = λ y. let x = w.all (omega arith) in (x.0, omega (arith, x.1));
        }

-- behind the last change nothing is left
none_left : (a : List Change) (n : ℕ) (x : List ℕ) → n ≡ length a → x ++ change_lines (drop n a) ≡ x
unfolding change_lines
none_left a n x e = ap (λ (l : List Change). x ++ change_lines l) (ap (λ (i : ℕ). drop i a) e ∙ drop-length a) ∙ append-nil x

pub waiting-all :
    (a : List Change) (list : List ℕ) {lines : List ℕ} {i end : ℕ} → list ≡ flat a → length list ≤ i + 1 → i ≤ length list → end ≤ length lines → Waiting a lines i end →
    ChangesWritten a lines end
waiting-all a list {lines} {i} {end} e h k f w =
    let n : w.next ≡ length a = omega (arith, w.place, ap length e, flat-length a) in
    record {
      from = w.from;
      lines = sym (w.tied ∙ none_left a w.next (take end lines) n);
      some = λ z. omega (arith, w.some (omega arith));
      all = λ z. (w.all z).0;
      fits = f;
    }
