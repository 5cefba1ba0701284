pub mod Arguments
pub mod History
pub mod Input
-- The line at hand, while parts of the input come in. Assumes nothing.
use mathlib.Core.Path.{◌≡◌, refl, sym, ap, ap₂, ◌∙◌, subst}
use mathlib.Core.List.{List, [], ◌∷◌, ◌++◌, append_assoc, append-nil}
use Prim.Native.Nat.{ℕ, zero, suc, ◌≤◌, ◌<◌}
use native.Mathlib.Omega.{arith}
use lib.ListN.{length, take}
use lib.Seq.{length-take-le}
use Rattle.logic.specs.Laws.Stores.{take-nil, take-cut}
use Rattle.lines.specs.declared.Reached.{Reached}
use Rattle.lines.specs.declared.Reached.TheVariants.{LineEnd, PartEnd}
use Rattle.lines.specs.Lines.{Unended}
use Rattle.lines.specs.Next.{Hands}
use Rattle.lines.specs.Laws.Lines.{unended-append}
use Rattle.console.specs.declared.LineRead.{LineRead}
use Rattle.console.specs.declared.LineRead.TheVariants.{Line, Last}
use Rattle.console.specs.Input.{unread, Given, last_line}

-- the bytes that were left and those read since are the beginning of a line, which stands in its room, and the rest
pub record Begun (left rest room : List ℕ) (kept : ℕ) : Type 0 where
  pub more : List ℕ
  pub line : List ℕ
  pub unended : Unended line
  pub all : left ++ more ≡ line ++ rest
  pub front : take kept room ≡ take (length room) line

pub begun-none : (left room : List ℕ) → Begun left left room 0
begun-none left room = record { more = []; line = []; unended = tt; all = append-nil left; front = sym (take-nil (length room)) }

module _ {left rest room : List ℕ} {kept : ℕ} (v : Begun left rest room kept) (room' : List ℕ) (same : length room' ≡ length room) where
  room-more : (y : List ℕ) → take (length room') (take kept room ++ y) ≡ take (length room') (v.line ++ y)
  room-more y =
      ap₂ (λ (i : ℕ) (l : List ℕ). take i (l ++ y)) same v.front ∙ take-cut (length room) v.line y ∙ ap (λ (i : ℕ). take i (v.line ++ y)) (sym same)

  -- the line ends in this part
  ends : (bytes : List ℕ) (n at end : ℕ) → end ≤ length bytes → Hands rest (take kept room) (take end bytes) room' (LineEnd n at) → Given left bytes room' (Line n at end)
  ends bytes n at end b (y, u, g, h, i, j) = (
    v.more,
    v.line ++ y,
    unended-append v.line y v.unended u,
    v.all ∙ ap (λ (l : List ℕ). v.line ++ l) g ∙ sym (append_assoc v.line y (10 ∷ unread bytes at end)),
    i ∙ room-more y,
    j,
    omega (arith, length-take-le end bytes b),
    b,
  )

  pub begun-line :
      (bytes : List ℕ) (n at end : ℕ) {r : Reached} → end ≤ length bytes → Hands rest (take kept room) (take end bytes) room' r → r ≡ LineEnd n at → Given left bytes
      room' (Line n at end)
  begun-line bytes n at end b h e = ends bytes n at end b (subst (Hands rest (take kept room) (take end bytes) room') e h)

  -- the part is used up
  whole : (part : List ℕ) (n : ℕ) → Hands rest (take kept room) part room' (PartEnd n) → Begun left [] room' n
  whole part n (u, g, h) =
      record {
        more = v.more;
        line = v.line ++ rest;
        unended = unended-append v.line rest v.unended u;
        all = v.all ∙ sym (append-nil (v.line ++ rest));
        front = g ∙ room-more rest;
      }

  pub begun-part : (part : List ℕ) (n : ℕ) {r : Reached} → Hands rest (take kept room) part room' r → r ≡ PartEnd n → Begun left [] room' n
  begun-part part n h e = whole part n (subst (Hands rest (take kept room) part room') e h)

pub part-kept : (left kept part room : List ℕ) (n : ℕ) {r : Reached} → Hands left kept part room r → r ≡ PartEnd n → n ≤ length room
part-kept left kept part room n h e = (subst (Hands left kept part room) e h).2

-- another part came in
pub begun_more : {left room : List ℕ} {kept : ℕ} (part : List ℕ) → Begun left [] room kept → Begun left part room kept
begun_more {left} part v =
    record {
      more = v.more ++ part;
      line = v.line;
      unended = v.unended;
      all = sym (append_assoc left v.more part) ∙ ap (λ (l : List ℕ). l ++ part) (v.all ∙ append-nil v.line);
      front = v.front;
    }

pub last_some : (kept : ℕ) → (kept ≡ 0 → ⊥) → Last kept ≡ last_line kept
last_some zero h = absurd (h refl)
last_some (suc n) h = refl

-- the input has ended
module _ (room : List ℕ) (k : 0 < length room) where
  none : (y : List ℕ) (m : ℕ) → 0 < m → take m y ≡ [] → y ≡ []
  none [] m p q = refl
  none (b ∷ y) zero p q = absurd (omega arith)
  none (b ∷ y) (suc m) p q = let z : suc (length (take m y)) ≡ 0 = ap length q in absurd (omega arith)

  front-none : (l m : List ℕ) → l ++ m ≡ [] → l ≡ []
  front-none [] m q = refl
  front-none (b ∷ l) m q = let z : suc (length (l ++ m)) ≡ 0 = ap length q in absurd (omega arith)

  some : (n : ℕ) (y : List ℕ) → suc n ≤ length room → take (suc n) room ≡ take (length room) y → 0 < length y
  some n [] h q =
      let a : length (take (suc n) room) ≡ suc n = length-take-le (suc n) room h in
      let b : length (take (suc n) room) ≡ 0 = ap length (q ∙ take-nil (length room)) in
      absurd (omega arith)
  some n (b ∷ y) h q = omega arith

  at-end : (left bytes : List ℕ) (kept : ℕ) → Begun left [] room kept → kept ≤ length room → Given left bytes room (last_line kept)
  at-end left bytes zero v h = front-none left v.more (v.all ∙ append-nil v.line ∙ none v.line (length room) k (sym v.front))
  at-end left bytes (suc n) v h =
      let g : left ++ v.more ≡ v.line = v.all ∙ append-nil v.line in
      (v.more, rw g v.unended, rw g (some n v.line h v.front), v.front ∙ ap (take (length room)) (sym g), h)

  pub begun-last : {left : List ℕ} (bytes : List ℕ) {kept : ℕ} {r : LineRead} → r ≡ last_line kept → Begun left [] room kept → kept ≤ length room → Given left bytes room r
  begun-last {left} bytes {kept} e v h = subst (Given left bytes room) (sym e) (at-end left bytes kept v h)
