-- One line more is answered. Assumes nothing.
use Rattle.std.specs.Prelude.{None, Option, Result, Some}
use mathlib.Core.Path.{◌≡◌, refl, sym, ap, ◌∙◌, subst}
use mathlib.Core.Bool.{Bool, true, false, cond}
use mathlib.Core.List.{List, [], ◌∷◌, ◌++◌, append_assoc}
use Prim.Native.Nat.{ℕ, ◌+◌, ◌-◌, ◌≤◌}
use native.Mathlib.Omega.{arith}
use lib.Dec.{ltb}
use lib.ListN.{length, take, length-append}
use lib.Seq.{length-take-le}
use borrow.Author.Tests.{ltb-false}
use Rattle.lines.specs.Fold.{OfBytes, OfEnded}
use Rattle.lines.specs.Laws.Fold.{then-line, then-last, then-none}
use Rattle.flight.specs.declared.Setting.{Setting}
use Rattle.flight.specs.Flight.{line_code}
use Rattle.flight.proofs.Laws.Cut.{cut_line}
use Rattle.report.specs.Answer.{answer_of, answer_line}
use Rattle.console.specs.Room.{start_for, Made}
use Rattle.console.specs.declared.LineRead.TheVariants.{Line, Last}
use Rattle.console.specs.Input.{Given}
use Rattle.name_fixes.specs.Answers.{with_answer, Answered, Written, AllAnswered, LastWaits}

-- what waits, or all of it printed, and more behind
waits-more :
    (P Q : List ℕ → Type 0) (answer out later : List ℕ) (waiting n : ℕ) → ((w : List ℕ) → P w → Q (w ++ answer)) → Written P out waiting →
    take n later ≡ take (start_for (length out) waiting 21) out ++ answer → Written Q later n
waits-more P Q answer out later waiting n f (printed, p) e = go (ltb (length out - waiting) 21) e
  where
    go : (t : Bool) → take n later ≡ take (cond t 0 waiting) out ++ answer → Written Q later n
    go true e = (printed ++ take waiting out, subst Q (ap (λ (x : List ℕ). printed ++ take waiting out ++ x) (sym e)) (f (printed ++ take waiting out) p))
    go false e = (printed, subst Q (append_assoc printed (take waiting out) answer ∙ ap (λ (x : List ℕ). printed ++ x) (sym e)) (f (printed ++ take waiting out) p))

-- an answer has bytes, so something waits behind it
pub answer-waits : (s : Setting) (line : List ℕ) (waiting : ℕ) (out later : List ℕ) (n : ℕ) → Answered s line waiting out later (Some n) → 1 ≤ n
answer-waits s line waiting out later n (e, l) =
    let before : List ℕ = take (start_for (length out) waiting 21) out in
    let answer : List ℕ = answer_of (line_code s line) in
    omega (arith, length-take-le n later l, ap length e, length-append before (answer ++ (10 ∷ [])), length-append answer (10 ∷ []))

module _ (s : Setting) (room : List ℕ) (big : 43 ≤ length room) where
  -- the answer to a line that was cut to its room
  cut-answer : (n : ℕ) (x : List ℕ) → take n room ≡ take (length room) x → answer_line s (take n room) ≡ answer_line s x
  cut-answer n x e = ap (λ (c : Result ℕ ℕ). answer_of c ++ (10 ∷ [])) (ap (line_code s) e ∙ cut_line s (length room) x big)

  module _ (out later : List ℕ) (waiting n : ℕ) (v : Written (OfEnded (with_answer s) []) out waiting) (r : Option ℕ) (a : Answered s (take n room) waiting out later r) where
    answered :
        (Q : List ℕ → Type 0) (x : List ℕ) → ((w : List ℕ) → OfEnded (with_answer s) [] w → Q (with_answer s w x)) → take n room ≡ take (length room) x →
        (k : ℕ) → Answered s (take n room) waiting out later (Some k) → Written Q later k × (k ≤ length later) × (1 ≤ k)
    answered Q x f e k (b, l) =
        let same = b ∙ ap (λ (y : List ℕ). take (start_for (length out) waiting 21) out ++ y) (cut-answer n x e) in
        let more = waits-more (OfEnded (with_answer s) []) Q (answer_line s x) out later waiting k f v same in
        (more, l, answer-waits s (take n room) waiting out later k (b, l))

    -- a line that ended
    pub line-answered :
        (left bytes : List ℕ) (k from end : ℕ) → Given left bytes room (Line n from end) → r ≡ Some k → Written (OfEnded (with_answer s) []) later k × (k ≤ length later) × (1 ≤ k)
    line-answered left bytes k from end (more, x, u, g, e, i, j, l) h =
        answered (OfEnded (with_answer s) []) x (λ w o. then-line (with_answer s) x u o) e k (subst (Answered s (take n room) waiting out later) h a)

    -- the last line, which has no end
    pub last-answered : (left bytes : List ℕ) → Given left bytes room (Last n) → AllAnswered s later r
    last-answered left bytes (more, u, l, e, i) = go r a
      where
        go : (q : Option ℕ) → Answered s (take n room) waiting out later q → AllAnswered s later q
        go (Some k) b =
            let v = answered (OfBytes (with_answer s) []) (left ++ more) (λ w o. then-last (with_answer s) (left ++ more) u l o) e k b in
            (v.0, v.1)
        go None b = tt

-- so a line's answer waits
pub last-waits : (s : Setting) (line : List ℕ) (waiting : ℕ) (out first later : List ℕ) (r : Option ℕ) → Answered s line waiting out later r → LastWaits first later r
last-waits s line waiting out first later (Some n) a = λ z. absurd (omega (arith, z, answer-waits s line waiting out later n a))
last-waits s line waiting out first later None a = tt

-- where nothing waits, the room is as it was lent: this holds the definition
pub none-waits : (out later : List ℕ) → LastWaits out later (Some 0) → later ≡ out
none-waits out later h = h refl

-- no further line
pub none-answered : (s : Setting) (out : List ℕ) (waiting : ℕ) → Written (OfEnded (with_answer s) []) out waiting → waiting ≤ length out → AllAnswered s out (Some waiting)
none-answered s out waiting (printed, o) h = ((printed, then-none (with_answer s) o), h)

-- ---- room for an answer

pub made-start : (room at size : ℕ) {r : Option ℕ} {start : ℕ} → Made room at size r → r ≡ Some start → start ≡ start_for room at size
made-start room at size h e = subst (Made room at size) e h

pub start-room : (room at : ℕ) {start : ℕ} → at ≤ room → 21 ≤ room → start ≡ start_for room at 21 → start + 21 ≤ room
start-room room at {start} h k e = go (ltb (room - at) 21) refl e
  where
    go : (t : Bool) → ltb (room - at) 21 ≡ t → start ≡ cond t 0 at → start + 21 ≤ room
    go true f e = omega arith
    go false f e = omega (arith, ltb-false (room - at) 21 f)

pub all-waiting : (s : Setting) (out : List ℕ) (n : ℕ) {r : Option ℕ} → AllAnswered s out r → r ≡ Some n → n ≤ length out
all-waiting s out n h e = (subst (AllAnswered s out) e h).1
