-- `put` meets its contract: the bytes copied stand behind those kept, as many as there is room for. Assumes nothing.
use Rattle.std.proofs.Common.{◌≡◌, ap, ◌∙◌, arith, ◌++◌, ◌+◌, ◌-◌, length, take, drop, ℕ, List, length-take-le, length-drop}
use Rattle.std.proofs.lemmas.Slice.{take-put_mid}
use Rattle.lines.proofs.Laws.{cut-there}
use Rattle.lines.proofs.put.Goals as goal

pub returns-clause-room_after : goal.returns-clause-room_after
returns-clause-room_after c =
    let a = c.args in
    let n = c.least-count.result in
    let room = a.room.now in
    let rest = drop a.at a.part.now in
    let copied = c.copy_from_slice.new.self in
    let few = c.least-count.ensures in
    let m : a.at + n - a.at ≡ n = omega arith in
    let e : copied ≡ take n rest = c.copy_from_slice.ensures.after ∙ ap (λ (i : ℕ). take i rest) m in
    let long : length copied ≡ n = omega (arith, ap length e, length-take-le n rest (omega (arith, length-drop a.at a.part.now))) in
    let front : length (take a.kept room) ≡ a.kept = length-take-le a.kept room (omega arith) in
    take-put_mid a.kept (a.kept + n - a.kept) room copied (a.kept + n) (omega arith) (omega arith)
    ∙ ap (λ (l : List ℕ). take a.kept room ++ l) e
    ∙ cut-there (take a.kept room) rest a.kept n (a.end - a.at) (length room) front (omega arith) few.2 few.0 few.1
