-- `console::beside` meets its contract. Assumes nothing.
use mathlib.Core.List.{[], ◌∷◌}
use Prim.Native.Nat.{◌-◌}
use lib.ListN.{length}
use Rattle.console.proofs.Runs.{put_both}
use Rattle.console.proofs.beside.Goals as goal

pub returns-clause-room_after : goal.returns-clause-room_after
returns-clause-room_after c =
    let x = c.copy-at in
    let y = c.copy-more in
    put_both c.args.path.now (46 ∷ 112 ∷ 97 ∷ 114 ∷ 116 ∷ []) c.args.room.now x.new.to y.new.to x.result y.result (length x.new.to - x.result)
    x.ensures.value y.ensures.value x.ensures.bytes _ y.ensures.bytes
