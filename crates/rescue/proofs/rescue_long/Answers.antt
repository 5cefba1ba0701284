-- `rescue_long` meets its contract: the lent memory is as long as any text, and clear. Assumes nothing.
use native.Mathlib.Omega.{arith}
use Rattle.loose.proofs.Laws.Look.{loose-short}
use Rattle.rescue.proofs.Internal.Joint.{zeros-made}
use Rattle.rescue.proofs.rescue_long.Goals as goal

pub rescue_in-requires : goal.rescue_in-requires
rescue_in-requires c =
    let s = c in
    let p = s.requires in
    let h = loose-short s.args.text.now p.0 in
    record {
      text_value = (p.0, p.1);
      text_in_bounds = (omega (arith, h), omega arith, omega (arith, h));
      text_in_bounds_2 = (omega (arith, h), omega (arith, h), omega (arith, h));
      zeros = (zeros-made 65536, zeros-made 65536);
    }
