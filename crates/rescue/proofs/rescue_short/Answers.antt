-- `rescue_short` meets its contract: the lent memory is as long as the text, and clear. Assumes nothing.
use native.Mathlib.Omega.{arith}
use Rattle.rescue.proofs.Internal.Joint.{zeros-made}
use Rattle.rescue.proofs.rescue_short.Goals as goal

pub rescue_in-requires : goal.rescue_in-requires
rescue_in-requires c =
    let p = c.requires in
    record {
      text_value = (p.0, p.1);
      text_in_bounds = (omega (arith, p.2), omega arith, omega (arith, p.2));
      text_in_bounds_2 = (omega (arith, p.2), omega (arith, p.2), omega (arith, p.2));
      zeros = (zeros-made 4096, zeros-made 4096);
    }
