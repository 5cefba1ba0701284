-- `gather` meets its contract: a code is taken apart into resolution and number. Assumes nothing.
use native.Mathlib.Omega.{arith}
use mathlib.Core.Path.{◌∙◌}
use Rattle.gathering.proofs.Steps.{never, part-fine, part_small, part-fits, part-gathered}
use Rattle.gathering.proofs.gather.Goals as goal

pub returns-in_default : goal.returns-in_default
returns-in_default c = absurd (never c.args.code c.requires.2 c.parts_of.ensures _ c.in_default.is)

pub nine_power-requires : goal.nine_power-requires
nine_power-requires c =
    let c3 = c in
    let c5 = c3 in
    part-fine c5.args.code c5.requires.2 c3.parts_of.ensures c.in-Ok.is

pub overflow_mul-number : goal.overflow_mul-number
overflow_mul-number c =
    let c4 = c in
    let c6 = c4 in
    omega (arith, part-fits c6.args.code c6.requires.2 c4.parts_of.ensures c.in-Ok.is c.nine_power.ensures)

pub overflow_add-number : goal.overflow_add-number
overflow_add-number c =
    let c4 = c in
    let c6 = c4 in
    omega (arith, part-fits c6.args.code c6.requires.2 c4.parts_of.ensures c.in-Ok.is c.nine_power.ensures)

pub gather_as-requires : goal.gather_as-requires
gather_as-requires c =
    let c3 = c in
    let c5 = c3 in
    let c7 = c5 in
    let p = c7.requires in
    let e = c5.parts_of.ensures in
    let t = c3.in-Ok.is in
    (p.0, p.1, part-fine c7.args.code p.2 e t, part_small c7.args.code p.2 e t c.nine_power.ensures)

pub returns : goal.returns
returns c =
    let c4 = c in
    let c6 = c4 in
    let c8 = c6 in
    let c10 = c8 in
    let s = c10.args in
    let e = c.gather_as.ensures in record { codes_after = e.codes_after ∙ part-gathered s.code c10.requires.2 c8.parts_of.ensures c6.in-Ok.is c4.nine_power.ensures s.arrangement _; upper_bound = e.upper_bound }
