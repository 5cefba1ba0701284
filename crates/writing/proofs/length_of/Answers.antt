-- `writing::length_of` meets its contract. Assumes nothing.
use mathlib.Core.Path.{ap, ◌∙◌}
use mathlib.Core.List.{[]}
use Prim.Native.Nat.{ℕ, ◌+◌}
use Rattle.writing.proofs.Laws.List.{codes-cells}
use Rattle.writing.proofs.Internal.EntryLaws.{top-at, top-length, heading-most}
use Rattle.writing.proofs.DepthLaws.{top-keeps}
use native.Mathlib.Omega.{arith}
use Rattle.writing.proofs.length_of.Goals as goal

pub returns : goal.returns
returns c =
    let m = c.measure_list-faces.ensures in
    let s = c in
    let codes = s.args.codes.now in
    let p = s.args.profile in
    let h = c.heading_length.ensures in
    let t = top-at codes s.requires.0 s.requires.1 in
    record {
      is = λ a. ap (λ (x : ℕ). c.measure_list-faces.result.bytes + x) h ∙ top-length codes _ _ _ (m.is [] 0 15 t) p a;
      small = omega (arith, m.short, h, heading-most p);
      kept = top-keeps codes _ (codes-cells codes s.requires.0) (m.deep [] 0 15 t) p;
    }
