-- `root::part` meets its contract. Assumes nothing.
use mathlib.Core.Path.{◌≡◌, ap, ◌∙◌}
use Prim.Native.Nat.{ℕ}
use Rattle.wide.specs.High.{high_word}
use Rattle.root.specs.Part.{part_of}
use Rattle.root.specs.Laws.Part.{end_lt}
use Rattle.root.proofs.part.Goals as goal

pub returns : goal.returns
unfolding part_of
returns c =
    let s = c in
    let p = s.args.p in
    let e : c.high.result ≡ part_of p.minus p.size s.args.root = c.high.ensures ∙ ap (λ (x : ℕ). high_word x 738459997658286596) c.low_end.ensures in
    (e, rw e (end_lt p.minus p.size s.args.root s.requires.1 s.requires.0))
