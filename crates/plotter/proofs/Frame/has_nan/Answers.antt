-- The first edge that is not a number decides. Assumes nothing.
use mathlib.Core.Path.{refl, sym, ◌∙◌}
use Rattle.plotter.specs.Plotter.{has_nan}
use Rattle.plotter.proofs.Frame.has_nan.Goals as goal

pub returns-then-is_nan : goal.returns-then-is_nan
unfolding has_nan
returns-then-is_nan c = rw (sym c.is_nan.ensures ∙ c.if-is_nan.true) refl

pub returns-then-is_nan-2 : goal.returns-then-is_nan-2
unfolding has_nan
returns-then-is_nan-2 c = rw (sym c.is_nan.ensures ∙ c.if-is_nan.false, sym c.is_nan-2.ensures ∙ c.if-is_nan-2.true) refl

pub returns-then-is_nan-3 : goal.returns-then-is_nan-3
unfolding has_nan
returns-then-is_nan-3 c =
    rw (
      sym c.is_nan.ensures ∙ c.if-is_nan.false,
      sym c.is_nan-2.ensures ∙ c.if-is_nan-2.false,
      sym c.is_nan-3.ensures ∙ c.if-is_nan-3.true,
    )
    refl

pub returns : goal.returns
unfolding has_nan
returns c =
    rw (
      sym c.is_nan.ensures ∙ c.if-is_nan.false,
      sym c.is_nan-2.ensures ∙ c.if-is_nan-2.false,
      sym c.is_nan-3.ensures ∙ c.if-is_nan-3.false,
    )
    c.is_nan-4.ensures
