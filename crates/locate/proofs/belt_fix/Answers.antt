-- `locate::belt_fix` meets its contract. Assumes nothing.
use mathlib.Core.Path.{◌≡◌, sym, ap, ap₂, ◌∙◌}
use Prim.Native.Nat.{ℕ, ◌%◌}
use native.Mathlib.Omega.{arith}
use lib.IntN.{ℤ, pos, nat_abs, ◌+ℤ◌}
use Rattle.code.specs.Code.{code_of}
use Rattle.signed.specs.Laws.Sign.{back}
use Rattle.locate.specs.Fix.{east_of, offset_of, belt_cell}
use Rattle.locate.specs.Internal.Place.{arranged, place-belt, fix-place}
use Rattle.locate.specs.Internal.RangeLaws.{longitude-low, shifted-small}
use Rattle.locate.proofs.Laws.Bottom.{offset-small}
use Rattle.locate.proofs.belt_fix.Goals as goal
use Rattle.locate.proofs.belt_fix.Goals.{After-offset, After-shifted-east}

east-is : (c : After-shifted-east) → c.shifted-east.result ≡ nat_abs (c.args.longitude +ℤ pos 1800000000)
east-is c = c.shifted-east.ensures ∙ ap (λ (x : ℤ). nat_abs (x +ℤ pos 1800000000)) (back c.ranges.longitude)

turned-is : (c : After-shifted-east) → c.shifted-east.result % 3600000000 ≡ east_of c.args.longitude
unfolding east_of
turned-is c = ap (λ (x : ℕ). x % 3600000000) (east-is c)

offset-is : (c : After-offset) → c.offset.result ≡ offset_of c.args.z
offset-is c = c.offset.ensures ∙ ap offset_of (back c.ranges.z)

pub shifted-east-requires : goal.shifted-east-requires
shifted-east-requires c = rw (back c.ranges.longitude) (record { by_bound = omega arith; x_value = longitude-low c.args.longitude c.args.z c.requires.z_value })

pub belt_code-requires : goal.belt_code-requires
belt_code-requires c =
    record {
      arrangement = c.requires.arrangement;
      resolution_bound = c.requires.resolution_bound;
      east_bound = rw (east-is (goal.at.belt_code-requires c).After-shifted-east) (shifted-small c.args.longitude c.args.z c.requires.z_value);
      offset_bound = rw (offset-is (goal.at.belt_code-requires c).After-offset) (offset-small c.args.z c.requires.z_value_2);
    }

pub returns : goal.returns
returns c =
    let o = c in
    let s = o in
    let a = s.args in
    let g = arranged a.n a.s in
    let p = sym (place-belt g a.resolution (east_of a.longitude) a.z s.requires.z_value_2) ∙ fix-place g a.resolution a.longitude a.z in
    c.belt_code.ensures ∙ ap (code_of g) (ap₂ (belt_cell a.resolution) (turned-is (goal.at.returns c).After-shifted-east) (offset-is (goal.at.returns c).After-offset) ∙ p)
