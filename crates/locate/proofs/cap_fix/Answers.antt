-- `locate::cap_fix` meets its contract: the end of a cap that the sign picks. Assumes nothing.
use mathlib.Core.Path.{◌≡◌, sym, ap, ◌∙◌}
use mathlib.Core.Bool.{Bool, true, false, cond}
use Prim.Native.Nat.{ℕ, ◌-◌, ◌*◌, ◌^◌, ◌≤◌, ◌<◌}
use native.Mathlib.Omega.{arith}
use lib.IntN.{ℤ, nat_abs}
use Rattle.cell.specs.declared.Arrangement.{Arrangement}
use Rattle.code.specs.Code.{code_of}
use Rattle.signed.specs.Sign.{negative}
use Rattle.signed.specs.Laws.Sign.{back, below-zero}
use Rattle.locate.specs.Fix.{east_of, is_belt, height_of, cap_cell, north_cell, south_cell}
use Rattle.locate.specs.Internal.End.{turned_end}
use Rattle.locate.specs.Internal.Place.{arranged, place_cell, place-south, place-north, fix-place}
use Rattle.locate.specs.Internal.RangeLaws.{longitude-low, shifted-small, z-small, height-small}
use Rattle.locate.proofs.Laws.{stands-cell}
use Rattle.locate.proofs.cap_fix.Goals as goal
use Rattle.locate.proofs.cap_fix.Goals.{After-east_of-east, After-is_negative-south, After-magnitude-size}

-- ---- what the calls give, of the fix itself
east-is : (c : After-east_of-east) → c.east_of-east.result ≡ east_of c.args.longitude
east-is c = c.east_of-east.ensures.0 ∙ ap east_of (back c.ranges.longitude)

size_is : (c : After-magnitude-size) → c.magnitude-size.result ≡ nat_abs c.args.z
size_is c = c.magnitude-size.ensures ∙ ap nat_abs (back c.ranges.z)

size-le : (c : After-magnitude-size) → c.magnitude-size.result ≤ 10 ^ 18
size-le c = let s = c in rw (size_is c) (z-small s.args.longitude s.args.z s.requires.z_value)

height-is : (c : After-magnitude-size) → 3 * (10 ^ 18 - c.magnitude-size.result) ≡ height_of c.args.z
unfolding height_of
height-is c = ap (λ (y : ℕ). 3 * (10 ^ 18 - y)) (size_is c)

height-lt : (c : After-magnitude-size) → 3 * (10 ^ 18 - c.magnitude-size.result) < 10 ^ 18
height-lt c = let s = c in rw (height-is c) (height-small s.args.z s.requires.z_value_2)

sign-is : (c : After-is_negative-south) → c.is_negative-south.result ≡ negative c.args.z
sign-is c = c.is_negative-south.ensures ∙ ap negative (back c.ranges.z)

face-small : (b : Bool) → cond b 5 0 ≤ 5
face-small true = omega arith
face-small false = omega arith

-- the cell at a cap's end, by the sign
cap-cell : (a : Arrangement) (k east : ℕ) (z : ℤ) {t : ℕ} (b : Bool) → b ≡ negative z → t ≡ height_of z → is_belt z ≡ false → cap_cell
    (cond b 5 0) k t (turned_end a b east) ≡ place_cell a k east z
unfolding south_cell north_cell
cap-cell a k east z true s h o = ap (south_cell a.south k east) h ∙ sym (place-south a k east z o (below-zero z ∙ sym s))
cap-cell a k east z false s h o = ap (north_cell a.north k east) h ∙ sym (place-north a k east z o (below-zero z ∙ sym s))

pub east_of-east-requires : goal.east_of-east-requires
east_of-east-requires c =
    let r = c.requires.z_value in
    rw (back c.ranges.longitude) (record { longitude_value = longitude-low c.args.longitude c.args.z r; pos_bound = shifted-small c.args.longitude c.args.z r })

pub overflow_sub-height : goal.overflow_sub-height
overflow_sub-height c = omega (arith, size-le (goal.at.overflow_sub-height c).After-magnitude-size)

pub cap_code-requires : goal.cap_code-requires
cap_code-requires c =
    let o = c.end_of-end.ensures in
    record {
      arrangement = c.requires.arrangement;
      face_bound = rw c.cap_face.ensures (face-small c.is_negative-south.result);
      resolution_bound = c.requires.resolution_bound;
      height_bound = height-lt (goal.at.cap_code-requires c).After-magnitude-size;
      size_le_quarter = o.first_small;
      size_le_quarter_2 = o.second-small;
    }

pub returns : goal.returns
returns c =
    let a = c.args in
    let g = arranged a.n a.s in
    let south : Bool = c.is_negative-south.result in
    let t : ℕ = 3 * (10 ^ 18 - c.magnitude-size.result) in
    c.cap_code.ensures
    ∙ ap (code_of g)
    (stands-cell c.cap_face.result a.resolution t _ _ c.end_of-end.ensures
    ∙ ap (λ (y : ℕ). cap_cell y a.resolution t (turned_end g south c.east_of-east.result)) c.cap_face.ensures
    ∙ cap-cell g a.resolution c.east_of-east.result a.z south (sign-is (goal.at.returns c).After-is_negative-south) (height-is (goal.at.returns c).After-magnitude-size) c.requires.z_value_2
    ∙ ap (λ (y : ℕ). place_cell g a.resolution y a.z) (east-is (goal.at.returns c).After-east_of-east)
    ∙ fix-place g a.resolution a.longitude a.z)
