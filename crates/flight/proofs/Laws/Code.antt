-- A line's code is a cell's, of the setting's arrangement, and that of the fix that stands on the line. Assumes nothing.
use Rattle.std.specs.Prelude.{◌≡◌, refl, true, List, ◌∷◌, ◌++◌, ℕ, zero, suc, ℤ, None, Ok, Option, Some}
use Rattle.std.proofs.Common.{sym, subst, arith}
use Rattle.std.proofs.Math.Path.{ap}
use Rattle.cell.specs.declared.Arrangement.{Arrangement}
use Rattle.cell.specs.Cell.{IsArrangement, IsCell}
use Rattle.code.specs.Code.{code_of, arrangement_of, is_code, coded, code_in}
use Rattle.code.proofs.Laws.Code.{cell-has-code, arrangement-code}
use Rattle.decimal.specs.Decimal.{fix_in, printed_number}
use Rattle.decimal.proofs.Laws.Decimal.{FitsSigned, fix-printed}
use Rattle.locate.specs.Fix.{fix_refusal, fix_cell}
use Rattle.locate.proofs.Laws.Fix.{fix-allowed}
use Rattle.authalic.specs.Authalic as Range
use Rattle.authalic.specs.Computed.{authalic_sine}
use Rattle.geodetic.specs.GeodeticFix.{geodetic_refusal, geodetic_cell}
use Rattle.geodetic.proofs.Laws.GeodeticFix.{same-refusal, geodetic-allowed}
use Rattle.flight.specs.declared.Latitude.{Latitude}
use Rattle.flight.specs.declared.Latitude.TheVariants.{Authalic, Geodetic}
use Rattle.flight.specs.declared.Setting.{Setting}
use Rattle.flight.specs.Flight.{line_refusal, line_cell, fix_coded, no_fix, of_line, line_code}

abbrev in-setting : Arrangement → (k : ℕ) → Latitude → Setting
in-setting a k x = record { arrangement = a; resolution = k; latitude = x }

coded-code : (r code c : ℕ) → coded r code ≡ Ok c → (r ≡ 0) × (code ≡ c)
unfolding coded
coded-code zero code c e = (refl, ap code_in e)
coded-code (suc r) code c e = let z : ◌≡◌ {A = ℕ} 0 1 = cc in absurd (omega arith)

-- where nothing is refused
by-latitude : (x : Latitude) (a : Arrangement) (k : ℕ) (L second : ℤ) → line_refusal (in-setting a k x) L second ≡ 0 → IsArrangement a × IsCell (line_cell (in-setting a k x) L second)
unfolding line_refusal line_cell
by-latitude Authalic a k L z e = fix-allowed a k L z e
by-latitude (Geodetic E) a k L sine e = geodetic-allowed a k L sine E e

pub line-allowed : (s : Setting) (L second : ℤ) → line_refusal s L second ≡ 0 → IsArrangement s.arrangement × IsCell (line_cell s L second)
line-allowed s L second e = by-latitude s.latitude s.arrangement s.resolution L second e

fix-code : (s : Setting) (L second : ℤ) (c : ℕ) → fix_coded s L second ≡ Ok c → (is_code c ≡ true) × (arrangement_of c ≡ s.arrangement)
unfolding fix_coded
fix-code s L second c e =
    let a : Arrangement = s.arrangement in
    let p = coded-code (line_refusal s L second) (code_of a (line_cell s L second)) c e in
    let v = line-allowed s L second p.0 in
    subst (λ (x : ℕ). (is_code x ≡ true) × (arrangement_of x ≡ a)) p.1
    (cell-has-code v.0 (line_cell s L second) v.1, arrangement-code v.0 (line_cell s L second) v.1)

of-line : (s : Setting) (l : Option (ℤ × ℤ)) (c : ℕ) → of_line s l ≡ Ok c → (is_code c ≡ true) × (arrangement_of c ≡ s.arrangement)
unfolding of_line no_fix
of-line s (Some (L, z)) c e = fix-code s L z c e
of-line s None c e = let z : ◌≡◌ {A = ℕ} 0 1 = cc in absurd (omega arith)

pub line-is-code : (s : Setting) (line : List ℕ) (c : ℕ) → line_code s line ≡ Ok c → is_code c ≡ true
unfolding line_code
line-is-code s line c e = (of-line s (fix_in line) c e).0

-- the codes of a flight are all of one arrangement
pub line-arranged : (s : Setting) (line : List ℕ) (c : ℕ) → line_code s line ≡ Ok c → arrangement_of c ≡ s.arrangement
unfolding line_code
line-arranged s line c e = (of-line s (fix_in line) c e).1

-- without an eccentricity a line `longitude z` has the code of the cell of that fix, or the refusal of it
module _ (a : Arrangement) (k : ℕ) where
  pub line-fix :
      (longitude z : ℤ) → FitsSigned longitude → FitsSigned z →
      line_code (in-setting a k Authalic) (printed_number longitude ++ (32 ∷ printed_number z)) ≡ coded (fix_refusal a k longitude z) (code_of a (fix_cell a k longitude z))
  unfolding line_code of_line fix_coded line_refusal line_cell
  line-fix longitude z h j = ap (of_line (in-setting a k Authalic)) (fix-printed longitude z h j)

  -- with one a line `longitude sine` has that of the fix with this sine
  pub line-geodetic :
      (longitude sine : ℤ) (E : ℕ) → FitsSigned longitude → FitsSigned sine →
      line_code (in-setting a k (Geodetic E)) (printed_number longitude ++ (32 ∷ printed_number sine)) ≡
      coded (geodetic_refusal a k longitude sine E) (code_of a (geodetic_cell a k longitude sine E))
  unfolding line_code of_line fix_coded line_refusal line_cell
  line-geodetic longitude sine E h j = ap (of_line (in-setting a k (Geodetic E))) (fix-printed longitude sine h j)

  -- which is the code of the fix with z, where the sine and the eccentricity are in range
  pub line-z :
      (longitude sine : ℤ) (E : ℕ) → Range.Geodetic sine E →
      coded (geodetic_refusal a k longitude sine E) (code_of a (geodetic_cell a k longitude sine E)) ≡
      coded (fix_refusal a k longitude (authalic_sine sine E)) (code_of a (fix_cell a k longitude (authalic_sine sine E)))
  unfolding geodetic_cell
  line-z longitude sine E g = ap (λ (r : ℕ). coded r (code_of a (fix_cell a k longitude (authalic_sine sine E)))) (sym (same-refusal a k longitude sine E g))
