-- A setting can be used exactly where its numbers are in range, and a line's refusal is the setting's, then 6. Assumes nothing.
use Rattle.std.proofs.Math.Path.{◌≡◌, refl, sym, ap}
use Rattle.std.proofs.Common.{◌∙◌, arith, ltb-false, lt-ltb, le-ltb, leb-true, leb-false}
use Rattle.std.specs.Prelude.{◌↔◌, Bool, ◌&&◌, not, List, ℕ, zero, suc, ℤ, leb, ltb, Err, None, Ok, Option, Result, Some}
use Rattle.std.proofs.Math.Bool.{true, false}
use Rattle.logic.specs.Laws.Bools.{clash, refuted}
use Rattle.logic.specs.Refusal.{refuse, ◌otherwise◌}
use Rattle.logic.specs.Laws.Refusal.{both, passes, allowed}
use Rattle.cell.specs.declared.Arrangement.{Arrangement}
use Rattle.cell.specs.Cell.{arrangement_refusal}
use Rattle.cell.proofs.Laws.Cell.{is-arrangement, arrangement-is}
use Rattle.code.specs.Code.{code_of, coded, refusal_in}
use Rattle.locate.specs.Fix.{InRange, in_range, fix_refusal}
use Rattle.locate.proofs.Laws.Fix.{within-range, range-holds}
use Rattle.authalic.specs.Authalic.{eccentricity_refusal}
use Rattle.geodetic.specs.GeodeticFix.{in_geodetic_range, geodetic_refusal}
use Rattle.decimal.specs.Decimal.{fix_in}
use Rattle.flight.specs.declared.Latitude.{Latitude}
use Rattle.flight.specs.declared.Latitude.TheVariants.{Authalic, Geodetic}
use Rattle.flight.specs.declared.Setting.{Setting}
use Rattle.flight.specs.Setting.{UsableLatitude, UsableSetting, latitude_refusal, setting_refusal}
use Rattle.flight.specs.Flight.{line_refusal, line_cell, fix_coded, no_fix, of_line, line_code}

latitude-usable : (x : Latitude) → latitude_refusal x ≡ 0 → UsableLatitude x
unfolding eccentricity_refusal
latitude-usable Authalic e = tt
latitude-usable (Geodetic E) e = ltb-false 10000000000 E (allowed 5 _ e)

usable-latitude : (x : Latitude) → UsableLatitude x → latitude_refusal x ≡ 0
unfolding eccentricity_refusal
usable-latitude Authalic u = refl
usable-latitude (Geodetic E) u = ap (λ (t : Bool). refuse t 6) (le-ltb 10000000000 E u)

pub usable-exactly : (s : Setting) → (setting_refusal s ≡ 0) ↔ UsableSetting s
unfolding setting_refusal
usable-exactly s = (to, from)
  where
    to : setting_refusal s ≡ 0 → UsableSetting s
    to e =
        let p = both _ _ e in
        let q = both _ _ p.1 in
        record { arrangement = is-arrangement p.0; fine = ltb-false 15 s.resolution (allowed 1 _ q.0); latitude = latitude-usable s.latitude q.1 }

    from : UsableSetting s → setting_refusal s ≡ 0
    from u =
        passes _ (arrangement-is u.arrangement) ∙ passes _ (ap (λ (t : Bool). refuse t 2) (le-ltb 15 s.resolution u.fine))
        ∙ usable-latitude s.latitude u.latitude

-- ---- a line

-- 5, 2 and then r
abbrev after : Setting → ℕ → ℕ
after s r = arrangement_refusal s.arrangement otherwise refuse (ltb 15 s.resolution) 2 otherwise r

otherwise-last : (r q p : ℕ) → (r otherwise q) otherwise p ≡ r otherwise (q otherwise p)
unfolding ◌otherwise◌
otherwise-last zero q p = refl
otherwise-last (suc r) q p = refl

above_most : (E : ℕ) → not (leb E 10000000000) ≡ ltb 10000000000 E
above_most E = go (leb E 10000000000) refl
  where
    go : (t : Bool) → leb E 10000000000 ≡ t → not t ≡ ltb 10000000000 E
    go true e = sym (le-ltb 10000000000 E (leb-true E 10000000000 e))
    go false e = sym (lt-ltb 10000000000 E (leb-false E 10000000000 e))

-- 6 stands last, whatever the eccentricity
six-last : (t : Bool) → refuse t 6 otherwise 6 ≡ 6
unfolding ◌otherwise◌
six-last true = refl
six-last false = refl

latitude-last : (x : Latitude) → latitude_refusal x otherwise 6 ≡ 6
unfolding eccentricity_refusal ◌otherwise◌
latitude-last Authalic = refl
latitude-last (Geodetic E) = six-last (ltb 10000000000 E)

in-range : (x : Latitude) (a : Arrangement) (k : ℕ) (L second : ℤ) (t : Bool) → in_range L second ≡ t →
    let s : Setting = record { arrangement = a; resolution = k; latitude = x } in
    line_refusal s L second ≡ after s (refuse (not t) 6 otherwise latitude_refusal x)
unfolding line_refusal fix_refusal geodetic_refusal in_geodetic_range eccentricity_refusal ◌otherwise◌
in-range Authalic a k L z true e = ap (λ (b : Bool). arrangement_refusal a otherwise refuse (ltb 15 k) 2 otherwise refuse (not b) 6) e
in-range Authalic a k L z false e = ap (λ (b : Bool). arrangement_refusal a otherwise refuse (ltb 15 k) 2 otherwise refuse (not b) 6) e
in-range (Geodetic E) a k L S true e =
    ap (λ (b : Bool). arrangement_refusal a otherwise refuse (ltb 15 k) 2 otherwise refuse (not (b && leb E 10000000000)) 6) e
    ∙ ap (λ (b : Bool). arrangement_refusal a otherwise refuse (ltb 15 k) 2 otherwise refuse b 6) (above_most E)
in-range (Geodetic E) a k L S false e =
    ap (λ (b : Bool). arrangement_refusal a otherwise refuse (ltb 15 k) 2 otherwise refuse (not (b && leb E 10000000000)) 6) e

-- a fix with longitude and second number in range is refused as the setting is
pub in-range-refused : (s : Setting) (L second : ℤ) → InRange L second → line_refusal s L second ≡ setting_refusal s
unfolding setting_refusal ◌otherwise◌
in-range-refused s L second h = in-range s.latitude s.arrangement s.resolution L second true (within-range h)

setting-last : (s : Setting) → setting_refusal s otherwise 6 ≡ after s 6
unfolding setting_refusal
setting-last s =
    otherwise-last (arrangement_refusal s.arrangement) (refuse (ltb 15 s.resolution) 2 otherwise latitude_refusal s.latitude) 6
    ∙ ap (λ (q : ℕ). arrangement_refusal s.arrangement otherwise q)
    (otherwise-last (refuse (ltb 15 s.resolution) 2) (latitude_refusal s.latitude) 6 ∙ ap (λ (q : ℕ). refuse (ltb 15 s.resolution) 2 otherwise q) (latitude-last s.latitude))

refused-last : (q code : ℕ) → coded (q otherwise 6) code ≡ Err (q otherwise 6)
unfolding coded ◌otherwise◌
refused-last zero code = refl
refused-last (suc q) code = refl

-- and one out of range is answered as a line that is no fix
pub out-of-range-refused : (s : Setting) (L second : ℤ) → (InRange L second → ⊥) → fix_coded s L second ≡ no_fix s
unfolding fix_coded no_fix ◌otherwise◌
out-of-range-refused s L second h =
    ap (λ (r : ℕ). coded r (code_of s.arrangement (line_cell s L second)))
    (in-range s.latitude s.arrangement s.resolution L second false (refuted (in_range L second) (λ e. h (range-holds e))) ∙ sym (setting-last s))
    ∙ refused-last (setting_refusal s) (code_of s.arrangement (line_cell s L second))

-- where the setting can be used, a line is refused with 6 or not at all
module _ (s : Setting) (u : UsableSetting s) where
  no-fix-six : no_fix s ≡ Err 6
  unfolding no_fix ◌otherwise◌
  no-fix-six = ap (λ (r : ℕ). Err (r otherwise 6)) ((usable-exactly s).1 u)

  refused-six : (c : Result ℕ ℕ) → c ≡ Err 6 → (r : ℕ) → c ≡ Err r → r ≡ 6
  refused-six c e r f = ap refusal_in (sym f ∙ e)

  fix-six : (L second : ℤ) (r : ℕ) → fix_coded s L second ≡ Err r → r ≡ 6
  unfolding fix_coded coded
  fix-six L second r e = go (in_range L second) refl
    where
      go : (t : Bool) → in_range L second ≡ t → r ≡ 6
      go true i =
          let z : line_refusal s L second ≡ 0 = in-range-refused s L second (range-holds i) ∙ (usable-exactly s).1 u in
          let f : Ok (code_of s.arrangement (line_cell s L second)) ≡ Err r = sym (ap (λ (q : ℕ). coded q (code_of s.arrangement (line_cell s L second))) z) ∙ e in
          let k : ◌≡◌ {A = ℕ} 0 1 = cc in absurd (omega arith)
      go false i = refused-six _ (out-of-range-refused s L second (λ h. clash (sym (within-range h) ∙ i)) ∙ no-fix-six) r e

  pub line-six : (line : List ℕ) (r : ℕ) → line_code s line ≡ Err r → r ≡ 6
  unfolding line_code of_line
  line-six line r e = go (fix_in line) e
    where
      go : (l : Option (ℤ × ℤ)) → of_line s l ≡ Err r → r ≡ 6
      go (Some (L, second)) f = fix-six L second r f
      go None f = refused-six _ no-fix-six r f
