-- The ground nucleus of every cell, in every arrangement and at every resolution: it names its cell again, and it is what the rules send to the
-- nucleus, floored. Assumes nothing.
use Rattle.std.specs.Prelude.{◌≡◌, Bool, pos, neg_ℤ, nat_abs, ◌*ℤ◌}
use Rattle.std.proofs.Math.Path.{refl}
use Rattle.std.proofs.Common.{sym, ap, ◌∙◌, subst, mul-pos, arith}
use Rattle.std.proofs.Math.Bool.{true, false}
use Prim.Native.Nat.{ℕ, ◌+◌, ◌-◌, ◌*◌, ◌/◌, ◌%◌, ◌^◌, ◌≤◌, ◌<◌}
use Rattle.std.proofs.Math.IntN.{ℤ, sub_ℕ}
use Rattle.ternary.proofs.Laws.Powers.{power_pos}
use Rattle.cell.specs.declared.Cell.{Cell}
use Rattle.cell.specs.declared.Arrangement.{Arrangement}
use Rattle.cell.specs.Cell.{IsCell, IsArrangement}
use Rattle.cell.specs.Neighbour.{by_face, belt, rows}
use Rattle.locate.specs.Fix.{quarter, in_range, fix_cell}
use Rattle.nucleus.specs.declared.Fix.{Fix}
use Rattle.nucleus.specs.Nucleus.{Sent, SentToBelt, SentToCap, floor_z, fix, cap_longitude, belt_longitude, belt_z, ground_nucleus}
use Rattle.nucleus.specs.Internal.Caps.{cap_face, first_in, cap_point, cap_z, Beyond, sided, row_seen, pole_of, rise}
use Rattle.nucleus.specs.Internal.Triangle.{IsStart}
use Rattle.nucleus.specs.Internal.MirrorLaws.{sided-size, sided-sign, sided-fraction}
use Rattle.nucleus.specs.Internal.PlaceLaws.{by-belt, first_small, on-pole, by_place}
use Rattle.nucleus.specs.Internal.BeltLaws.{Names, belt-again}
use Rattle.nucleus.specs.Internal.CapLaws.{z-is, cap-again, pole-again}
use Rattle.nucleus.specs.Internal.SentLaws.{east-lt, east-floored, cap_east, sent-belt, sent-cap, sent-pole}
use Rattle.nucleus.specs.Internal.FractionLaws.{Known, east-same, rise-same}
use Rattle.nucleus.specs.Internal.OnceLaws.{known-belt, known-cap, flat-cap}

-- ---- demand 2: "each cell's nucleus, taken to the ground and cut to whole units, names that cell again"

pub again :
    {a : Arrangement} {c : Cell} → IsArrangement a → IsCell c →
    (in_range (ground_nucleus a c).longitude (ground_nucleus a c).z ≡ true) × (fix_cell a c.resolution (ground_nucleus a c).longitude (ground_nucleus a c).z ≡ c)
again {a} {c} w v =
    by_place a c (λ f. Names a c f.longitude f.z) v (λ b h f. belt-again a b v h f) (λ south f p q. pole-again south a f q p)
    (λ south f r h e s. cap-again south a r h e (first_small w south) v f s)

-- "a polar nucleus gets -1,800,000,000"
pub polar :
    (a : Arrangement) (c : Cell) → 2 * c.row + 1 ≡ rows c → 2 * c.column + 1 ≡ rows c →
    (c.face ≡ 0 → ground_nucleus a c ≡ fix (neg_ℤ (pos 1800000000)) (pos (10 ^ 18))) × (c.face ≡ 5 → ground_nucleus a c ≡ fix (neg_ℤ (pos 1800000000)) (neg_ℤ (pos (10 ^ 18))))
polar a c i j = (λ f. on-pole a c false f j i, λ f. on-pole a c true f j i)

-- ---- "the real longitude and z that these rules .. send to the nucleus, each then floored to a whole unit"

abbrev IsSent : Arrangement → Cell → Fix → Type 0
IsSent a c f =
    (e : ℕ) × (d : ℕ) × (u : ℤ) × (v : ℕ) × Sent a c e d u v × (f.longitude ≡ sub_ℕ (e / d) 1800000000) × (f.z ≡ floor_z u v)

-- where the middle lies, by the face
module _ (a : Arrangement) (c : Cell) (e d : ℕ) (u : ℤ) (v : ℕ) where
  abbrev InCap : Bool → Type 0
  InCap south = Beyond south u × ((g : ℕ) × (f : ℕ) × SentToCap c (cap_point south (first_in south a) e d) d u v g f)

  abbrev In : ℕ → Type 0
  In f = by_face f (InCap false) (λ b. SentToBelt c e d u v) (InCap true)

  in-belt : (b : ℕ) → b < 4 → c.face ≡ belt b → In c.face ≡ SentToBelt c e d u v
  in-belt b h f = by-belt c.face b (InCap false) (λ x. SentToBelt c e d u v) (InCap true) h f

  in_cap : (south : Bool) → c.face ≡ cap_face south → In c.face ≡ InCap south
  in_cap true f = ap In f
  in_cap false f = ap In f

side-pos : (c : Cell) → 0 < 3 * (rows c * rows c)
side-pos c = let p = mul-pos (power_pos c.resolution) (power_pos c.resolution) in omega arith

-- a longitude in face b of O to R, x/d units from its western edge, and a z
is-sent :
    (a : Arrangement) (c : Cell) (b d x : ℕ) (u : ℤ) (v : ℕ) {f : Fix} → 0 < d → 0 < v → b < 4 → x < d * quarter →
    In a c (b * (d * quarter) + x) d u v c.face → f.longitude ≡ sub_ℕ (b * quarter + x / d) 1800000000 → f.z ≡ floor_z u v → IsSent a c f
is-sent a c b d x u v d0 v0 h l t p q = (
  b * (d * quarter) + x,
  d,
  u,
  v,
  record { longitude = d0; sine = v0; range = east-lt b d x l h; middle = t },
  p ∙ ap (λ (y : ℕ). sub_ℕ y 1800000000) (sym (east-floored b d x l d0)),
  q,
)

module _ (a : Arrangement) {c : Cell} (v : IsCell c) where
  belt-sent : (b : ℕ) → b < 4 → c.face ≡ belt b → IsSent a c (fix (belt_longitude (rows c) b c.column) (belt_z (rows c) c.row))
  unfolding belt_longitude belt_z
  belt-sent b h f =
      let m : ℕ = rows c in
      let k = v.columned in
      let x : ℕ = 450000000 * (2 * c.column + 1) in
      let u : ℤ = sub_ℕ (2000000000000000000 * m) (2000000000000000000 * (2 * c.row + 1)) in
      is-sent a c b m x u (3 * m) (omega arith) (omega arith) h (omega arith)
      (subst (λ (X : Type 0). X) (sym (in-belt a c (b * (m * quarter) + x) m u (3 * m) b h f)) (sent-belt b v h f)) refl refl

  cap-sent :
      (south : Bool) (r h e : ℕ) → first_in south a ≤ 3 → c.face ≡ cap_face south →
      IsStart (rows c) (2 * c.column + 1) (row_seen south (rows c) (2 * c.row + 1)) r h e →
      IsSent a c (fix (cap_longitude (first_in south a) r h e) (cap_z south (rows c) h))
  unfolding cap_longitude
  cap-sent south r h e hn f s =
      let m : ℕ = rows c in
      let n : ℕ = first_in south a in
      let u : ℤ = sided south (pos (rise m h)) in
      let w = s.within in
      let t = sent-cap south n r h e v hn s in
      is-sent a c ((n + r) % 4) h (450000000 * e) u (3 * (m * m)) s.tall (side-pos c) (omega arith) (omega arith)
      (subst (λ (X : Type 0). X) (sym (in_cap a c (cap_east n r h e) h u (3 * (m * m)) south f)) (t.0, (h, m, t.1))) refl (sym (z-is south m h s.low))

  -- the poles: at the western edge of face O
  pole-sent : (south : Bool) → c.face ≡ cap_face south → 2 * c.column + 1 ≡ rows c → 2 * c.row + 1 ≡ rows c → IsSent a c (pole_of south)
  unfolding floor_z
  pole-sent south f p q =
      let u : ℤ = (pole_of south).z in
      let t = sent-pole c (cap_point south (first_in south a) 0 1) u (sided-size south (pos (10 ^ 18))) q p in
      is-sent a c 0 1 0 u 1 (omega arith) (omega arith) (omega arith) (omega arith)
      (subst (λ (X : Type 0). X) (sym (in_cap a c 0 1 u 1 south f)) ((sided-sign south (10 ^ 18) (omega arith)).1, (0, 1, t))) refl (whole south)
    where
      whole : (t : Bool) → (pole_of t).z ≡ floor_z (pole_of t).z 1
      whole true = refl
      whole false = refl

pub sent :
    {a : Arrangement} {c : Cell} → IsArrangement a → IsCell c →
    (e : ℕ) × (d : ℕ) × (u : ℤ) × (v : ℕ) × Sent a c e d u v × ((ground_nucleus a c).longitude ≡ sub_ℕ (e / d) 1800000000) × ((ground_nucleus a c).z ≡ floor_z u v)
sent {a} {c} w v =
    by_place a c (IsSent a c) v (λ b h f. belt-sent a v b h f) (λ south f p q. pole-sent a v south f p q)
    (λ south f r h e s. cap-sent a v south r h e (first_small w south) f s)

-- ---- no other fractions are sent there: z is one, and so is the longitude but at a pole, where |z| is 10^18

abbrev Same : (e d : ℕ) → ℤ → ℕ → (e d : ℕ) → ℤ → ℕ → Type 0
Same e d u v e' d' u' v' = (pos v' *ℤ u ≡ pos v *ℤ u') × ((nat_abs u ≡ 10 ^ 18 * v → ⊥) → e * d' ≡ e' * d)

known_same :
    {E D : ℕ} {U : ℤ} {K e d : ℕ} {u : ℤ} {v e' d' : ℕ} {u' : ℤ} {v' : ℕ} → 0 < D → 0 < K → Known E D U K e d u v → Known E D U K e' d' u' v' →
    Same e d u v e' d' u' v'
known_same {E} {D} {U} {K} {e} {d} {u} {v} {e'} {d'} {u'} {v'} D0 K0 s t =
    (rise-same U K u v u' v' K0 s.rise t.rise, λ n. east-same E D e d e' d' D0 s.east t.east)

-- what one of them is known to be, by the place of the cell
module _ {a : Arrangement} {c : Cell} {e d : ℕ} {u : ℤ} {v : ℕ} (w : IsCell c) (s : Sent a c e d u v) where
  belt-known :
      (b : ℕ) → b < 4 → c.face ≡ belt b →
      Known (b * (rows c * quarter) + 450000000 * (2 * c.column + 1)) (rows c)
      (sub_ℕ (2000000000000000000 * rows c) (2000000000000000000 * (2 * c.row + 1))) (3 * rows c) e d u v
  belt-known b h f = known-belt b f (subst (λ (X : Type 0). X) (in-belt a c e d u v b h f) s.middle)

  module _ (south : Bool) (f : c.face ≡ cap_face south) where
    in-its-cap : InCap a c e d u v south
    in-its-cap = subst (λ (X : Type 0). X) (in_cap a c e d u v south f) s.middle

    pole-known :
        2 * c.column + 1 ≡ rows c → 2 * c.row + 1 ≡ rows c →
        (nat_abs u ≡ 1000000000000000000 * v) × (pos 1 *ℤ u ≡ pos v *ℤ sided south (pos 1000000000000000000))
    pole-known p q =
        let z = flat-cap south (first_in south a) e s.longitude w.rowed in-its-cap.1.2 p q in
        (z, sided-fraction south 1 v 1000000000000000000 u in-its-cap.0 (omega arith))

    cap-known :
        (r h o : ℕ) → first_in south a ≤ 3 → IsStart (rows c) (2 * c.column + 1) (row_seen south (rows c) (2 * c.row + 1)) r h o →
        Known (cap_east (first_in south a) r h o) h (sided south (pos (rise (rows c) h))) (3 * (rows c * rows c)) e d u v
    cap-known r h o hn k =
        known-cap south (first_in south a) e s.longitude w.rowed in-its-cap.1.2 r h o hn s.range in-its-cap.0 k

pub sent-once :
    {a : Arrangement} {c : Cell} {e d : ℕ} {u : ℤ} {v e' d' : ℕ} {u' : ℤ} {v' : ℕ} → IsArrangement a → IsCell c → Sent a c e d u v → Sent a c e' d' u' v' →
    (pos v' *ℤ u ≡ pos v *ℤ u') × ((nat_abs u ≡ 10 ^ 18 * v → ⊥) → e * d' ≡ e' * d)
sent-once {a} {c} {e} {d} {u} {v} {e'} {d'} {u'} {v'} w k s t =
    let m = power_pos c.resolution in
    by_place a c (λ x. Same e d u v e' d' u' v') k
    (λ b h f. known_same m (omega arith) (belt-known k s b h f) (belt-known k t b h f))
    (λ south f p q.
    let z = pole-known k s south f p q in
    (rise-same (sided south (pos 1000000000000000000)) 1 u v u' v' (omega arith) z.1 (pole-known k t south f p q).1, λ n. absurd (n z.0)))
    (λ south f r h o i.
    let n = first_small w south in known_same i.tall (side-pos c) (cap-known k s south f r h o n i) (cap-known k t south f r h o n i))
