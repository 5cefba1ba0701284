-- The place is the length of the longest leading part that some accepted text begins with, and there is only one such length. Assumes nothing.
use Rattle.std.specs.Prelude.{◌≡◌, refl, Bool, cond, List, ◌++◌, ℕ, ◌+◌, ◌-◌, ◌≤◌, ◌<◌, length, drop, take, get_or, ltb}
use Rattle.std.proofs.Common.{sym, ap, ap₂, subst, ◌∙◌, ⊎_elim, append-nil, append_assoc, arith, take-append-drop, length-drop, take-add, take-take, take_at, length-take-le, drop_at, ltb-true, ltb-false, eq-eqb}
use Rattle.std.proofs.Math.ListN.{get_or-append}
use Rattle.std.proofs.Math.Seq.{take-length}
use Rattle.logic.specs.Laws.Bools.{by_cond}
use Rattle.logic.specs.Laws.Order.{lt-or}
use Rattle.logic.specs.Longest.{BeginsOne, LongestOf}
use Rattle.reading.specs.declared.Profile.{Profile}
use Rattle.reading.specs.declared.Profile.TheVariants.{Full, Handheld}
use Rattle.reading.specs.Reading.{Nodes, end, render}
use Rattle.reading.proofs.Laws.Reading.{six-faces}
use Rattle.reading.specs.Text.{IsProfile, level_of, depth_of, heading, heading_length, Accepted, ReadsAs, Body}
use Rattle.reading.specs.Scan.{scan, start}
use Rattle.reading.proofs.Internal.ScanLaws.{scan-longest}
use Rattle.reading.specs.Heading.{least, greatest, lead, profile_in}
use Rattle.reading.proofs.Laws.Heading.{lead-most, lead-length, lead-alike, take_head, drop_head, heading-least, Heads, filled, filled-head, lead-head, head_of, same_length, same-profile}
use Rattle.reading.proofs.Laws.Fits.{faces-of}
use Rattle.reading.specs.Place.{Begins, Longest, place_by, place_of}

-- ---- the place

-- a leading part of the bytes in their bounds begins a heading
module _ (t : List ℕ) (h : lead least greatest t < heading_length (profile_in t)) where
  abbrev k : ℕ
  k = lead least greatest t

  most : (k ≤ 8) × (k ≤ length t)
  most = lead-most least greatest t

  empty : (p : Profile) (n s : ℕ) → IsProfile p → n ≤ 3 → s ≤ 3 → Accepted (heading p n s)
  empty p n s q a b = (p, n, s, end, record { profiled = q; north = a; south = b; body = record { good = tt; all = sym (append-nil (heading p n s)) } })

  whole : Heads (filled t) → Begins (take k t)
  whole f = (drop k least, subst Accepted (sym f.6) (empty f.0 f.1 f.2 f.3 f.4 f.5))

  -- a heading of version 1 has seven bytes, and so the part has fewer
  fewer : get_or (filled t) 4 0 ≡ 1 → k ≤ 7
  fewer e =
      ⊎_elim (λ l. omega arith)
      (λ l.
      let b : get_or t 4 0 ≡ 1 =
      ap (λ (x : List ℕ). get_or x 4 0) (sym (take-append-drop k t)) ∙ get_or-append (take k t) (drop k t) 0 4 (omega (arith, length-take-le k t most.1))
      ∙ sym (get_or-append (take k t) (drop k least) 0 4 (omega (arith, length-take-le k t most.1))) ∙ e in
      let m : heading_length (profile_in t) ≡ 7 = ap (λ (x : Bool). heading_length (cond x Full (Handheld (get_or t 7 0 - 97)))) (eq-eqb (get_or t 4 0) 1 b) in
      omega arith)
      (lt-or k 5)

  seven : get_or (filled t) 4 0 ≡ 1 → Heads (take 7 (filled t)) → Begins (take k t)
  seven e f =
      let a : take 7 (filled t) ≡ take k t ++ drop k (take 7 (filled t)) =
      sym (take-append-drop k (take 7 (filled t)))
      ∙ ap (λ (x : List ℕ). x ++ drop k (take 7 (filled t)))
      (take-take k 7 (filled t) (fewer e) ∙ take_at (take k t) (drop k least) k (length-take-le k t most.1)) in
      (drop k (take 7 (filled t)), subst Accepted (sym f.6 ∙ a) (empty f.0 f.1 f.2 f.3 f.4 f.5))

  head-begun : Begins (take k t)
  head-begun = ⊎_elim (λ f. whole f.1) (λ f. seven f.0 f.1) (filled-head t)

module _ (t : List ℕ) where
  -- a beginning that is no longer than the heading of a text that begins so
  in_head : (j : ℕ) → j ≤ length t → (z : Begins (take j t)) → j ≤ heading_length z.1.0 → j ≤ lead least greatest t
  in_head j h z k =
      let r = z.1.4 in
      let e : length (take j t) ≡ j = length-take-le j t h in
      let a : heading_length z.1.0 ≤ lead least greatest (take j t ++ z.0) =
      rw r.body.all (lead-head z.1.0 z.1.1 z.1.2 (render (level_of z.1.0) z.1.3) r.profiled r.north r.south) in
      let b : length (take j t) ≤ lead least greatest (take j t ++ drop j t) = lead-alike least greatest (take j t) z.0 (drop j t) (omega arith) in
      let c : length (take j t) ≤ lead least greatest t = rw take-append-drop at b in
      omega arith

  -- the same text begins with less
  shorter-as : (j : ℕ) (z : Begins (take j t)) (i : ℕ) → i ≤ j → (y : Begins (take i t)) × (y.1.0 ≡ z.1.0)
  shorter-as j z i h =
      let e : take i t ++ (drop i (take j t) ++ z.0) ≡ take j t ++ z.0 =
      sym (append_assoc (take i t) (drop i (take j t)) z.0)
      ∙ ap (λ (x : List ℕ). x ++ z.0) (ap (λ (x : List ℕ). x ++ drop i (take j t)) (sym (take-take i j t h)) ∙ take-append-drop i (take j t)) in
      let r = z.1.4 in
      let b : ReadsAs z.1.0 z.1.1 z.1.2 (take i t ++ (drop i (take j t) ++ z.0)) z.1.3 =
      record { profiled = r.profiled; north = r.north; south = r.south; body = record { good = r.body.good; all = e ∙ r.body.all } } in
      ((drop i (take j t) ++ z.0, (z.1.0, z.1.1, z.1.2, z.1.3, b)), refl)

  -- it lies in the heading
  place-head : lead least greatest t < heading_length (profile_in t) → Longest t (lead least greatest t)
  place-head h =
      record {
        within = lead-length least greatest t;
        begun = head-begun t h;
        longest = λ j i z. ⊎_elim (λ x. absurd (past j i z x)) (λ x. in_head j i z x) (lt-or (heading_length z.1.0) j);
      }
    where
      past : (j : ℕ) → j ≤ length t → (z : Begins (take j t)) → heading_length z.1.0 < j → ⊥
      past j i z x =
          let p = z.1.0 in
          let e : profile_in t ≡ p = same-profile t z.0 j i p z.1.1 z.1.2 (render (level_of p) z.1.3) z.1.4.body.all (omega arith) in
          let y = shorter-as j z (heading_length p) (omega arith) in
          let f = in_head (heading_length p) (omega arith) y.0 (subst (λ (o : Profile). heading_length p ≤ heading_length o) (sym y.1) (omega arith)) in
          omega (arith, ap heading_length e)

  -- or in the body
  module _ (h : heading_length (profile_in t) ≤ lead least greatest t) where
    abbrev p : Profile
    p = profile_in t

    abbrev m : ℕ
    m = heading_length p

    long : (m ≤ length t) × (7 ≤ m)
    long = (omega (arith, lead-length least greatest t), heading-least p)

    body : LongestOf (Body (level_of p) (depth_of p)) (drop m t) (scan (level_of p) (depth_of p) start (drop m t))
    body = scan-longest (level_of p) (omega (arith, six-faces (level_of p) (faces-of p))) (depth_of p) (drop m t)

    begun-body : (k : ℕ) → BeginsOne (Body (level_of p) (depth_of p)) (take k (drop m t)) → Begins (take (m + k) t)
    begun-body k z =
        let g = head_of t h in
        let a : take m t ≡ heading p g.north g.south = ap (take m) g.all ∙ take_head g.north g.south (drop m t) p in
        let b : take (m + k) t ++ z.0 ≡ heading p g.north g.south ++ render (level_of p) z.1.0 =
        ap (λ (x : List ℕ). x ++ z.0) (take-add m k t) ∙ append_assoc (take m t) (take k (drop m t)) z.0 ∙ ap₂ (λ (x y : List ℕ). x ++ y) a z.1.1.all in (
          z.0,
          (
            p,
            g.north,
            g.south,
            z.1.0,
            record { profiled = g.profiled; north = g.northern; south = g.southern; body = record { good = z.1.1.good; all = b } },
          ),
        )

    body-begun : (k : ℕ) → m + k ≤ length t → Begins (take (m + k) t) → BeginsOne (Body (level_of p) (depth_of p)) (take k (drop m t))
    body-begun k i z = go z.1.0 own z.1.1 z.1.2 z.1.3 z.1.4
      where
        own : z.1.0 ≡ p
        own =
            let o = z.1.0 in
            let x : List ℕ = render (level_of o) z.1.3 in
            let l : m ≡ heading_length o = same_length t z.0 (m + k) i o z.1.1 z.1.2 x z.1.4.body.all (omega (arith, long.1)) in
            sym (same-profile t z.0 (m + k) i o z.1.1 z.1.2 x z.1.4.body.all (omega arith))

        go : (o : Profile) → o ≡ p → (n s : ℕ) (ns : Nodes) → ReadsAs o n s (take (m + k) t ++ z.0) ns → BeginsOne (Body (level_of p) (depth_of p)) (take k (drop m t))
        go o e n s ns q =
            let r : ReadsAs p n s (take (m + k) t ++ z.0) ns = subst (λ (y : Profile). ReadsAs y n s (take (m + k) t ++ z.0) ns) e q in
            let f : take m t ++ (take k (drop m t) ++ z.0) ≡ heading p n s ++ render (level_of p) ns =
            sym (append_assoc (take m t) (take k (drop m t)) z.0) ∙ ap (λ (x : List ℕ). x ++ z.0) (sym (take-add m k t)) ∙ r.body.all in
            let d : take k (drop m t) ++ z.0 ≡ render (level_of p) ns =
            sym (drop_at (take m t) (take k (drop m t) ++ z.0) m (length-take-le m t long.0)) ∙ ap (drop m) f ∙ drop_head n s (render (level_of p) ns) p in
            (z.0, (ns, record { good = r.body.good; all = d }))

    place-body : Longest t (m + scan (level_of p) (depth_of p) start (drop m t))
    place-body =
        record {
          within = omega (arith, long.0, body.within, length-drop m t);
          begun = begun-body (scan (level_of p) (depth_of p) start (drop m t)) body.begun;
          longest = λ j i z.
              ⊎_elim (λ x. omega arith)
              (λ x.
              let e : j ≡ m + (j - m) = omega arith in
              omega (arith, body.longest (j - m) (omega (arith, length-drop m t)) (body-begun (j - m) (omega arith) (subst (λ (y : ℕ). Begins (take y t)) e z))))
              (lt-or j m);
        }

  pub place-longest : Longest t (place_of t)
  unfolding place_of place_by
  place-longest =
      by_cond (Longest t) (ltb (lead least greatest t) (heading_length (profile_in t))) (λ e. place-head (ltb-true _ _ e)) (λ e. place-body (ltb-false _ _ e))

-- "For a cut text that is its whole length."
pub place-cut : (t : List ℕ) → Begins t → place_of t ≡ length t
place-cut t b =
    let l = place-longest t in
    let p = l.longest (length t) (omega arith) (rw (take-length t) b) in
    omega (arith, l.within)
