-- The place of refusal 9 of a looser text is the length of the longest leading part that some looser text begins with. Assumes nothing.
use Rattle.std.specs.Prelude.{◌≡◌, refl, false, List, [], ◌∷◌, ◌++◌, ℕ, ◌+◌, ◌-◌, ◌≤◌, ◌<◌, length, take, drop, get_or, ltb}
use Rattle.std.proofs.Common.{sym, ap, ap₂, subst, ◌∙◌, ⊎_elim, append_assoc, arith, length-append, length-drop, take-append-drop, take-add, take_all, take-take, length-take-le, drop_at, ltb-true, ltb-false}
use Rattle.logic.specs.Longest.{BeginsOne, LongestOf}
use Rattle.logic.specs.Laws.Bools.{by_cond}
use Rattle.logic.specs.Laws.Longest.{shorter}
use Rattle.logic.specs.Laws.Order.{lt-or}
use Rattle.reading.specs.declared.Level.TheVariants.{Faces}
use Rattle.reading.specs.declared.Profile.TheVariants.{Full}
use Rattle.reading.specs.Reading.{Nodes, end, render}
use Rattle.reading.specs.Text.{heading, ReadsAs}
use Rattle.reading.specs.Heading.{lead}
use Rattle.reading.proofs.Laws.Heading.{lead-length, lead-alike}
use Rattle.reading.proofs.Laws.Loose.{good-loose}
use Rattle.loose.specs.LooseText.{LooseBody, LooseAs, IsBody, LooseText, LooseLongest}
use Rattle.loose.specs.LooseScan.{least_one, greatest_one, lead_one, scan, loose_place}
use Rattle.loose.proofs.Laws.Scan.{scan-longest}
use Rattle.loose.proofs.Laws.Heading.{lead-one, head-north, head-south, head-one, filled_one, filled-one}

-- a text of version 1 is a looser text
pub reads_loose : {n s : ℕ} {t : List ℕ} {ns : Nodes} → ReadsAs Full n s t ns → LooseAs n s t ns
reads_loose {n} {s} {t} {ns} r =
    record { north = r.north; south = r.south; loose = good-loose ns Faces 15 15 0 (omega arith) r.body.good; all = r.body.all }

module _ (t : List ℕ) where
  abbrev k : ℕ
  k = lead_one t

  -- the leading part begins a heading
  head-begun : k < 7 → BeginsOne LooseText (take k t)
  head-begun h =
      let u : List ℕ = filled_one t in
      let l : 7 ≤ lead_one u = omega (arith, filled-one t) in
      let n : ℕ = get_or u 5 0 - 48 in
      let s : ℕ = get_or u 6 0 - 48 in
      let e : u ≡ heading Full n s ++ drop 7 u = head-one u l in
      let z : length u ≡ 7 =
      length-append (take k t) (drop k least_one) ∙ omega (arith, length-take-le k t (lead-length least_one greatest_one t), length-drop k least_one) in
      let d : length (drop 7 u) ≡ 0 = omega (arith, length-drop 7 u) in (
        drop k least_one,
        (
          n,
          s,
          end,
          record { north = head-north u l; south = head-south u l; loose = tt; all = e ∙ ap (λ (x : List ℕ). heading Full n s ++ x) (none (drop 7 u) d) },
        ),
      )
    where
      none : (x : List ℕ) → length x ≡ 0 → x ≡ render Faces end
      none [] e = refl
      none (b ∷ x) e = absurd (omega arith)

  -- what a looser text begins with, of at most seven bytes, is as in a heading
  in_head : (j : ℕ) → j ≤ length t → j ≤ 7 → BeginsOne LooseText (take j t) → j ≤ k
  in_head j h i z =
      let r = z.1.3 in
      let e : length (take j t) ≡ j = length-take-le j t h in
      let a : lead_one (take j t ++ z.0) ≡ 7 = ap lead_one r.all ∙ lead-one z.1.0 z.1.1 (render Faces z.1.2) r.north r.south in
      let b : length (take j t) ≤ lead_one (take j t ++ drop j t) = lead-alike least_one greatest_one (take j t) z.0 (drop j t) (omega arith) in
      let c : length (take j t) ≤ lead_one t = rw take-append-drop at b in
      omega arith

  place-head : k < 7 → LooseLongest t k
  place-head h =
      record {
        within = lead-length least_one greatest_one t;
        begun = head-begun h;
        longest =
            λ j i z.
            ⊎_elim (λ x. absurd (let y = in_head 7 (omega arith) (omega arith) (shorter LooseText t 7 j (omega arith) z) in omega arith))
            (λ x. in_head j i x z) (lt-or 7 j);
      }

  -- or it lies in the body
  module _ (h : 7 ≤ k) where
    abbrev n : ℕ
    n = get_or t 5 0 - 48

    abbrev s : ℕ
    s = get_or t 6 0 - 48

    body : LongestOf IsBody (drop 7 t) (scan 0 false (drop 7 t))
    body = scan-longest (drop 7 t)

    long : 7 ≤ length t
    long = omega (arith, lead-length least_one greatest_one t)

    front : take 7 t ≡ heading Full n s
    front = ap (take 7) (head-one t h)

    begun-body : (i : ℕ) → BeginsOne IsBody (take i (drop 7 t)) → BeginsOne LooseText (take (7 + i) t)
    begun-body i z =
        let b : take (7 + i) t ++ z.0 ≡ heading Full n s ++ render Faces z.1.0 =
        ap (λ (x : List ℕ). x ++ z.0) (take-add 7 i t) ∙ append_assoc (take 7 t) (take i (drop 7 t)) z.0
        ∙ ap₂ (λ (x y : List ℕ). x ++ y) front z.1.1.all in
        (z.0, (n, s, z.1.0, record { north = head-north t h; south = head-south t h; loose = z.1.1.loose; all = b }))

    body-begun : (i : ℕ) → BeginsOne LooseText (take (7 + i) t) → BeginsOne IsBody (take i (drop 7 t))
    body-begun i z =
        let r = z.1.3 in
        let f : take 7 t ++ (take i (drop 7 t) ++ z.0) ≡ heading Full z.1.0 z.1.1 ++ render Faces z.1.2 =
        sym (append_assoc (take 7 t) (take i (drop 7 t)) z.0) ∙ ap (λ (x : List ℕ). x ++ z.0) (sym (take-add 7 i t)) ∙ r.all in
        let d : take i (drop 7 t) ++ z.0 ≡ render Faces z.1.2 =
        sym (drop_at (take 7 t) (take i (drop 7 t) ++ z.0) 7 (length-take-le 7 t long)) ∙ ap (drop 7) f in
        (z.0, (z.1.2, record { loose = r.loose; all = d }))

    place-body : LooseLongest t (7 + scan 0 false (drop 7 t))
    place-body =
        record {
          within = omega (arith, long, body.within, length-drop 7 t);
          begun = begun-body (scan 0 false (drop 7 t)) body.begun;
          longest =
              λ j i z.
              ⊎_elim (λ x. omega arith)
              (λ x.
              let e : j ≡ 7 + (j - 7) = omega arith in
              omega (arith, body.longest (j - 7) (omega (arith, length-drop 7 t)) (body-begun (j - 7) (subst (λ (y : ℕ). BeginsOne LooseText (take y t)) e z))))
              (lt-or j 7);
        }

  -- "its place read from that form"
  pub loose-place : LooseLongest t (loose_place t)
  unfolding loose_place
  loose-place = by_cond (LooseLongest t) (ltb k 7) (λ e. place-head (ltb-true _ _ e)) (λ e. place-body (ltb-false _ _ e))
