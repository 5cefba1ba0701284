-- What checking answers, from what the heading and the list reader hand back. Assumes nothing.
use Rattle.std.specs.Prelude.{Err, None, Ok, Option, Some}
use Rattle.reader.specs.declared.NodesRead.{NodesRead}
use mathlib.Core.Path.{◌≡◌, refl, sym, ap, ap₂, subst, ◌∙◌}
use mathlib.Core.List.{List, [], ◌∷◌}
use mathlib.Core.Bool.{Bool, true, false, cond}
use Prim.Native.Nat.{ℕ, suc, ◌+◌, ◌-◌, ◌^◌, ◌≤◌, ◌<◌}
use native.Mathlib.Omega.{arith}
use lib.ListN.{length, drop, get_or}
use lib.Dec.{ltb}
use borrow.Author.Tests.{lt-ltb, le-ltb, eq-eqb, ne_eqb}
use Rattle.reading.specs.declared.Level.{Level}
use Rattle.reading.specs.declared.Profile.{Profile}
use Rattle.reading.specs.declared.Profile.TheVariants.{Full, Handheld}
use Rattle.reading.specs.Reading.{Nodes}
use Rattle.reading.specs.Parse.{Parse, bad, got, parse}
use Rattle.reading.specs.Scan.{scan, start}
use Rattle.reading.specs.Place.{place_by, place_of}
use Rattle.reading.specs.Text.{IsProfile, level_of, depth_of, heading_length}
use Rattle.reading.specs.Heading.{least, greatest, lead, profile_in}
use Rattle.reading.proofs.Laws.TextReading.{accepted-read, read-profile}
use Rattle.reading.proofs.Laws.Heading.{heading-least, lead-length, lead-bounds, head_of}
use Rattle.reading.proofs.Laws.Fits.{depth-most}
use Rattle.reading.specs.Report.{count, size_along}
use Rattle.reading.specs.TextReading.{was_read, is_text, no_text, as_text, to_end, read_by, read_text}
use Rattle.reader.specs.Check.{other_version, answer, checked_of}
use Rattle.reader.specs.Laws.Check.{refusal-13, refusal-10, refusal-9, version-short, version-early, version-late, version-other, counted-answer}
use Rattle.reader.specs.Internal.NodesRead.{of_nodes, ReadsNodes}
use Rattle.logic.specs.Laws.Answer.{some-is}

module _ (t : List ℕ) where
  pub long-answer : 65536 < length t → Err (record { refusal = 13; place = 0 }) ≡ checked_of t
  unfolding checked_of
  long-answer h = sym (ap (λ (r : ℕ). answer r t) (refusal-13 t h))

  module _ (h : length t ≤ 65536) where
    version-answer : other_version t ≡ false → read_text t ≡ no_text → Err (record { refusal = 9; place = place_of t }) ≡ checked_of t
    unfolding checked_of is_text
    version-answer e f = sym (ap (λ (r : ℕ). answer r t) (refusal-9 t h e (ap was_read f)))

    -- ---- the heading is not right

    module _ {right : ℕ} (e : right ≡ lead least greatest t) (s : right < heading_length (profile_in t)) where
      head-place : other_version t ≡ false → Err (record { refusal = 9; place = right }) ≡ checked_of t
      unfolding read_text read_by place_of place_by
      head-place v =
          let b : ltb (lead least greatest t) (heading_length (profile_in t)) ≡ true = lt-ltb (lead least greatest t) (heading_length (profile_in t)) (omega arith) in
          let f : read_text t ≡ no_text = rw b in
          let p : place_of t ≡ right = rw b (sym e) in
          ap (λ (x : ℕ). Err (record { refusal = 9; place = x })) (sym p) ∙ version-answer v f

      pub head-cut : length t < 5 → Err (record { refusal = 9; place = right }) ≡ checked_of t
      head-cut k = head-place (version-short t k)

      pub head-mark : right < 3 → Err (record { refusal = 9; place = right }) ≡ checked_of t
      head-mark k = head-place (version-early t (omega arith))

      pub head-turns : 5 ≤ right → Err (record { refusal = 9; place = right }) ≡ checked_of t
      head-turns k = head-place (version-late t (omega arith))

      pub head-version : 5 ≤ length t → 3 ≤ right → right < 5 → Err (record { refusal = 10; place = 0 }) ≡ checked_of t
      unfolding checked_of
      head-version k l m = sym (ap (λ (r : ℕ). answer r t) (refusal-10 t h (version-other t k (omega arith) (omega arith))))

-- ---- what the list reader hands back of the body

module _ (o : Profile) (n s m z : ℕ) where
  end-bad : (p : Parse) → None ≡ of_nodes m z p → to_end o n s p ≡ no_text
  unfolding to_end
  end-bad bad e = refl
  end-bad (got ns rest) e = let q : ◌≡◌ {A = ℕ} 0 1 = cc in absurd (omega arith)

  module _ (next cells sum w : ℕ) where
    end_more : (p : Parse) → Some (record { next = next; cells = cells; sum = sum; wholes = w }) ≡ of_nodes m z p → next < m → to_end o n s p ≡ no_text
    unfolding to_end
    end_more bad e h = refl
    end_more (got ns []) e h = let q = ap (λ (x : NodesRead). x.next) (some-is e) in absurd (omega arith)
    end_more (got ns (b ∷ rest)) e h = refl

    end-all : (p : Parse) → Some (record { next = next; cells = cells; sum = sum; wholes = w }) ≡ of_nodes m z p → m ≤ next → 0 < m →
        (ns : Nodes) × (to_end o n s p ≡ as_text o n s ns) × (cells ≡ count ns) × (sum ≡ size_along z ns)
    unfolding to_end
    end-all bad e h k = let q : ◌≡◌ {A = ℕ} 0 1 = cc in absurd (omega arith)
    end-all (got ns []) e h k =
        let e₁ = ap (λ (x : NodesRead). x.cells) (some-is e) in
        let e₂ = ap (λ (x : NodesRead). x.sum) (some-is e) in
        (ns, refl, e₁, e₂)
    end-all (got ns (b ∷ rest)) e h k = let q = ap (λ (x : NodesRead). x.next) (some-is e) in absurd (omega arith)

-- ---- the heading is right

module _ (t : List ℕ) (h : length t ≤ 65536) {o : Profile} (i : o ≡ profile_in t) (k : heading_length (profile_in t) ≤ lead least greatest t) where
  own : heading_length o ≤ lead least greatest t
  own = omega (arith, ap heading_length i, k)

  pub head-within : (heading_length o ≤ length t) × (7 ≤ length t)
  head-within = (omega (arith, own, lead-length least greatest t), omega (arith, own, heading-least o, lead-length least greatest t))

  pub head-depth : depth_of o ≤ 15
  head-depth = depth-most o (subst IsProfile (sym i) (head_of t k).profiled)

  -- n and s are `0` to `3`
  pub turn-north : (48 ≤ get_or t 5 0) × (get_or t 5 0 ≤ 51)
  turn-north = lead-bounds least greatest t 5 (omega (arith, own, heading-least o))

  pub turn-south : (48 ≤ get_or t 6 0) × (get_or t 6 0 ≤ 51)
  turn-south = lead-bounds least greatest t 6 (omega (arith, own, heading-least o))

  abbrev body : Parse
  body = parse (suc (length t)) (level_of o) (depth_of o) 0 (drop (heading_length o) t)

  body-read : read_text t ≡ to_end o (get_or t 5 0 - 48) (get_or t 6 0 - 48) body
  unfolding read_text read_by
  body-read = ap (λ (p : Profile). read_by p t) (sym i) ∙ rw (le-ltb (lead least greatest t) (heading_length o) own)

  abbrev wrong : ℕ
  wrong = heading_length o + scan (level_of o) (depth_of o) start (drop (heading_length o) t)

  body-place : read_text t ≡ no_text → Err (record { refusal = 9; place = wrong }) ≡ checked_of t
  unfolding place_of place_by
  body-place f =
      let p : place_of t ≡ wrong = ap (λ (q : Profile). place_by q t) (sym i) ∙ rw (le-ltb (lead least greatest t) (heading_length o) own) in
      ap (λ (x : ℕ). Err (record { refusal = 9; place = x })) (sym p) ∙ version-answer t h (version-late t (omega (arith, own, heading-least o))) f

  module _ {r : Option NodesRead} (q : ReadsNodes t (heading_length o) 0 (level_of o) (depth_of o) (9 ^ 15) r) where
    body-bad : r ≡ None → Err (record { refusal = 9; place = wrong }) ≡ checked_of t
    body-bad e =
        body-place (body-read ∙ end-bad o (get_or t 5 0 - 48) (get_or t 6 0 - 48) (length t) (9 ^ 15) body (sym e ∙ q.is (suc (length t)) (omega arith)))

    module _ {next cells sum w : ℕ} (e : r ≡ Some (record { next = next; cells = cells; sum = sum; wholes = w })) where
      body_more : next < length t → Err (record { refusal = 9; place = wrong }) ≡ checked_of t
      body_more l =
          body-place
          (body-read
          ∙ end_more o (get_or t 5 0 - 48) (get_or t 6 0 - 48) (length t) (9 ^ 15) next cells sum w body (sym e ∙ q.is (suc (length t)) (omega arith)) l)

      body-all : length t ≤ next → Ok (record { profile = o; arrangement = record { north = get_or t 5 0 - 48; south = get_or t 6 0 - 48 }; cells = cells; size = sum; body = heading_length o }) ≡ checked_of t
      body-all l =
          let a =
          end-all o (get_or t 5 0 - 48) (get_or t 6 0 - 48) (length t) (9 ^ 15) next cells sum w body (sym e ∙ q.is (suc (length t)) (omega arith)) l
          (omega (arith, head-within.1)) in
          let r = accepted-read (body-read ∙ a.1) in
          ap₂ (λ (x y : ℕ). Ok (record { profile = o; arrangement = record { north = get_or t 5 0 - 48; south = get_or t 6 0 - 48 }; cells = x; size = y; body = heading_length o })) a.2 a.3
          ∙ ap (λ (b : ℕ). Ok (record { profile = o; arrangement = record { north = get_or t 5 0 - 48; south = get_or t 6 0 - 48 }; cells = count a.0; size = size_along (9 ^ 15) a.0; body = b })) (ap heading_length (sym (read-profile r)))
          ∙ counted-answer t h r

-- ---- so it is with the level, the depth and the start that the profile tells

module _
    (t : List ℕ) (h : length t ≤ 65536) {o : Profile} (i : o ≡ profile_in t) (k : heading_length (profile_in t) ≤ lead least greatest t)
    {l : Level} {d b : ℕ} (el : l ≡ level_of o) (ed : d ≡ depth_of o) (eb : b ≡ heading_length o) {r : Option NodesRead} (q : ReadsNodes t b 0 l d (9 ^ 15) r)
  where
    told : ReadsNodes t (heading_length o) 0 (level_of o) (depth_of o) (9 ^ 15) r
    told =
        subst (λ (x : ℕ). ReadsNodes t x 0 (level_of o) (depth_of o) (9 ^ 15) r) eb
        (subst (λ (x : ℕ). ReadsNodes t b 0 (level_of o) x (9 ^ 15) r) ed (subst (λ (x : Level). ReadsNodes t b 0 x d (9 ^ 15) r) el q))

    place-told : {place : ℕ} → place ≡ b + scan l d start (drop b t) → place ≡ heading_length o + scan (level_of o) (depth_of o) start (drop (heading_length o) t)
    place-told e =
        e ∙ ap (λ (x : Level). b + scan x d start (drop b t)) el ∙ ap (λ (x : ℕ). b + scan (level_of o) x start (drop b t)) ed
        ∙ ap (λ (x : ℕ). x + scan (level_of o) (depth_of o) start (drop x t)) eb

    pub told-bad : {place : ℕ} → r ≡ None → place ≡ b + scan l d start (drop b t) → Err (record { refusal = 9; place = place }) ≡ checked_of t
    told-bad e f = ap (λ (x : ℕ). Err (record { refusal = 9; place = x })) (place-told f) ∙ body-bad t h i k told e

    pub told_more :
        {next cells sum w place : ℕ} → r ≡ Some (record { next = next; cells = cells; sum = sum; wholes = w }) → next < length t → place ≡ b + scan l d start (drop b t) → Err (record { refusal = 9; place = place }) ≡ checked_of t
    told_more e m f = ap (λ (x : ℕ). Err (record { refusal = 9; place = x })) (place-told f) ∙ body_more t h i k told e m

    pub told-all : {next cells sum w : ℕ} → r ≡ Some (record { next = next; cells = cells; sum = sum; wholes = w }) → length t ≤ next → Ok (record { profile = o; arrangement = record { north = get_or t 5 0 - 48; south = get_or t 6 0 - 48 }; cells = cells; size = sum; body = b }) ≡ checked_of t
    told-all {cells = cells} {sum} e m = ap (λ (b : ℕ). Ok (record { profile = o; arrangement = record { north = get_or t 5 0 - 48; south = get_or t 6 0 - 48 }; cells = cells; size = sum; body = b })) eb ∙ body-all t h i k told e m

-- ---- the profile in the heading

pub second : (t : List ℕ) (d : ℕ) → (get_or t 4 0 ≡ 1 → ⊥) → d ≡ get_or t 7 0 - 97 → Handheld d ≡ profile_in t
second t d n e = ap Handheld e ∙ sym (ap (λ (b : Bool). cond b Full (Handheld (get_or t 7 0 - 97))) (ne_eqb (get_or t 4 0) 1 n))

pub first : (t : List ℕ) → get_or t 4 0 ≡ 1 → Full ≡ profile_in t
first t e = sym (ap (λ (b : Bool). cond b Full (Handheld (get_or t 7 0 - 97))) (eq-eqb (get_or t 4 0) 1 e))
