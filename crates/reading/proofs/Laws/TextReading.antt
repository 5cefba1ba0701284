-- A text is accepted exactly when it is read to the end, and then it is read as its reading. Assumes nothing.
use Rattle.std.specs.Prelude.{◌≡◌, refl, true, ℕ, suc, ◌+◌, ◌-◌, ◌≤◌, length, drop, take}
use Rattle.std.proofs.Common.{sym, ap₂, subst, ◌∙◌, arith}
use Rattle.std.proofs.Math.Path.{ap}
use Rattle.std.proofs.Math.Bool.{false}
use mathlib.Core.List.{List, [], ◌∷◌, ◌++◌, append-nil}
use Rattle.std.proofs.Math.ListN.{get_or}
use Rattle.std.proofs.Math.Dec.{ltb}
use borrow.Author.Tests.{le-ltb, ltb-false}
use Rattle.logic.specs.Laws.Bools.{by_cond, clash}
use Rattle.cell.specs.Cell.{IsArrangement}
use Rattle.reading.specs.declared.Level.TheVariants.{Faces}
use Rattle.reading.specs.declared.Profile.{Profile}
use Rattle.reading.specs.Reading.{Nodes, render, Good}
use Rattle.reading.specs.Text.{IsProfile, level_of, depth_of, heading, heading_length, Reads, ReadsAs, Accepted}
use Rattle.reading.specs.Parse.{Parse, bad, got, parse}
use Rattle.reading.proofs.Laws.Parse.{Right, sound, complete}
use Rattle.reading.specs.Heading.{least, greatest, lead, profile_in}
use Rattle.reading.proofs.Laws.Heading.{length-head, drop_head, take_head, north-byte, south-byte, profile-head, lead-head, Headed, head_of}
use Rattle.reading.proofs.Laws.Fits.{good-faces, render-faces}
use Rattle.reading.specs.TextReading.{TextRead, no_text, as_text, to_end, read_by, read_text, profile_read, nodes_in, north_in, south_in, was_read}
use Rattle.reading.specs.TextReading.{nodes_of, profile_of, north_of, south_of, text_arrangement, is_text, body_start}

module _ (p : Profile) (n s : ℕ) (ns : Nodes) (q : IsProfile p) (h : n ≤ 3) (k : s ≤ 3) (g : Good (level_of p) (depth_of p) 0 ns) where
  abbrev t : List ℕ
  t = heading p n s ++ render (level_of p) ns

  all : parse (suc (length t)) (level_of p) (depth_of p) 0 (drop (heading_length p) t) ≡ got ns []
  all =
      ap (parse (suc (length t)) (level_of p) (depth_of p) 0) (drop_head n s (render (level_of p) ns) p ∙ sym (append-nil (render (level_of p) ns)))
      ∙ complete ns (suc (length t)) (level_of p) (depth_of p) 0 [] g tt
      (omega (arith, ap length (append-nil (render (level_of p) ns)), length-head n s (render (level_of p) ns) p))

  read-good : read_text t ≡ as_text p n s ns
  unfolding read_text read_by to_end
  read-good =
      let a : ltb (lead least greatest t) (heading_length p) ≡ false = le-ltb _ _ (lead-head p n s (render (level_of p) ns) q h k) in
      let e : get_or t 5 0 - 48 ≡ n = omega (arith, north-byte n s (render (level_of p) ns) p) in
      let f : get_or t 6 0 - 48 ≡ s = omega (arith, south-byte n s (render (level_of p) ns) p) in
      ap (λ (o : Profile). read_by o t) (profile-head n s (render (level_of p) ns) p)
      ∙ rw (a, all, e, f)

pub read-accepted : {p : Profile} {n s : ℕ} {t : List ℕ} {ns : Nodes} → ReadsAs p n s t ns → read_text t ≡ as_text p n s ns
read-accepted {p} {n} {s} {t} {ns} r = ap read_text r.body.all ∙ read-good p n s ns r.profiled r.north r.south r.body.good

-- what a result says of a text
abbrev Says : List ℕ → TextRead → Type 0
Says t no_text = Unit {0}
Says t (as_text p n s ns) = ReadsAs p n s t ns

module _ (t : List ℕ) (p : Profile) (k : Headed p t) where
  bytes : (get_or t 5 0 - 48 ≡ k.north) × (get_or t 6 0 - 48 ≡ k.south)
  bytes =
      let b : get_or t 5 0 ≡ 48 + k.north = ap (λ (x : List ℕ). get_or x 5 0) k.all ∙ north-byte k.north k.south (drop (heading_length p) t) p in
      let c : get_or t 6 0 ≡ 48 + k.south = ap (λ (x : List ℕ). get_or x 6 0) k.all ∙ south-byte k.north k.south (drop (heading_length p) t) p in
      (omega arith, omega arith)

  says-end : (r : Parse) → Right (level_of p) (depth_of p) 0 (drop (heading_length p) t) r → Says t (to_end p (get_or t 5 0 - 48) (get_or t 6 0 - 48) r)
  unfolding to_end
  says-end bad r = tt
  says-end (got ns []) r =
      let n : get_or t 5 0 - 48 ≡ k.north = bytes.0 in
      let s : get_or t 6 0 - 48 ≡ k.south = bytes.1 in
      rw (n, s)
      (record {
        profiled = k.profiled;
        north = k.northern;
        south = k.southern;
        body =
            record {
              good = r.0;
              all = k.all ∙ ap (λ (x : List ℕ). heading p k.north k.south ++ x) (r.1 ∙ append-nil (render (level_of p) ns));
            };
      })
  says-end (got ns (b ∷ rest)) r = tt

says : (t : List ℕ) → Says t (read_text t)
unfolding read_text read_by
says t =
    by_cond (Says t) (ltb (lead least greatest t) (heading_length (profile_in t))) (λ _. tt)
    (λ k.
    let p = profile_in t in
    says-end t p (head_of t (ltb-false _ _ k)) (parse (suc (length t)) (level_of p) (depth_of p) 0 (drop (heading_length p) t))
    (sound (suc (length t)) (level_of p) (depth_of p) 0 (drop (heading_length p) t)))

pub accepted-read : {p : Profile} {n s : ℕ} {t : List ℕ} {ns : Nodes} → read_text t ≡ as_text p n s ns → ReadsAs p n s t ns
accepted-read {t = t} e = subst (λ (x : TextRead). Says t x) e (says t)

-- so a text that is not read is not accepted
pub not-read : (t : List ℕ) → read_text t ≡ no_text → Accepted t → ⊥
not-read t e a =
    let f = read-accepted a.4 in
    let z : ◌≡◌ {A = ℕ} 0 1 = cc in
    omega arith

-- ---- so what is computed of a text is its reading's

module _ {p : Profile} {n s : ℕ} {t : List ℕ} {ns : Nodes} (r : ReadsAs p n s t ns) where
  pub read-text : is_text t ≡ true
  unfolding is_text
  read-text = ap was_read (read-accepted r)

  pub read-nodes : nodes_of t ≡ ns
  unfolding nodes_of
  read-nodes = ap nodes_in (read-accepted r)

  pub read-profile : profile_of t ≡ p
  unfolding profile_of
  read-profile = ap profile_read (read-accepted r)

  pub read-north : north_of t ≡ n
  unfolding north_of
  read-north = ap north_in (read-accepted r)

  pub read-south : south_of t ≡ s
  unfolding south_of
  read-south = ap south_in (read-accepted r)

-- what a text of the grammar is read as reads it
pub reads-own : (t : List ℕ) → is_text t ≡ true → ReadsAs (profile_of t) (north_of t) (south_of t) t (nodes_of t)
unfolding is_text nodes_of profile_of north_of south_of
reads-own t e = go (read_text t) refl e
  where
    go : (x : TextRead) → read_text t ≡ x → was_read x ≡ true → ReadsAs (profile_read x) (north_in x) (south_in x) t (nodes_in x)
    go no_text q h = clash (sym h)
    go (as_text p n s ns) q h = accepted-read q

module _ (t : List ℕ) (e : is_text t ≡ true) where
  -- the nodes of either version are nodes of version 1
  pub good-nodes : Good Faces 15 0 (nodes_of t)
  good-nodes = let r = reads-own t e in good-faces (profile_of t) (nodes_of t) r.profiled r.body.good

  pub text-arranged : IsArrangement (text_arrangement t)
  text-arranged = let r = reads-own t e in record { northern = r.north; southern = r.south }

  -- ---- where the body starts

  pub body-within : body_start t ≤ length t
  body-within = omega (arith, ap length (reads-own t e).body.all, length-head (north_of t) (south_of t) (render (level_of (profile_of t)) (nodes_of t)) (profile_of t))

  pub body-nodes : drop (body_start t) t ≡ render Faces (nodes_of t)
  body-nodes =
      ap (drop (body_start t)) (reads-own t e).body.all ∙ drop_head (north_of t) (south_of t) (render (level_of (profile_of t)) (nodes_of t)) (profile_of t)
      ∙ render-faces (profile_of t) (nodes_of t)

  -- read without its heading, a text is as one of version 1
  pub reads-body : Reads [] Faces 15 (drop (body_start t) t) (nodes_of t)
  reads-body = record { good = good-nodes; all = body-nodes }

-- the bytes before it are the heading, and those from it on the body
pub body-start :
    {p : Profile} {n s : ℕ} {t : List ℕ} {ns : Nodes} → ReadsAs p n s t ns → (take (body_start t) t ≡ heading p n s) × (drop (body_start t) t ≡ render Faces ns)
body-start {p} {n} {s} {t} {ns} r =
    let b : body_start t ≡ heading_length p = ap heading_length (read-profile r) in (
      ap₂ take b r.body.all ∙ take_head n s (render (level_of p) ns) p,
      ap₂ drop b r.body.all ∙ drop_head n s (render (level_of p) ns) p ∙ render-faces p ns,
    )
