-- What an answer of checking says of the text. Assumes nothing.
use Rattle.std.specs.Prelude.{◌≡◌, refl, true, List, ℕ, zero, suc, length, Err, Ok}
use Rattle.std.proofs.Common.{sym, ap, ◌∙◌, arith}
use Rattle.std.proofs.lemmas.Bool.{not-false}
use Rattle.logic.specs.Laws.Refusal.{both, allowed}
use Rattle.reading.specs.Ground.{whole_cells, size_sum}
use Rattle.reading.specs.TextReading.{nodes_of, profile_of, north_of, south_of, text_arrangement, is_text, body_start}
use Rattle.reading.specs.declared.Profile.{Profile}
use Rattle.reader.specs.Check.{text_refusal, place_with, answer, checked_of}
use Rattle.logic.specs.Laws.Answer.{ok-is, err-is}
use Rattle.reader.specs.declared.Checked.{Checked}
use Rattle.reading.specs.declared.Refused.{Refused}

-- nothing was refused
pub record TextChecked (t : List ℕ) (p : Profile) (n s cells size body : ℕ) : Type 0 where
  pub allowed : text_refusal t ≡ 0
  pub text : is_text t ≡ true
  pub profile : p ≡ profile_of t
  pub north : n ≡ north_of t
  pub south : s ≡ south_of t
  pub count : cells ≡ length (whole_cells (nodes_of t))
  pub sum : size ≡ size_sum (whole_cells (nodes_of t))
  pub start : body ≡ body_start t

-- the heading's arrangement
pub checked-arrangement : {t : List ℕ} {p : Profile} {n s c z b : ℕ} → TextChecked t p n s c z b → record { north = n; south = s } ≡ text_arrangement t
checked-arrangement r = λ i. record { north = r.north i; south = r.south i }

pub text-read : (t : List ℕ) → text_refusal t ≡ 0 → is_text t ≡ true
unfolding text_refusal
text-read t e = not-false (is_text t) (allowed 8 _ (both _ _ (both _ _ e).1).1)

pub text-checked : {p : Profile} {n s c z b : ℕ} (t : List ℕ) → Ok (record { profile = p; arrangement = record { north = n; south = s }; cells = c; size = z; body = b }) ≡ checked_of t → TextChecked t p n s c z b
unfolding checked_of
text-checked {p} {n} {s} {c} {z} {b} t e = go (text_refusal t) refl e
  where
    go : (r : ℕ) → text_refusal t ≡ r → Ok (record { profile = p; arrangement = record { north = n; south = s }; cells = c; size = z; body = b }) ≡ answer r t → TextChecked t p n s c z b
    go zero q e = record { allowed = q; text = text-read t q; profile = ap (λ (x : Checked). x.profile) (ok-is e); north = ap (λ (x : Checked). x.arrangement.north) (ok-is e); south = ap (λ (x : Checked). x.arrangement.south) (ok-is e); count = ap (λ (x : Checked). x.cells) (ok-is e); sum = ap (λ (x : Checked). x.size) (ok-is e); start = ap (λ (x : Checked). x.body) (ok-is e) }
    go (suc r) q e = let k : ◌≡◌ {A = ℕ} 0 1 = cc in absurd (omega arith)

-- the refusal, and the place
pub record TextRefused (t : List ℕ) (r p : ℕ) : Type 0 where
  pub refusal : text_refusal t ≡ r
  pub some : r ≡ 0 → ⊥
  pub place : p ≡ place_with r t

pub text-refused : {r p : ℕ} (t : List ℕ) → Err (record { refusal = r; place = p }) ≡ checked_of t → TextRefused t r p
unfolding checked_of
text-refused {r} {p} t e = go (text_refusal t) refl e
  where
    go : (q : ℕ) → text_refusal t ≡ q → Err (record { refusal = r; place = p }) ≡ answer q t → TextRefused t r p
    go zero h e = let k : ◌≡◌ {A = ℕ} 0 1 = cc in absurd (omega arith)
    go (suc q) h e =
        let i = ap (λ (x : Refused). x.refusal) (err-is e) in
        let j = ap (λ (x : Refused). x.place) (err-is e) in
        record { refusal = h ∙ sym i; some = λ z. omega arith; place = j ∙ ap (λ (x : ℕ). place_with x t) (sym i) }
