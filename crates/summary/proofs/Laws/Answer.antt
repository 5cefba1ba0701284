-- What an answer of summing up says of the text. Assumes nothing.
use Rattle.std.proofs.Math.Path.{◌≡◌, refl, sym}
use Rattle.std.proofs.Common.{◌∙◌, arith, ap}
use Rattle.std.specs.Prelude.{List, Err, Ok}
use Prim.Native.Nat.{ℕ, zero, suc}
use Rattle.reading.specs.TextReading.{text_arrangement}
use Rattle.reader.specs.Check.{text_refusal, place_with}
use Rattle.summary.specs.Summary.{summarized}
use Rattle.logic.specs.Laws.Answer.{err-is}
use Rattle.reading.specs.declared.Refused.{Refused}

module _ (t : List ℕ) where
  pub kept-text : {n s : ℕ} → Ok (record { north = n; south = s }) ≡ summarized (text_refusal t) t → (text_refusal t ≡ 0) × (record { north = n; south = s } ≡ text_arrangement t)
  unfolding summarized
  kept-text {n} {s} e = go (text_refusal t) refl e
    where
      go : (r : ℕ) → text_refusal t ≡ r → Ok (record { north = n; south = s }) ≡ summarized r t → (text_refusal t ≡ 0) × (record { north = n; south = s } ≡ text_arrangement t)
      go zero q e = (q, (cc))
      go (suc r) q e = let k : ◌≡◌ {A = ℕ} 0 1 = cc in absurd (omega arith)

  pub refused-text : {r p : ℕ} → Err (record { refusal = r; place = p }) ≡ summarized (text_refusal t) t → (text_refusal t ≡ r) × (r ≡ 0 → ⊥)
  unfolding summarized
  refused-text {r} {p} e = go (text_refusal t) refl e
    where
      go : (q : ℕ) → text_refusal t ≡ q → Err (record { refusal = r; place = p }) ≡ summarized q t → (text_refusal t ≡ r) × (r ≡ 0 → ⊥)
      go zero h e = let k : ◌≡◌ {A = ℕ} 0 1 = cc in absurd (omega arith)
      go (suc q) h e = let i : r ≡ suc q = ap (λ (x : Refused). x.refusal) (err-is e) in (h ∙ sym i, λ z. omega arith)

  -- the place beside a refusal is the text's
  pub refused-place : {r p : ℕ} → Err (record { refusal = r; place = p }) ≡ summarized (text_refusal t) t → p ≡ place_with (text_refusal t) t
  unfolding summarized
  refused-place {r} {p} e = go (text_refusal t) e
    where
      go : (q : ℕ) → Err (record { refusal = r; place = p }) ≡ summarized q t → p ≡ place_with q t
      go zero e = let k : ◌≡◌ {A = ℕ} 0 1 = cc in absurd (omega arith)
      go (suc q) e = ap (λ (x : Refused). x.place) (err-is e)
