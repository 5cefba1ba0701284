-- What an answer of comparing says of the lent codes. Assumes nothing.
use Rattle.std.proofs.Math.Path.{◌≡◌, refl, sym}
use Rattle.std.proofs.Common.{ap, ◌∙◌, arith, length-append}
use Rattle.std.specs.Prelude.{List, take, drop, Err, Ok, Result}
use Prim.Native.Nat.{ℕ, zero, suc, ◌≤◌}
use Rattle.std.proofs.Math.ListN.{length}
use Rattle.std.proofs.lemmas.List.{length-map}
use Rattle.std.proofs.Math.Seq.{take-append_seam, drop-append_seam}
use Rattle.reading.specs.declared.Refused.{Refused}
use Rattle.comparing.specs.declared.Compared.{Compared}
use Rattle.logic.specs.Lent.{in_front}
use Rattle.logic.specs.Laws.Refusal.{given-value}
use Rattle.cell.specs.declared.Cell.{Cell}
use Rattle.code.specs.Code.{code_of}
use Rattle.reading.specs.TextReading.{nodes_of, text_arrangement}
use Rattle.comparing.specs.declared.Listing.{Listing}
use Rattle.comparing.specs.Compare.{ThreeLists, first_only, second_only, in_both, codes_for, shared_codes, compare_refusal, compare_place, compared, with_codes, Compares}
use Rattle.logic.specs.Laws.Answer.{ok-is, err-is}

-- so many codes stand in front, and they are these; those behind them are the ones that were lent
pub record InFront (codes lent later : List ℕ) (n : ℕ) : Type 0 where
  pub are : take n later ≡ codes
  pub rest : drop n later ≡ drop n lent
  pub fit : n ≤ length later

pub record AllInFront (codes lent later : ThreeLists) (first second both : ℕ) : Type 0 where
  pub firsts : InFront codes.firsts lent.firsts later.firsts first
  pub seconds : InFront codes.seconds lent.seconds later.seconds second
  pub boths : InFront codes.boths lent.boths later.boths both

in-front : (t : List ℕ) (cells : List Cell) (lent : List ℕ) {n : ℕ} → n ≡ length cells → InFront (codes_for t cells) lent (in_front (codes_for t cells) lent) n
unfolding codes_for
in-front t cells lent {n} e =
    let l : n ≡ length (codes_for t cells) = e ∙ sym (length-map cells (code_of (text_arrangement t))) in
    record {
      are = ap (λ (k : ℕ). take k (in_front (codes_for t cells) lent)) l ∙ take-append_seam (codes_for t cells) (drop (length (codes_for t cells)) lent);
      rest =
          ap (λ (k : ℕ). drop k (in_front (codes_for t cells) lent)) l ∙ drop-append_seam (codes_for t cells) (drop (length (codes_for t cells)) lent)
          ∙ ap (λ (k : ℕ). drop k lent) (sym l);
      fit = omega (arith, l, length-append (codes_for t cells) (drop (length (codes_for t cells)) lent));
    }

module _ {t u : List ℕ} {lent later : ThreeLists} {r : Result Compared Refused} (k : Compares t u lent later r) where
  -- the listings: nothing was refused, and their codes stand in front
  pub listings-given :
      {f s b : Listing} → r ≡ Ok (record { first = f; second = s; both = b }) → (compare_refusal t u lent ≡ 0) × AllInFront (shared_codes t u) lent later f.count s.count b.count
  unfolding compared shared_codes
  listings-given {f} {s} {b} e = go (compare_refusal t u lent) refl (sym e ∙ k.answer)
    where
      go : (q : ℕ) → compare_refusal t u lent ≡ q → Ok (record { first = f; second = s; both = b }) ≡ compared q t u → (compare_refusal t u lent ≡ 0) × AllInFront (shared_codes t u) lent later f.count s.count b.count
      go zero z a =
          let m : later ≡ with_codes (shared_codes t u) lent = k.memory ∙ given-value (with_codes (shared_codes t u) lent) lent z in
          let i : f.count ≡ length (first_only (nodes_of t) (nodes_of u)) = ap (λ (x : Compared). x.first.count) (ok-is a) in
          let j : s.count ≡ length (second_only (nodes_of t) (nodes_of u)) = ap (λ (x : Compared). x.second.count) (ok-is a) in
          let o : b.count ≡ length (in_both (nodes_of t) (nodes_of u)) = ap (λ (x : Compared). x.both.count) (ok-is a) in (
            z,
            rw m
                (record {
                  firsts = in-front t (first_only (nodes_of t) (nodes_of u)) lent.firsts i;
                  seconds = in-front t (second_only (nodes_of t) (nodes_of u)) lent.seconds j;
                  boths = in-front t (in_both (nodes_of t) (nodes_of u)) lent.boths o;
                }),
          )
      go (suc q) z a = let n : ◌≡◌ {A = ℕ} 0 1 = cc in absurd (omega arith)

  -- the refusal, and the place
  pub refusal-given : {q p : ℕ} → r ≡ Err (record { refusal = q; place = p }) → (compare_refusal t u lent ≡ q) × (q ≡ 0 → ⊥) × (p ≡ compare_place t u)
  unfolding compared
  refusal-given {q} {p} e = go (compare_refusal t u lent) refl (sym e ∙ k.answer)
    where
      go : (x : ℕ) → compare_refusal t u lent ≡ x → Err (record { refusal = q; place = p }) ≡ compared x t u → (compare_refusal t u lent ≡ q) × (q ≡ 0 → ⊥) × (p ≡ compare_place t u)
      go zero z a = let n : ◌≡◌ {A = ℕ} 0 1 = cc in absurd (omega arith)
      go (suc x) z a = let i : q ≡ suc x = ap (λ (x : Refused). x.refusal) (err-is a) in let j : p ≡ compare_place t u = ap (λ (x : Refused). x.place) (err-is a) in (z ∙ sym i, (λ w. omega arith), j)
