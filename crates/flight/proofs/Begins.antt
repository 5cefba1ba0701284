-- The text of no cell. Assumes nothing.
use Rattle.std.specs.Prelude.{Err, Ok, Result}
use mathlib.Core.Path.{◌≡◌, refl, sym, ap, ap₂, ◌∙◌, subst}
use mathlib.Core.Bool.{true, false}
use mathlib.Core.List.{List, [], ◌∷◌, ◌++◌}
use Prim.Native.Nat.{ℕ, ◌≤◌}
use native.Mathlib.Omega.{arith}
use lib.ListN.{length, take, drop, length-append, length-drop}
use lib.Seq.{take_at}
use borrow.Author.Tests.{le-ltb}
use Rattle.logic.specs.Refusal.{◌otherwise◌, given}
use Rattle.logic.specs.Laws.Bools.{clash}
use Rattle.logic.specs.Laws.Refusal.{passes}
use Rattle.cell.specs.declared.Arrangement.{Arrangement}
use Rattle.cell.specs.Cell.{IsArrangement}
use Rattle.cell.proofs.Laws.Cell.{arrangement-is}
use Rattle.code.specs.Code.{is_code, is_cell_code}
use Rattle.reading.specs.declared.Profile.TheVariants.{Full}
use Rattle.reading.specs.Text.{ReadsAs, heading_length}
use Rattle.reading.specs.TextReading.{is_text, profile_of, body_start}
use Rattle.reading.specs.Written.{built, side, nodes_for, written_text, fitting, keeps}
use Rattle.reading.proofs.Laws.TextReading.{read-text, read-profile}
use Rattle.reading.proofs.Laws.Written.{written-reads}
use Rattle.writing.specs.Write.{all_codes, all_of, ordered, codes_refusal, is_version, text_of, fit_refusal, write_refusal, text_in, written}
use Rattle.adding.specs.InMind.{InMind}
use Rattle.adding.proofs.Laws.InMind.{near-faces}
use Rattle.flight.specs.Recording.{Records}

-- no code is that great
no_code : is_code 18446744073709551615 ≡ false
unfolding is_code is_cell_code
no_code = refl

kept-none : keeps Full [] ≡ true
unfolding built side fitting
kept-none = refl

module _ (a : Arrangement) (v : IsArrangement a) where
  abbrev none : List ℕ
  none = written_text Full a.north a.south []

  seven : length none ≡ 7
  unfolding written_text built side
  seven = refl

  passed : (room : ℕ) → 7 ≤ room → write_refusal 1 15 a [] room ≡ 0
  unfolding write_refusal codes_refusal all_codes all_of ordered is_version fit_refusal text_of ◌otherwise◌
  passed room h = passes _ (arrangement-is v) ∙ rw (kept-none, le-ltb 65536 (length none) (omega (arith, seven)), le-ltb room (length none) (omega (arith, seven)))

  reads : ReadsAs Full a.north a.south none (nodes_for [])
  reads = written-reads [] tt Full a.north a.south tt kept-none v.northern v.southern

  module _ (before : List ℕ) (h : 65536 ≤ length before) {w : Result ℕ ℕ} (e : w ≡ written (write_refusal 1 15 a [] (length before)) (length (text_of Full a []))) where
    put : w ≡ Ok (length none)
    unfolding written text_of
    put = e ∙ ap (λ (x : ℕ). written x (length none)) (passed (length before) (omega arith))

    pub begin-not : {r : ℕ} → w ≡ Err r → ⊥
    begin-not f = let p = put in let z : ◌≡◌ {A = ℕ} 0 1 = cc in omega arith

    module _ {after : List ℕ} (f : after ≡ given (write_refusal 1 15 a [] (length before)) (text_in Full a [] before) before) {n : ℕ} (g : w ≡ Ok n) where
      front : after ≡ none ++ drop (length none) before
      unfolding given text_in text_of
      front = f ∙ ap (λ (x : ℕ). given x (text_in Full a [] before) before) (passed (length before) (omega arith))

      pub begin-text : take n after ≡ none
      begin-text =
          let p = put in
          let i : n ≡ length none = cc in
          ap₂ take i front ∙ take_at none (drop (length none) before) (length none) refl

      pub begin-long : length after ≡ length before
      begin-long = omega (arith, ap length front, length-append none (drop (length none) before), length-drop (length none) before, seven)

      pub begin-records : Records after (record { length = n; last = 18446744073709551615 })
      begin-records =
          let p = put in
          let i : n ≡ length none = cc in
          record {
            holds =
                record {
                  fits = omega (arith, begin-long, seven);
                  small = omega (arith, seven);
                  text = ap is_text begin-text ∙ read-text reads;
                  profiled = ap profile_of begin-text ∙ read-profile reads;
                };
            last = λ z. clash (sym z ∙ no_code);
          }

      pub begin-near : {near : List ℕ} → near ≡ n ∷ 0 ∷ 0 ∷ [] → InMind (take n after) near
      begin-near {near} q =
          let p = put in
          let i : n ≡ length none = cc in
          let b : body_start (take n after) ≡ n = ap (λ (x : List ℕ). heading_length (profile_of x)) begin-text ∙ ap heading_length (read-profile reads) ∙ sym (i ∙ seven) in
          subst (InMind (take n after)) (sym (q ∙ ap (λ (x : ℕ). x ∷ 0 ∷ 0 ∷ []) (sym b))) (near-faces (take n after) 0)
