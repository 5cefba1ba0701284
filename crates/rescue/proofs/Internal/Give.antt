-- The proper text made, and given with the changes. Assumes nothing.
use Rattle.std.specs.Prelude.{◌≡◌, not, List, ◌++◌, map, ltb, take, drop, Err, Ok, Result}
use Rattle.std.proofs.Common.{sym, ◌∙◌, arith}
use Rattle.std.proofs.Math.Path.{ap}
use Prim.Native.Nat.{ℕ, ◌*◌, ◌≤◌, ◌<◌}
use Rattle.std.proofs.Math.ListN.{length}
use Rattle.std.proofs.Math.Seq.{take_at}
use borrow.Author.Tests.{ltb-false}
use Rattle.logic.specs.Lent.{in_front}
use Rattle.logic.specs.Refusal.{refuse}
use Rattle.logic.specs.Laws.Refusal.{both, allowed}
use Rattle.cell.specs.declared.Arrangement.{Arrangement}
use Rattle.cell.specs.Cell.{IsArrangement, arrangement_refusal}
use Rattle.cell.proofs.Laws.Cell.{is-arrangement}
use Rattle.code.specs.Code.{cell_of}
use Rattle.reading.specs.declared.Profile.TheVariants.{Full}
use Rattle.reading.specs.Written.{keeps}
use Rattle.writing.specs.Write.{all_codes, codes_refusal, is_version, fit_refusal, write_refusal, text_of, text_in}
use Rattle.loose.specs.Look.{loose_refusal}
use Rattle.proper.specs.Proper.{proper_of}
use Rattle.proper.specs.Changes.{Change}
use Rattle.rescue.specs.Rescue.{flat, changes_of, RescueIs}
use Rattle.rescue.specs.Internal.Marks.{changes_in}
use Rattle.rescue.specs.Internal.Give.{Gives}
use Rattle.rescue.proofs.Internal.Joint.{no-text-room, no-list-room, rescued-is}

-- ---- made

module _ (ar : Arrangement) (cells made : List ℕ) (z : write_refusal 1 15 ar cells (length made) ≡ 0) where
  -- what writing tests and measures first
  pub make-sure : IsArrangement ar × (codes_refusal ar cells ≡ 0) × (length (text_of Full ar cells) ≤ length made)
  unfolding write_refusal fit_refusal
  make-sure =
      let n : ℕ = length (text_of Full ar cells) in
      let f = both (arrangement_refusal ar) _ z in
      let l = both (refuse (not (all_codes cells)) 4) _ (both (refuse (ltb 15 15) 2) _ f.1).1 in
      let g = both (codes_refusal ar cells) _ (both (refuse (not (is_version 1)) 10) _ l.1).1 in
      let r = both (refuse (ltb 65536 n) 13) _ (both (refuse (not (keeps Full (map cell_of cells))) 15) _ g.1).1 in
      (is-arrangement f.0, g.0, ltb-false (length made) n (allowed 7 (ltb (length made) n) r.1))

  pub make-taken : {made' : List ℕ} {n : ℕ} → n ≡ length (text_of Full ar cells) → made' ≡ text_in Full ar cells made → take n made' ≡ text_of Full ar cells
  unfolding text_in
  make-taken {made'} {n} i h = ap (take n) h ∙ take_at (text_of Full ar cells) (drop (length (text_of Full ar cells)) made) n (sym i)

-- ---- given

module _ {made marks out list : List ℕ} {n : ℕ} (c : n ≡ length (changes_in 7 marks)) where
  pub gives-no-text : length out < length made → Gives made marks out out list list (Err (record { refusal = 8; place = 0 }))
  gives-no-text h = record { is = λ t e p q. no-text-room t e out list (omega (arith, ap length p)) }

  pub gives-no-list : length made ≤ length out → length list < n * 2 → Gives made marks out out list list (Err (record { refusal = 8; place = 0 }))
  gives-no-list h g = record { is = λ t e p q. no-list-room t e out list n (c ∙ ap length q) (omega (arith, ap length p)) g }

  pub gives_both :
      {out' list' : List ℕ} → length made ≤ length out → n * 2 ≤ length list → out' ≡ made ++ drop (length made) out →
      list' ≡ flat (changes_in 7 marks) ++ drop (length (flat (changes_in 7 marks))) list → Gives made marks out out' list list' (Ok (record { length = length made; changes = n }))
  gives_both h g x y =
      record {
        is =
            λ t e p q.
            rescued-is t e out list n (c ∙ ap length q) (ap length p) (omega (arith, ap length p)) g (x ∙ ap (λ (l : List ℕ). in_front l out) p)
            (y ∙ ap (λ (l : List Change). in_front (flat l) list) q);
      }
