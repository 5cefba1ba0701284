-- What the writer makes of the codes that are left. Assumes nothing.
use Rattle.std.specs.Prelude.{◌≡◌, Bool, true, not, ℕ, ◌≤◌, take, drop}
use Rattle.std.proofs.Math.Path.{refl, ap}
use Rattle.std.proofs.Common.{sym, ap₂, ◌∙◌, ⊎_elim, take_all}
use Rattle.std.proofs.Math.Bool.{false}
use mathlib.Core.List.{List, map}
use native.Mathlib.Omega.{arith}
use Rattle.std.proofs.Math.Dec.{ltb}
use Rattle.std.proofs.Math.ListN.{length, length-map, length-drop}
use borrow.Author.Tests.{le-ltb}
use Rattle.logic.specs.Refusal.{refuse}
use Rattle.logic.specs.Laws.Refusal.{passes}
use Rattle.logic.specs.Laws.Order.{lt-or}
use Rattle.cell.specs.declared.Arrangement.{Arrangement}
use Rattle.cell.specs.Cell.{IsArrangement}
use Rattle.cell.proofs.Laws.Cell.{arrangement-is}
use Rattle.code.specs.Code.{code_of, cell_of}
use Rattle.reading.specs.declared.Level.TheVariants.{Faces}
use Rattle.reading.specs.declared.Profile.TheVariants.{Full}
use Rattle.reading.specs.Reading.{names}
use Rattle.reading.specs.Ground.{cell_named, whole_cells}
use Rattle.reading.proofs.Laws.Report.{count-names, count_most}
use Rattle.reading.specs.Written.{keeps, nodes_for}
use Rattle.reading.proofs.Laws.Written.{nodes-good}
use Rattle.reading.proofs.Laws.Fits.{good-fits}
use Rattle.writing.specs.Write.{all_codes, is_version, text_of, fit_refusal, write_refusal}
use Rattle.sorting.specs.Sorted.{sorted}
use Rattle.loose.specs.LooseText.{LooseBody}
use Rattle.loose.specs.LooseScan.{loose_nodes}
use Rattle.loose.specs.Look.{loose_north, loose_south, loose_arrangement, IsLoose}
use Rattle.proper.specs.Proper.{proper_of}
use Rattle.proper.proofs.Laws.Proper.{rescued-short}
use Rattle.proper.specs.Thin.{thinned}
use Rattle.proper.proofs.Laws.Thin.{coded-all, thinned-coded, thinned-good}
use Rattle.proper.proofs.Laws.Thinned.{codes-sorted, left-cells, left-text}
use Rattle.proper.specs.Wholes.{loose_codes}

module _ (t : List ℕ) (r : IsLoose t) where
  pub loose-body : LooseBody (drop 7 t) (loose_nodes (drop 7 t))
  loose-body = record { loose = r.loose; all = ap (drop 7) r.all }

  pub loose-long : 7 ≤ length t
  loose-long = omega (arith, ap length r.all)

  pub loose-arranged : IsArrangement (loose_arrangement t)
  loose-arranged = record { northern = r.north; southern = r.south }

  pub short-enough : length (proper_of t) ≤ length t
  unfolding proper_of
  short-enough = rescued-short r

  -- as many codes as letters and digits at most
  pub codes-fit : (a : Arrangement) → length (loose_codes a t) ≤ length t
  unfolding loose_codes whole_cells
  codes-fit a =
      let ns = loose_nodes (drop 7 t) in
      omega (
        arith,
        length-map (map cell_named (names ns)) (code_of a),
        length-map (names ns) cell_named,
        count-names ns,
        count_most ns Faces,
        ap length loose-body.all,
        length-drop 7 t,
      )

  abbrev left : List ℕ
  left = thinned 0 (sorted (loose_codes (loose_arrangement t) t))

  pub text-is : text_of Full (loose_arrangement t) left ≡ proper_of t
  unfolding text_of proper_of
  text-is = left-text loose-arranged t loose-body (loose_north t) (loose_south t)

  keeps-all : keeps Full (map cell_of left) ≡ true
  keeps-all = good-fits (nodes_for (map cell_of left)) Faces 15 0 (nodes-good (map cell_of left) (left-cells loose-arranged t loose-body))

  left-coded : all_codes left ≡ true
  left-coded =
      coded-all (loose_arrangement t) left
      (thinned-coded (loose_arrangement t) 0 (sorted (loose_codes (loose_arrangement t) t)) (codes-sorted loose-arranged t loose-body))

  -- nothing but 8 is refused
  pub only-eight : (room : ℕ) → length t ≤ 65536 → write_refusal 1 15 (loose_arrangement t) left room ≡ refuse (ltb room (length (proper_of t))) 8
  unfolding write_refusal fit_refusal is_version
  only-eight room h =
      let g = thinned-good (loose_arrangement t) (sorted (loose_codes (loose_arrangement t) t)) (codes-sorted loose-arranged t loose-body) in
      let l : ltb 65536 (length (text_of Full (loose_arrangement t) left)) ≡ false =
      le-ltb 65536 (length (text_of Full (loose_arrangement t) left)) (omega (arith, short-enough, ap length text-is)) in
      passes _ (arrangement-is loose-arranged)
      ∙ passes _ refl
      ∙ passes _ (ap (λ (b : Bool). refuse (not b) 4) left-coded)
      ∙ passes _ refl
      ∙ passes _ g
      ∙ passes _ (ap (λ (b : Bool). refuse (not b) 15) keeps-all)
      ∙ passes _ (ap (λ (b : Bool). refuse b 13) l)
      ∙ ap (λ (x : List ℕ). refuse (ltb room (length x)) 8) text-is

-- what was taken from the front is all there
pub take-fits : (n : ℕ) (c x : List ℕ) → n ≡ length x → take n c ≡ x → n ≤ length c
take-fits n c x e f =
    ⊎_elim (λ h. absurd (let z = ap length (sym (take_all n c (omega arith)) ∙ f) in omega arith)) (λ h. h) (lt-or (length c) n)

-- the text of those that are left, in a room as long as the looser text
module _ (t : List ℕ) (r : IsLoose t) {a : Arrangement} {c : List ℕ} (ea : a ≡ loose_arrangement t) (ec : c ≡ thinned 0 (sorted (loose_codes a t))) where
  own : c ≡ thinned 0 (sorted (loose_codes (loose_arrangement t) t))
  own = ec ∙ ap (λ (x : Arrangement). thinned 0 (sorted (loose_codes x t))) ea

  pub proper-text : text_of Full a c ≡ proper_of t
  proper-text = ap₂ (text_of Full) ea own ∙ text-is t r

  pub proper-fits : (room : ℕ) → length t ≤ 65536 → length t ≤ room → write_refusal 1 15 a c room ≡ 0
  proper-fits room h l =
      ap₂ (λ (x : Arrangement) (y : List ℕ). write_refusal 1 15 x y room) ea own
      ∙ only-eight t r room h
      ∙ ap (λ (b : Bool). refuse b 8) (le-ltb room (length (proper_of t)) (omega (arith, short-enough t r)))
