-- The frame around an accepted text's whole cells: with a side that is taken, the first cell's box, grown by that of each further cell; so it holds the
-- box of each, each of its edges is one of theirs, and every edge is a number. Which line is put, in every case. Assumes nothing.
use Rattle.std.specs.Prelude.{◌≡◌, Bool, true, false, not, List, [], ◌∷◌, map, ℕ, suc, Float}
use Rattle.std.proofs.Common.{sym, ◌∙◌, subst, arith}
use Rattle.std.proofs.Math.Path.{ap}
use Rattle.logic.specs.Lists.{All}
use Rattle.logic.specs.Refusal.{refuse, ◌otherwise◌}
use Rattle.logic.specs.Laws.Refusal.{passes, both}
use Rattle.cell.specs.declared.Cell.{Cell}
use Rattle.cell.specs.declared.Arrangement.{Arrangement}
use Rattle.cell.specs.Cell.{IsArrangement}
use Rattle.code.specs.Code.{code_of, is_code}
use Rattle.code.proofs.Laws.Code.{cell-has-code}
use Rattle.reading.specs.Ground.{whole_cells, Cells}
use Rattle.reading.specs.TextReading.{nodes_of, text_arrangement}
use Rattle.reading.proofs.Laws.TextReading.{reads-body, text-arranged}
use Rattle.reading.proofs.Laws.Demand.{whole_cells_lem}
use Rattle.reader.specs.Check.{text_refusal}
use Rattle.reader.specs.Laws.Answer.{text-read}
use Rattle.report.specs.Lines.{number_line}
use Rattle.listing.specs.List.{codes_of, listing_refusal}
use Rattle.metres.specs.Metres.{is_side, side_refusal}
use Rattle.plotter.specs.declared.Around.TheVariants as around-as
use Rattle.plotter.specs.Plotter.{box_in, frame_over, frame_around, Holds, EdgesOf}
use Rattle.plotter.proofs.Laws.Box.{cells-held, cells-edges}
use Rattle.plotter.proofs.Laws.Around.{around-cells, around-numbers, around-none}
use Rattle.framing.specs.Framing.{Numbers, edges_line, around_line, frame_refusal, line_with, frame_line}

all_codes : (a : Arrangement) → IsArrangement a → (cs : List Cell) → Cells cs → All (λ (code : ℕ). is_code code ≡ true) (map (code_of a) cs)
all_codes a g [] h = tt
all_codes a g (c ∷ cs) h = (cell-has-code g c h.0, all_codes a g cs h.1)

-- what a text lists are codes
pub text_codes : (t : List ℕ) → text_refusal t ≡ 0 → All (λ (code : ℕ). is_code code ≡ true) (codes_of t)
unfolding codes_of
text_codes t e =
    let x = text-read t e in
    all_codes (text_arrangement t) (text-arranged t x) (whole_cells (nodes_of t)) (whole_cells_lem tt (omega arith) (reads-body t x)).0

module _ (side : Float) (s : is_side side ≡ true) where
  numbers : (codes : List ℕ) → All (λ (code : ℕ). is_code code ≡ true) codes → Numbers (frame_around side codes)
  numbers [] h = subst Numbers (sym (around-none side s)) tt
  numbers (code ∷ codes) h = subst Numbers (sym (around-cells side s code codes h.0 h.1)) (around-numbers side s code codes h.0 h.1)

  pub frame-numbers : (t : List ℕ) → text_refusal t ≡ 0 → Numbers (frame_around side (codes_of t))
  frame-numbers t e = numbers (codes_of t) (text_codes t e)

  -- a text that covers nothing has none
  pub frame-none : (t : List ℕ) → codes_of t ≡ [] → frame_around side (codes_of t) ≡ around-as.Nothing
  frame-none t e = ap (frame_around side) e ∙ around-none side s

  module _ (t : List ℕ) (e : text_refusal t ≡ 0) (code : ℕ) (codes : List ℕ) (c : codes_of t ≡ code ∷ codes) where
    listed : All (λ (x : ℕ). is_code x ≡ true) (code ∷ codes)
    listed = subst (All (λ (x : ℕ). is_code x ≡ true)) c (text_codes t e)

    -- "A frame grows to hold the box of each further cell"
    pub frame-cells : frame_around side (codes_of t) ≡ around-as.Edges (frame_over (box_in side code) (map (box_in side) codes))
    frame-cells = ap (frame_around side) c ∙ around-cells side s code codes listed.0 listed.1

    pub frame-held : All (Holds (frame_over (box_in side code) (map (box_in side) codes))) (map (box_in side) (codes_of t))
    frame-held = subst (λ (x : List ℕ). All (Holds (frame_over (box_in side code) (map (box_in side) codes))) (map (box_in side) x)) (sym c) (cells-held side code codes s listed.0 listed.1)

    pub frame-edges : EdgesOf (frame_over (box_in side code) (map (box_in side) codes)) (map (box_in side) (codes_of t))
    frame-edges = subst (λ (x : List ℕ). EdgesOf (frame_over (box_in side code) (map (box_in side) codes)) (map (box_in side) x)) (sym c) (cells-edges side code codes s listed.0 listed.1)

-- ---- which line is put

module _ (side : Float) (t : List ℕ) (room : ℕ) where
  -- 19 of the side comes first
  pub side-stops : is_side side ≡ false → frame_refusal side t room ≡ 19
  unfolding frame_refusal side_refusal ◌otherwise◌
  side-stops e = ap (λ (b : Bool). refuse (not b) 19 otherwise listing_refusal t room) e

  pub side-goes : is_side side ≡ true → frame_refusal side t room ≡ listing_refusal t room
  unfolding frame_refusal side_refusal
  side-goes e = passes (listing_refusal t room) (ap (λ (b : Bool). refuse (not b) 19) e)

  pub line-nineteen : is_side side ≡ false → (frame_refusal side t room ≡ 19) × (frame_line side t room ≡ number_line 19)
  unfolding frame_line
  line-nineteen e = (side-stops e, ap (λ (q : ℕ). line_with q side t) (side-stops e))

  -- then the text's refusal
  pub line-text : is_side side ≡ true → (r : ℕ) → listing_refusal t room ≡ suc r → (frame_refusal side t room ≡ suc r) × (frame_line side t room ≡ number_line (suc r))
  unfolding frame_line
  line-text e r k = (side-goes e ∙ k, ap (λ (q : ℕ). line_with q side t) (side-goes e ∙ k))

  -- nothing where there is no cell
  pub line-none : is_side side ≡ true → listing_refusal t room ≡ 0 → codes_of t ≡ [] → frame_line side t room ≡ []
  unfolding frame_line around_line
  line-none e k c = ap (λ (q : ℕ). line_with q side t) (side-goes e ∙ k) ∙ ap around_line (frame-none side e t c)

  -- and else the four edges of the frame, for this side, around the text's own cells
  pub line_frame : is_side side ≡ true → listing_refusal t room ≡ 0 → (code : ℕ) (codes : List ℕ) → codes_of t ≡ code ∷ codes →
      frame_line side t room ≡ edges_line (frame_over (box_in side code) (map (box_in side) codes))
  unfolding frame_line around_line listing_refusal
  line_frame e k code codes c =
      ap (λ (q : ℕ). line_with q side t) (side-goes e ∙ k) ∙ ap around_line (frame-cells side e t (both (text_refusal t) _ k).0 code codes c)
