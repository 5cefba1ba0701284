-- The frame around the cells of codes: with a side that is taken, it is the first box, grown by each further one, and every edge is a number; 4 where one
-- of them is no code. Assumes nothing.
use Rattle.std.specs.Prelude.{◌≡◌, Bool, not, ℕ, Float, Err, Ok, Result}
use Rattle.std.proofs.Math.Path.{refl, ap}
use Rattle.std.proofs.Common.{◌∙◌, inl, inr}
use Rattle.std.proofs.Math.Bool.{true, false}
use mathlib.Core.List.{List, [], ◌∷◌, map}
use Rattle.logic.specs.Lists.{All, Any}
use Rattle.logic.specs.Refusal.{refuse, ◌otherwise◌}
use Rattle.logic.specs.Laws.Refusal.{passes}
use Rattle.code.specs.Code.{is_code, code_refusal}
use Rattle.metres.specs.Metres.{is_side, side_refusal}
use Rattle.plotter.specs.declared.Frame.{Frame}
use Rattle.plotter.specs.declared.Around.TheVariants as around-as
use Rattle.plotter.specs.Plotter.{box_in, box_refusal, framed, first_frame, grown, grow_refusal, grown_frame, has_nan, frame_over, grown_by, as_around, no_cells, frame_around}
use Rattle.plotter.proofs.Laws.Frame.{grown-numbers}
use Rattle.plotter.proofs.Laws.Box.{code-box}

module _ (side : Float) (e : is_side side ≡ true) where
  side-taken : side_refusal side ≡ 0
  unfolding side_refusal
  side-taken = ap (λ (b : Bool). refuse (not b) 19) e

  module _ (code : ℕ) (h : is_code code ≡ true) where
    code-taken : code_refusal code ≡ 0
    unfolding code_refusal
    code-taken = ap (λ (b : Bool). refuse (not b) 4) h

    first_taken : first_frame side code ≡ Ok (box_in side code)
    unfolding first_frame box_refusal
    first_taken = ap (λ (r : ℕ). framed r (box_in side code)) (passes (code_refusal code) side-taken ∙ code-taken)

    grown-taken : (f : Frame) → has_nan f ≡ false → grown_frame side f code ≡ Ok (grown f (box_in side code))
    unfolding grown_frame grow_refusal
    grown-taken f n =
        let nan : refuse (has_nan f) 19 ≡ 0 = ap (λ (b : Bool). refuse b 19) n in
        ap (λ (r : ℕ). framed r (grown f (box_in side code))) (passes (refuse (has_nan f) 19 otherwise code_refusal code) side-taken ∙ passes (code_refusal code) nan ∙ code-taken)

    still-numbers : (f : Frame) → has_nan f ≡ false → has_nan (grown f (box_in side code)) ≡ false
    still-numbers f n = grown-numbers f (box_in side code) n (code-box side code e h)

  grown-over : (f : Frame) (codes : List ℕ) → has_nan f ≡ false → All (λ (code : ℕ). is_code code ≡ true) codes →
      grown_by side (Ok f) codes ≡ Ok (frame_over f (map (box_in side) codes))
  grown-over f [] n h = refl
  grown-over f (code ∷ codes) n h =
      ap (λ (k : Result Frame ℕ). grown_by side k codes) (grown-taken code h.0 f n)
      ∙ grown-over (grown f (box_in side code)) codes (still-numbers code h.0 f n) h.1

  over-numbers : (f : Frame) (codes : List ℕ) → has_nan f ≡ false → All (λ (code : ℕ). is_code code ≡ true) codes → has_nan (frame_over f (map (box_in side) codes)) ≡ false
  over-numbers f [] n h = n
  over-numbers f (code ∷ codes) n h = over-numbers (grown f (box_in side code)) codes (still-numbers code h.0 f n) h.1

  module _ (code : ℕ) (codes : List ℕ) (h : is_code code ≡ true) (hs : All (λ (c : ℕ). is_code c ≡ true) codes) where
    -- "A frame grows to hold the box of each further cell"
    pub around-cells : frame_around side (code ∷ codes) ≡ around-as.Edges (frame_over (box_in side code) (map (box_in side) codes))
    unfolding frame_around
    around-cells =
        ap (λ (k : Result Frame ℕ). as_around (grown_by side k codes)) (first_taken code h)
        ∙ ap as_around (grown-over (box_in side code) codes (code-box side code e h) hs)

    pub around-numbers : has_nan (frame_over (box_in side code) (map (box_in side) codes)) ≡ false
    around-numbers = over-numbers (box_in side code) codes (code-box side code e h) hs

  -- without a cell there is none
  pub around-none : frame_around side [] ≡ around-as.Nothing
  unfolding frame_around
  around-none = ap no_cells side-taken

  -- ---- a number that is no code

  module _ (code : ℕ) (h : is_code code ≡ false) where
    code-refused : code_refusal code ≡ 4
    unfolding code_refusal
    code-refused = ap (λ (b : Bool). refuse (not b) 4) h

    first-four : first_frame side code ≡ Err 4
    unfolding first_frame box_refusal
    first-four = ap (λ (r : ℕ). framed r (box_in side code)) (passes (code_refusal code) side-taken ∙ code-refused)

    grown-four : (f : Frame) → has_nan f ≡ false → grown_frame side f code ≡ Err 4
    unfolding grown_frame grow_refusal
    grown-four f n =
        let nan : refuse (has_nan f) 19 ≡ 0 = ap (λ (b : Bool). refuse b 19) n in
        ap (λ (r : ℕ). framed r (grown f (box_in side code))) (passes (refuse (has_nan f) 19 otherwise code_refusal code) side-taken ∙ passes (code_refusal code) nan ∙ code-refused)

  -- a refusal stays
  still-refused : (r : ℕ) (codes : List ℕ) → grown_by side (Err r) codes ≡ Err r
  still-refused r [] = refl
  still-refused r (code ∷ codes) = still-refused r codes

  further-four : (code : ℕ) (f : Frame) (codes : List ℕ) → has_nan f ≡ false → is_code code ≡ false → grown_by side (Ok f) (code ∷ codes) ≡ Err 4
  further-four code f codes n h = ap (λ (k : Result Frame ℕ). grown_by side k codes) (grown-four code h f n) ∙ still-refused 4 codes

  among-four : (f : Frame) (codes : List ℕ) → has_nan f ≡ false → Any (λ (code : ℕ). is_code code ≡ false) codes → grown_by side (Ok f) codes ≡ Err 4
  among-four f [] n h = absurd h
  among-four f (code ∷ codes) n (inl h) = further-four code f codes n h
  among-four f (code ∷ codes) n (inr h) = go (λ k. among-four (grown f (box_in side code)) codes k h) (is_code code) refl
    where
      go : (has_nan (grown f (box_in side code)) ≡ false → grown_by side (Ok (grown f (box_in side code))) codes ≡ Err 4) → (t : Bool) → is_code code ≡ t →
          grown_by side (Ok f) (code ∷ codes) ≡ Err 4
      go rest true q = ap (λ (k : Result Frame ℕ). grown_by side k codes) (grown-taken code q f n) ∙ rest (still-numbers code q f n)
      go rest false q = further-four code f codes n q

  -- 4, "a code is no cell's": no number among them is passed over
  pub around-four : (codes : List ℕ) → Any (λ (code : ℕ). is_code code ≡ false) codes → frame_around side codes ≡ around-as.Refused 4
  unfolding frame_around
  around-four [] h = absurd h
  around-four (code ∷ codes) (inl h) = ap as_around (ap (λ (k : Result Frame ℕ). grown_by side k codes) (first-four code h) ∙ still-refused 4 codes)
  around-four (code ∷ codes) (inr h) = go (is_code code) refl
    where
      go : (t : Bool) → is_code code ≡ t → as_around (grown_by side (first_frame side code) codes) ≡ around-as.Refused 4
      go true q = ap as_around (ap (λ (k : Result Frame ℕ). grown_by side k codes) (first_taken code q) ∙ among-four (box_in side code) codes (code-box side code e q) h)
      go false q = ap as_around (ap (λ (k : Result Frame ℕ). grown_by side k codes) (first-four code q) ∙ still-refused 4 codes)

-- 19 whatever the codes are
pub around-refused : (side : Float) (codes : List ℕ) → is_side side ≡ false → frame_around side codes ≡ around-as.Refused 19
unfolding frame_around first_frame box_refusal side_refusal ◌otherwise◌
around-refused side [] e = ap (λ (b : Bool). no_cells (refuse (not b) 19)) e
around-refused side (code ∷ codes) e =
    ap (λ (b : Bool). as_around (grown_by side (framed (refuse (not b) 19 otherwise code_refusal code) (box_in side code)) codes)) e ∙ ap as_around (refused-on codes)
  where
    refused-on : (cs : List ℕ) → grown_by side (framed 19 (box_in side code)) cs ≡ framed 19 (box_in side code)
    refused-on [] = refl
    refused-on (c ∷ cs) = refused-on cs
