-- Demand 3 over what the entries answer: checking, listing, writing and asking, one after another. Assumes nothing.
use Rattle.std.specs.Prelude.{◌≡◌, ◌↔◌, Bool, false, not, cond, drop}
use Rattle.std.proofs.Math.Path.{refl, ap, ap₂, subst}
use Rattle.std.proofs.Common.{sym, ◌∙◌, arith}
use Rattle.std.proofs.Math.Bool.{true, ◌&&◌}
use mathlib.Core.List.{List, [], ◌∷◌, map}
use Prim.Native.Nat.{ℕ, ◌≤◌}
use Rattle.std.proofs.Math.ListN.{length, take}
use Rattle.std.proofs.Math.Seq.{take-append_seam}
use borrow.Author.Tests.{ltb-false, le-ltb, not-false}
use Rattle.logic.specs.Refusal.{refuse, given}
use Rattle.logic.specs.Laws.Refusal.{both, allowed, passes, given-value}
use Rattle.logic.specs.Laws.Bools.{refuted}
use Rattle.cell.specs.declared.Cell.{Cell}
use Rattle.cell.specs.declared.Arrangement.{Arrangement}
use Rattle.cell.specs.Cell.{IsArrangement, arrangement_refusal}
use Rattle.cell.proofs.Laws.Cell.{is-arrangement, arrangement-is}
use Rattle.code.specs.Code.{code_of, cell_of}
use Rattle.code.proofs.Laws.Code.{a-code, code-is-cell, cell-has-code, arrangement-code, arrangement-of}
use Rattle.reading.specs.Ground.{whole_cells, SameGround, Cells, size_sum}
use Rattle.reading.specs.declared.Profile.{Profile}
use Rattle.reading.specs.declared.Profile.TheVariants.{Full, Handheld}
use Rattle.reading.specs.Reading.{render}
use Rattle.reading.specs.Text.{IsProfile, version_of, level_of, depth_of, heading, heading_length, ReadsAs, Accepted}
use Rattle.reading.proofs.Laws.Heading.{take_head}
use Rattle.reading.proofs.Laws.Fits.{depth-most, good-fits}
use Rattle.reading.specs.TextReading.{nodes_of, profile_of, north_of, south_of, text_arrangement, body_start}
use Rattle.reading.proofs.Laws.TextReading.{read-text, read-nodes, text-arranged, reads-body, body-start}
use Rattle.reading.proofs.Laws.Demand.{whole_cells_lem}
use Rattle.reading.specs.Written.{nodes_for, written_text, keeps}
use Rattle.reading.proofs.Laws.Written.{written-reads, written-ground, listed-nodes, listed-written}
use Rattle.reader.specs.Check.{text_refusal, answer, checked_of}
use Rattle.reader.specs.Laws.Check.{accepted-exactly}
use Rattle.reader.specs.Laws.Demand.{accepted-reads, same_bytes, reported-fewest}
use Rattle.listing.specs.List.{codes_of, codes_in, listing_refusal, listed}
use Rattle.listing.proofs.Laws.List.{listed-cells}
use Rattle.asking.specs.Ask.{AllCovered, ask_refusal, asked, any_within}
use Rattle.asking.proofs.Laws.Ask.{asked-exactly}
use Rattle.writing.specs.Write.{all_codes, all_of, GoodList, codes_refusal, asks_for, is_version, fit_refusal, write_refusal, text_of, text_in, written}
use Rattle.writing.proofs.Laws.List.{good-list, list-good, codes-cells}
use Rattle.entries.specs.Entries.{arrangement}
use Rattle.entries.specs.Texts.{check_numbers, list_numbers, ask_numbers, written_numbers}
use Rattle.entries.proofs.Laws.First.{check-refusal, list-refusal, ask-refusal, write-refusal, asked-profile}
use Rattle.entries.specs.declared.LengthAnswer.{LengthAnswer}
use Rattle.entries.specs.declared.ListAnswer.{ListAnswer}
use Rattle.entries.specs.declared.AskAnswer.{AskAnswer}

-- ---- a profile by its version and depth

asked-back : (p : Profile) → asks_for (version_of p) (depth_of p) ≡ p
asked-back Full = refl
asked-back (Handheld d) = refl

is-version : (p : Profile) → is_version (version_of p) ≡ true
unfolding is_version
is-version Full = refl
is-version (Handheld d) = refl

-- ---- checking

-- what the entry answers
module _ (t : List ℕ) where
  module _ (e : (check_numbers (checked_of t)).refusal ≡ 0) where
    accepted : text_refusal t ≡ 0
    accepted = sym (check-refusal t) ∙ e

    -- "the number of whole cells in the reading and the sum of their sizes"
    pub check-cells : (check_numbers (checked_of t)).cells ≡ length (whole_cells (nodes_of t))
    unfolding checked_of
    check-cells = ap (λ (r : ℕ). (check_numbers (answer r t)).cells) accepted

    pub check-size : (check_numbers (checked_of t)).size ≡ size_sum (whole_cells (nodes_of t))
    unfolding checked_of
    check-size = ap (λ (r : ℕ). (check_numbers (answer r t)).size) accepted

    -- version, depth, n and s are the heading's
    pub check-heading :
        let a = check_numbers (checked_of t) in
        let p = asks_for a.version a.depth in
        take (heading_length p) t ≡ heading p a.n a.s
    unfolding checked_of
    check-heading =
        subst (λ (r : ℕ).
        let a = check_numbers (answer r t) in
        let p = asks_for a.version a.depth in
        take (heading_length p) t ≡ heading p a.n a.s)
        (sym accepted)
        (subst (λ (p : Profile). take (heading_length p) t ≡ heading p (north_of t) (south_of t)) (sym (asked-back (profile_of t))) (body-start (accepted-reads t accepted)).0)

    -- "Every list of cells that covers exactly an accepted text's ground has at least as many cells as the reader reports for that text."
    pub check-fewest : (qs : List Cell) → Cells qs → SameGround qs (whole_cells (nodes_of t)) → (check_numbers (checked_of t)).cells ≤ length qs
    check-fewest qs c g = omega (arith, check-cells, reported-fewest t accepted qs c g)

-- "accepts it exactly when it is a text of 01's grammar"
pub check-accepts : (t : List ℕ) → ((check_numbers (checked_of t)).refusal ≡ 0) ↔ ((length t ≤ 65536) × Accepted t)
check-accepts t = (λ e. (accepted-exactly t).0 (accepted t e), λ h. check-refusal t ∙ (accepted-exactly t).1 h)

-- "Any two accepted texts with the same .. heading cover the same finest cells exactly when they are the same bytes", "with headings that agree in all
-- their bytes"
pub check-same :
    (t u : List ℕ) → (check_numbers (checked_of t)).refusal ≡ 0 → (check_numbers (checked_of u)).refusal ≡ 0 → take (body_start t) t ≡ take (body_start u) u →
    SameGround (whole_cells (nodes_of t)) (whole_cells (nodes_of u)) ↔ (t ≡ u)
check-same t u e f h = same_bytes t u (accepted t e) (accepted u f) h

-- ---- writing

-- what the entry answers, and what lent memory holds then, so far as the answer says
module _ (version depth n s : ℕ) (codes lent : List ℕ) where
  abbrev profile : Profile
  profile = asks_for version depth

  abbrev refused : ℕ
  refused = write_refusal version depth (arrangement n s) codes (length lent)

  abbrev pub write_answer : LengthAnswer
  write_answer = written_numbers (written refused (length (text_of profile (arrangement n s) codes)))

  abbrev pub written_bytes : List ℕ
  written_bytes = take write_answer.length (given refused (text_in profile (arrangement n s) codes lent) lent)

  write-text : refused ≡ 0 → written_bytes ≡ text_of profile (arrangement n s) codes
  unfolding written text_in
  write-text z =
      let t : List ℕ = text_of profile (arrangement n s) codes in
      ap₂ take (ap (λ (r : ℕ). (written_numbers (written r (length t))).length) z) (given-value (text_in profile (arrangement n s) codes lent) lent z)
      ∙ take-append_seam t (drop (length t) lent)

  module _ (e : write_answer.refusal ≡ 0) where
    allows : refused ≡ 0
    allows = sym (write-refusal refused (length (text_of profile (arrangement n s) codes))) ∙ e

    -- behind 5, behind 2, behind 4, behind 10, behind 14 and 11, behind 15
    pub turned : arrangement_refusal (arrangement n s) ≡ 0
    unfolding write_refusal
    turned = (both _ _ allows).0

    fine : IsProfile profile
    unfolding write_refusal
    fine = asked-profile version depth (λ h. absurd (let k = ltb-false 15 depth (allowed 1 _ (both _ _ (both _ _ allows).1).0) in omega arith))

    pub listed-good : codes_refusal (arrangement n s) codes ≡ 0
    unfolding write_refusal
    listed-good = (both _ _ (both _ _ (both _ _ (both _ _ (both _ _ allows).1).1).1).1).0

    fits : fit_refusal profile (arrangement n s) codes (length lent) ≡ 0
    unfolding write_refusal
    fits = (both _ _ (both _ _ (both _ _ (both _ _ (both _ _ allows).1).1).1).1).1

    cells : Cells (map cell_of codes)
    cells = codes-cells codes (good-list (arrangement n s) codes listed-good).coded

    reads : ReadsAs profile n s written_bytes (nodes_for (map cell_of codes))
    unfolding text_of fit_refusal
    reads =
        let k = is-arrangement turned in
        let m : keeps profile (map cell_of codes) ≡ true = not-false _ (allowed 14 _ (both _ _ fits).0) in
        rw (write-text allows) (written-reads (map cell_of codes) cells profile n s fine m k.northern k.southern)

    short : length written_bytes ≤ 65536
    unfolding fit_refusal
    short = rw (write-text allows) (ltb-false _ _ (allowed 12 _ (both _ _ (both _ _ fits).1).0))

    -- "gives the accepted text", with the heading of the version, the depth, n and s
    pub written-accepted : (check_numbers (checked_of written_bytes)).refusal ≡ 0
    written-accepted = (check-accepts written_bytes).1 (short, (profile, n, s, nodes_for (map cell_of codes), reads))

    pub written-heading : take (heading_length profile) written_bytes ≡ heading profile n s
    written-heading = ap (take (heading_length profile)) reads.body.all ∙ take_head n s (render (level_of profile) (nodes_for (map cell_of codes))) profile

    -- "of the same ground"
    pub written-same-ground : SameGround (map cell_of codes) (whole_cells (nodes_of written_bytes))
    written-same-ground = rw (read-nodes reads) (written-ground (map cell_of codes) cells)

-- ---- listing, and writing what was listed

module _ {a : Arrangement} (g : IsArrangement a) where
  cells-codes : (cs : List Cell) → Cells cs → all_codes (map (code_of a) cs) ≡ true
  unfolding all_codes
  cells-codes [] h = refl
  cells-codes (c ∷ cs) h = ap₂ ◌&&◌ (cell-has-code g c h.0) (cells-codes cs h.1)

  cells-own : (cs : List Cell) → Cells cs → all_of a (map (code_of a) cs) ≡ true
  unfolding all_of
  cells-own [] h = refl
  cells-own (c ∷ cs) h = ap₂ ◌&&◌ (arrangement-of a (code_of a c) (arrangement-code g c h.0)) (cells-own cs h.1)

module _ (t : List ℕ) (e : text_refusal t ≡ 0) where
  own : ReadsAs (profile_of t) (north_of t) (south_of t) t (nodes_of t)
  own = accepted-reads t e

  back : map cell_of (codes_of t) ≡ whole_cells (nodes_of t)
  back = listed-cells t (read-text own)

  good : GoodList (text_arrangement t) (codes_of t)
  unfolding codes_of
  good =
      let w = whole_cells_lem tt (omega arith) (reads-body t (read-text own)) in
      let g = text-arranged t (read-text own) in
      record {
        coded = cells-codes g (whole_cells (nodes_of t)) w.0;
        own = cells-own g (whole_cells (nodes_of t)) w.0;
        rising = rw back w.1;
        apart = rw back w.2;
      }

  -- the version and the depth of its heading
  abbrev version : ℕ
  version = version_of (profile_of t)

  abbrev depth : ℕ
  depth = depth_of (profile_of t)

  kept : keeps (profile_of t) (map cell_of (codes_of t)) ≡ true
  kept = rw (back, listed-nodes own) (good-fits (nodes_of t) (level_of (profile_of t)) (depth_of (profile_of t)) 0 own.body.good)

  again : text_of (profile_of t) (arrangement (north_of t) (south_of t)) (codes_of t) ≡ t
  unfolding text_of
  again = ap (written_text (profile_of t) (north_of t) (south_of t)) back ∙ listed-written own

  allowed-again : (room : ℕ) → length t ≤ room → write_refusal version depth (arrangement (north_of t) (south_of t)) (codes_of t) room ≡ 0
  unfolding write_refusal fit_refusal is_version
  allowed-again room h =
      let m : ℕ = length (text_of (profile_of t) (arrangement (north_of t) (south_of t)) (codes_of t)) in
      let z : m ≡ length t = ap length again in
      let l : length t ≤ 65536 = ((accepted-exactly t).0 e).0 in
      passes _ (arrangement-is (record { northern = own.north; southern = own.south }))
      ∙ passes _ (ap (λ (b : Bool). refuse b 2) (le-ltb 15 depth (depth-most (profile_of t) own.profiled)))
      ∙ passes _ (ap (λ (b : Bool). refuse (not b) 4) good.coded)
      ∙ passes _ (ap (λ (b : Bool). refuse (not b) 10) (is-version (profile_of t)))
      ∙ passes _ (list-good (text_arrangement t) (codes_of t) good)
      ∙ ap (λ (p : Profile). fit_refusal p (arrangement (north_of t) (south_of t)) (codes_of t) room) (asked-back (profile_of t))
      ∙ passes _ (ap (λ (b : Bool). refuse (not b) 15) kept)
      ∙ passes _ (ap (λ (b : Bool). refuse b 13) (le-ltb 65536 m (omega arith)))
      ∙ ap (λ (b : Bool). refuse b 8) (le-ltb room m (omega arith))

-- what the entry answers, and what lent memory holds then, so far as the answer says
module _ (t lent : List ℕ) where
  abbrev pub list_answer : ListAnswer
  list_answer = list_numbers (listed (listing_refusal t (length lent)) t)

  abbrev pub listed_codes : List ℕ
  listed_codes = take list_answer.count (given (listing_refusal t (length lent)) (codes_in t lent) lent)

  module _ (e : list_answer.refusal ≡ 0) where
    none : listing_refusal t (length lent) ≡ 0
    none = sym (list-refusal (listing_refusal t (length lent)) t) ∙ e

    -- "the codes of the whole cells"
    pub listed-codes : listed_codes ≡ codes_of t
    unfolding listed codes_in
    listed-codes =
        ap₂ take (ap (λ (r : ℕ). (list_numbers (listed r t)).count) none) (given-value (codes_in t lent) lent none)
        ∙ take-append_seam (codes_of t) (drop (length (codes_of t)) lent)

    -- with the heading's version, depth, n and s, and room enough, they are written as the same bytes
    pub relisted :
        (bytes : List ℕ) → length t ≤ length bytes →
        ((write_answer (version_of (profile_of t)) (depth_of (profile_of t)) (north_of t) (south_of t) listed_codes bytes).refusal ≡ 0)
        × (written_bytes (version_of (profile_of t)) (depth_of (profile_of t)) (north_of t) (south_of t) listed_codes bytes ≡ t)
    unfolding listing_refusal
    relisted bytes h =
        let p : text_refusal t ≡ 0 = (both _ _ none).0 in
        let z = allowed-again t p (length bytes) h in
        let v : ℕ = version_of (profile_of t) in
        let d : ℕ = depth_of (profile_of t) in
        rw listed-codes (
          write-refusal (write_refusal v d (arrangement (north_of t) (south_of t)) (codes_of t) (length bytes)) _ ∙ z,
          write-text v d (north_of t) (south_of t) (codes_of t) bytes z
              ∙ ap (λ (o : Profile). text_of o (arrangement (north_of t) (south_of t)) (codes_of t)) (asked-back (profile_of t)) ∙ again t p,
        )

-- ---- asking

module _ (t : List ℕ) (code : ℕ) where
  abbrev pub ask_answer : AskAnswer
  ask_answer = ask_numbers (asked (ask_refusal t code) t code)

  -- "whether all of one cell's finest cells are covered": 1 exactly then, and 0 exactly where not
  module _ (e : ask_answer.refusal ≡ 0) where
    asks : ask_refusal t code ≡ 0
    asks = sym (ask-refusal t (ask_refusal t code) code) ∙ e

    told : ask_answer.covered ≡ cond (any_within (whole_cells (nodes_of t)) (cell_of code)) 1 0
    unfolding asked
    told = ap (λ (r : ℕ). (ask_numbers (asked r t code)).covered) asks

    exactly : (any_within (whole_cells (nodes_of t)) (cell_of code) ≡ true) ↔ AllCovered (whole_cells (nodes_of t)) (cell_of code)
    unfolding ask_refusal
    exactly =
        let p = both _ _ asks in
        asked-exactly tt (omega arith) (reads-body t (read-text (accepted-reads t (both _ _ p.1).0))) (cell_of code) (code-is-cell code (a-code code p.0))

    pub asked-yes : (ask_answer.covered ≡ 1) ↔ AllCovered (whole_cells (nodes_of t)) (cell_of code)
    asked-yes = (λ h. exactly.0 (one (any_within (whole_cells (nodes_of t)) (cell_of code)) (sym told ∙ h)), λ h. told ∙ ap (λ (b : Bool). cond b 1 0) (exactly.1 h))
      where
        one : (b : Bool) → ◌≡◌ {A = ℕ} (cond b 1 0) 1 → b ≡ true
        one true h = refl
        one false h = absurd (omega arith)

    pub asked-no : (ask_answer.covered ≡ 0) ↔ (AllCovered (whole_cells (nodes_of t)) (cell_of code) → ⊥)
    asked-no = (
      λ h k. no (sym h ∙ told ∙ ap (λ (b : Bool). cond b 1 0) (exactly.1 k)),
      λ h. told ∙ ap (λ (b : Bool). cond b 1 0) (refuted (any_within (whole_cells (nodes_of t)) (cell_of code)) (λ k. h (exactly.0 k))),
    )
      where
        no : ◌≡◌ {A = ℕ} 0 1 → ⊥
        no h = omega arith
