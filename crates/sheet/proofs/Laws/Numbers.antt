-- Where each number of a sheet stands: record k has its five from byte 40 k on, eight bytes each, low byte first (02, W-211). Assumes nothing.
use Rattle.std.specs.Prelude.{◌≡◌, refl, true, List, [], ◌∷◌, ◌++◌, ℕ, zero, suc, ◌+◌, ◌*◌, ◌^◌, ◌<◌, length, take, drop, get_or}
use Rattle.std.proofs.Common.{sym, ap, ◌∙◌, append_assoc, arith, take_at, drop_at, drop-drop}
use Rattle.logic.specs.Lists.{All}
use Rattle.reading.specs.Ground.{whole_cells}
use Rattle.reading.specs.TextReading.{nodes_of, text_arrangement, is_text}
use Rattle.reading.proofs.Laws.TextReading.{text-arranged}
use Rattle.listing.specs.List.{codes_of}
use Rattle.sheet.specs.declared.Record.{Record}
use Rattle.sheet.specs.Sheet.{low, records_of, bytes_of, joined, sheet_of, Words, codes_in}
use Rattle.sheet.proofs.Laws.Bytes.{length-low, length-bytes, from_low, low_told}
use Rattle.sheet.proofs.Laws.Sheet.{record-codes, all_words}
use Rattle.sheet.proofs.Laws.Stands.{text-cells}

-- the number that eight bytes from a place on tell
abbrev pub number_at : List ℕ → (at : ℕ) → ℕ
number_at b at = from_low (take 8 (drop at b))

-- "five 64-bit numbers .. its code and four neighbour codes in our direction order", from a place on
pub record Stand (b : List ℕ) (at : ℕ) (r : Record) : Type 0 where
  pub code : number_at b at ≡ r.code
  pub up : number_at b (at + 8) ≡ r.up
  pub right : number_at b (at + 16) ≡ r.right
  pub down : number_at b (at + 24) ≡ r.down
  pub left : number_at b (at + 32) ≡ r.left

-- behind bytes that stand in front
behind : (front rest : List ℕ) (m n : ℕ) → length front ≡ m → number_at (front ++ rest) (m + n) ≡ number_at rest n
behind front rest m n e = ap (λ (b : List ℕ). from_low (take 8 b)) (sym (drop-drop n m (front ++ rest)) ∙ ap (drop n) (drop_at front rest m e))

first : (x : ℕ) (rest : List ℕ) → x < 2 ^ 64 → number_at (low 8 x ++ rest) 0 ≡ x
first x rest h = ap from_low (take_at (low 8 x) rest 8 (length-low 8 x)) ∙ low_told 8 x (omega arith)

next : (x : ℕ) (rest : List ℕ) (n : ℕ) → number_at (low 8 x ++ rest) (8 + n) ≡ number_at rest n
next x rest n = behind (low 8 x) rest 8 n (length-low 8 x)

-- ---- one record

in-front : (r : Record) → Words r → (rest : List ℕ) → Stand (bytes_of r ++ rest) 0 r
unfolding bytes_of
in-front r w rest =
    let e : List ℕ = low 8 r.left ++ rest in
    let d : List ℕ = low 8 r.down ++ e in
    let c : List ℕ = low 8 r.right ++ d in
    let b : List ℕ = low 8 r.up ++ c in
    let s : bytes_of r ++ rest ≡ low 8 r.code ++ b = simp append_assoc in
    let at : (n : ℕ) → number_at (bytes_of r ++ rest) n ≡ number_at (low 8 r.code ++ b) n = λ n. ap (λ (x : List ℕ). number_at x n) s in
    record {
      code = at 0 ∙ first r.code b w.code;
      up = at 8 ∙ next r.code b 0 ∙ first r.up c w.up;
      right = at 16 ∙ next r.code b 8 ∙ next r.up c 0 ∙ first r.right d w.right;
      down = at 24 ∙ next r.code b 16 ∙ next r.up c 8 ∙ next r.right d 0 ∙ first r.down e w.down;
      left = at 32 ∙ next r.code b 24 ∙ next r.up c 16 ∙ next r.right d 8 ∙ next r.down e 0 ∙ first r.left rest w.left;
    }

-- ---- record k

module _ (q : Record) (rest : List ℕ) (k : ℕ) where
  later : (n : ℕ) → number_at (bytes_of q ++ rest) (40 * suc k + n) ≡ number_at rest (40 * k + n)
  later n =
      let e : 40 * suc k + n ≡ 40 + (40 * k + n) = omega arith in
      ap (number_at (bytes_of q ++ rest)) e ∙ behind (bytes_of q) rest 40 (40 * k + n) (length-bytes q)

  stands-later : {r : Record} → Stand rest (40 * k) r → Stand (bytes_of q ++ rest) (40 * suc k) r
  stands-later s =
      let z : 40 * suc k ≡ 40 * suc k + 0 = omega arith in
      let y : 40 * k + 0 ≡ 40 * k = omega arith in
      record {
        code = ap (number_at (bytes_of q ++ rest)) z ∙ later 0 ∙ ap (number_at rest) y ∙ s.code;
        up = later 8 ∙ s.up;
        right = later 16 ∙ s.right;
        down = later 24 ∙ s.down;
        left = later 32 ∙ s.left;
      }

-- of any records, the one with number k; behind the last there is none
pub record-stands : (none : Record) (rs : List Record) → All Words rs → (k : ℕ) → k < length rs → Stand (joined rs) (40 * k) (get_or rs k none)
unfolding joined
record-stands none [] w k l = absurd (omega arith)
record-stands none (r ∷ rs) w zero l = in-front r w.0 (joined rs)
record-stands none (r ∷ rs) w (suc k) l = stands-later r (joined rs) k (record-stands none rs w.1 k (omega arith))

-- what each record is, that with number k is
pub all-at : (P : Record → Type 0) (none : Record) (rs : List Record) → All P rs → (k : ℕ) → k < length rs → P (get_or rs k none)
all-at P none [] h k l = absurd (omega arith)
all-at P none (r ∷ rs) h zero l = h.0
all-at P none (r ∷ rs) h (suc k) l = all-at P none rs h.1 k (omega arith)

-- ---- of a text

module _ (t : List ℕ) where
  -- the records' codes are those that listing gives
  pub text_codes : codes_in (records_of t) ≡ codes_of t
  unfolding records_of codes_of
  text_codes = record-codes (text_arrangement t) (whole_cells (nodes_of t))

  module _ (e : is_text t ≡ true) where
    pub text-words : All Words (records_of t)
    unfolding records_of
    text-words = all_words (text_arrangement t) (text-arranged t e) (whole_cells (nodes_of t)) (text-cells t e).0

    pub sheet-stands : (none : Record) (k : ℕ) → k < length (records_of t) → Stand (sheet_of t) (40 * k) (get_or (records_of t) k none)
    unfolding sheet_of
    sheet-stands none k l = record-stands none (records_of t) text-words k l

-- ---- a record worked out by hand

pub written_out :
    bytes_of (record { code = 72623859790382856; up = 258; right = 772; down = 1286; left = 1800 })
    ≡ 8 ∷ 7 ∷ 6 ∷ 5 ∷ 4 ∷ 3 ∷ 2 ∷ 1 ∷
    2 ∷ 1 ∷ 0 ∷ 0 ∷ 0 ∷ 0 ∷ 0 ∷ 0 ∷
    4 ∷ 3 ∷ 0 ∷ 0 ∷ 0 ∷ 0 ∷ 0 ∷ 0 ∷
    6 ∷ 5 ∷ 0 ∷ 0 ∷ 0 ∷ 0 ∷ 0 ∷ 0 ∷
    8 ∷ 7 ∷ 0 ∷ 0 ∷ 0 ∷ 0 ∷ 0 ∷ 0 ∷ []
unfolding bytes_of low
written_out = refl
