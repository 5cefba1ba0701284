-- Batches beside their loops: what was put, and what is still to be put, is the whole. Assumes nothing.
use Rattle.std.specs.Prelude.{Err, Ok, Result}
use mathlib.Core.Path.{◌≡◌, refl, sym, ap, ap₂, ◌∙◌}
use mathlib.Core.Bool.{Bool}
use mathlib.Core.List.{List, [], ◌∷◌, ◌++◌}
use Prim.Native.Nat.{ℕ, suc, ◌+◌, ◌-◌, ◌*◌, ◌/◌, ◌≤◌, ◌<◌}
use native.Mathlib.Omega.{arith}
use lib.ListN.{length, get_or, set, drop, drop_of_length-le}
use lib.Seq.{sets, sets-eq, length-sets, drop-cons, drop-drop}
use borrow.Author.Tests.{le-ltb, lt-ltb}
use Rattle.logic.specs.Lent.{in_front}
use Rattle.logic.specs.Refusal.{refuse, given}
use Rattle.logic.specs.Laws.Stores.{sets-append}
use Rattle.cell.specs.declared.Cell.{Cell}
use Rattle.cell.specs.declared.Arrangement.{Arrangement}
use Rattle.cell.specs.Cell.{found}
use Rattle.code.specs.Code.{cell_of, arrangement_of, code_refusal}
use Rattle.batch.specs.Batch.{seven_good, seven_bad, seven_in, seven_of, cells_of, cells_refusal, coded_at, two_in, first_codes, cells_in, codes_of, codes_refusal, batched}
use Rattle.batch.proofs.Laws.Batch.{seven-long}

-- stores from the start are numbers in front
front : (l xs : List ℕ) {m : List ℕ} → m ≡ sets l 0 xs → length xs ≤ length l → m ≡ in_front xs l
front l xs e h = let k : 0 + length xs ≡ length xs = omega arith in e ∙ sets-eq xs l 0 (omega arith) ∙ ap (λ (n : ℕ). xs ++ drop n l) k

-- ---- codes to cells

-- with the cells of the first i codes put, up to `at`
pub record CellsPut (codes lent numbers : List ℕ) (i at : ℕ) : Type 0 where
  pub within : i ≤ length codes
  pub room : at + 7 * (length codes - i) ≤ length numbers
  pub long : length numbers ≡ length lent
  pub whole : sets numbers at (cells_of (drop i codes)) ≡ sets lent 0 (cells_of codes)

pub cells-start : {codes lent : List ℕ} → 7 * length codes ≤ length lent → CellsPut codes lent lent 0 0
cells-start h = record { within = omega arith; room = omega arith; long = refl; whole = refl }

module _ {codes lent numbers : List ℕ} {i at : ℕ} (p : CellsPut codes lent numbers i at) where
  pub cell_room : i < length codes → at + 7 ≤ length numbers
  cell_room h = omega (arith, p.room)

  pub cells-on : {more : List ℕ} → i < length codes → more ≡ sets numbers at (seven_of (get_or codes i 0)) → CellsPut codes lent more (i + 1) (at + 7)
  unfolding cells_of
  cells-on {more} h e =
      let code : ℕ = get_or codes i 0 in
      let l : length more ≡ length numbers = ap length e ∙ length-sets numbers at (seven_of code) in
      let s : suc i ≡ i + 1 = omega arith in
      let d : drop i codes ≡ code ∷ drop (i + 1) codes = drop-cons codes i 0 h ∙ ap (λ (n : ℕ). code ∷ drop n codes) s in
      record {
        within = omega arith;
        room = omega (arith, p.room);
        long = l ∙ p.long;
        whole =
            ap₂ (λ (y : List ℕ) (n : ℕ). sets y (at + n) (cells_of (drop (i + 1) codes))) e (sym (seven-long code))
            ∙ sym (sets-append numbers at (seven_of code) (cells_of (drop (i + 1) codes)))
            ∙ sym (ap (λ (x : List ℕ). sets numbers at (cells_of x)) d)
            ∙ p.whole;
      }

  pub cells-end : length codes ≤ i → numbers ≡ sets lent 0 (cells_of codes)
  unfolding cells_of
  cells-end h = sym (ap (λ (x : List ℕ). sets numbers at (cells_of x)) (drop_of_length-le codes {i = i} h)) ∙ p.whole

-- ---- cells to codes

pub record CodesPut (ns lent codes : List ℕ) (i at : ℕ) : Type 0 where
  pub within : i ≤ length ns
  pub room : at + 2 * ((length ns - i) / 6) ≤ length codes
  pub long : length codes ≡ length lent
  pub whole : sets codes at (first_codes ((length ns - i) / 6) (drop i ns)) ≡ sets lent 0 (codes_of ns)

pub codes-start : {ns lent : List ℕ} → 2 * cells_in ns ≤ length lent → CodesPut ns lent lent 0 0
unfolding codes_of
codes-start {ns} {lent} h =
    let z : (length ns - 0) / 6 ≡ length ns / 6 = omega arith in
    record { within = omega arith; room = omega arith; long = refl; whole = ap (λ (k : ℕ). sets lent 0 (first_codes k ns)) z }

module _ {ns lent codes : List ℕ} {i at : ℕ} (p : CodesPut ns lent codes i at) where
  pub codes-room : 6 ≤ length ns - i → (i + 6 ≤ length ns) × (at + 2 ≤ length codes)
  codes-room h = (omega arith, omega (arith, p.room))

  pub codes-on : {more : List ℕ} → 6 ≤ length ns - i → more ≡ sets codes at (two_in (coded_at (drop i ns))) → CodesPut ns lent more (i + 6) (at + 2)
  unfolding first_codes
  codes-on {more} h e =
      let two : List ℕ = two_in (coded_at (drop i ns)) in
      let l : length more ≡ length codes = ap length e ∙ length-sets codes at two in
      let k : ℕ = (length ns - (i + 6)) / 6 in
      let n : (length ns - i) / 6 ≡ suc ((length ns - (i + 6)) / 6) = omega arith in
      let rest : List ℕ = first_codes ((length ns - (i + 6)) / 6) (drop (i + 6) ns) in
      record {
        within = omega arith;
        room = omega (arith, p.room);
        long = l ∙ p.long;
        whole =
            ap (λ (y : List ℕ). sets y (at + 2) rest) e
            ∙ sym (sets-append codes at two rest)
            ∙ sym (ap (λ (x : List ℕ). sets codes at (two ++ first_codes ((length ns - (i + 6)) / 6) x)) (drop-drop 6 i ns))
            ∙ sym (ap (λ (m : ℕ). sets codes at (first_codes m (drop i ns))) n)
            ∙ p.whole;
      }

  pub codes-end : length ns - i < 6 → codes ≡ sets lent 0 (codes_of ns)
  unfolding first_codes
  codes-end h =
      let z : (length ns - i) / 6 ≡ 0 = omega arith in
      sym (ap (λ (m : ℕ). sets codes at (first_codes m (drop i ns))) z) ∙ p.whole

-- ---- what is answered

-- 8, and nothing is changed
pub refused-eight : {r : ℕ} (n : ℕ) (xs lent : List ℕ) → r ≡ 8 → (Err 8 ≡ batched r n) × (lent ≡ given r xs lent)
unfolding batched given
refused-eight n xs lent e = (ap (λ (x : ℕ). batched x n) (sym e), ap (λ (x : ℕ). given x xs lent) (sym e))

-- or the batch, in front
pub answered : {r : ℕ} (n : ℕ) (xs lent : List ℕ) {m : List ℕ} → r ≡ 0 → m ≡ sets lent 0 xs → length xs ≤ length lent → (Ok n ≡ batched r n) × (m ≡ given r (in_front xs lent) lent)
unfolding batched given
answered n xs lent e f h = (ap (λ (x : ℕ). batched x n) (sym e), front lent xs f h ∙ ap (λ (x : ℕ). given x (in_front xs lent) lent) (sym e))

module _ (codes : List ℕ) (room : ℕ) where
  pub cells-short : room / 7 < length codes → cells_refusal codes room ≡ 8
  unfolding cells_refusal
  cells-short h = ap (λ (b : Bool). refuse b 8) (lt-ltb room (7 * length codes) (omega arith))

  pub cells-enough : length codes ≤ room / 7 → cells_refusal codes room ≡ 0
  unfolding cells_refusal
  cells-enough h = ap (λ (b : Bool). refuse b 8) (le-ltb room (7 * length codes) (omega arith))

  pub codes-short : room / 2 < cells_in codes → codes_refusal codes room ≡ 8
  unfolding codes_refusal
  codes-short h = ap (λ (b : Bool). refuse b 8) (lt-ltb room (2 * cells_in codes) (omega arith))

  pub codes-enough : cells_in codes ≤ room / 2 → codes_refusal codes room ≡ 0
  unfolding codes_refusal
  codes-enough h = ap (λ (b : Bool). refuse b 8) (le-ltb room (2 * cells_in codes) (omega arith))

-- ---- stores one after the other

pub seven-put :
    (l : List ℕ) (at a b c d e f g : ℕ) →
    set (set (set (set (set (set (set l at a) (at + 1) b) (at + 2) c) (at + 3) d) (at + 4) e) (at + 5) f) (at + 6) g
    ≡ sets l at (a ∷ b ∷ c ∷ d ∷ e ∷ f ∷ g ∷ [])
seven-put l at a b c d e f g =
    let i : at + 1 ≡ suc at = omega arith in
    let j : at + 2 ≡ suc (suc at) = omega arith in
    let k : at + 3 ≡ suc (suc (suc at)) = omega arith in
    let m : at + 4 ≡ suc (suc (suc (suc at))) = omega arith in
    let n : at + 5 ≡ suc (suc (suc (suc (suc at)))) = omega arith in
    let o : at + 6 ≡ suc (suc (suc (suc (suc (suc at))))) = omega arith in
    rw (i, j, k, m, n, o) refl

pub two-put : (l : List ℕ) (at a b : ℕ) → set (set l at a) (at + 1) b ≡ sets l at (a ∷ b ∷ [])
two-put l at a b = let i : at + 1 ≡ suc at = omega arith in rw i refl

-- ---- what one code or cell gets

pub seven-good :
    (code : ℕ) {f : Result Cell ℕ} {a : Arrangement} {c : Cell} → f ≡ found (code_refusal code) (cell_of code) → f ≡ Ok c → a ≡ arrangement_of code →
    seven_good a c ≡ seven_of code
unfolding seven_of
seven-good code e h g = ap₂ seven_in g (sym h ∙ e)

pub seven-bad : (code : ℕ) {f : Result Cell ℕ} {r : ℕ} → f ≡ found (code_refusal code) (cell_of code) → f ≡ Err r → seven_bad r ≡ seven_of code
unfolding seven_of
seven-bad code e h = ap (seven_in (arrangement_of code)) (sym h ∙ e)
