-- What the functions of this crate promise of where they stand in the two texts, and of the cells that they find. A tree is known only to the proof: so
-- they speak of any portions whose bytes stand there. Assumes nothing.
use Rattle.std.specs.Prelude.{◌≡◌, true, false, cond, List, [], ◌∷◌, ◌++◌, map, ℕ, ◌+◌, ◌-◌, ◌*◌, ◌^◌, ◌≤◌, ◌<◌, eqb, ltb, length, drop, Ok, Result}
use Rattle.std.proofs.lemmas.List.Edits.{sets}
use Rattle.reading.specs.declared.Refused.{Refused}
use Rattle.comparing.specs.declared.Compared.{Compared}
use Rattle.cell.specs.declared.Arrangement.{Arrangement}
use Rattle.reading.specs.declared.Level.{Level}
use Rattle.reading.specs.declared.Level.TheVariants.{Digits}
use Rattle.reading.specs.Reading.{first, many, render}
use Rattle.reading.specs.Ground.{whole_cells, size_sum}
use Rattle.reading.specs.TextReading.{nodes_of, text_arrangement, is_text, body_start}
use Rattle.reading.proofs.Laws.Parse.{Stop}
use Rattle.reader.specs.Check.{text_refusal}
use Rattle.walk.specs.declared.Spot.{Spot}
use Rattle.walk.specs.Walk.{spot, spots_in}
use Rattle.listing.proofs.Laws.List.{spot_code}
use Rattle.comparing.specs.declared.Child.{Child}
use Rattle.comparing.specs.declared.Cursor.{Cursor}
use Rattle.comparing.specs.declared.Read.{Read}
use Rattle.comparing.specs.Shared.{Portion, none, all, some, portion_number, of_child, past_child, divided, wanted, side_shared, below_shared}
use Rattle.comparing.specs.Compare.{ThreeLists, shared_codes, in_both}
use Rattle.comparing.specs.Internal.Portions.{GoodPortion, GoodInside}

-- ---- the bytes

-- of what is left of a list
abbrev pub bytes : Level → Portion → List ℕ
bytes l none = []
bytes l all = []
bytes l (some ns) = render l ns

-- the `)` behind it
abbrev pub closing : Portion → List ℕ → List ℕ
closing none e = e
closing all e = e
closing (some ns) e = 41 ∷ e

-- behind what is left of a list stands a `)`, or nothing
abbrev pub StopAt : Portion → List ℕ → Type 0
StopAt none e = Unit {0}
StopAt all e = Unit {0}
StopAt (some ns) e = Stop e

unfoldable pub past_of : (length at portion : ℕ) → ℕ
past_of n at i = cond (eqb i 2) (cond (ltb at n) (at + 1) at) at

-- the portion of a child of number c, and what stands behind its letter or digit
pub record ChildPortion (s : List ℕ) (l : Level) (c : ℕ) (x : Portion) (e : List ℕ) (r : Child) : Type 0 where
  pub portion : r.portion ≡ portion_number (of_child c x)
  pub stands : drop r.next s ≡ bytes Digits (of_child c x) ++ closing (of_child c x) (bytes l (past_child c x) ++ e)

pub record ChildIs (s : List ℕ) (at i byte : ℕ) (r : Child) : Type 0 where
  pub is :
      (l : Level) (d c : ℕ) (x : Portion) (e : List ℕ) → portion_number x ≡ i → byte ≡ first l + c → c < many l → GoodPortion l d c x → StopAt x e →
      drop at s ≡ bytes l x ++ e → ChildPortion s l c x e r

-- ---- the cells

-- those found inside a cell of resolution k and number n
unfoldable pub spots_at : (k n : ℕ) → Portion → Portion → (p q : ℕ) → List Spot
spots_at k n x y p q = cond (divided x y) (spots_in (k + 1) n (below_shared (15 - k) p q x y)) (cond (wanted p q x y) (spot k n ∷ []) [])

-- those found inside m cells of resolution k, from the child of number c on, where the parent has number n
unfoldable pub spots_from : (k n m c : ℕ) → Portion → Portion → (p q : ℕ) → List Spot
spots_from k n m c x y p q = spots_in k n (side_shared (below_shared (15 - k) p q) p q m c x y)

-- the sum of their sizes
unfoldable pub sizes_of : List Spot → ℕ
sizes_of [] = 0
sizes_of (s ∷ ss) = 9 ^ (15 - s.resolution) + sizes_of ss

-- these were found of one listing, with `count` before them: their codes stand behind those, as far as there is room
pub record Adds (a : Arrangement) (ss : List Spot) (lent later : List ℕ) (count more : ℕ) : Type 0 where
  pub counted : more ≡ count + length ss
  pub put : later ≡ sets lent count (map (spot_code a) ss)

-- of all three: ss p q are the cells that the first has or has not, as p says, and the second as q says
pub record AddsAll (a : Arrangement) (ss : (p q : ℕ) → List Spot) (from : Cursor) (lent later : ThreeLists) (r : Cursor) : Type 0 where
  pub firsts : Adds a (ss 1 0) lent.firsts later.firsts from.firsts r.firsts
  pub seconds : Adds a (ss 0 1) lent.seconds later.seconds from.seconds r.seconds
  pub boths : Adds a (ss 1 1) lent.boths later.boths from.boths r.boths
  pub size : r.size ≡ from.size + sizes_of (ss 1 1)

-- and the texts go on with e and f
pub record Found (s t e f : List ℕ) (a : Arrangement) (ss : (p q : ℕ) → List Spot) (from : Cursor) (lent later : ThreeLists) (r : Cursor) : Type 0 where
  pub first : drop r.first s ≡ e
  pub second : drop r.second t ≡ f
  pub adds : AddsAll a ss from lent later r

-- what was counted so far. It grows by at most twice the finest cells that were gone over, so nothing overflows
abbrev pub weight : Cursor → ℕ
weight c = c.firsts + c.seconds + c.boths + c.size

-- ---- what is promised

-- a cell for which neither text has a list
pub record CellFound (from : Cursor) (i j : ℕ) (a : Arrangement) (k n : ℕ) (lent later : ThreeLists) (r : Cursor) : Type 0 where
  pub first : r.first ≡ from.first
  pub second : r.second ≡ from.second
  pub adds : (x y : Portion) → portion_number x ≡ i → portion_number y ≡ j → divided x y ≡ false → AddsAll a (spots_at k n x y) from lent later r
  pub short : weight r ≤ weight from + 2 * 9 ^ (15 - k)

-- any cell, below which d digits may lie
pub record NodeFound (s t : List ℕ) (from : Cursor) (i j : ℕ) (a : Arrangement) (k n : ℕ) (lent later : ThreeLists) (r : Cursor) : Type 0 where
  pub is :
      (x y : Portion) (e f : List ℕ) (d : ℕ) → portion_number x ≡ i → portion_number y ≡ j → d + k ≤ 15 → GoodInside d x → GoodInside d y →
      drop from.first s ≡ bytes Digits x ++ closing x e → drop from.second t ≡ bytes Digits y ++ closing y f →
      Found s t e f a (spots_at k n x y) from lent later r
  pub short : weight r ≤ weight from + 2 * 9 ^ (15 - k)

-- m cells side by side, from the one of number n on
pub record ListFound (s t : List ℕ) (from : Cursor) (i j : ℕ) (a : Arrangement) (m byte k n : ℕ) (lent later : ThreeLists) (r : Cursor) : Type 0 where
  pub is :
      (l : Level) (x y : Portion) (e f : List ℕ) (d c p : ℕ) → portion_number x ≡ i → portion_number y ≡ j → byte ≡ first l + c → m + c ≡ many l →
      n ≡ p * 9 + c → d + k ≤ 15 → GoodPortion l d c x → GoodPortion l d c y → StopAt x e → StopAt y f → drop from.first s ≡ bytes l x ++ e →
      drop from.second t ≡ bytes l y ++ f → Found s t e f a (spots_from k p m c x y) from lent later r
  pub short : weight r ≤ weight from + m * (2 * 9 ^ (15 - k))

-- a text that was accepted
pub record WasRead (t : List ℕ) (r : Read) : Type 0 where
  pub allowed : text_refusal t ≡ 0
  pub text : is_text t ≡ true
  pub arranged : r.arrangement ≡ text_arrangement t
  pub size : r.size ≡ size_sum (whole_cells (nodes_of t))
  pub body : r.body ≡ body_start t

-- two texts gone over from their bodies on: how long the listings are, and the sum of sizes of what is in both
pub record TextsMeasured (t u : List ℕ) (r : Cursor) : Type 0 where
  pub firsts : r.firsts ≡ length (shared_codes t u).firsts
  pub seconds : r.seconds ≡ length (shared_codes t u).seconds
  pub boths : r.boths ≡ length (shared_codes t u).boths
  pub size : r.size ≡ size_sum (in_both (nodes_of t) (nodes_of u))

-- and their codes, as far as there is room
pub record TextsFound (t u : List ℕ) (lent later : ThreeLists) (r : Cursor) : Type 0 where
  pub measured : TextsMeasured t u r
  pub firsts : later.firsts ≡ sets lent.firsts 0 (shared_codes t u).firsts
  pub seconds : later.seconds ≡ sets lent.seconds 0 (shared_codes t u).seconds
  pub boths : later.boths ≡ sets lent.boths 0 (shared_codes t u).boths

-- what is answered of the counts, where the two texts have these sums of sizes
abbrev pub tied_up : Cursor → (first second : ℕ) → Result Compared Refused
tied_up c first second =
    Ok
    (record {
      first = record { count = c.firsts; size = first - c.size };
      second = record { count = c.seconds; size = second - c.size };
      both = record { count = c.boths; size = c.size };
    })
