-- What is found of two accepted texts, from their bodies on, is the three listings. Assumes nothing.
use mathlib.Core.Path.{◌≡◌, refl, sym, ap, ◌∙◌}
use mathlib.Core.List.{List, [], ◌∷◌, map, append-nil}
use Prim.Native.Nat.{ℕ, ◌+◌, ◌-◌, ◌^◌, ◌≤◌}
use native.Mathlib.Omega.{arith}
use lib.ListN.{length, drop, length-map}
use lib.Seq.{sets}
use Rattle.cell.specs.declared.Cell.{Cell}
use Rattle.cell.specs.declared.Arrangement.{Arrangement}
use Rattle.code.specs.Code.{code_of, size_of}
use Rattle.reading.specs.declared.Level.TheVariants.{Faces}
use Rattle.reading.specs.Reading.{Nodes, render, Good}
use Rattle.reading.specs.Ground.{whole_cells, size_sum}
use Rattle.reading.specs.TextReading.{nodes_of}
use Rattle.reading.proofs.Laws.Demand.{good-reads, good-cells}
use Rattle.reading.proofs.Laws.Fewest.{names-good}
use Rattle.reading.proofs.Laws.TextReading.{good-nodes, body-nodes}
use Rattle.walk.specs.Walk.{spot_of, spots_in}
use Rattle.walk.specs.Laws.Walk.{spots-cells}
use Rattle.listing.proofs.Laws.List.{spot_code, spot-codes}
use Rattle.comparing.specs.declared.Cursor.{Cursor}
use Rattle.comparing.specs.declared.Read.{Read}
use Rattle.comparing.specs.Shared.{some, shared}
use Rattle.comparing.specs.Compare.{ThreeLists, first_only, second_only, in_both, codes_for, shared_codes}
use Rattle.comparing.proofs.Internal.Grammar.{shared-good}
use Rattle.comparing.specs.Internal.Found.{spots_from, sizes_of, Adds, ListFound, WasRead, TextsFound}

-- ---- the cells of nodes of the grammar

sizes-cells : (cells : List Cell) → sizes_of (map spot_of cells) ≡ size_sum cells
unfolding sizes_of size_sum size_of
sizes-cells [] = refl
sizes-cells (c ∷ cells) = ap (λ (x : ℕ). 9 ^ (15 - c.resolution) + x) (sizes-cells cells)

module _ (ns : Nodes) (g : Good Faces 15 0 ns) where
  spots : spots_in 0 0 ns ≡ map spot_of (whole_cells ns)
  spots = spots-cells ns (names-good ns Faces 15 0 15 g (omega arith))

  spots-length : (a : Arrangement) → length (spots_in 0 0 ns) ≡ length (map (code_of a) (whole_cells ns))
  spots-length a = ap length spots ∙ length-map (whole_cells ns) spot_of ∙ sym (length-map (whole_cells ns) (code_of a))

  spots-coded : (a : Arrangement) → map (spot_code a) (spots_in 0 0 ns) ≡ map (code_of a) (whole_cells ns)
  spots-coded a = ap (map (spot_code a)) spots ∙ spot-codes a (whole_cells ns) (good-cells tt (omega arith) (good-reads ns Faces 15 g))

  spots-size : sizes_of (spots_in 0 0 ns) ≡ size_sum (whole_cells ns)
  spots-size = ap sizes_of spots ∙ sizes-cells (whole_cells ns)

  -- one listing, in the text's arrangement
  module _ {a b : Arrangement} {lent later : List ℕ} {more : ℕ} (e : a ≡ b) (f : Adds a (spots_in 0 0 ns) lent later 0 more) where
    listed-count : more ≡ length (map (code_of b) (whole_cells ns))
    listed-count = omega (arith, f.counted, spots-length b)

    listed-put : later ≡ sets lent 0 (map (code_of b) (whole_cells ns))
    listed-put = f.put ∙ ap (sets lent 0) (spots-coded a ∙ ap (λ (x : Arrangement). map (code_of x) (whole_cells ns)) e)

-- ---- of two texts

pub texts-found :
    {t u : List ℕ} {one two : Read} {lent later : ThreeLists} {r : Cursor} → WasRead t one → WasRead u two →
    ListFound t u (record { first = one.body; second = two.body; firsts = 0; seconds = 0; boths = 0; size = 0 }) 2 2 one.arrangement 6 78 0 0 lent later r →
    TextsFound t u lent later r
unfolding spots_from shared first_only second_only in_both codes_for shared_codes
texts-found {t} {u} {one} {two} {lent} {later} {r} v w l =
    let a : Nodes = nodes_of t in
    let b : Nodes = nodes_of u in
    let g : Good Faces 15 0 a = good-nodes t v.text in
    let h : Good Faces 15 0 b = good-nodes u w.text in
    let f =
    l.is Faces (some a) (some b) [] [] 15 0 0 refl refl refl refl refl (omega arith) g h tt tt
    (ap (λ (k : ℕ). drop k t) v.body ∙ body-nodes t v.text ∙ sym (append-nil (render Faces a)))
    (ap (λ (k : ℕ). drop k u) w.body ∙ body-nodes u w.text ∙ sym (append-nil (render Faces b))) in
    let n : (p q : ℕ) → p ≤ 1 → q ≤ 1 → Good Faces 15 0 (shared p q a b) = λ p q i j. shared-good p q a b i j g h in
    let one_only = n 1 0 (omega arith) (omega arith) in
    let two-only = n 0 1 (omega arith) (omega arith) in
    let both = n 1 1 (omega arith) (omega arith) in
    record {
      measured =
          record {
            firsts = listed-count (shared 1 0 a b) one_only v.arranged f.adds.firsts;
            seconds = listed-count (shared 0 1 a b) two-only v.arranged f.adds.seconds;
            boths = listed-count (shared 1 1 a b) both v.arranged f.adds.boths;
            size = omega (arith, f.adds.size, spots-size (shared 1 1 a b) both);
          };
      firsts = listed-put (shared 1 0 a b) one_only v.arranged f.adds.firsts;
      seconds = listed-put (shared 0 1 a b) two-only v.arranged f.adds.seconds;
      boths = listed-put (shared 1 1 a b) both v.arranged f.adds.boths;
    }
