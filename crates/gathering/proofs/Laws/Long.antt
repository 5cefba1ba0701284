-- A list that is too long stays so: what is held of rising codes, all but eight at each of fifteen depths, are whole cells of the text of these and any
-- further ones, and each takes a byte (01 "The coverage text"; refusal 13). Assumes nothing.
use Rattle.std.specs.Prelude.{◌≡◌, true, List, [], ◌∷◌, ◌++◌, map, ℕ, ◌+◌, ◌≤◌, ◌<◌, length}
use Rattle.std.proofs.Math.Path.{refl}
use Rattle.std.proofs.Common.{sym, ap, ◌∙◌, subst}
use Rattle.std.proofs.lemmas.List.{map-append, length-map}
use native.Mathlib.Omega.{arith}
use Rattle.std.proofs.Math.ListN.{length-append}
use borrow.Author.Tests.{lt-ltb}
use Rattle.logic.specs.Refusal.{◌otherwise◌}
use Rattle.logic.specs.Laws.Lists.{all_append}
use Rattle.cell.specs.declared.Cell.{Cell}
use Rattle.cell.specs.declared.Arrangement.{Arrangement}
use Rattle.cell.specs.Cell.{IsCell}
use Rattle.code.specs.Code.{cell_of}
use Rattle.code.specs.Inside.{end_of}
use Rattle.reading.specs.declared.Profile.{Profile}
use Rattle.reading.specs.declared.Profile.TheVariants.{Full, Handheld}
use Rattle.reading.specs.Reading.{Nodes, render}
use Rattle.reading.specs.Report.{count}
use Rattle.reading.specs.Ground.{Cells, SameGround}
use Rattle.reading.specs.Prefix.{Name, numbers_of, InOrder}
use Rattle.reading.specs.Text.{level_of, heading}
use Rattle.reading.specs.Written.{built, nodes_for, written_text, keeps}
use Rattle.reading.proofs.Laws.Named.{names-of-cells}
use Rattle.reading.proofs.Laws.Report.{count_most}
use Rattle.reading.proofs.Laws.Written.{one-nodes}
use Rattle.writing.specs.Write.{codes_refusal, text_of, fit_refusal, Earlier, InTurn}
use Rattle.writing.proofs.Internal.EntryLaws.{in-turn-rise}
use Rattle.writing.proofs.Laws.List.{codes-cells, in-turn, good-list}
use Rattle.gathering.proofs.Laws.Count.{NoNine, Before, order-split, count-all, count-more}
use Rattle.gathering.proofs.Laws.Bare.{bare-names}
use Rattle.gathering.proofs.Laws.Gather.{Holds, own-codes}

earlier-left : (n : ℕ) (xs ys : List Cell) → Earlier n (xs ++ ys) → Earlier n xs
earlier-left n [] ys e = tt
earlier-left n (x ∷ xs) ys e = (e.0, earlier-left n xs ys e.1)

turn-left : (xs ys : List Cell) → InTurn (xs ++ ys) → InTurn xs
turn-left [] ys t = tt
turn-left (x ∷ xs) ys t = (earlier-left (end_of x) xs ys t.0, turn-left xs ys t.1)

cells_right : (xs ys : List Cell) → Cells (xs ++ ys) → Cells ys
cells_right [] ys c = c
cells_right (x ∷ xs) ys c = cells_right xs ys c.1

heading-least : (f : Profile) (n s : ℕ) → 7 ≤ length (heading f n s)
heading-least Full n s = omega arith
heading-least (Handheld d) n s = omega arith

module _ {a : Arrangement} {codes held : List ℕ} (p : Holds a codes held) (more : List ℕ) (e : codes_refusal a (codes ++ more) ≡ 0) where
  abbrev came-cells : List Cell
  came-cells = map cell_of (codes ++ more)

  abbrev held-cells : List Cell
  held-cells = map cell_of held

  abbrev more-cells : List Cell
  more-cells = map cell_of more

  all-cells : Cells came-cells
  all-cells = codes-cells (codes ++ more) (good-list a (codes ++ more) e).coded

  joined : came-cells ≡ map cell_of codes ++ more-cells
  joined = map-append cell_of codes more

  are-held : Cells held-cells
  are-held = codes-cells held (own-codes a held p.kept)

  are-more : Cells more-cells
  are-more = cells_right (map cell_of codes) more-cells (subst Cells joined all-cells)

  came-turn : InTurn (map cell_of codes ++ more-cells)
  came-turn = subst InTurn joined (in-turn a (codes ++ more) e)

  both-cells : Cells (held-cells ++ more-cells)
  both-cells = all_append IsCell held-cells more-cells are-held are-more

  same_nodes : nodes_for came-cells ≡ nodes_for (held-cells ++ more-cells)
  same_nodes =
      one-nodes came-cells (held-cells ++ more-cells) all-cells both-cells
      (subst (λ (x : List Cell). SameGround x (held-cells ++ more-cells)) (sym joined) (p.alike more-cells).ground)

  abbrev held-names : List Name
  held-names = map numbers_of held-cells

  abbrev more-names : List Name
  more-names = map numbers_of more-cells

  in_order : InOrder held-names × Before held-names more-names
  in_order =
      order-split held-names more-names
      (subst InOrder (map-append numbers_of held-cells more-cells) (in-turn-rise (held-cells ++ more-cells) both-cells ((p.alike more-cells).to came-turn)))

  no_nine : NoNine held-names
  no_nine = bare-names a held p.kept (p.bare (turn-left (map cell_of codes) more-cells came-turn))

  -- all but eight at each of fifteen depths stay whole cells, whatever comes
  pub most-stay : length held ≤ count (nodes_for came-cells) + 120
  most-stay =
      omega (
        arith,
        length-map held cell_of,
        length-map held-cells numbers_of,
        count-all 15 6 held-names (names-of-cells held-cells are-held) in_order.0 no_nine,
        count-more 15 6 held-names more-names (names-of-cells held-cells are-held) (names-of-cells more-cells are-more) in_order.1,
        ap count (same_nodes ∙ ap (built 15 6) (map-append numbers_of held-cells more-cells)),
      )

  -- "13 is judged on the text": with this many held, the text of these codes and any further ones has more than 65,536 bytes
  pub too_long : (f : Profile) → 65649 < length held → 65536 < length (text_of f a (codes ++ more))
  unfolding text_of written_text
  too_long f h =
      let ns : Nodes = nodes_for came-cells in
      omega (
        arith,
        most-stay,
        count_most ns (level_of f),
        heading-least f a.north a.south,
        length-append (heading f a.north a.south) (render (level_of f) ns),
      )

  -- so 13 is right, whatever comes: of a good list that keeps to its profile
  pub refused-so : (f : Profile) (room : ℕ) → 65649 < length held → keeps f came-cells ≡ true → fit_refusal f a (codes ++ more) room ≡ 13
  unfolding fit_refusal ◌otherwise◌
  refused-so f room h k = rw (k, lt-ltb 65536 (length (text_of f a (codes ++ more))) (too_long f h)) refl
