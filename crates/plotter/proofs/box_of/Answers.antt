-- Each edge is a planar number of the cell's vertices, in metres. Assumes nothing.
use mathlib.Core.Path.{◌≡◌, ap, ◌∙◌}
use lib.IntN.{ℤ, pos}
use lib.ListN.{get_or}
use lib.Ieee.{Float}
use Rattle.plane.specs.declared.Vertices.{Vertices}
use Rattle.plane.specs.Plane.{left_of, right_of, top_of, bottom_of, vertices_of}
use Rattle.plane.proofs.Laws.Small.{left-within, right-within, top_within, bottom-within}
use Rattle.metres.specs.Metres.{metres_of}
use Rattle.plotter.specs.Plotter.{box_of}
use Rattle.plotter.proofs.Facts.{read_back, read_small}
use Rattle.plotter.proofs.box_of.Goals as goal
use Rattle.plotter.proofs.box_of.Goals.{After-vertices_of-vertices}

-- the numbers of the vertices
left_at : (v : After-vertices_of-vertices) → get_or v.vertices_of-vertices.result.x 0 (pos 0) ≡ left_of v.args.arrangement v.args.cell
unfolding vertices_of
left_at v = ap (λ (s : Vertices). get_or s.x 0 (pos 0)) v.vertices_of-vertices.ensures

right-at : (v : After-vertices_of-vertices) → get_or v.vertices_of-vertices.result.x 1 (pos 0) ≡ right_of v.args.arrangement v.args.cell
unfolding vertices_of
right-at v = ap (λ (s : Vertices). get_or s.x 1 (pos 0)) v.vertices_of-vertices.ensures

top-at : (v : After-vertices_of-vertices) → get_or v.vertices_of-vertices.result.y 0 (pos 0) ≡ top_of v.args.cell
unfolding vertices_of
top-at v = ap (λ (s : Vertices). get_or s.y 0 (pos 0)) v.vertices_of-vertices.ensures

bottom-at : (v : After-vertices_of-vertices) → get_or v.vertices_of-vertices.result.y 2 (pos 0) ≡ bottom_of v.args.cell
unfolding vertices_of
bottom-at v = ap (λ (s : Vertices). get_or s.y 2 (pos 0)) v.vertices_of-vertices.ensures

pub metres_of-requires : goal.metres_of-requires
metres_of-requires c = let v = c in read_small (left_at (goal.at.metres_of-requires c).After-vertices_of-vertices) (left-within v.requires.arrangement v.requires.cell)

pub metres_of-requires-2 : goal.metres_of-requires-2
metres_of-requires-2 c = let v = c in read_small (bottom-at (goal.at.metres_of-requires-2 c).After-vertices_of-vertices) (bottom-within v.requires.cell)

pub metres_of-requires-3 : goal.metres_of-requires-3
metres_of-requires-3 c =
    let v = c in read_small (right-at (goal.at.metres_of-requires-3 c).After-vertices_of-vertices) (right-within v.requires.arrangement v.requires.cell)

pub metres_of-requires-4 : goal.metres_of-requires-4
metres_of-requires-4 c =
    let v = c in read_small (top-at (goal.at.metres_of-requires-4 c).After-vertices_of-vertices) (top_within v.requires.cell)

pub returns : goal.returns
unfolding box_of
returns c =
    let v = c in
    let s = v in
    let in-metres : ℤ → Float = λ z. metres_of z s.args.side in
    λ i.
    record {
      left = (c.metres_of.ensures ∙ ap in-metres (read_back (left_at (goal.at.returns c).After-vertices_of-vertices) (left-within s.requires.arrangement s.requires.cell))) i;
      bottom = (c.metres_of-2.ensures ∙ ap in-metres (read_back (bottom-at (goal.at.returns c).After-vertices_of-vertices) (bottom-within s.requires.cell))) i;
      right = (c.metres_of-3.ensures ∙ ap in-metres (read_back (right-at (goal.at.returns c).After-vertices_of-vertices) (right-within s.requires.arrangement s.requires.cell))) i;
      top = (c.metres_of-4.ensures ∙ ap in-metres (read_back (top-at (goal.at.returns c).After-vertices_of-vertices) (top_within s.requires.cell))) i;
    }
