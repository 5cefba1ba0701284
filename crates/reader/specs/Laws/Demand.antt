-- Demand 3 over the texts that checking accepts. Assumes nothing.
use Rattle.std.specs.Prelude.{◌≡◌, List, [], ℕ, ◌≤◌, length, take}
use Rattle.std.proofs.Common.{sym, subst, ◌∙◌, append-nil}
use Rattle.cell.specs.declared.Cell.{Cell}
use Rattle.reading.specs.declared.Profile.{Profile}
use Rattle.reading.specs.Ground.{whole_cells, SameGround, Cells}
use Rattle.reading.specs.Text.{level_of, depth_of, heading, Reads, ReadsAs}
use Rattle.reading.specs.TextReading.{nodes_of, profile_of, north_of, south_of, body_start}
use Rattle.reading.proofs.Laws.TextReading.{reads-own, read-text, body-start}
use Rattle.reading.proofs.Laws.Heading.{one-heading}
use Rattle.reading.proofs.Laws.Fits.{faces-of, depth-most}
use Rattle.reading.proofs.Laws.Demand.{same-ground, fewest}
use Rattle.reader.specs.Check.{text_refusal}
use Rattle.reader.specs.Laws.Check.{accepted-exactly}

-- an accepted text's reading
pub accepted-reads : (t : List ℕ) → text_refusal t ≡ 0 → ReadsAs (profile_of t) (north_of t) (south_of t) t (nodes_of t)
accepted-reads t e = reads-own t (read-text ((accepted-exactly t).0 e).1.4)

-- "Any two accepted texts with the same .. heading cover the same finest cells exactly when they are the same bytes", "with headings that agree in all
-- their bytes" (02, W-208)
pub same_bytes :
    (t u : List ℕ) → text_refusal t ≡ 0 → text_refusal u ≡ 0 → take (body_start t) t ≡ take (body_start u) u →
    (SameGround (whole_cells (nodes_of t)) (whole_cells (nodes_of u)) → t ≡ u) × (t ≡ u → SameGround (whole_cells (nodes_of t)) (whole_cells (nodes_of u)))
same_bytes t u e f h =
    let r = accepted-reads t e in
    let q = accepted-reads u f in
    let a : heading (profile_of t) (north_of t) (south_of t) ≡ heading (profile_of u) (north_of u) (south_of u) =
    sym (body-start r).0 ∙ h ∙ (body-start q).0 in
    let o : profile_of u ≡ profile_of t =
    sym (one-heading (profile_of t) (profile_of u) (north_of t) (south_of t) (north_of u) (south_of u) [] [] (append-nil _ ∙ a ∙ sym (append-nil _))).0 in
    let k : Reads (heading (profile_of t) (north_of t) (south_of t)) (level_of (profile_of t)) (depth_of (profile_of t)) u (nodes_of u) =
    subst (λ (x : List ℕ). Reads x (level_of (profile_of t)) (depth_of (profile_of t)) u (nodes_of u)) (sym a)
    (subst (λ (p : Profile). Reads (heading (profile_of u) (north_of u) (south_of u)) (level_of p) (depth_of p) u (nodes_of u)) o q.body) in
    same-ground (faces-of (profile_of t)) (depth-most (profile_of t) r.profiled) r.body k

-- "Every list of cells that covers exactly an accepted text's ground has at least as many cells as the reader reports for that text."
pub reported-fewest :
    (t : List ℕ) → text_refusal t ≡ 0 → (qs : List Cell) → Cells qs → SameGround qs (whole_cells (nodes_of t)) →
    length (whole_cells (nodes_of t)) ≤ length qs
reported-fewest t e qs c g = let r = accepted-reads t e in fewest (faces-of (profile_of t)) (depth-most (profile_of t) r.profiled) r.body qs c g
