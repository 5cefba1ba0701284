-- The answer is a proper text, of the same ground, with the fewest whole cells, and no longer (02, W-206). Assumes nothing.
use Rattle.std.specs.Prelude.{◌≡◌, List, ℕ, ◌≤◌, length, take}
use Rattle.std.proofs.Math.Path.{refl, ap}
use Rattle.std.proofs.Common.{sym, arith, length-append}
use Rattle.reading.specs.declared.Level.TheVariants.{Faces}
use Rattle.reading.specs.declared.Profile.TheVariants.{Full}
use Rattle.reading.specs.Reading.{Nodes, render, names, Good}
use Rattle.reading.specs.Ground.{whole_cells, SameGround, Covers}
use Rattle.reading.specs.Fewest.{FewestOf}
use Rattle.reading.specs.Loose.{Loose}
use Rattle.reading.specs.Text.{heading, ReadsAs}
use Rattle.reading.specs.Written.{built, nodes_for}
use Rattle.reading.proofs.Laws.Built.{built-good}
use Rattle.reading.proofs.Laws.Written.{written-ground}
use Rattle.reading.proofs.Laws.FewestOf.{written-fewest}
use Rattle.loose.specs.LooseText.{LooseAs}
use Rattle.loose.specs.Look.{IsLoose}
use Rattle.loose.proofs.Laws.Names.{names-loose, loose-cells, loose-names}
use Rattle.proper.specs.Proper.{answer, rescued, proper_of}
use Rattle.proper.specs.Internal.Length.{no_longer}

module _ (ns : Nodes) (g : Loose Faces 15 ns) where
  pub answer-good : Good Faces 15 0 (answer ns)
  unfolding answer
  answer-good = built-good (names ns) (names-loose ns Faces 15 g)

  -- "the proper text": it is accepted
  pub rescued-reads : (n s : ℕ) → n ≤ 3 → s ≤ 3 → ReadsAs Full n s (rescued n s ns) (answer ns)
  unfolding rescued
  rescued-reads n s a b = record { profiled = tt; north = a; south = b; body = record { good = answer-good; all = refl } }

  -- the nodes that writing makes of the whole cells
  pub answer-for : nodes_for (whole_cells ns) ≡ answer ns
  unfolding answer
  answer-for = ap (built 15 6) (loose-names ns g)

  -- "of the same ground"
  pub rescued-ground : SameGround (whole_cells ns) (whole_cells (answer ns))
  rescued-ground = rw answer-for at (written-ground (whole_cells ns) (loose-cells ns g))

  -- as the fewest cells
  pub rescued-fewest : FewestOf (Covers (whole_cells ns)) (whole_cells (answer ns))
  rescued-fewest = rw answer-for at (written-fewest (whole_cells ns) (loose-cells ns g))

-- "The proper text is never longer": so 13 is never asked of it
pub rescued-short : {n s : ℕ} {t : List ℕ} {ns : Nodes} → LooseAs n s t ns → length (rescued n s ns) ≤ length t
unfolding rescued
rescued-short {n} {s} {t} {ns} r =
    omega (
      arith,
      no_longer ns r.loose,
      ap length r.all,
      length-append (heading Full n s) (render Faces ns),
      length-append (heading Full n s) (render Faces (answer ns)),
    )

-- the heading is the given one: n and s stay
pub proper-heading : (t : List ℕ) → IsLoose t → take 7 (proper_of t) ≡ take 7 t
unfolding proper_of rescued
proper-heading t r = sym (ap (take 7) r.all)
