-- Rooms that are always enough for a rescue: "The proper text is never longer than the given one", and there are at most two changes for each byte. Assumes nothing.
use Rattle.std.specs.Prelude.{◌≡◌, Bool, true, false, ◌||◌, List, ltb, drop}
use Rattle.std.proofs.Math.Path.{refl, sym, ap}
use Rattle.std.proofs.Common.{◌∙◌, le-ltb}
use Prim.Native.Nat.{ℕ, zero, suc, ◌*◌, ◌≤◌}
use native.Mathlib.Omega.{arith}
use Rattle.std.proofs.Math.ListN.{length, length-append}
use Rattle.logic.specs.Refusal.{refuse, ◌otherwise◌}
use Rattle.logic.specs.Laws.Bools.{clash}
use Rattle.logic.specs.Laws.Refusal.{passes}
use Rattle.reading.specs.declared.Level.TheVariants.{Faces}
use Rattle.reading.specs.declared.Profile.TheVariants.{Full}
use Rattle.reading.specs.Reading.{Nodes, render}
use Rattle.reading.specs.Text.{heading}
use Rattle.loose.specs.LooseScan.{loose_nodes}
use Rattle.loose.specs.Look.{loose_north, loose_south, IsLoose, loose_refusal}
use Rattle.loose.proofs.Laws.Look.{loose-own, loose-short}
use Rattle.proper.specs.Proper.{proper_of}
use Rattle.proper.proofs.Laws.Few.{changes-few}
use Rattle.proper.proofs.Laws.Text.{short-enough}
use Rattle.rescue.specs.Rescue.{flat, changes_of, rescue_refusal}
use Rattle.rescue.specs.Laws.Flat.{flat-length}

neither : (a b : Bool) → a ≡ false → b ≡ false → refuse (a || b) 8 ≡ 0
neither true b e f = clash e
neither false true e f = clash f
neither false false e f = refl

module _ (t : List ℕ) (text-room list-room : ℕ) where
  pub room-enough : loose_refusal t ≡ 0 → length t ≤ text-room → 4 * length t ≤ list-room → rescue_refusal t text-room list-room ≡ 0
  unfolding rescue_refusal changes_of
  room-enough z a b =
      let own : IsLoose t = loose-own t z in
      let ns : Nodes = loose_nodes (drop 7 t) in
      let f : length (proper_of t) ≤ text-room = omega (arith, short-enough t own) in
      let g : length (flat (changes_of t)) ≤ list-room =
      omega (
        arith,
        flat-length (changes_of t),
        changes-few ns,
        ap length own.all,
        length-append (heading Full (loose_north t) (loose_south t)) (render Faces ns),
      ) in
      passes _ z
      ∙ neither (ltb text-room (length (proper_of t))) (ltb list-room (length (flat (changes_of t)))) (le-ltb text-room (length (proper_of t)) f)
      (le-ltb list-room (length (flat (changes_of t))) g)

  -- with room for the longest text and four numbers for each byte of it, 8 is never given
  pub never-short : 65536 ≤ text-room → 262144 ≤ list-room → rescue_refusal t text-room list-room ≡ loose_refusal t
  unfolding rescue_refusal ◌otherwise◌
  never-short a b = go (loose_refusal t) refl
    where
      go : (q : ℕ) → loose_refusal t ≡ q → rescue_refusal t text-room list-room ≡ loose_refusal t
      go zero e = let h = loose-short t e in room-enough e (omega arith) (omega arith) ∙ sym e
      go (suc q) e = rw e refl
