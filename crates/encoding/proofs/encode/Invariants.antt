-- `encoding::encode` meets its contract: with the places that are still to be put, the bytes are the whole. Assumes nothing.
use mathlib.Core.Path.{◌≡◌}
use Prim.Native.Nat.{◌+◌, ◌-◌, ◌*◌}
use lib.ListN.{length}
use lib.Seq.{sets}
use Rattle.encoding.specs.Encoding.{places_bytes}
use Rattle.encoding.proofs.encode.Given as goal

abbrev pub invariant-loop-place : goal.invariant-loop-place
invariant-loop-place l = (length l.bytes ≡ length l.initial.bytes) × (sets l.bytes (7 + 8 * l.place) (places_bytes (32 - l.place) l.place l.kept) ≡ sets l.initial.bytes 7 (places_bytes 32 0 l.kept))
