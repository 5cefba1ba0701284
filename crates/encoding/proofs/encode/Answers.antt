-- `encoding::encode` meets its contract: with the places that are still to be put, the bytes are the whole. Assumes nothing.
use mathlib.Core.Path.{◌≡◌, ap, ◌∙◌}
use mathlib.Core.List.{List}
use Prim.Native.Nat.{ℕ}
use lib.Seq.{sets}
use Rattle.ternary.specs.Digits.{digits}
use Rattle.encoding.specs.Encoding.{places_bytes}
use Rattle.encoding.proofs.Laws.{place-turn, places-end, heading-put, in-front}
use native.Mathlib.Omega.{arith}
use Rattle.encoding.proofs.encode.Goals as goal

pub loop-place-preserved : goal.loop-place-preserved
loop-place-preserved c =
    let l = c.loop-place in
    let a = c.args in
    let s = c.put_settings in (
      s.auto.bytes ∙ l.invariant.0,
      place-turn l.bytes s.new.bytes _ l.place a.history.kept (omega arith) s.ensures l.invariant.1,
    )

pub returns : goal.returns
returns c =
    let l = c.loop-place in
    let a = c.args in
    let e : l.place ≡ 32 = omega arith in
    places-end l.bytes _ l.place a.history.kept e l.invariant.1
    ∙ ap (λ (x : List ℕ). sets x 7 (places_bytes 32 0 a.history.kept))
    (c.put_number-2.ensures
    ∙ ap (λ (x : List ℕ). sets x 5 (digits 256 2 a.history.newest)) c.put_number.ensures)
    ∙ heading-put a.bytes.now a.history
    ∙ in-front a.bytes.now a.history c.requires
