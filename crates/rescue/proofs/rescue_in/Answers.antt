-- `rescue_in` meets its contract: the largest whole cells, their text, what is changed, both given. Assumes nothing.
use native.Mathlib.Omega.{arith}
use mathlib.Core.Path.{ap, ◌∙◌}
use mathlib.Core.List.{List}
use Prim.Native.Nat.{ℕ, ◌-◌}
use lib.ListN.{length, take}
use Rattle.loose.proofs.Laws.Look.{loose-own, loose-short}
use Rattle.proper.proofs.Laws.Text.{loose-body, loose-long, codes-fit, proper-text, proper-fits}
use Rattle.rescue.proofs.Internal.Joint.{arranged, take-room}
use Rattle.rescue.proofs.rescue_in.Goals as goal

pub put_largest-count-requires : goal.put_largest-count-requires
put_largest-count-requires c =
    let s = c in
    let t : List ℕ = s.args.text.now in
    let e = s.requires.text_value.0 in
    let i = loose-own t e in
    let l = s.requires.text_in_bounds in
    (loose-body t i, loose-long t i, omega (arith, codes-fit t i s.args.arrangement, l.0), l.1, arranged t e s.requires.text_value.1)

pub make-length-requires : goal.make-length-requires
make-length-requires c =
    let l = c in
    let o : List ℕ = l.put_largest-count.new.codes in
    let e = l.put_largest-count.ensures in
    let s = l in
    let t : List ℕ = s.args.text.now in
    let r = s.requires.text_value.0 in
    proper-fits t (loose-own t r) s.requires.text_value.1 (ap (λ (x : ℕ). take x o) e.value ∙ e.codes_after) _ (loose-short t r) s.requires.text_in_bounds.2

pub find-requires : goal.find-requires
find-requires c =
    let m = c in
    let l = m in
    let o : List ℕ = l.put_largest-count.new.codes in
    let e = l.put_largest-count.ensures in
    let s = l in
    let t : List ℕ = s.args.text.now in
    let r = s.requires.text_value.0 in
    let p = s.requires in
    let f = ap (λ (x : ℕ). take x o) e.value ∙ e.codes_after in record { text_value = (r, m.make-length.ensures.1 ∙ proper-text t (loose-own t r) s.requires.text_value.1 f, s.requires.text_value.1, f); text_in_bounds = (omega (arith, p.text_in_bounds.0, p.text_in_bounds.1), p.text_in_bounds_2.0, p.text_in_bounds_2.1, p.text_in_bounds_2.2); zeros = p.zeros }

pub slice_bounds-give-count : goal.slice_bounds-give-count
slice_bounds-give-count c =
    let f = c in
    let m = f in
    let s = m in
    let t : List ℕ = s.args.text.now in
    omega (arith, loose-long t (loose-own t s.requires.text_value.0))

pub give-requires : goal.give-requires
give-requires c =
    let f = c in
    let m = f in
    let s = m in
    let t : List ℕ = s.args.text.now in
    take-room (length t - 7) _ 65536 (omega (arith, loose-short t s.requires.text_value.0))

pub returns : goal.returns
returns c =
    let h = c in
    let m = h in
    let l = m in
    let o : List ℕ = l.put_largest-count.new.codes in
    let e = l.put_largest-count.ensures in
    let s = l in
    let t : List ℕ = s.args.text.now in
    let r = s.requires.text_value.0 in
    let f = ap (λ (x : ℕ). take x o) e.value ∙ e.codes_after in
    c.give.ensures.is t r (m.make-length.ensures.1 ∙ proper-text t (loose-own t r) s.requires.text_value.1 f) h.find.ensures
