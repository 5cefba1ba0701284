-- `find` meets its contract: the numbers that `mark` puts stand for the changes. Assumes nothing.
use native.Mathlib.Omega.{arith}
use borrow.Author.Rules.{rules}
use mathlib.Core.Path.{ap₂, ◌∙◌}
use mathlib.Core.List.{List}
use Prim.Native.Nat.{ℕ, ◌-◌, ◌≤◌}
use lib.ListN.{length, take, drop, length-drop}
use lib.Seq.{take_all}
use Rattle.loose.proofs.Laws.Look.{loose-own}
use Rattle.proper.proofs.Laws.Text.{loose-long}
use Rattle.proper.proofs.Laws.Front.{put-fits, put_front}
use Rattle.proper.specs.Wholes.{loose_codes}
use Rattle.rescue.specs.Internal.Marks.{lacking}
use Rattle.rescue.specs.Internal.Lack.{left-front}
use Rattle.rescue.proofs.Internal.Joint.{arranged, made-ready, made-codes, keys-rise, mark-ready, marked}
use Rattle.rescue.proofs.find.Goals as goal

pub put_wholes-answers-requires : goal.put_wholes-answers-requires
put_wholes-answers-requires c =
    let s = c in made-ready s.args.text.now s.requires.text_value.0 s.requires.text_value.2 s.args.made.now s.requires.text_value.1 _ s.requires.text_in_bounds.0

pub leave-fresh-requires : goal.leave-fresh-requires
leave-fresh-requires c =
    let w = c in
    let s = w in
    let t : List ℕ = s.args.text.now in
    let made : List ℕ = s.args.made.now in
    let e = s.requires.text_value.0 in
    let a = s.requires.text_value.2 in
    let z : List ℕ = s.args.spare.now in
    let r : length (loose_codes s.args.arrangement made) ≤ length z = (made-ready t e a made s.requires.text_value.1 (length z) s.requires.text_in_bounds.0).2 in
    let k : List ℕ = w.put_wholes-answers.new.codes in
    let g = w.put_wholes-answers.ensures in
    let h = put-fits (loose_codes s.args.arrangement made) z k _ g.value r g.codes_after in
    (keys-rise t e a s.args.largest.now s.requires.text_value.3, h)

pub slice_bounds-mark-count : goal.slice_bounds-mark-count
slice_bounds-mark-count c =
    let s = c in
    let t : List ℕ = s.args.text.now in
    let i = loose-long t (loose-own t s.requires.text_value.0) in
    search rules

pub slice_bounds-mark-start : goal.slice_bounds-mark-start
slice_bounds-mark-start c =
    let s = c in
    let t : List ℕ = s.args.text.now in
    let i = loose-long t (loose-own t s.requires.text_value.0) in
    search rules

pub mark-requires : goal.mark-requires
mark-requires c =
    let v = c in
    let w = v in
    let s = w in
    let t : List ℕ = s.args.text.now in
    let made : List ℕ = s.args.made.now in
    let e = s.requires.text_value.0 in
    let a = s.requires.text_value.2 in
    let z : List ℕ = s.args.spare.now in
    let r : length (loose_codes s.args.arrangement made) ≤ length z = (made-ready t e a made s.requires.text_value.1 (length z) s.requires.text_in_bounds.0).2 in
    let k : List ℕ = w.put_wholes-answers.new.codes in
    let g = w.put_wholes-answers.ensures in
    let h = put-fits (loose_codes s.args.arrangement made) z k _ g.value r g.codes_after in
    let ls : List ℕ = s.args.largest.now in
    let q : List ℕ = v.leave-fresh.new.codes in
    let j = v.leave-fresh.ensures in
    let f = left-front ls k q _ _ h j.value j.codes_after
    ∙ ap₂ lacking s.requires.text_value.3 (put_front (loose_codes s.args.arrangement made) z k _ g.value r g.codes_after ∙ made-codes t e a made s.requires.text_value.1) in
    let l = s.requires.text_in_bounds in
    let m = mark-ready t e a (take (length t - 7) (drop 7 t)) _ _
    (take_all (length t - 7) (drop 7 t) (omega (arith, length-drop 7 t))) s.requires.text_value.3 f
    s.args.marks.now s.args.named.now s.args.stood.now l.1 l.2 l.3 s.requires.zeros.0 s.requires.zeros.1 in
    record { walks = (m.0.0, m.0.1, arranged t e a); rise = m.1.0; rise_2 = m.1.1 }

pub returns : goal.returns
returns c =
    let v = c in
    let w = v in
    let s = w in
    let t : List ℕ = s.args.text.now in
    let made : List ℕ = s.args.made.now in
    let e = s.requires.text_value.0 in
    let a = s.requires.text_value.2 in
    let z : List ℕ = s.args.spare.now in
    let r : length (loose_codes s.args.arrangement made) ≤ length z = (made-ready t e a made s.requires.text_value.1 (length z) s.requires.text_in_bounds.0).2 in
    let k : List ℕ = w.put_wholes-answers.new.codes in
    let g = w.put_wholes-answers.ensures in
    let h = put-fits (loose_codes s.args.arrangement made) z k _ g.value r g.codes_after in
    let ls : List ℕ = s.args.largest.now in
    let q : List ℕ = v.leave-fresh.new.codes in
    let j = v.leave-fresh.ensures in
    let f = left-front ls k q _ _ h j.value j.codes_after
    ∙ ap₂ lacking s.requires.text_value.3 (put_front (loose_codes s.args.arrangement made) z k _ g.value r g.codes_after ∙ made-codes t e a made s.requires.text_value.1) in
    marked t e a (take (length t - 7) (drop 7 t)) _ _
    (take_all (length t - 7) (drop 7 t) (omega (arith, length-drop 7 t))) s.requires.text_value.3 f
    _ c.mark.ensures
