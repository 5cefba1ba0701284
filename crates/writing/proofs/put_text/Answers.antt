-- `writing::put_text` meets its contract: the heading and the nodes make the text, which ends where the nodes do. Assumes nothing.
use mathlib.Core.Path.{refl}
use mathlib.Core.List.{[]}
use Rattle.reading.specs.declared.Level.TheVariants.{Faces}
use Rattle.writing.proofs.Laws.List.{good-list, in-turn}
use Rattle.writing.proofs.Internal.EntryLaws.{top-at, top-text, top-ends, heading-most}
use native.Mathlib.Omega.{arith}
use Rattle.writing.proofs.put_text.Goals as goal

pub put_list-end-requires : goal.put_list-end-requires
put_list-end-requires c =
    let s = c in
    let h = heading-most s.args.profile in
    let e = c.heading_length-body.ensures in
    ((good-list _ _ s.requires.2).coded, omega arith, omega arith, omega arith, omega arith, omega arith, omega arith)

pub returns : goal.returns
returns c =
    let s = c in
    let a = s.args in
    let w =
    (rw c.heading_length-body.ensures at
    (c.put_list-end.ensures.is Faces [] 0 15 refl (top-at a.codes.now (good-list _ _ s.requires.2).coded (in-turn _ _ s.requires.2)))) in record {
      value = top-ends a.profile a.arrangement a.codes.now _ _ _ w;
      text_after = top-text a.profile a.arrangement a.codes.now a.text.now _ _ _ s.requires.3 c.put_heading.ensures w;
    }
