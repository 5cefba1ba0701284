-- `flight::begin` meets its contract. Assumes nothing.
use Rattle.flight.proofs.Begins.{begin-not, begin-text, begin-long, begin-records, begin-near}
use Rattle.adding.proofs.Laws.InMind.{three}
use Rattle.flight.proofs.begin.Goals as goal

pub returns-in_default : goal.returns-in_default
returns-in_default c =
    let s = c in
    absurd (begin-not s.args.arrangement s.requires.0 s.args.text.now s.requires.1 c.write.ensures.value c.in_default.is)

pub returns : goal.returns
returns c =
    let s = c in
    let w = c.write.ensures in
    let e = c.in-Ok.is in record {
      text_after = begin-text s.args.arrangement s.requires.0 s.args.text.now s.requires.1 w.value w.text_after e;
      records = (
        begin-records s.args.arrangement s.requires.0 s.args.text.now s.requires.1 w.value w.text_after e,
        begin-long s.args.arrangement s.requires.0 s.args.text.now s.requires.1 w.value w.text_after e,
      );
      in_mind = begin-near s.args.arrangement s.requires.0 s.args.text.now s.requires.1 w.value w.text_after e (three s.args.near.now _ 0 0 s.requires.2);
    }
