-- `names_text` meets its contract: the text is of the names that were read, in the arrangement that they were read in. Assumes nothing.
use lib.ListN.{length}
use Rattle.coverage.proofs.Laws.{names-written}
use Rattle.coverage.proofs.names_text.Goals as goal

pub returns-in-Count : goal.returns-in-Count
returns-in-Count c =
    let s = c in
    let a = s.args in
    let p = c.put_text in
    let e = c.in-Count.is in
    names-written a.form (length a.text.now) a.codes.now p.new.text _ p.result s.requires.arrangement s.requires.all_taken e p.ensures
