-- `take_name` meets its contract: a name's code is gathered with the others, or the line is refused. Assumes nothing.
use Rattle.coverage.proofs.Laws.{name-coded, name-taken, name-full, name-refused}
use Rattle.coverage.proofs.take_name.Goals as goal

pub gather-requires : goal.gather-requires
gather-requires c =
    let s = c.args in
    let p = c.requires in (
      p.arrangement,
      c.if-count-codes.true,
      name-coded s.arrangement s.line.now s.codes.now s.count p.count_in_bounds c.trimmed_length-length.ensures.value c.name_code.ensures p.arrangement _ c.in-Ok.is,
    )

pub returns-then-count-codes : goal.returns-then-count-codes
returns-then-count-codes c =
    let s = c.args in
    let g = c.gather in
    name-taken s.arrangement s.line.now s.codes.now s.count c.requires.count_in_bounds c.trimmed_length-length.ensures.value c.name_code.ensures _ g.result _ c.in-Ok.is
    c.if-count-codes.true g.ensures.codes_after g.ensures.upper_bound

pub returns-else-count-codes : goal.returns-else-count-codes
returns-else-count-codes c =
    let a = c.args in
    name-full a.arrangement a.line.now a.codes.now a.count c.requires.count_in_bounds
    c.trimmed_length-length.ensures.value c.name_code.ensures _ c.in-Ok.is c.if-count-codes.false

pub returns-in-Err : goal.returns-in-Err
returns-in-Err c =
    let a = c.args in
    name-refused a.arrangement a.line.now a.codes.now a.count c.requires.count_in_bounds
    c.trimmed_length-length.ensures.value c.name_code.ensures _ c.in-Err.is
