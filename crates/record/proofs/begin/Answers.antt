-- `begin` meets its contract. Assumes nothing.
use Rattle.flight.proofs.Laws.Setting.{usable-exactly}
use Rattle.record.proofs.begin.Goals as goal

pub begin-recording-requires : goal.begin-recording-requires
begin-recording-requires c = let s = c in (((usable-exactly _).0 s.requires.0).arrangement, s.requires.1, s.requires.2)
