-- `writing::list_refusal` meets its contract: the codes up to the place i are judged. Assumes nothing.
use Rattle.writing.proofs.EntrySteps as es
use Rattle.writing.proofs.list_refusal.Given as goal

abbrev pub invariant-loop-code : goal.invariant-loop-code
invariant-loop-code l = es.Judged l.arrangement l.codes l.code-index l.refusal l.end
