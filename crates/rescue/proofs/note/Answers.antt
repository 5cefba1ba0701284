-- `note` meets its contract: a code stands at its place, or nowhere. Assumes nothing.
use native.Mathlib.Omega.{arith}
use Rattle.rescue.specs.Internal.Note.{none-past, none_other, noted-again, noted-first}
use Rattle.rescue.proofs.note.Goals as goal

pub returns-then-k-keys : goal.returns-then-k-keys
returns-then-k-keys c = let s = c in none-past s.args.keys.now s.args.code s.requires.0 s.requires.2 c.if-k-keys.true

pub returns-then-keys-k : goal.returns-then-keys-k
returns-then-keys-k c = let s = c in none_other s.args.keys.now s.args.code s.requires.0 s.requires.2 c.if-keys-k.true

pub returns-then-seen-k-ne0 : goal.returns-then-seen-k-ne0
returns-then-seen-k-ne0 c = noted-again _ _ _ c.requires.0 _ (omega arith) c.if-keys-k.false c.if-seen-k-ne0.true

pub returns : goal.returns
returns c = noted-first _ _ _ c.requires.0 _ (omega arith) c.if-keys-k.false c.if-seen-k-ne0.false (omega arith)
