-- `console::history_in` meets its contract. Assumes nothing.
use Rattle.console.proofs.Kept.{not-loaded, loaded}
use Rattle.console.proofs.history_in.Goals as goal

pub returns-then-refusal-ne0 : goal.returns-then-refusal-ne0
returns-then-refusal-ne0 c =
    let d = c in
    not-loaded d.args.bytes.now d.decode-decoded.result d.decode-decoded.ensures c.if-refusal-ne0.true

pub returns : goal.returns
returns c =
    let d = c in
    loaded d.args.bytes.now d.decode-decoded.result d.decode-decoded.ensures c.if-refusal-ne0.false
