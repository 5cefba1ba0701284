-- `settings::changed_bytes` meets its contract. Assumes nothing.
use Rattle.encoding.specs.Encoding.{encoding_of}
use Rattle.settings.proofs.Laws.{filled}
use Rattle.settings.proofs.changed_bytes.Goals as goal

pub returns : goal.returns
returns c =
    let k = c.changed-after in
    let s = c in record { value = k.ensures; bytes_after = λ e. filled (encoding_of k.result.history) s.args.bytes.now _ s.requires c.encode.ensures }
