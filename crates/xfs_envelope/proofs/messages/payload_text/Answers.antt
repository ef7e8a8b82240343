use Rattle.std.proofs.Common.{string_bytes, arith}
use Rattle.serde_json.specs.View.{view}
use Rattle.xfs_envelope.proofs.TextLaws.{IsReadable-written}
use Rattle.xfs_envelope.proofs.messages.payload_text.Goals as goal

pub returns : goal.returns
returns c =
    let text = c.in_ok-text.ensures in
    let shallow = c.requires.2 in
    record {
      is = text.text c.requires.1;
      fits = c.requires;
      readable = IsReadable-written (view c.args.payload.now) (string_bytes c.in_ok-text.text) c.requires.1 (omega (arith, shallow)) text.order (text.reads_back (omega (arith, shallow)));
    }
