use Rattle.std.proofs.Common.{ap, ◌∙◌, string_bytes, arith}
use Rattle.std.proofs.lemmas.Result.{IfOk-weaker}
use Rattle.std.proofs.lemmas.Str.{IsUtf8-string_bytes}
use Rattle.serde_json.specs.View.{view}
use Rattle.serde_json.specs.Written.{compact_text}
use Rattle.xfs_envelope.specs.Messages.{unsolicited_header, framed}
use Rattle.xfs_envelope.specs.Parts.{frame}
use Rattle.xfs_envelope.proofs.HeaderLaws.{unsolicited_text, unsolicited_reads, framed_text}
use Rattle.xfs_envelope.proofs.TextLaws.{IfOk-both, IsReadable-framed, reading_text}
use Rattle.xfs_envelope.proofs.messages.new_unsolicited.Goals as goal

pub returns-clause-text : goal.returns-clause-text
returns-clause-text c =
    let payload = view c.args.payload.now in
    let header = unsolicited_text c.args.name.now c.requires.name in
    IfOk-weaker c.new_framed.result _ _ (λ t e. e ∙ ap (λ h. frame h (compact_text payload)) header ∙ framed_text (unsolicited_header c.args.name.now) payload) c.new_framed.ensures.text

pub returns-clause-reads : goal.returns-clause-reads
returns-clause-reads c =
    let payload = view c.args.payload.now in
    let header = unsolicited_header c.args.name.now in
    IfOk-both c.new_framed.result _ _ _
    (λ t text readable. reading_text (framed header payload) (string_bytes t) (IsUtf8-string_bytes t) text (omega (arith, c.requires.payload.2)) (IsReadable-framed header payload (unsolicited_reads c.args.name.now) readable))
    (returns-clause-text c) c.new_framed.ensures.payload
