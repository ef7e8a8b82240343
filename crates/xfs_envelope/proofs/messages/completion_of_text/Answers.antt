use Rattle.std.proofs.Common.{ap, ◌∙◌, option_and_then, subst, sym, arith}
use Rattle.std.proofs.lemmas.Str.{IsUtf8-string_bytes}
use Rattle.std.specs.Str.{IsUtf8}
use Rattle.xfs_envelope.specs.Messages.{completion_header, framed}
use Rattle.xfs_envelope.specs.Parts.{frame}
use Rattle.xfs_envelope.specs.Replies.{reply_of_value}
use Rattle.serde_json.specs.Written.{compact_text}
use Rattle.xfs_envelope.proofs.HeaderLaws.{completion_reads, framed_text}
use Rattle.xfs_envelope.proofs.ReplyLaws.{completion_back}
use Rattle.xfs_envelope.proofs.TextLaws.{IsReadable-framed, reading_text}
use Rattle.xfs_envelope.proofs.messages.completion_of_text.Goals as goal

pub returns-clause-text : goal.returns-clause-text
returns-clause-text c = λ d told.
    let header = completion_header c.args.name.now c.args.id c.args.code in
    ap (λ v. v.items) c.into_bytes.ensures.value ∙ (rw c.as_str.ensures.text at c.in_ok-new_completion.ensures) ∙ ap (frame (compact_text header)) told.is ∙ framed_text header d

pub returns-clause-reads_back : goal.returns-clause-reads_back
returns-clause-reads_back c = λ d told.
    let header = completion_header c.args.name.now c.args.id c.args.code in
    let utf8 : IsUtf8 c.into_bytes.result.items = subst (λ v. IsUtf8 v.items) (sym c.into_bytes.ensures.value) (IsUtf8-string_bytes c.in_ok-new_completion.field-0) in
    ap (option_and_then reply_of_value)
    (reading_text (framed header d) c.into_bytes.result.items utf8 (returns-clause-text c d told) (omega (arith, told.fits.2))
    (IsReadable-framed header d (completion_reads c.args.name.now c.args.id c.args.code c.ranges.id.fits) told.readable))
    ∙ completion_back c.args.name.now c.args.id c.args.code d c.as_str.ensures.name c.ranges.id.fits told.fits
