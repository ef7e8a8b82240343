use Rattle.std.proofs.Common.{ap, ◌∙◌, ◌++◌, codes, option_and_then, subst, sym}
use Rattle.std.proofs.lemmas.Str.{IsUtf8-string_bytes}
use Rattle.std.specs.Option.{option_copied}
use Rattle.std.specs.Str.{IsUtf8}
use Rattle.xfs_envelope.specs.Messages.{acknowledge_header, headed}
use Rattle.xfs_envelope.specs.Parts.{name_part, id_part, status_part}
use Rattle.xfs_envelope.specs.Replies.{reply_of_value}
use Rattle.xfs_envelope.proofs.HeaderLaws.{acknowledge_text, acknowledge_reads, acknowledge_depth}
use Rattle.xfs_envelope.proofs.ReplyLaws.{acknowledge_back}
use Rattle.xfs_envelope.proofs.TextLaws.{IsReadable-headed, reading_text}
use Rattle.xfs_envelope.proofs.messages.acknowledge.Goals as goal

pub returns-clause-text : goal.returns-clause-text
returns-clause-text c =
    let name = option_copied c.args.name in
    let front = c.in_ok-push_str.ensures.bytes ∙ ap (λ l. l ++ codes "{\"header\":{") c.in_ok-text.ensures.bytes in
    let named = c.in_ok-push_name.ensures.text ∙ ap (λ l. l ++ name_part name) front in
    let numbered = c.in_ok-push_id.ensures.text ∙ ap (λ l. l ++ id_part c.args.id) named in
    let stated = c.in_ok-push_status.ensures ∙ ap (λ l. l ++ status_part c.args.status) numbered in
    ap (λ v. v.items) c.into_bytes.ensures.value ∙ c.in_ok-push_str-2.ensures.bytes
    ∙ ap (λ l. l ++ codes "\"type\":\"acknowledge\",\"version\":\"2.0\"}}") stated ∙ acknowledge_text name c.args.id c.args.status c.in_ok-push_name.ensures.name

pub returns-clause-reads_back : goal.returns-clause-reads_back
returns-clause-reads_back c =
    let name = option_copied c.args.name in
    let header = acknowledge_header name c.args.id c.args.status in
    let named = c.in_ok-push_name.ensures.name in
    let numbered = c.in_ok-push_id.ensures.id in
    let utf8 : IsUtf8 c.into_bytes.result.items = subst (λ v. IsUtf8 v.items) (sym c.into_bytes.ensures.value) (IsUtf8-string_bytes c.push_str-2.new.self) in
    ap (option_and_then reply_of_value)
    (reading_text (headed header) c.into_bytes.result.items utf8 (returns-clause-text c) (acknowledge_depth name c.args.id c.args.status)
    (IsReadable-headed header (acknowledge_reads name c.args.id c.args.status numbered)))
    ∙ acknowledge_back c.args.id name c.args.status numbered named
