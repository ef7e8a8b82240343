use Rattle.std.proofs.Common.{sym, ◌∙◌, ap, Ok}
use Rattle.serde_json.specs.View.{view}
use Rattle.xfs_envelope.proofs.CommandLaws.{command_of-Ok}
use Rattle.xfs_envelope.proofs.command.head_of.Goals as goal

pub returns-clause-ok : goal.returns-clause-ok
returns-clause-ok c = command_of-Ok (view c.args.header.now) c.in-Ok-Some.name c.in-Some.id c.in-Some-timeout_at.timeout
    (sym c.is_of_type.ensures ∙ c.if-not-is_of_type.false) (c.in-Ok-Some.ensures.ok ∙ ap Ok c.in-Ok-Some.field-0-is)
    (sym c.requires.id ∙ c.in-Some.is) (sym c.in-Some-timeout_at.ensures) (sym c.has_right_version.ensures ∙ c.if-not-has_right_version.false)
