use Rattle.std.proofs.Common.{ap, ◌∙◌}
use Rattle.std.specs.Prelude.{decimal}
use Rattle.xfs_script.proofs.ReplayFields.{no_client_zero}
use Rattle.xfs_script.proofs.replay_fields.read_client.Goals as goal

pub returns-then-client-eq0-clause-none : goal.returns-then-client-eq0-clause-none
returns-then-client-eq0-clause-none c = no_client_zero c.args.field.now (c.in_ok-client.ensures.digits ∙ ap decimal c.if-client-eq0.true)
