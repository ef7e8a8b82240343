use Rattle.std.proofs.Common.{sym, ◌∙◌}
use Rattle.std.proofs.lemmas.Result.{on_ok_weaker}
use Rattle.xfs_envelope.specs.Commands.{said}
use Rattle.xfs_machine.proofs.Posting.{cancels_badly, cancels_none, cancels_some}
use Rattle.xfs_common.specs.Cancel.{named_by}
use Rattle.xfs_machine.proofs.immediate.cancel.Goals as goal

pub returns-in-Err-Shape-clause-ok : goal.returns-in-Err-Shape-clause-ok
returns-in-Err-Shape-clause-ok c = on_ok_weaker c.complete.result (λ completed guard s k client service seen.
    cancels_badly s k c.args.sender client service (said c.args.command.now) _ c.args.traffic.now c.complete.new.connections c.requires
    (c.read_cancel.ensures.shape (rw c.in-Err-Shape.field-0-is at c.in-Err-Shape.is)) (rw (c.new-outcome.ensures, c.nothing.ensures) at completed)) c.complete.ensures.ok

pub returns-then-not-names_one-clause-ok : goal.returns-then-not-names_one-clause-ok
returns-then-not-names_one-clause-ok c = on_ok_weaker c.complete-then-not-names_one.result (λ completed guard s k client service seen.
    cancels_none s k c.args.sender client service (said c.args.command.now) (named_by c.in-Ok.what) c.args.traffic.now c.complete-then-not-names_one.new.connections c.requires
    c.in-Ok.ensures.ok (rw (c.at.ensures, c.ids_of-ids.ensures) at (sym c.names_one.ensures ∙ c.if-not-names_one.true)) (rw (c.in_ok-outcome.ensures) at completed)) c.complete-then-not-names_one.ensures.ok

pub returns-clause-ok : goal.returns-clause-ok
returns-clause-ok c = λ guard s k client service seen.
    cancels_some s k c.args.sender client service (said c.args.command.now) (named_by c.in-Ok.what) c.args.traffic.now (record { connections = c.complete-2.new.connections; queues = c.stop.new.self }) c.requires
    c.in-Ok.ensures.ok (rw (c.at.ensures, c.ids_of-ids.ensures) at (sym c.names_one.ensures ∙ c.if-not-names_one.false)) (rw (c.new-outcome-2.ensures, c.nothing-2.ensures) at c.in_ok-complete.ensures.ok)
    (rw (c.ids_of-ids.ensures) at c.stop.ensures)
