use Rattle.std.proofs.Common.{[], append-nil, ap, sym, ◌∙◌}
use Rattle.xfs_board.proofs.backend.MachineBackendBackend.connect.Goals as goal

pub returns-in-Ok-join-clause-seen : goal.returns-in-Ok-join-clause-seen
returns-in-Ok-join-clause-seen g c = ([], append-nil _ ∙ ap (λ v. v.seen) (sym c.split.ensures.same))
