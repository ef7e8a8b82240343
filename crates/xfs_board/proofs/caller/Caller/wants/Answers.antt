use Rattle.std.proofs.Common.{[], append-nil, ap, sym, ◌∙◌}
use Rattle.xfs_board.specs.Callers.{seen_by}
use Rattle.xfs_board.specs.Chronicles.{chronicle}
use Rattle.xfs_board.proofs.Chronicles.{looks}
use Rattle.xfs_board.proofs.caller.Caller.wants.Goals as goal

pub leave-requires-clause-grown : goal.leave-requires-clause-grown
leave-requires-clause-grown g c =
    ([], append-nil c.enter-held.result.found ∙ c.enter-held.ensures.found ∙ ap chronicle (sym c.value.ensures.now))

pub returns-clause-look : goal.returns-clause-look
returns-clause-look g c =
    looks _ _ _ _ _ _ _ (sym (ap seen_by c.take.ensures) ∙ ap (λ v. v.seen) c.self.view_is) c.enter-held.ensures.seen c.value.ensures.now
    c.wants-wanted.ensures (ap (λ s. s.seen) c.leave.ensures.seat)
