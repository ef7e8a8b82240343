use Rattle.std.proofs.Common.{◌∙◌, ap, sym}
use Rattle.xfs_board.specs.Callers.{seen_by}
use Rattle.xfs_board.proofs.Chronicles.{makes_turn}
use Rattle.xfs_board.proofs.caller.Caller.leave.Goals as goal

pub returns-clause-turn : goal.returns-clause-turn
returns-clause-turn g c =
    makes_turn _ _ _ _ _ _ _ c.leave.new.self (sym (ap seen_by c.take.ensures) ∙ ap (λ v. v.seen) c.self.view_is) c.enter-held.ensures.seen c.value.ensures.now
    c.leave.ensures (ap (λ s. s.seen) c.leave-2.ensures.seat)
