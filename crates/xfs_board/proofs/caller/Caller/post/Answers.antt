use Rattle.std.proofs.Common.{◌∙◌, ap, sym}
use Rattle.xfs_board.specs.Callers.{seen_by}
use Rattle.xfs_board.proofs.Chronicles.{makes_turn}
use Rattle.xfs_board.proofs.caller.Caller.post.Goals as goal

pub returns-clause-turn : goal.returns-clause-turn
returns-clause-turn g c =
    makes_turn _ _ _ _ _ _ _ c.post-result.new.self (sym (ap seen_by c.take.ensures) ∙ ap (λ v. v.seen) c.self.view_is) c.enter-held.ensures.seen c.value.ensures.now
    c.post-result.ensures.takes (ap (λ s. s.seen) c.leave.ensures.seat)
