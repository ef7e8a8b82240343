use Rattle.std.proofs.Common.{◌∙◌, ap, sym}
use Rattle.xfs_board.specs.Callers.{seen_by}
use Rattle.xfs_board.proofs.Chronicles.{hands_told}
use Rattle.xfs_board.proofs.caller.Caller.outbox.Goals as goal

pub returns-clause-turn : goal.returns-clause-turn
returns-clause-turn g c =
    hands_told _ _ _ _ _ _ _ _ c.outbox-frames.new.self (sym (ap seen_by c.take.ensures) ∙ ap (λ v. v.seen) c.self.view_is) c.enter-held.ensures.seen c.value.ensures.now
    c.outbox-frames.ensures.takes (ap (λ s. s.seen) c.leave.ensures.seat) c.outbox-frames.ensures.told
