use Rattle.xfs_guard.proofs.SizeLaws.{fit-at}
use Rattle.xfs_guard.proofs.guard.Guard.next_nonce.Goals as goal

pub next_issue-number-requires : goal.next_issue-number-requires
next_issue-number-requires g c =
    let fit = fit-at _ _ c.self.view_is c.requires in
    (fit.0, fit.2)
