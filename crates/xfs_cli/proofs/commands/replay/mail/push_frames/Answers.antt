use Rattle.std.proofs.Common.{arith}
use Rattle.xfs_cli.proofs.MailLaws.{frames-more}
use Rattle.xfs_cli.proofs.commands.replay.mail.push_frames.Goals as goal

pub loop-frame-preserved : goal.loop-frame-preserved
loop-frame-preserved c =
    frames-more _ c.deref-frame-items.result.now c.loop-frame.frame-index c.frame-item.result _ _ _ (omega (arith, c.loop-frame-test.true)) c.frame-item.is c.loop-frame.invariant (rw c.list.ensures at c.in_ok-push_frame.ensures)
