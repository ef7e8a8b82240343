use Rattle.std.proofs.Common.{arith, ◌∙◌}
use Rattle.xfs_script.proofs.LastLaws.{on-err}
use Rattle.xfs_cli.proofs.MailLaws.{mail-frame, mail-more}
use Rattle.xfs_cli.proofs.commands.replay.mail.hand_over.Goals as goal

pub returns-in_err-push_frames-clause-memory : goal.returns-in_err-push_frames-clause-memory
returns-in_err-push_frames-clause-memory g c =
    on-err _ _ (mail-frame c.args.clients.now c.loop-client.client-index c.client-item.result _ _ _ _ _ c.outbox-frames.result (omega (arith, c.loop-client-test.true)) c.client-item.is c.loop-client.invariant.mail c.outbox-frames.ensures.step)

pub loop-client-preserved : goal.loop-client-preserved
loop-client-preserved g c = record {
  mail = mail-more c.args.clients.now c.loop-client.client-index c.client-item.result _ _ _ _ _ _ c.outbox-frames.result (omega (arith, c.loop-client-test.true)) c.client-item.is c.loop-client.invariant.mail c.outbox-frames.ensures.step c.in_ok-push_frames.ensures;
  guard = c.outbox-frames.ensures.guard ∙ c.loop-client.invariant.guard;
}
