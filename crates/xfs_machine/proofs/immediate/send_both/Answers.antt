use Rattle.std.proofs.lemmas.Result.{on_ok_weaker}
use Rattle.xfs_machine.proofs.immediate.send_both.Goals as goal

pub returns-clause-ok : goal.returns-clause-ok
returns-clause-ok c = on_ok_weaker c.send_two.result (λ sent outcome completes. record {
  reply = c.in_ok-reply.reply;
  last = c.args.last;
  acknowledges = c.in_ok-reply.ensures;
  completes = completes;
  is = sent;
}) c.send_two.ensures.ok
