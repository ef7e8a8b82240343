use Rattle.std.proofs.lemmas.Result.{on_ok_weaker}
use Rattle.xfs_traffic.proofs.accepting.refuse_text.Goals as goal

pub returns-clause-ok : goal.returns-clause-ok
returns-clause-ok c = on_ok_weaker c.send.result (λ sent. record { reply = c.in_ok-reply.reply; acknowledges = c.in_ok-reply.ensures; is = sent }) c.send.ensures.ok
