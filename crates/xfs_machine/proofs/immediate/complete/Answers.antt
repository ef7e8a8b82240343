use Rattle.std.proofs.lemmas.Result.{on_ok_weaker}
use Rattle.xfs_machine.proofs.immediate.complete.Goals as goal

pub returns-clause-ok : goal.returns-clause-ok
returns-clause-ok c = on_ok_weaker c.send_both.result (λ sends. sends c.args.outcome.now c.in_ok-last.ensures) c.send_both.ensures.ok
