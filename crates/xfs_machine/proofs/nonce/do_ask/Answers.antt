use Rattle.std.proofs.lemmas.Result.{IfOk-weaker}
use Rattle.xfs_dispenser.specs.Seen.{seen}
use Rattle.xfs_machine.proofs.nonce.do_ask.Goals as goal

pub returns-in-Clear-clause-done : goal.returns-in-Clear-clause-done
returns-in-Clear-clause-done g c =
    IfOk-weaker c.clear.result _ _ (λ o h. λ s. rw (c.in-Clear.is) (h (record s { seen = seen g.D.Disk c.args.guard.now; issued = c.args.issued.now; now = c.args.now }))) c.clear.ensures.done
