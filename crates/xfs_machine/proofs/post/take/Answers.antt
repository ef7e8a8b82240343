use Rattle.std.proofs.Common.{sym, ◌∙◌}
use Rattle.std.proofs.lemmas.Bool.{false≢true}
use Rattle.std.proofs.lemmas.Result.{on_ok_weaker}
use Rattle.xfs_machine.proofs.Posting.{misread}
use Rattle.xfs_machine.proofs.post.take.Goals as goal

pub returns-else-eq-clause-ok : goal.returns-else-eq-clause-ok
returns-else-eq-clause-ok g c = on_ok_weaker c.refuse_text.result (λ refused s k seen guard.
    rw (c.in-Err.ensures.refused (λ e. false≢true (sym c.if-eq.false ∙ (rw e at c.eq.ensures))))
    (misread s k c.args.sender seen.client seen.service c.in-Err.refuse c.args.traffic.now c.refuse_text.new.connections refused)) c.refuse_text.ensures.ok
