use Rattle.std.proofs.Common.{sym, subst}
use Rattle.std.proofs.lemmas.Result.{on_ok_weaker}
use Rattle.xfs_client.specs.Desks.{Recalls}
use Rattle.xfs_client.specs.History.{told}
use Rattle.xfs_client.specs.Withdrawals.{conversation}
use Rattle.xfs_client.proofs.Openings.{opened}
use Rattle.xfs_client.proofs.Outcomes.{conversation-more}
use Rattle.xfs_client.proofs.withdrawal.Withdrawal.next.Goals as goal

pub returns-clause-heard : goal.returns-clause-heard
returns-clause-heard c = on_ok_weaker c.answer.result (λ kept texts has_heard.
    let told_is = c.in_ok-heard.ensures.ok (conversation texts) (subst (λ w. Recalls w.desk (conversation texts)) (sym c.self.view_is) has_heard) in
    subst (Recalls c.answer.new.self.desk) (sym (conversation-more texts c.args.bytes.now (told c.in_ok-heard.heard) _ told_is has_heard.count))
    (kept (conversation texts) has_heard (opened (conversation texts) c.args.bytes.now (told c.in_ok-heard.heard) told_is))) c.answer.ensures.grown
