use Rattle.std.proofs.lemmas.Result.{IfOk-weaker, IfErr-weaker}
use Rattle.xfs_client.specs.Withdraws.{moved}
use Rattle.xfs_client.proofs.Withdrawals.{lacks_nonce}
use Rattle.xfs_client.proofs.hearing.next.Goals as goal

pub returns-clause-known : goal.returns-clause-known
returns-clause-known c = IfErr-weaker c.next.result _ _ (λ e refused other before has_heard comes.
    lacks_nonce _ comes.texts comes.unread before comes.later c.args.frame.now comes.pending e comes.withdraws comes.talk (refused other before has_heard)) c.next.ensures.refused

pub returns-clause-withdraws : goal.returns-clause-withdraws
returns-clause-withdraws c = IfOk-weaker c.next.result _ _ (λ m moves before has_heard texts withdraws. rw c.next.ensures.keeps.terms (moved withdraws c.args.frame.now m (moves before has_heard))) c.next.ensures.moved
