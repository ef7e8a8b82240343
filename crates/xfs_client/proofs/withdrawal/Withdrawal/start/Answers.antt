use Rattle.std.proofs.Common.{[], sym, subst}
use Rattle.std.proofs.lemmas.Result.{on_ok_weaker}
use Rattle.xfs_client.specs.Desks.{Recalls}
use Rattle.xfs_client.proofs.withdrawal.Withdrawal.start.Goals as goal

pub returns-clause-heard : goal.returns-clause-heard
returns-clause-heard c = on_ok_weaker c.ask_next.result (λ kept. kept [] (subst (λ w. Recalls w.desk []) (sym c.self.view_is) c.requires.fresh)) c.ask_next.ensures.grown
