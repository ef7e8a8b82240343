use Rattle.std.proofs.Common.{rules, sym, subst}
use Rattle.xfs_client.specs.Desks.{Recalls}
use Rattle.xfs_client.proofs.DeskLaws.{keeps-asked}
use Rattle.xfs_client.proofs.desk.Desk.ask_next.Goals as goal

pub returns-clause-grown : goal.returns-clause-grown
returns-clause-grown c h keeps = keeps-asked _ h (subst (λ d. Recalls d h) (sym c.self.view_is) keeps) _ c.in_ok-insert.ensures.updates.0

pub returns-clause-written : goal.returns-clause-written
returns-clause-written c = record { text = search rules; reads_back = search rules }
