use Rattle.std.proofs.Common.{sym, subst}
use Rattle.xfs_client.specs.Desks.{Recalls}
use Rattle.xfs_client.proofs.DeskLaws.{keeps-closed}
use Rattle.xfs_client.proofs.desk.Desk.close.Goals as goal

pub returns : goal.returns
returns c h t keeps is_open end = keeps-closed _ h (subst (λ d. Recalls d h) (sym c.self.view_is) keeps) c.args.id t _ _ is_open end c.remove.ensures.updates.0 c.remove-2.ensures.updates.0
