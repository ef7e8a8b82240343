use Rattle.std.proofs.Common.{sym, subst}
use Rattle.std.proofs.lemmas.Bool.{false≢true}
use Rattle.xfs_client.specs.Desks.{Recalls}
use Rattle.xfs_client.proofs.DeskLaws.{first-found, first-none, has-none}
use Rattle.xfs_client.proofs.desk.Desk.first_unacknowledged.Goals as goal

pub returns-in-Some : goal.returns-in-Some
returns-in-Some c h keeps = sym (first-found _ h (subst (λ d. Recalls d h) (sym c.self.view_is) keeps) c.in-Some.id.now c.in-Some.ensures.member c.in-Some.ensures.least)

pub returns-in-None : goal.returns-in-None
returns-in-None c h keeps = sym (first-none _ h (subst (λ d. Recalls d h) (sym c.self.view_is) keeps) (has-none _ (λ some. false≢true (c.in-None.ensures.variant.1 some))))
