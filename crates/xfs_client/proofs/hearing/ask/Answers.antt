use Rattle.std.proofs.Common.{◌+◌, subst}
use Rattle.xfs_client.specs.Hearings.{IsAskAt, asked}
use Rattle.xfs_client.proofs.Asks.{asked_at, on_both}
use Rattle.xfs_client.proofs.hearing.ask.Goals as goal

pub returns-clause-goes_on : goal.returns-clause-goes_on
returns-clause-goes_on c = on_both c.ask.result _ _ _ (λ t grows written. record {
  keeps = grows;
  hearing = λ h texts frames keeps hearing. asked hearing t.items (subst (λ n. IsAskAt (n + 1) t.items) keeps.count (asked_at _ _ _ _ written.reads_back c.requires.object));
}) c.ask.ensures.grown c.ask.ensures.written
