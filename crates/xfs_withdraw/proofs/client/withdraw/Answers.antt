use Rattle.xfs_withdraw.proofs.DoorLaws.{closed_cause, failed_cause, quiet_cause}
use Rattle.xfs_withdraw.proofs.client.withdraw.Goals as goal

pub returns-clause-causes : goal.returns-clause-causes
returns-clause-causes g c =
    let w = c.over_a_link-withdrawn.ensures in
    record {
      closed = closed_cause _ _ _ _ _ _ w.withdraws w.dialled;
      quiet = quiet_cause _ _ _ _ _ _ w.withdraws w.dialled;
      failed = failed_cause _ _ _ _ _ _ w.withdraws w.dialled;
    }
