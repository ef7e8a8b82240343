use Rattle.std.proofs.Common.{refl}
use Rattle.xfs_cli.proofs.commands.client.client.Goals as goal

pub returns-clause-runs : goal.returns-clause-runs
returns-clause-runs g c =
    let w = c.withdraw-withdrawn.ensures in
    rw c.give_back_untouched.ensures (record {
      ending = c.withdraw-withdrawn.result.ending;
      withdraws = w.withdraws;
      dialled = w.dialled;
      status_is = c.status.ensures;
      line = w.line;
      closed = w.causes.closed;
      quiet = rw c.status.ensures w.causes.quiet;
      failed = rw c.status.ensures w.causes.failed;
      kept = record { mech = refl; disk = refl };
    })
