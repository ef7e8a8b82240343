use Rattle.std.proofs.Common.{rules}
use Rattle.xfs_guard.proofs.LeftLaws.{left-carried, left-found, left-renewed}
use Rattle.xfs_guard.proofs.StoredLaws.{unlisted-booted, unlisted-mount}
use Rattle.xfs_guard.proofs.mounting.mount.Goals as goal

pub returns-in-Err-clause-err : goal.returns-in-Err-clause-err
returns-in-Err-clause-err g c =
    let unlisted = unlisted-mount g.D.Disk c.args.disk c.in-Err.field-0.disk c.in-Err.ensures.long in
    let any_moment = left-found g.D.Disk c.args.disk c.in-Err.field-0.disk c.in-Err.ensures.any_moment in
    search rules

pub returns-in-Ok-migrate-clause-ok : goal.returns-in-Ok-migrate-clause-ok
returns-in-Ok-migrate-clause-ok g c =
    let crashes = c.migrate.ensures.crashes c.in-Ok.ensures.ok.opened.shut in
    let spared = left-renewed g.D.Disk c.args.disk c.in-Ok.journal.disk c.in-Ok.ensures.any_moment
    g.met.D.Disk.as_read g.met.D.Disk.counts_now c.migrate.new.self.disk c.in-Ok.ensures.goes_on.told crashes.spares in
    let any_moment = left-carried g.D.Disk c.args.disk c.in-Ok.journal.disk c.in-Ok.ensures.any_moment
    c.migrate.new.self.disk c.in-Ok.journal.records c.in-Ok.ensures.goes_on.told c.in-Ok.ensures.ok.records crashes.any_moment in
    search rules

pub returns-in-Err-migrate-clause-err : goal.returns-in-Err-migrate-clause-err
returns-in-Err-migrate-clause-err g c =
    let crashes = c.migrate.ensures.crashes c.in-Ok.ensures.ok.opened.shut in record {
      not_journal = search rules;
      refused = search rules;
      disk = search rules;
      not_full = search rules;
      unlisted = unlisted-booted (g.D.Disk.held c.args.disk) c.in-Ok.journal.records _ c.in-Ok.ensures.ok.records;
      unwritten = search rules;
      any_moment = rw c.end.ensures.disk (left-carried g.D.Disk c.args.disk c.in-Ok.journal.disk c.in-Ok.ensures.any_moment
          c.migrate.new.self.disk c.in-Ok.journal.records c.in-Ok.ensures.goes_on.told c.in-Ok.ensures.ok.records crashes.any_moment);
      goes_on = search rules;
    }
