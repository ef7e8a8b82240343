use Rattle.std.proofs.Common.{refl}
use Rattle.xfs_script.proofs.Due.{told_map}
use Rattle.xfs_lines.proofs.AuditLaws.{audited}
use Rattle.xfs_lines.proofs.LineEndLaws.{empty-audit, unbooted-finishes}
use Rattle.xfs_lines.proofs.commands.audit.command.audit.Goals as goal

pub returns-clause-runs : goal.returns-clause-runs
returns-clause-runs g c =
    let s = c.judge-status.ensures in
    rw c.give_back_untouched.ensures (record {
      audits = s.audits;
      verdict = λ zero. told_map (g.S.Source.left c.args.source.now) _ _ (λ text audits. audited c.args.bench.core.key c.args.bench.core.units c.judge-status.result _ text zero audits) s.audits;
      lines = s.lines;
      not_a_line = s.not_a_line;
      kept = record { mech = refl; disk = refl };
      unbooted = s.unbooted;
      finishes = unbooted-finishes _ empty-audit _ _ _ _ _ s.statuses s.usage s.unbooted s.causes.read s.causes.write s.causes.quota s.not_a_line;
    })

pub returns-clause-ends_lines : goal.returns-clause-ends_lines
returns-clause-ends_lines g c =
    let s = c.judge-status.ensures in
    rw c.give_back_untouched.ensures (record { usage = s.usage; status = s.statuses; cause = s.causes; second = record { mech = refl; disk = refl } })
