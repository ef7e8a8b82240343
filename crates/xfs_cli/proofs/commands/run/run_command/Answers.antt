use Rattle.std.proofs.Common.{refl}
use Rattle.xfs_lines.specs.Returns.{back}
use Rattle.xfs_lines.proofs.EndsLaws.{ends-kept}
use Rattle.xfs_cli.proofs.commands.run.run_command.Goals as goal

pub returns-in-Guard-clause-runs : goal.returns-in-Guard-clause-runs
returns-in-Guard-clause-runs g c =
    let e = c.guard.ensures in
    rw (c.in-Guard.is, c.linkless.ensures) (record {
      ends = e.ends;
      runs = e.runs;
      usage = e.ends_lines.usage;
      unread = λ reads. absurd reads;
      statuses = e.ends_lines.status;
      causes = e.ends_lines.cause;
      second = e.ends_lines.second;
    })

pub returns-in-Guard-clause-doors : goal.returns-in-Guard-clause-doors
returns-in-Guard-clause-doors g c =
    rw (c.in-Guard.is, c.linkless.ensures) (record { none = refl; dials = refl })

pub returns-in-Token-clause-runs : goal.returns-in-Token-clause-runs
returns-in-Token-clause-runs g c =
    let e = c.token.ensures in
    let disk = g.met.D.Disk g.world.𝓛 g.world.𝓜 g.world.𝓡 ((λ s x. x), (λ x. x), (λ x. x), λ x. x) in
    rw (c.in-Token.is, c.linkless-in-Token.ensures) (record {
      ends = ends-kept g.M.Mechanism g.D.Disk c.args.bench.core (back c.token.result) disk.as_read c.requires.starts disk.only_now e.runs.kept;
      runs = e.runs;
      usage = e.ends_lines.usage;
      unread = λ reads. absurd reads;
      statuses = e.ends_lines.status;
      causes = e.ends_lines.cause;
      second = e.ends_lines.second;
    })

pub returns-in-Token-clause-doors : goal.returns-in-Token-clause-doors
returns-in-Token-clause-doors g c =
    rw (c.in-Token.is, c.linkless-in-Token.ensures) (record { none = refl; dials = refl })

pub returns-in-Replay-clause-runs : goal.returns-in-Replay-clause-runs
returns-in-Replay-clause-runs g c =
    let e = c.replay.ensures in
    rw (c.in-Replay.is, c.linkless-in-Replay.ensures) (record {
      ends = e.ends;
      runs = e.runs;
      usage = e.ends_lines.usage;
      unread = λ reads. absurd reads;
      statuses = e.ends_lines.status;
      causes = e.ends_lines.cause;
      second = e.ends_lines.second;
    })

pub returns-in-Replay-clause-doors : goal.returns-in-Replay-clause-doors
returns-in-Replay-clause-doors g c =
    rw (c.in-Replay.is, c.linkless-in-Replay.ensures) (record { none = refl; dials = refl })

pub returns-in-Load-clause-runs : goal.returns-in-Load-clause-runs
returns-in-Load-clause-runs g c =
    let e = c.load.ensures in
    rw (c.in-Load.is, c.linkless-in-Load.ensures) (record {
      ends = e.ends;
      runs = e.runs;
      usage = e.usage;
      unread = λ reads. e.unread;
      statuses = e.statuses;
      causes = tt;
      second = e.second;
    })

pub returns-in-Load-clause-doors : goal.returns-in-Load-clause-doors
returns-in-Load-clause-doors g c =
    rw (c.in-Load.is, c.linkless-in-Load.ensures) (record { none = refl; dials = refl })

pub returns-in-Host-clause-runs : goal.returns-in-Host-clause-runs
returns-in-Host-clause-runs g c =
    let e = c.host.ensures in
    let disk = g.met.D.Disk g.world.𝓛 g.world.𝓜 g.world.𝓡 ((λ s x. x), (λ x. x), (λ x. x), λ x. x) in
    rw (c.in-Host.is, c.linkless-in-Host.ensures) (record {
      ends = ends-kept g.M.Mechanism g.D.Disk c.args.bench.core (back c.host.result) disk.as_read c.requires.starts disk.only_now e.runs.kept;
      runs = e.runs;
      usage = e.ends_lines.usage;
      unread = λ reads. absurd reads;
      statuses = e.ends_lines.status;
      causes = e.ends_lines.cause;
      second = e.ends_lines.second;
    })

pub returns-in-Host-clause-doors : goal.returns-in-Host-clause-doors
returns-in-Host-clause-doors g c =
    rw (c.in-Host.is, c.linkless-in-Host.ensures) (record { none = refl; dials = refl })

pub returns-in-Audit-clause-runs : goal.returns-in-Audit-clause-runs
returns-in-Audit-clause-runs g c =
    let e = c.audit.ensures in
    let disk = g.met.D.Disk g.world.𝓛 g.world.𝓜 g.world.𝓡 ((λ s x. x), (λ x. x), (λ x. x), λ x. x) in
    rw (c.in-Audit.is, c.linkless-in-Audit.ensures) (record {
      ends = ends-kept g.M.Mechanism g.D.Disk c.args.bench.core (back c.audit.result) disk.as_read c.requires.starts disk.only_now e.runs.kept;
      runs = e.runs;
      usage = e.ends_lines.usage;
      unread = λ reads. absurd reads;
      statuses = e.ends_lines.status;
      causes = e.ends_lines.cause;
      second = e.ends_lines.second;
    })

pub returns-in-Audit-clause-doors : goal.returns-in-Audit-clause-doors
returns-in-Audit-clause-doors g c =
    rw (c.in-Audit.is, c.linkless-in-Audit.ensures) (record { none = refl; dials = refl })

pub returns-in-Fleet-clause-runs : goal.returns-in-Fleet-clause-runs
returns-in-Fleet-clause-runs g c =
    let e = c.fleet.ensures in
    rw (c.in-Fleet.is, c.linkless-in-Fleet.ensures) (record {
      ends = e.runs.first.ends;
      runs = e.runs;
      usage = e.usage;
      unread = λ reads. absurd reads;
      statuses = e.statuses;
      causes = e.causes;
      second = tt;
    })

pub returns-in-Fleet-clause-doors : goal.returns-in-Fleet-clause-doors
returns-in-Fleet-clause-doors g c =
    rw (c.in-Fleet.is, c.linkless-in-Fleet.ensures) (record { none = refl; dials = refl })

pub returns-in-Client-clause-runs : goal.returns-in-Client-clause-runs
returns-in-Client-clause-runs g c =
    let e = c.client.ensures in
    let disk = g.met.D.Disk g.world.𝓛 g.world.𝓜 g.world.𝓡 ((λ s x. x), (λ x. x), (λ x. x), λ x. x) in
    rw c.in-Client.is (record {
      ends = ends-kept g.M.Mechanism g.D.Disk c.args.bench.core (back c.client.result) disk.as_read c.requires.starts disk.only_now e.runs.kept;
      runs = tt;
      usage = e.usage;
      unread = λ reads. refl;
      statuses = tt;
      causes = tt;
      second = e.second;
    })
