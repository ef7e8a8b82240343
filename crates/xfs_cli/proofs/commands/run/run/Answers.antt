use Rattle.std.proofs.Common.{inl, inr, refl}
use Rattle.xfs_words.specs.declared.command.Command.TheVariants.{Audit, Client, Fleet, Guard, Host, Load, Replay, Serve, Token}
use Rattle.xfs_lines.proofs.EndsLaws.{ends-kept}
use Rattle.xfs_lines.specs.Returns.{Return}
use Rattle.xfs_cli.proofs.CommandLaws.{causes-run, client-run, doorless-run, second-run, serve-run, status-run, undialled-run, unread-run, usage-causes, usage-run}
use Rattle.xfs_cli.proofs.commands.run.run.Goals as goal

pub returns-in-Some-clause-upholds : goal.returns-in-Some-clause-upholds
returns-in-Some-clause-upholds g c = c.run_command.ensures.runs.ends.upholds

pub returns-in-Some-clause-any_moment : goal.returns-in-Some-clause-any_moment
returns-in-Some-clause-any_moment g c = c.run_command.ensures.runs.ends.any_moment

pub returns-in-Some-clause-accounts : goal.returns-in-Some-clause-accounts
returns-in-Some-clause-accounts g c = c.run_command.ensures.runs.ends.accounts

pub returns-in-Some-clause-guard : goal.returns-in-Some-clause-guard
returns-in-Some-clause-guard g c = doorless-run g.M.Mechanism g.D.Disk c.args.bench c.run_command.result _ c.args.words.now c.in-Some.command Guard c.in-Some.ensures.named c.run_command.ensures.runs.runs

pub returns-in-Some-clause-replay : goal.returns-in-Some-clause-replay
returns-in-Some-clause-replay g c = doorless-run g.M.Mechanism g.D.Disk c.args.bench c.run_command.result _ c.args.words.now c.in-Some.command Replay c.in-Some.ensures.named c.run_command.ensures.runs.runs

pub returns-in-Some-clause-token : goal.returns-in-Some-clause-token
returns-in-Some-clause-token g c = doorless-run g.M.Mechanism g.D.Disk c.args.bench c.run_command.result _ c.args.words.now c.in-Some.command Token c.in-Some.ensures.named c.run_command.ensures.runs.runs

pub returns-in-Some-clause-host : goal.returns-in-Some-clause-host
returns-in-Some-clause-host g c = doorless-run g.M.Mechanism g.D.Disk c.args.bench c.run_command.result _ c.args.words.now c.in-Some.command Host c.in-Some.ensures.named c.run_command.ensures.runs.runs

pub returns-in-Some-clause-audit : goal.returns-in-Some-clause-audit
returns-in-Some-clause-audit g c = doorless-run g.M.Mechanism g.D.Disk c.args.bench c.run_command.result _ c.args.words.now c.in-Some.command Audit c.in-Some.ensures.named c.run_command.ensures.runs.runs

pub returns-in-Some-clause-fleet : goal.returns-in-Some-clause-fleet
returns-in-Some-clause-fleet g c = doorless-run g.M.Mechanism g.D.Disk c.args.bench c.run_command.result _ c.args.words.now c.in-Some.command Fleet c.in-Some.ensures.named c.run_command.ensures.runs.runs

pub returns-in-Some-clause-load : goal.returns-in-Some-clause-load
returns-in-Some-clause-load g c = λ rounds. doorless-run g.M.Mechanism g.D.Disk c.args.bench c.run_command.result _ c.args.words.now c.in-Some.command (Load rounds) c.in-Some.ensures.named c.run_command.ensures.runs.runs

pub returns-in-Some-clause-serve : goal.returns-in-Some-clause-serve
returns-in-Some-clause-serve g c = serve-run g.M.Mechanism g.D.Disk g.O.Link.Link.log c.args.bench c.run_command.result _ _ _ c.args.words.now c.in-Some.command c.in-Some.ensures.named c.run_command.ensures.doors

pub returns-in-Some-clause-client : goal.returns-in-Some-clause-client
returns-in-Some-clause-client g c = client-run g.M.Mechanism g.D.Disk g.O.Link.Link.log c.args.bench c.run_command.result _ _ _ c.args.words.now c.in-Some.command c.in-Some.ensures.named c.run_command.ensures.doors

pub returns-in-Some-clause-undialled : goal.returns-in-Some-clause-undialled
returns-in-Some-clause-undialled g c = undialled-run g.M.Mechanism g.D.Disk g.O.Link.Link.log c.args.bench c.run_command.result _ _ _ c.args.words.now c.in-Some.command c.in-Some.ensures.named c.run_command.ensures.doors

pub returns-in-Some-clause-usage : goal.returns-in-Some-clause-usage
returns-in-Some-clause-usage g c = usage-run g.M.Mechanism g.D.Disk c.args.bench c.run_command.result _ _ _ c.args.words.now c.in-Some.command c.in-Some.ensures.named c.run_command.ensures.runs.usage

pub returns-in-Some-clause-unread : goal.returns-in-Some-clause-unread
returns-in-Some-clause-unread g c = unread-run _ _ c.args.words.now c.in-Some.command c.in-Some.ensures.named c.run_command.ensures.runs.unread

pub returns-in-Some-clause-statuses : goal.returns-in-Some-clause-statuses
returns-in-Some-clause-statuses g c = status-run c.args.words.now c.in-Some.command c.run_command.result.status c.in-Some.ensures.named c.run_command.ensures.runs.statuses

pub returns-in-Some-clause-causes : goal.returns-in-Some-clause-causes
returns-in-Some-clause-causes g c = causes-run c.args.words.now c.in-Some.command c.run_command.result.status _ c.in-Some.ensures.named c.run_command.ensures.runs.causes

pub returns-in-Some-clause-second : goal.returns-in-Some-clause-second
returns-in-Some-clause-second g c = second-run c.args.bench c.run_command.result c.args.words.now c.in-Some.command c.in-Some.ensures.named c.run_command.ensures.runs.second

pub returns-in-None-clause-upholds : goal.returns-in-None-clause-upholds
returns-in-None-clause-upholds g c =
    let disk = g.met.D.Disk g.world.𝓛 g.world.𝓜 g.world.𝓡 ((λ s x. x), (λ x. x), (λ x. x), λ x. x) in
    let kept : Return g.row.M.Denot g.row.D.Denot = record { status = 2; mech = c.args.bench.core.mech; disk = c.args.bench.core.disk } in
    let ends = ends-kept g.M.Mechanism g.D.Disk c.args.bench.core kept disk.as_read c.requires.starts disk.only_now (record { mech = refl; disk = refl }) in
    rw c.tell_usage.ensures.ended ends.upholds

pub returns-in-None-clause-any_moment : goal.returns-in-None-clause-any_moment
returns-in-None-clause-any_moment g c =
    let disk = g.met.D.Disk g.world.𝓛 g.world.𝓜 g.world.𝓡 ((λ s x. x), (λ x. x), (λ x. x), λ x. x) in
    let kept : Return g.row.M.Denot g.row.D.Denot = record { status = 2; mech = c.args.bench.core.mech; disk = c.args.bench.core.disk } in
    let ends = ends-kept g.M.Mechanism g.D.Disk c.args.bench.core kept disk.as_read c.requires.starts disk.only_now (record { mech = refl; disk = refl }) in
    rw c.tell_usage.ensures.ended ends.any_moment

pub returns-in-None-clause-accounts : goal.returns-in-None-clause-accounts
returns-in-None-clause-accounts g c =
    let disk = g.met.D.Disk g.world.𝓛 g.world.𝓜 g.world.𝓡 ((λ s x. x), (λ x. x), (λ x. x), λ x. x) in
    let kept : Return g.row.M.Denot g.row.D.Denot = record { status = 2; mech = c.args.bench.core.mech; disk = c.args.bench.core.disk } in
    let ends = ends-kept g.M.Mechanism g.D.Disk c.args.bench.core kept disk.as_read c.requires.starts disk.only_now (record { mech = refl; disk = refl }) in
    rw c.tell_usage.ensures.ended ends.accounts

pub returns-in-None-clause-guard : goal.returns-in-None-clause-guard
returns-in-None-clause-guard g c = λ is. absurd (c.in-None.ensures.none (Guard, is))

pub returns-in-None-clause-replay : goal.returns-in-None-clause-replay
returns-in-None-clause-replay g c = λ is. absurd (c.in-None.ensures.none (Replay, is))

pub returns-in-None-clause-token : goal.returns-in-None-clause-token
returns-in-None-clause-token g c = λ is. absurd (c.in-None.ensures.none (Token, is))

pub returns-in-None-clause-host : goal.returns-in-None-clause-host
returns-in-None-clause-host g c = λ is. absurd (c.in-None.ensures.none (Host, is))

pub returns-in-None-clause-audit : goal.returns-in-None-clause-audit
returns-in-None-clause-audit g c = λ is. absurd (c.in-None.ensures.none (Audit, is))

pub returns-in-None-clause-fleet : goal.returns-in-None-clause-fleet
returns-in-None-clause-fleet g c = λ is. absurd (c.in-None.ensures.none (Fleet, is))

pub returns-in-None-clause-load : goal.returns-in-None-clause-load
returns-in-None-clause-load g c = λ rounds is. absurd (c.in-None.ensures.none (Load rounds, is))

pub returns-in-None-clause-serve : goal.returns-in-None-clause-serve
returns-in-None-clause-serve g c = λ connections is. absurd (c.in-None.ensures.none (Serve connections, is))

pub returns-in-None-clause-client : goal.returns-in-None-clause-client
returns-in-None-clause-client g c = λ currency amount is. absurd (c.in-None.ensures.none (Client currency amount, is))

pub returns-in-None-clause-usage : goal.returns-in-None-clause-usage
returns-in-None-clause-usage g c =
    rw c.tell_usage.ensures.ended (record {
      usage = (λ two. c.in-None.ensures.none, λ none. refl);
      usage_written = λ two. c.tell_usage.ensures.written;
      unread = λ two. refl;
      idle = λ two. record { mech = refl; disk = refl };
    })

pub returns-in-None-clause-unread : goal.returns-in-None-clause-unread
returns-in-None-clause-unread g c = λ unread. refl

pub returns-in-None-clause-statuses : goal.returns-in-None-clause-statuses
returns-in-None-clause-statuses g c = λ serve client. rw c.tell_usage.ensures.ended (inr (inl refl))

pub returns-in-None-clause-causes : goal.returns-in-None-clause-causes
returns-in-None-clause-causes g c = λ reads. rw c.tell_usage.ensures.ended (usage-causes _)

pub returns-in-None-clause-second : goal.returns-in-None-clause-second
returns-in-None-clause-second g c = λ fleet. rw c.tell_usage.ensures.ended (record { mech = refl; disk = refl })

pub returns-in-None-clause-undialled : goal.returns-in-None-clause-undialled
returns-in-None-clause-undialled g c = λ client. rw c.tell_usage.ensures.ended (record { none = refl; dials = refl })
