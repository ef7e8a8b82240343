use Rattle.std.proofs.Common.{◌≡◌, refl, subst, sym}
use Rattle.xfs_guard.proofs.KeepsLaws.{Proceeds-same}
use Rattle.xfs_guard.specs.Entries.{at_entry}
use Rattle.xfs_guard.specs.Starts.{Starts}
use Rattle.xfs_guard.specs.declared.fail.BootFault.{BootFault}
use Rattle.xfs_machine.specs.MachineView.{guard_of}
use Rattle.xfs_fleet.specs.Boots.{IsBooted}
use Rattle.xfs_fleet.specs.declared.side.Side.TheVariants as which
use Rattle.xfs_sides.specs.Sides.{both}
use Rattle.xfs_sides.specs.declared.two_sides.TwoSides.{TwoSides}
use Rattle.xfs_cli.specs.FleetRuns.{RunsFleet}
use Rattle.xfs_cli.specs.Replay.Command.{Progresses}
use Rattle.xfs_cli.specs.Replay.Runs.{Begins}
use Rattle.xfs_cli.specs.Replay.States.{played}
use Rattle.xfs_lines.specs.Returns.{Return, second_back}
use Rattle.xfs_script.specs.Streams.{io_of}
use Rattle.xfs_cli.specs.declared.commands.replay.player.Player.{Player}
use Rattle.xfs_cli.proofs.FleetRunsLaws.{begins-of, by-side, first-unbooted, fleet-played, is-played, second-unbooted}
use Rattle.xfs_cli.proofs.HeadlineLaws.{headline-kept, headline-refused, headline-run}
use Rattle.xfs_lines.proofs.RunLaws.{recorded-start}
use Rattle.xfs_cli.proofs.commands.fleet.fleet.Goals as goal

pub boot-requires-clause-a_recorded : goal.boot-requires-clause-a_recorded
boot-requires-clause-a_recorded g c = rw c.cores_of-core.ensures (recorded-start _ _ _ _ _ c.requires.starts.recorded)

pub boot-requires-clause-b_recorded : goal.boot-requires-clause-b_recorded
boot-requires-clause-b_recorded g c = rw c.cores_of-core.ensures (recorded-start _ _ _ _ _ c.requires.second.recorded)

pub returns-in-Ok-clause-statuses : goal.returns-in-Ok-clause-statuses
returns-in-Ok-clause-statuses g c = rw c.give_back_both.ensures.status c.answer_input-status.ensures.statuses

pub returns-in-Ok-clause-runs : goal.returns-in-Ok-clause-runs
returns-in-Ok-clause-runs g c =
    let m = g.M.Mechanism in
    let d = g.D.Disk in
    let core = c.cores_of-core.result.0 in
    let second = c.cores_of-core.result.1 in
    let starts : Starts m d core = rw c.cores_of-core.ensures c.requires.starts in
    let starts_second : Starts m d second = rw c.cores_of-core.ensures c.requires.second in
    let s = c.answer_input-status.ensures in
    let io = io_of g.S.Source g.K.Sink c.args.source.now c.answer_input-status.new.source c.args.sink.now c.answer_input-status.new.sink in
    let r : Return g.row.M.Denot g.row.D.Denot = record { status = c.answer_input-status.result; mech = c.of-first.result.mech; disk = c.of-first.result.disk } in
    let t : Return g.row.M.Denot g.row.D.Denot = record { status = c.answer_input-status.result; mech = c.of.result.mech; disk = c.of.result.disk } in
    let a : IsBooted m d core c.new.result.machine = rw (c.new.ensures.machine, c.into_machines-a.ensures.a) c.in-Ok.ensures.both.first in
    let b : IsBooted m d second c.new-in-Ok.result.machine = rw (c.new-in-Ok.ensures.machine, c.into_machines-a.ensures.b) c.in-Ok.ensures.both.second in
    let begins_a : Begins (at_entry m d core) core.life (played c.new.result) = rw (c.new.ensures.begun, c.into_machines-a.ensures.a) (begins-of m d core _ c.in-Ok.ensures.both.first) in
    let begins_b : Begins (at_entry m d second) second.life (played c.new-in-Ok.result) = rw (c.new-in-Ok.ensures.begun, c.into_machines-a.ensures.b) (begins-of m d second _ c.in-Ok.ensures.both.second) in
    let keeps = λ (x y : TwoSides (Player g.row.M.Denot g.row.D.Denot m d) BootFault). Progresses d x.a.machine y.a.machine × Progresses d x.b.machine y.b.machine in
    let state = λ (x : TwoSides (Player g.row.M.Denot g.row.D.Denot m d) BootFault). both played x.a x.b in
    let end = c.answer_input-status.new.answerer in
    let p = is-played m d keeps (λ x. played x.a) (λ x. x.a.machine) core r _ end (λ x. refl) (λ x y k. k.0) a c.of-first.ensures s.keeps in
    let q = is-played m d keeps (λ x. played x.b) (λ x. x.b.machine) second t _ end (λ x. refl) (λ x y k. k.1) b c.of.ensures s.keeps in
    let first = headline-run m d core r g.met.D.Disk.as_read starts _ _ g.met.D.Disk.counts_now a s.keeps.0.proceeds c.of-first.ensures in
    let other = headline-run m d second t g.met.D.Disk.as_read starts_second _ _ g.met.D.Disk.counts_now b s.keeps.1.proceeds c.of.ensures in
    let runs = fleet-played m d core second r t io keeps state (λ x. guard_of x.a.machine) (λ x. guard_of x.b.machine) g.met.D.Disk.as_read _ end p q (begins_a, begins_b)
    s first other in
    rw c.cores_of-core.ensures at (subst (λ x. RunsFleet m d core second x (second_back c.give_back_both.result) io) (sym c.give_back_both.ensures.back) (subst (λ x. RunsFleet m d core second r x io) (sym c.give_back_both.ensures.second) runs))

pub returns-in-Err-clause-runs : goal.returns-in-Err-clause-runs
returns-in-Err-clause-runs g c =
    let m = g.M.Mechanism in
    let d = g.D.Disk in
    let core = c.cores_of-core.result.0 in
    let second = c.cores_of-core.result.1 in
    let starts : Starts m d core = rw c.cores_of-core.ensures c.requires.starts in
    let starts_second : Starts m d second = rw c.cores_of-core.ensures c.requires.second in
    let f = c.in-Err.field-0 in
    let e = c.in-Err.ensures in
    let u = c.finish_unbooted.ensures in
    let io = io_of g.S.Source g.K.Sink c.args.source.now c.args.source.now c.args.sink.now c.finish_unbooted.new.sink in
    let r : Return g.row.M.Denot g.row.D.Denot = record { status = c.finish_unbooted.result; mech = f.a.mech; disk = f.a.disk } in
    let t : Return g.row.M.Denot g.row.D.Denot = record { status = c.finish_unbooted.result; mech = f.b.mech; disk = f.b.disk } in
    let first = λ (is : f.side ≡ which.A). headline-refused m d core r g.met.D.Disk.as_read starts f.why (e.first is).refused in
    let untouched = λ (is : f.side ≡ which.A). headline-kept m d second t g.met.D.Disk.as_read starts_second g.met.D.Disk.only_now (record { mech = (e.first is).untouched.mech_is; disk = (e.first is).untouched.disk_is }) in
    let over = λ (is : f.side ≡ which.B). headline-run m d core r g.met.D.Disk.as_read starts _ _ g.met.D.Disk.counts_now (e.second is).ended.booted (Proceeds-same d (guard_of (e.second is).ended.machine) g.met.D.Disk.only_now) (e.second is).ended.ends in
    let other = λ (is : f.side ≡ which.B). headline-refused m d second t g.met.D.Disk.as_read starts_second f.why (e.second is).refused in
    let runs : RunsFleet m d core second r t io = by-side f.side
    (λ is. first-unbooted m d core second r t io f.why (e.first is).refused (record { mech = (e.first is).untouched.mech_is; disk = (e.first is).untouched.disk_is }) u.status u.written refl (first is) (untouched is))
    (λ is. second-unbooted m d core second r t io f.why (e.second is).ended.machine (e.second is).ended.booted (e.second is).ended.ends (e.second is).refused u.status u.status u.written refl (over is) (other is)) in
    rw c.cores_of-core.ensures at (subst (λ x. RunsFleet m d core second x (second_back c.give_back_both-in-Err.result) io) (sym c.give_back_both-in-Err.ensures.back) (subst (λ x. RunsFleet m d core second r x io) (sym c.give_back_both-in-Err.ensures.second) runs))
