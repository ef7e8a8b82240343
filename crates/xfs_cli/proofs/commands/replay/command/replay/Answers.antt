use Rattle.std.proofs.Common.{◌≤◌, [], arith, refl, sym}
use Rattle.xfs_guard.specs.Entries.{at_entry}
use Rattle.xfs_guard.specs.Keeps.{Proceeds}
use Rattle.xfs_guard.specs.Outcomes.{BootsGuard}
use Rattle.xfs_guard.specs.Starts.{Starts}
use Rattle.xfs_machine.specs.MachineView.{guard_of}
use Rattle.xfs_script.specs.declared.replay_line.ReplayLine.TheVariants.{Skip}
use Rattle.xfs_sides.specs.ReadLines.{IsReplayText}
use Rattle.xfs_cli.specs.Replay.Command.{Progresses, replay_lines}
use Rattle.xfs_script.specs.Streams.{io_of}
use Rattle.xfs_cli.specs.Replay.Runs.{Begins, RunsReplay}
use Rattle.xfs_cli.specs.Replay.States.{guard_state_of, played}
use Rattle.xfs_lines.specs.Boots.{boot_status}
use Rattle.xfs_lines.specs.Returns.{Return}
use Rattle.xfs_cli.specs.declared.commands.replay.player.Player.{Player}
use Rattle.xfs_lines.proofs.EndingLaws.{answered-ends, unbooted-ends}
use Rattle.xfs_lines.proofs.EndsLaws.{ends-refused, ends-run}
use Rattle.xfs_cli.proofs.MachineLaws.{machine-ended}
use Rattle.xfs_lines.proofs.RunLaws.{recorded-start}
use Rattle.xfs_lines.proofs.RunsLaws.{runs-refused, runs-served}
use Rattle.xfs_cli.proofs.commands.replay.command.replay.Goals as goal

empty : IsReplayText []
empty = record { line = Skip; reads = tt; short = omega arith }

pub boot-requires-clause-recorded : goal.boot-requires-clause-recorded
boot-requires-clause-recorded g c = rw c.cores_of-core.ensures (recorded-start _ _ _ _ _ c.requires.starts.recorded)

pub returns-in-Ok-clause-ends : goal.returns-in-Ok-clause-ends
returns-in-Ok-clause-ends g c =
    let core = c.cores_of-core.result.0 in
    let starts : Starts g.M.Mechanism g.D.Disk c.cores_of-core.result.0 = rw c.cores_of-core.ensures c.requires.starts in
    let e = c.end-mech.ensures in
    let over : Return g.row.M.Denot g.row.D.Denot = record { status = c.answer_input-status.result; mech = c.end-mech.result.0; disk = c.end-mech.result.1 } in
    let proceeds : Proceeds g.D.Disk (guard_of c.in-Ok.machine) (guard_of c.answer_input-status.new.answerer.machine) = rw c.new-player.ensures.machine at c.answer_input-status.ensures.keeps.proceeds in
    let ends = ends-run g.M.Mechanism g.D.Disk core over g.met.D.Disk.as_read starts (guard_of c.in-Ok.machine) (guard_of c.answer_input-status.new.answerer.machine) g.met.D.Disk.counts_now
    c.in-Ok.ensures.ok proceeds (machine-ended g.M.Mechanism g.D.Disk c.answer_input-status.new.answerer.machine over e.back e.recorded e.disk) in
    rw c.give_back.ensures (rw c.cores_of-core.ensures at ends)

pub returns-in-Err-clause-ends : goal.returns-in-Err-clause-ends
returns-in-Err-clause-ends g c =
    let core = c.cores_of-core.result.0 in
    let starts : Starts g.M.Mechanism g.D.Disk c.cores_of-core.result.0 = rw c.cores_of-core.ensures c.requires.starts in
    let fail = c.in-Err.fail in
    let over : Return g.row.M.Denot g.row.D.Denot = record { status = boot_status fail.why; mech = fail.mech; disk = fail.disk } in
    let ends = ends-refused g.M.Mechanism g.D.Disk core over g.met.D.Disk.as_read starts fail.why c.in-Err.ensures.mech c.in-Err.ensures.refuses in
    rw c.give_back_unbooted.ensures.ended (rw c.cores_of-core.ensures at ends)

pub returns-in-Ok-clause-runs : goal.returns-in-Ok-clause-runs
returns-in-Ok-clause-runs g c =
    let core = c.cores_of-core.result.0 in
    let starts : Starts g.M.Mechanism g.D.Disk c.cores_of-core.result.0 = rw c.cores_of-core.ensures c.requires.starts in
    let boots = c.in-Ok.ensures.ok in
    let ok = boots.begins in
    let e = c.end-mech.ensures in
    let low : g.D.Disk.faults core.disk ≤ c.in-Ok.machine.state.seen.disk_faults = let tied = c.in-Ok.ensures.tied in let later = boots.leaves.faults in omega (arith, tied, later) in
    let keeps = λ (a b : Player g.row.M.Denot g.row.D.Denot g.M.Mechanism g.D.Disk). Progresses g.D.Disk a.machine b.machine in
    let over : Return g.row.M.Denot g.row.D.Denot = record { status = c.answer_input-status.result; mech = c.end-mech.result.0; disk = c.end-mech.result.1 } in
    let booted : BootsGuard g.D.Disk (at_entry g.M.Mechanism g.D.Disk core) core.disk (guard_of c.new-player.result.machine) = rw c.new-player.ensures.machine boots in
    let begins : Begins (at_entry g.M.Mechanism g.D.Disk core) core.life (played c.new-player.result) = rw c.new-player.ensures.begun
    (record { boots = record { records = ok.0; stands = ok.1; guard_is = ok.2; later = low; none = refl }; machine = c.in-Ok.ensures.bare; clients = refl; now = refl }) in
    let io = io_of g.S.Source g.K.Sink c.args.source.now c.answer_input-status.new.source c.args.sink.now c.answer_input-status.new.sink in
    let runs : RunsReplay g.M.Mechanism g.D.Disk core over io = runs-served g.M.Mechanism g.D.Disk replay_lines guard_state_of _ keeps (λ a. played a) (λ a. guard_of a.machine) g.met.D.Disk.as_read (λ s text why end ends. ends) empty (λ a. refl) (λ a b kept. kept.proceeds) (λ a b kept. kept.later)
    core over _ c.new-player.result c.answer_input-status.new.answerer booted (rw c.new-player.ensures.machine low) (sym e.back.disk_faults) begins
    c.answer_input-status.ensures (machine-ended g.M.Mechanism g.D.Disk c.answer_input-status.new.answerer.machine over e.back e.recorded e.disk) starts.recorded in
    rw c.give_back.ensures (rw c.cores_of-core.ensures at runs)

pub returns-in-Err-clause-runs : goal.returns-in-Err-clause-runs
returns-in-Err-clause-runs g c =
    let core = c.cores_of-core.result.0 in
    let fail = c.in-Err.fail in
    let over : Return g.row.M.Denot g.row.D.Denot = record { status = boot_status fail.why; mech = fail.mech; disk = fail.disk } in
    let io = io_of g.S.Source g.K.Sink c.args.source.now c.args.source.now c.args.sink.now c.give_back_unbooted.new.sink in
    let runs : RunsReplay g.M.Mechanism g.D.Disk core over io = runs-refused g.M.Mechanism g.D.Disk replay_lines guard_state_of _ empty core fail.why over _ c.in-Err.ensures.mech c.in-Err.ensures.refuses
    refl c.give_back_unbooted.ensures.written refl in
    rw c.give_back_unbooted.ensures.ended (rw c.cores_of-core.ensures at runs)

pub returns-in-Ok-clause-ends_lines : goal.returns-in-Ok-clause-ends_lines
returns-in-Ok-clause-ends_lines g c =
    let s = c.answer_input-status.ensures in
    let io = io_of g.S.Source g.K.Sink c.args.source.now c.answer_input-status.new.source c.args.sink.now c.answer_input-status.new.sink in
    rw c.give_back.ensures (answered-ends {L = Unit {0}} c.args.bench.second c.cores_of-core.result.1 c.end-mech.result.0 c.end-mech.result.1 c.answer_input-status.result io
    (rw c.cores_of-core.ensures refl) s.usage s.statuses s.causes)

pub returns-in-Err-clause-ends_lines : goal.returns-in-Err-clause-ends_lines
returns-in-Err-clause-ends_lines g c =
    let fail = c.in-Err.fail in
    let io = io_of g.S.Source g.K.Sink c.args.source.now c.args.source.now c.args.sink.now c.give_back_unbooted.new.sink in
    rw c.give_back_unbooted.ensures.ended (unbooted-ends {L = Unit {0}} c.args.bench.second c.cores_of-core.result.1 fail.mech fail.disk fail.why io (rw c.cores_of-core.ensures refl))
