use Rattle.std.proofs.Common.{refl, sym}
use Rattle.xfs_guard.specs.Starts.{Starts}
use Rattle.xfs_machine.specs.MachineView.{guard_of}
use Rattle.xfs_script.specs.Streams.{io_of}
use Rattle.xfs_cli.specs.LoadRuns.{RunsLoad}
use Rattle.xfs_lines.specs.Boots.{boot_status}
use Rattle.xfs_lines.specs.Returns.{Return}
use Rattle.xfs_lines.proofs.EndsLaws.{ends-refused, ends-run}
use Rattle.xfs_cli.proofs.MachineLaws.{machine-ended}
use Rattle.xfs_cli.proofs.LoadLaws.{loads-refused, loads-served}
use Rattle.xfs_lines.proofs.RunLaws.{recorded-start}
use Rattle.xfs_cli.proofs.commands.load.load.Goals as goal

pub boot-requires-clause-recorded : goal.boot-requires-clause-recorded
boot-requires-clause-recorded g c = rw c.cores_of-core.ensures (recorded-start _ _ _ _ _ c.requires.starts.recorded)

pub returns-in-Ok-clause-ends : goal.returns-in-Ok-clause-ends
returns-in-Ok-clause-ends g c =
    let core = c.cores_of-core.result.0 in
    let starts : Starts g.M.Mechanism g.D.Disk c.cores_of-core.result.0 = rw c.cores_of-core.ensures c.requires.starts in
    let e = c.end-mech.ensures in
    let over : Return g.row.M.Denot g.row.D.Denot = record { status = c.play_on-status.result; mech = c.end-mech.result.0; disk = c.end-mech.result.1 } in
    let ends = ends-run g.M.Mechanism g.D.Disk core over g.met.D.Disk.as_read starts (guard_of c.in-Ok.machine) (guard_of c.play_on-status.new.machine) g.met.D.Disk.counts_now
    c.in-Ok.ensures.ok c.play_on-status.ensures.proceeds (machine-ended g.M.Mechanism g.D.Disk c.play_on-status.new.machine over e.back e.recorded e.disk) in
    rw c.give_back.ensures (rw c.cores_of-core.ensures at ends)

pub returns-in-Err-clause-ends : goal.returns-in-Err-clause-ends
returns-in-Err-clause-ends g c =
    let core = c.cores_of-core.result.0 in
    let starts : Starts g.M.Mechanism g.D.Disk c.cores_of-core.result.0 = rw c.cores_of-core.ensures c.requires.starts in
    let fail = c.in-Err.fail in
    let over : Return g.row.M.Denot g.row.D.Denot = record { status = boot_status fail.why; mech = fail.mech; disk = fail.disk } in
    let ends = ends-refused g.M.Mechanism g.D.Disk core over g.met.D.Disk.as_read starts fail.why c.in-Err.ensures.mech c.in-Err.ensures.refuses in
    rw c.give_back_unbooted.ensures.ended (rw c.cores_of-core.ensures at ends)

pub returns-in-Ok-clause-runs : goal.returns-in-Ok-clause-runs
returns-in-Ok-clause-runs g c =
    let core = c.cores_of-core.result.0 in
    let starts : Starts g.M.Mechanism g.D.Disk c.cores_of-core.result.0 = rw c.cores_of-core.ensures c.requires.starts in
    let p = c.play_on-status.ensures in
    let e = c.end-mech.ensures in
    let over : Return g.row.M.Denot g.row.D.Denot = record { status = c.play_on-status.result; mech = c.end-mech.result.0; disk = c.end-mech.result.1 } in
    let io = io_of g.S.Source g.K.Sink c.args.source.now c.args.source.now c.args.sink.now c.play_on-status.new.sink in
    let runs : RunsLoad g.M.Mechanism g.D.Disk core c.args.rounds over io = loads-served g.M.Mechanism g.D.Disk g.met.D.Disk.as_read core c.args.rounds over _ c.in-Ok.machine c.play_on-status.new.machine
    c.in-Ok.ensures.ok c.in-Ok.ensures.tied c.in-Ok.ensures.bare p.proceeds (sym e.back.disk_faults) p.ends
    (machine-ended g.M.Mechanism g.D.Disk c.play_on-status.new.machine over e.back e.recorded e.disk) refl starts.recorded in
    rw c.give_back.ensures (rw c.cores_of-core.ensures at runs)

pub returns-in-Err-clause-runs : goal.returns-in-Err-clause-runs
returns-in-Err-clause-runs g c =
    let core = c.cores_of-core.result.0 in
    let fail = c.in-Err.fail in
    let over : Return g.row.M.Denot g.row.D.Denot = record { status = boot_status fail.why; mech = fail.mech; disk = fail.disk } in
    let io = io_of g.S.Source g.K.Sink c.args.source.now c.args.source.now c.args.sink.now c.give_back_unbooted.new.sink in
    let runs : RunsLoad g.M.Mechanism g.D.Disk core c.args.rounds over io = loads-refused g.M.Mechanism g.D.Disk core c.args.rounds fail.why over _ c.in-Err.ensures.mech c.in-Err.ensures.refuses
    refl c.give_back_unbooted.ensures.written refl in
    rw c.give_back_unbooted.ensures.ended (rw c.cores_of-core.ensures at runs)
