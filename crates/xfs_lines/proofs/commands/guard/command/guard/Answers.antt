use Rattle.std.proofs.Common.{[], arith, refl, ap, sym}
use Rattle.xfs_guard.specs.Keeps.{Proceeds}
use Rattle.xfs_guard.specs.Starts.{Starts}
use Rattle.xfs_script.specs.declared.guard_line.GuardLine.TheVariants.{Skip}
use Rattle.xfs_lines.specs.Boots.{boot_status}
use Rattle.xfs_lines.specs.Guard.Command.{guard_lines}
use Rattle.xfs_lines.specs.Guard.Lines.{IsLine}
use Rattle.xfs_script.specs.Streams.{io_of}
use Rattle.xfs_lines.specs.Guard.Runs.{RunsGuard}
use Rattle.xfs_lines.specs.Guard.States.{GuardState, guard_state}
use Rattle.xfs_lines.specs.Returns.{Return}
use Rattle.xfs_lines.specs.declared.commands.guard.player.GuardPlayer.{GuardPlayer}
use Rattle.xfs_lines.proofs.BootedLaws.{starts-run}
use Rattle.xfs_lines.proofs.EndingLaws.{answered-ends, unbooted-ends}
use Rattle.xfs_lines.proofs.EndsLaws.{ends-refused, ends-run, guard-ended}
use Rattle.xfs_lines.proofs.RunLaws.{recorded-start}
use Rattle.xfs_lines.proofs.RunsLaws.{runs-refused, runs-served}
use Rattle.xfs_lines.proofs.commands.guard.command.guard.Goals as goal

empty : IsLine []
empty = record { verb = Skip; reads = tt; short = omega arith }

pub boot-requires-clause-recorded : goal.boot-requires-clause-recorded
boot-requires-clause-recorded g c = rw c.cores_of-core.ensures (recorded-start _ _ _ _ _ c.requires.starts.recorded)

pub returns-in-Ok-clause-ends : goal.returns-in-Ok-clause-ends
returns-in-Ok-clause-ends g c =
    let core = c.cores_of-core.result.0 in
    let starts : Starts g.M.Mechanism g.D.Disk core = rw c.cores_of-core.ensures c.requires.starts in
    let over : Return g.row.M.Denot g.row.D.Denot = record { status = c.answer_input-status.result; mech = c.mech_and_disk-mech.result.0; disk = c.mech_and_disk-mech.result.1 } in
    let ends = ends-run g.M.Mechanism g.D.Disk core over g.met.D.Disk.as_read starts c.in-Ok.guard c.answer_input-status.new.answerer.guard g.met.D.Disk.counts_now
    c.in-Ok.ensures.ok c.answer_input-status.ensures.keeps (guard-ended g.M.Mechanism g.D.Disk _ over c.mech_and_disk-mech.ensures) in
    rw c.give_back.ensures (rw c.cores_of-core.ensures at ends)

pub returns-in-Err-clause-ends : goal.returns-in-Err-clause-ends
returns-in-Err-clause-ends g c =
    let core = c.cores_of-core.result.0 in
    let starts : Starts g.M.Mechanism g.D.Disk core = rw c.cores_of-core.ensures c.requires.starts in
    let fail = c.in-Err.fail in
    let over : Return g.row.M.Denot g.row.D.Denot = record { status = boot_status fail.why; mech = fail.mech; disk = fail.disk } in
    let ends = ends-refused g.M.Mechanism g.D.Disk core over g.met.D.Disk.as_read starts fail.why c.in-Err.ensures.mech c.in-Err.ensures.refuses in
    rw c.give_back_unbooted.ensures.ended (rw c.cores_of-core.ensures at ends)

pub returns-in-Ok-clause-runs : goal.returns-in-Ok-clause-runs
returns-in-Ok-clause-runs g c =
    let core = c.cores_of-core.result.0 in
    let starts : Starts g.M.Mechanism g.D.Disk core = rw c.cores_of-core.ensures c.requires.starts in
    let boots = c.in-Ok.ensures.ok in
    let ok = boots.begins in
    let e = c.mech_and_disk-mech.ensures in
    let keeps = λ (a b : GuardPlayer g.row.M.Denot g.row.D.Denot g.M.Mechanism g.D.Disk). Proceeds g.D.Disk a.guard b.guard in
    let over : Return g.row.M.Denot g.row.D.Denot = record { status = c.answer_input-status.result; mech = c.mech_and_disk-mech.result.0; disk = c.mech_and_disk-mech.result.1 } in
    let io = io_of g.S.Source g.K.Sink c.args.source.now c.answer_input-status.new.source c.args.sink.now c.answer_input-status.new.sink in
    let runs : RunsGuard g.M.Mechanism g.D.Disk core over io = runs-served g.M.Mechanism g.D.Disk guard_lines (λ (s : GuardState). s) _ keeps (λ a. guard_state g.D.Disk.faults a.guard a.last) (λ a. a.guard) g.met.D.Disk.as_read (λ s text why end ends. ends) empty (λ a. refl) (λ a b kept. kept) (λ a b kept. kept.disk_faults)
    core over _ _ c.answer_input-status.new.answerer boots boots.leaves.faults (ap g.D.Disk.faults (sym e.disk))
    (starts-run g.D.Disk.faults c.in-Ok.guard _ ok.0 ok.1 ok.2 boots.leaves.faults) c.answer_input-status.ensures (guard-ended g.M.Mechanism g.D.Disk _ over e) starts.recorded in
    rw c.give_back.ensures (rw c.cores_of-core.ensures at runs)

pub returns-in-Err-clause-runs : goal.returns-in-Err-clause-runs
returns-in-Err-clause-runs g c =
    let core = c.cores_of-core.result.0 in
    let fail = c.in-Err.fail in
    let over : Return g.row.M.Denot g.row.D.Denot = record { status = boot_status fail.why; mech = fail.mech; disk = fail.disk } in
    let io = io_of g.S.Source g.K.Sink c.args.source.now c.args.source.now c.args.sink.now c.give_back_unbooted.new.sink in
    let runs : RunsGuard g.M.Mechanism g.D.Disk core over io = runs-refused g.M.Mechanism g.D.Disk guard_lines (λ (s : GuardState). s) _ empty core fail.why over _ c.in-Err.ensures.mech c.in-Err.ensures.refuses
    refl c.give_back_unbooted.ensures.written refl in
    rw c.give_back_unbooted.ensures.ended (rw c.cores_of-core.ensures at runs)

pub returns-in-Ok-clause-ends_lines : goal.returns-in-Ok-clause-ends_lines
returns-in-Ok-clause-ends_lines g c =
    let s = c.answer_input-status.ensures in
    let io = io_of g.S.Source g.K.Sink c.args.source.now c.answer_input-status.new.source c.args.sink.now c.answer_input-status.new.sink in
    rw c.give_back.ensures (answered-ends {L = Unit {0}} c.args.bench.second c.cores_of-core.result.1 c.mech_and_disk-mech.result.0 c.mech_and_disk-mech.result.1 c.answer_input-status.result io
    (rw c.cores_of-core.ensures refl) s.usage s.statuses s.causes)

pub returns-in-Err-clause-ends_lines : goal.returns-in-Err-clause-ends_lines
returns-in-Err-clause-ends_lines g c =
    let fail = c.in-Err.fail in
    let io = io_of g.S.Source g.K.Sink c.args.source.now c.args.source.now c.args.sink.now c.give_back_unbooted.new.sink in
    rw c.give_back_unbooted.ensures.ended (unbooted-ends {L = Unit {0}} c.args.bench.second c.cores_of-core.result.1 fail.mech fail.disk fail.why io (rw c.cores_of-core.ensures refl))
