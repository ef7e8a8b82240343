use Rattle.std.proofs.Common.{◌≤◌, refl, sym, arith}
use Rattle.xfs_guard.proofs.KeepsLaws.{Proceeds-trans}
use Rattle.xfs_guard.specs.Entries.{at_entry}
use Rattle.xfs_machine.specs.MachineView.{guard_of}
use Rattle.xfs_lines.specs.Boots.{boot_status}
use Rattle.xfs_lines.specs.Returns.{Return}
use Rattle.xfs_lines.proofs.EndsLaws.{HasEnded, ends-refused, ends-run}
use Rattle.xfs_lines.proofs.RunLaws.{recorded-start}
use Rattle.xfs_cli.proofs.ServeLaws.{closes-behind, serves-booted, serves-refused}
use Rattle.xfs_cli.proofs.commands.serve.serve.Goals as goal

pub boot-requires-clause-recorded : goal.boot-requires-clause-recorded
boot-requires-clause-recorded g c = recorded-start _ _ _ _ _ c.requires.starts.recorded

pub returns-in-Ok-clause-ends : goal.returns-in-Ok-clause-ends
returns-in-Ok-clause-ends g c =
    let disk = g.met.D.Disk g.world.𝓛 g.world.𝓜 g.world.𝓡 ((λ s x. x), (λ x. x), (λ x. x), λ x. x) in
    let f = c.finish-settled.ensures in
    let t = f.through in
    let over : Return g.row.M.Denot g.row.D.Denot = record { status = c.settle.result; mech = c.finish-settled.result.1; disk = c.finish-settled.result.2 } in
    let p = Proceeds-trans g.D.Disk _ _ _ disk.counts_now c.serve_connections-ending.ensures.proceeds t.proceeds in
    let ended : HasEnded g.M.Mechanism g.D.Disk t.last over = record {
      motions = t.back.motions;
      places = t.back.places;
      units = t.back.units;
      faults = t.back.faults;
      disk = t.disk_is;
      told = t.back.told;
      stored = t.back.stored;
      recorded = λ J may. rw (t.proceeds.continues.key, t.proceeds.continues.units, sym t.back.motions) (f.recorded J may);
    } in
    rw c.give_back.ensures (ends-run g.M.Mechanism g.D.Disk c.args.bench.core over disk.as_read c.requires.starts (guard_of c.in-Ok.machine) t.last disk.counts_now c.in-Ok.ensures.ok p ended)

pub returns-in-Err-clause-ends : goal.returns-in-Err-clause-ends
returns-in-Err-clause-ends g c =
    let disk = g.met.D.Disk g.world.𝓛 g.world.𝓜 g.world.𝓡 ((λ s x. x), (λ x. x), (λ x. x), λ x. x) in
    let fail = c.in-Err.fail in
    let over : Return g.row.M.Denot g.row.D.Denot = record { status = boot_status fail.why; mech = fail.mech; disk = fail.disk } in
    rw c.give_back_unbooted.ensures.ended (ends-refused g.M.Mechanism g.D.Disk c.args.bench.core over disk.as_read c.requires.starts fail.why c.in-Err.ensures.mech c.in-Err.ensures.refuses)

pub returns-in-Ok-clause-runs : goal.returns-in-Ok-clause-runs
returns-in-Ok-clause-runs g c =
    let boots = c.in-Ok.ensures.ok in
    let ok = boots.begins in
    let s = c.serve_connections-ending.ensures in
    let grown : c.in-Ok.machine.state.seen.disk_faults ≤ c.serve_connections-ending.result.machine.state.seen.disk_faults =
    let first = c.in-Ok.ensures.tied in let last = c.finish-settled.ensures.tied in let between = s.proceeds.disk_faults in omega (arith, first, last, between) in
    let over : Return g.row.M.Denot g.row.D.Denot = record { status = c.settle.result; mech = c.finish-settled.result.1; disk = c.finish-settled.result.2 } in
    let disk = g.met.D.Disk g.world.𝓛 g.world.𝓜 g.world.𝓡 ((λ s x. x), (λ x. x), (λ x. x), λ x. x) in
    let t = c.finish-settled.ensures.through in
    let p = Proceeds-trans g.D.Disk _ _ _ disk.counts_now s.proceeds t.proceeds in
    rw c.give_back.ensures (serves-booted g.M.Mechanism g.D.Disk c.args.bench.core _ over _ _ _ c.in-Ok.machine c.serve_connections-ending.result.machine.state _ _
    boots c.in-Ok.ensures.bare c.in-Ok.ensures.tied s.doors s.proceeds.continues grown c.finish-settled.ensures.step
    (closes-behind g.M.Mechanism g.D.Disk (at_entry g.M.Mechanism g.D.Disk c.args.bench.core) ok.0 _ t.last _ _ ok.2 p.continues t.back) c.settle.ensures.status c.settle.ensures.line)

pub returns-in-Err-clause-runs : goal.returns-in-Err-clause-runs
returns-in-Err-clause-runs g c =
    let fail = c.in-Err.fail in
    let over : Return g.row.M.Denot g.row.D.Denot = record { status = boot_status fail.why; mech = fail.mech; disk = fail.disk } in
    rw c.give_back_unbooted.ensures.ended (serves-refused g.M.Mechanism g.D.Disk c.args.bench.core _ fail.why over _ _ _ c.in-Err.ensures.mech c.in-Err.ensures.refuses
    refl c.give_back_unbooted.ensures.written refl)
