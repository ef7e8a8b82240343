use Rattle.std.proofs.Common.{◌≡◌, None}
use Rattle.xfs_dispenser.specs.Seen.{seen}
use Rattle.xfs_machine.proofs.GuardLaws.{reboots, refuses_as}
use Rattle.xfs_machine.proofs.reboot.reboot.Goals as goal

pub returns-clause-ok : goal.returns-clause-ok
returns-clause-ok g c =
    let r = c.reboot.ensures in
    reboots (g.D.Disk.held c.args.guard.now.disk) c.reboot.result (seen g.D.Disk c.args.guard.now) (seen g.D.Disk c.reboot.new.self) r.ok r.fits r.keeps.proceeds.disk_faults

pub returns-clause-cause : goal.returns-clause-cause
returns-clause-cause g c =
    let r = c.reboot.ensures in
    refuses_as (g.D.Disk.held c.args.guard.now.disk ≡ None) c.reboot.result (seen g.D.Disk c.args.guard.now) (seen g.D.Disk c.reboot.new.self) r.refuses.memory r.refuses.full r.refuses.disk r.refuses.not_journal r.refuses.untold r.refuses.cause r.keeps.proceeds.disk_faults
