use Rattle.xfs_dispenser.specs.Seen.{seen}
use Rattle.xfs_machine.proofs.GuardLaws.{settles}
use Rattle.xfs_machine.proofs.reboot.settle.Goals as goal

pub returns-clause-settles : goal.returns-clause-settles
returns-clause-settles g c =
    let r = c.settle.ensures in
    settles c.settle.result (seen g.D.Disk c.args.guard.now) (seen g.D.Disk c.settle.new.self) r.settled r.disk r.cause r.keeps.proceeds.disk_faults
