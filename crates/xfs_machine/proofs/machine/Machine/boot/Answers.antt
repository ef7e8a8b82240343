use Rattle.xfs_dispenser.specs.Seen.{seen}
use Rattle.xfs_guard.specs.View.{View}
use Rattle.std.proofs.Common.{ap}
use Rattle.xfs_machine.proofs.Endings.{boot_marks}
use Rattle.xfs_machine.proofs.machine.Machine.boot.Goals as goal

pub returns-in-Ok-clause-ok : goal.returns-in-Ok-clause-ok
returns-in-Ok-clause-ok g c = rw (c.over_guard.ensures.bare, c.over_guard.ensures.disk) c.in-Ok.ensures.ok

pub over_guard-requires-clause-mark : goal.over_guard-requires-clause-mark
over_guard-requires-clause-mark g c = boot_marks (seen g.D.Disk c.in-Ok.guard) c.in-Ok.ensures.ok.begins.0 (g.M.Mechanism.places c.args.core.mech) (ap (λ (v : View). v.records) c.in-Ok.ensures.ok.begins.2)
