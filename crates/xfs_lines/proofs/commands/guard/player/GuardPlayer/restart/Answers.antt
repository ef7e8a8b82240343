use Rattle.std.proofs.Common.{◌≡◌, None, Err, inr, refl}
use Rattle.std.specs.Prelude.{codes}
use Rattle.xfs_dispenser.specs.Seen.{seen}
use Rattle.xfs_lines.proofs.RestartLaws.{at, guard-refused, restart-answered, restart-refused}
use Rattle.xfs_lines.proofs.commands.guard.player.GuardPlayer.restart.Goals as goal

pub returns-in_err-reboot-clause-unbooted : goal.returns-in_err-reboot-clause-unbooted
returns-in_err-reboot-clause-unbooted g c =
    let e = c.in_err-reboot.ensures in
    let old = seen g.D.Disk c.args.self.now.guard in
    let new = seen g.D.Disk c.reboot.new.self in
    let last = c.args.self.now.last in
    let refused = guard-refused (g.D.Disk.held c.args.self.now.guard.disk ≡ None) (Err c.in_err-reboot.field-0.0) old new last e.refuses.memory e.refuses.full e.refuses.disk e.refuses.not_journal e.refuses.untold e.refuses.cause e.keeps.proceeds.disk_faults in
    restart-refused c.from_residual.result c.in_err-reboot.field-0.0 (at old last) (at new last) c.from_residual.ensures.1 refused

pub returns-in_err-join_parts-clause-memory : goal.returns-in_err-join_parts-clause-memory
returns-in_err-join_parts-clause-memory g c = λ is.
    let e = c.in_ok-reboot.ensures in
    let old = seen g.D.Disk c.args.self.now.guard in
    let new = seen g.D.Disk c.reboot.new.self in
    inr (codes "restarted", restart-answered (g.D.Disk.held c.args.self.now.guard.disk) old new c.args.self.now.last (codes "restarted") e.ok e.fits e.keeps.proceeds.disk_faults refl)

pub returns-clause-answer : goal.returns-clause-answer
returns-clause-answer g c =
    let e = c.in_ok-reboot.ensures in
    let old = seen g.D.Disk c.args.self.now.guard in
    let new = seen g.D.Disk c.reboot.new.self in
    restart-answered (g.D.Disk.held c.args.self.now.guard.disk) old new c.args.self.now.last c.in_ok-join_parts.field-0.items e.ok e.fits e.keeps.proceeds.disk_faults c.in_ok-join_parts.ensures
