use Rattle.std.proofs.Common.{sym, ap, ◌∙◌}
use Rattle.xfs_dispenser.specs.Seen.{seen}
use Rattle.xfs_guard.proofs.KeepsLaws.{Proceeds-same}
use Rattle.xfs_model.specs.Touches.{shut}
use Rattle.xfs_machine.proofs.GuardLaws.{notes_failed, notes_took}
use Rattle.xfs_machine.proofs.notes_taken.take_notes.Goals as goal

pub returns-then-is_shutter_closed-clause-takes : goal.returns-then-is_shutter_closed-clause-takes
returns-then-is_shutter_closed-clause-takes g c = λ s. shut (sym c.is_shutter_closed.ensures ∙ c.if-is_shutter_closed.true)

pub returns-then-is_shutter_closed-clause-proceeds : goal.returns-then-is_shutter_closed-clause-proceeds
returns-then-is_shutter_closed-clause-proceeds g c = Proceeds-same g.D.Disk _ g.met.D.Disk.only_now

pub returns-then-outcome-clause-takes : goal.returns-then-outcome-clause-takes
returns-then-outcome-clause-takes g c =
    let o = c.in_ok-outcome in
    λ s. notes_failed (record s { seen = seen g.D.Disk c.args.guard.now }) (seen g.D.Disk c.taken.new.self) o.outcome.moved o.outcome.diverted o.outcome.failed
    (sym c.is_shutter_closed.ensures ∙ c.if-is_shutter_closed.false) c.if-outcome.true o.ensures.lie o.ensures.ok
    (record { later = c.taken.ensures.uses.keeps.proceeds.mech_faults; cause = o.ensures.uses.cause; disk_same = ap g.D.Disk.faults c.taken.ensures.uses.same })

pub returns-clause-takes : goal.returns-clause-takes
returns-clause-takes g c =
    let o = c.in_ok-outcome in
    λ s. notes_took (record s { seen = seen g.D.Disk c.args.guard.now }) (seen g.D.Disk c.taken.new.self) o.outcome.moved o.outcome.diverted o.outcome.failed
    (sym c.is_shutter_closed.ensures ∙ c.if-is_shutter_closed.false) c.if-outcome.false o.ensures.lie o.ensures.ok
    (record { later = c.taken.ensures.uses.keeps.proceeds.mech_faults; cause = o.ensures.uses.cause; disk_same = ap g.D.Disk.faults c.taken.ensures.uses.same })
