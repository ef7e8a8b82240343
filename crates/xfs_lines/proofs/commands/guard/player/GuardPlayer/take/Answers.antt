use Rattle.std.proofs.Common.{inr, refl, ap}
use Rattle.std.specs.Prelude.{codes}
use Rattle.xfs_lines.specs.Guard.Texts.{outcome_text}
use Rattle.xfs_script.proofs.LastLaws.{on-err}
use Rattle.xfs_lines.proofs.commands.guard.player.GuardPlayer.take.Goals as goal

pub returns-in-Ok-clause-memory : goal.returns-in-Ok-clause-memory
returns-in-Ok-clause-memory g c =
    let e = c.in-Ok.ensures in
    on-err _ _ (inr (
      outcome_text (codes "taken") c.in-Ok.outcome,
      record { outcome = c.in-Ok.outcome; lie = e.lie; reported = e.ok; called = record { called = record { later = e.uses.keeps.proceeds.mech_faults; cause = e.uses.cause; disk_same = ap g.D.Disk.faults e.uses.same }; last_is = refl }; text = refl },
    ))
