use Rattle.std.proofs.Common.{inl, inr, refl, ap}
use Rattle.std.proofs.lemmas.Result.{IfOk-weaker}
use Rattle.xfs_guard.proofs.KeepsLaws.{Proceeds-trans}
use Rattle.xfs_lines.specs.Guard.States.{guard_state}
use Rattle.xfs_lines.proofs.GuardStateLaws.{wrote-kept, wrote-err}
use Rattle.std.specs.Prelude.{codes}
use Rattle.xfs_lines.proofs.BegunLaws.{denied-text, part-filled}
use Rattle.xfs_script.proofs.LastLaws.{on-err}
use Rattle.xfs_dispenser.proofs.CarryLaws.{not-disk}
use Rattle.xfs_lines.proofs.commands.guard.player.GuardPlayer.load.Goals as goal

pub returns-then-outcome-clause-answer : goal.returns-then-outcome-clause-answer
returns-then-outcome-clause-answer g c =
    let e = c.in_ok-outcome.ensures in
    IfOk-weaker c.join_parts.result _ _ (λ text told. record {
      can = c.requires.fits;
      fit = c.requires.fit;
      outcome = c.in_ok-outcome.outcome;
      loaded = guard_state g.D.Disk.faults c.load.new.self c.args.self.now.last;
      reported = e.ok;
      called = record { called = record { later = e.uses.keeps.proceeds.mech_faults; cause = e.uses.cause; disk_same = ap g.D.Disk.faults e.uses.same }; last_is = refl };
      noted = inl (c.if-outcome.true, told, refl);
    }) c.join_parts.ensures

pub returns-in-Ok-clause-answer : goal.returns-in-Ok-clause-answer
returns-in-Ok-clause-answer g c =
    let e = c.in_ok-outcome.ensures in
    let w = c.in-Ok.ensures in
    let loaded = guard_state g.D.Disk.faults c.load.new.self c.args.self.now.last in
    let noted = guard_state g.D.Disk.faults c.note_load.new.self c.args.self.now.last in
    IfOk-weaker c.join_parts-in-Ok.result _ _ (λ text told. record {
      can = c.requires.fits;
      fit = c.requires.fit;
      outcome = c.in_ok-outcome.outcome;
      loaded = loaded;
      reported = e.ok;
      called = record { called = record { later = e.uses.keeps.proceeds.mech_faults; cause = e.uses.cause; disk_same = ap g.D.Disk.faults e.uses.same }; last_is = refl };
      noted = inr (c.if-outcome.false, wrote-kept loaded noted _ _ _ _ text.items w.refused w.ok w.writes.keeps.proceeds.disk_faults refl told);
    }) c.join_parts-in-Ok.ensures

pub returns-in-Ok-clause-proceeds : goal.returns-in-Ok-clause-proceeds
returns-in-Ok-clause-proceeds g c = Proceeds-trans g.D.Disk _ _ _ g.met.D.Disk.counts_now c.in_ok-outcome.ensures.uses.keeps.proceeds c.note_load.ensures.writes.keeps.proceeds

pub returns-in-Err-clause-answer : goal.returns-in-Err-clause-answer
returns-in-Err-clause-answer g c =
    let e = c.in_ok-outcome.ensures in
    let w = c.in-Err.ensures in
    IfOk-weaker c.refusal_text.result _ _ (λ text told. record {
      can = c.requires.fits;
      fit = c.requires.fit;
      outcome = c.in_ok-outcome.outcome;
      loaded = guard_state g.D.Disk.faults c.load.new.self c.args.self.now.last;
      reported = e.ok;
      called = record { called = record { later = e.uses.keeps.proceeds.mech_faults; cause = e.uses.cause; disk_same = ap g.D.Disk.faults e.uses.same }; last_is = refl };
      noted = inr (c.if-outcome.false, wrote-err (Unit {0}) g.D.Disk.faults c.load.new.self c.note_load.new.self c.args.self.now.last _ _ _ _ text.items c.in-Err.deny w.refused w.writes.disk w.writes.keeps.proceeds.disk_faults w.writes.cause w.writes.same told);
    }) c.refusal_text.ensures

pub returns-in-Err-clause-proceeds : goal.returns-in-Err-clause-proceeds
returns-in-Err-clause-proceeds g c = Proceeds-trans g.D.Disk _ _ _ g.met.D.Disk.counts_now c.in_ok-outcome.ensures.uses.keeps.proceeds c.note_load.ensures.writes.keeps.proceeds

pub returns-then-outcome-clause-memory : goal.returns-then-outcome-clause-memory
returns-then-outcome-clause-memory g c =
    let e = c.in_ok-outcome.ensures in
    on-err c.join_parts.result _ (inl (inr (
      codes "fault",
      record {
        can = c.requires.fits;
        fit = c.requires.fit;
        outcome = c.in_ok-outcome.outcome;
        loaded = guard_state g.D.Disk.faults c.load.new.self c.args.self.now.last;
        reported = e.ok;
        called = record { called = record { later = e.uses.keeps.proceeds.mech_faults; cause = e.uses.cause; disk_same = ap g.D.Disk.faults e.uses.same }; last_is = refl };
        noted = inl (c.if-outcome.true, refl, refl);
      },
    )))

pub returns-in-Ok-clause-memory : goal.returns-in-Ok-clause-memory
returns-in-Ok-clause-memory g c =
    let e = c.in_ok-outcome.ensures in
    let w = c.in-Ok.ensures in
    let loaded = guard_state g.D.Disk.faults c.load.new.self c.args.self.now.last in
    let noted = guard_state g.D.Disk.faults c.note_load.new.self c.args.self.now.last in
    on-err c.join_parts-in-Ok.result _ (inl (inr (
      codes "filled",
      record {
        can = c.requires.fits;
        fit = c.requires.fit;
        outcome = c.in_ok-outcome.outcome;
        loaded = loaded;
        reported = e.ok;
        called = record { called = record { later = e.uses.keeps.proceeds.mech_faults; cause = e.uses.cause; disk_same = ap g.D.Disk.faults e.uses.same }; last_is = refl };
        noted = inr (c.if-outcome.false, wrote-kept loaded noted _ _ _ _ (codes "filled") w.refused w.ok w.writes.keeps.proceeds.disk_faults refl refl);
      },
    )))

pub returns-in-Err-clause-memory : goal.returns-in-Err-clause-memory
returns-in-Err-clause-memory g c =
    let e = c.in_ok-outcome.ensures in
    let w = c.in-Err.ensures in
    on-err c.refusal_text.result _ (elim (denied-text c.in-Err.deny) [
      | inl is ↦ inr (part-filled g.D.Disk.faults c.args.self.now.guard c.load.new.self c.note_load.new.self c.args.self.now.last _ _ c.in_ok-outcome.outcome c.requires.fits c.requires.fit e.ok
          (record { called = record { later = e.uses.keeps.proceeds.mech_faults; cause = e.uses.cause; disk_same = ap g.D.Disk.faults e.uses.same }; last_is = refl }) c.if-outcome.false (w.writes.same (not-disk c.in-Err.deny is)))
      | inr text ↦ inl (inr (
        text.0,
        record {
          can = c.requires.fits;
          fit = c.requires.fit;
          outcome = c.in_ok-outcome.outcome;
          loaded = guard_state g.D.Disk.faults c.load.new.self c.args.self.now.last;
          reported = e.ok;
          called = record { called = record { later = e.uses.keeps.proceeds.mech_faults; cause = e.uses.cause; disk_same = ap g.D.Disk.faults e.uses.same }; last_is = refl };
          noted = inr (c.if-outcome.false, wrote-err (Unit {0}) g.D.Disk.faults c.load.new.self c.note_load.new.self c.args.self.now.last _ _ _ _ text.0 c.in-Err.deny w.refused w.writes.disk w.writes.keeps.proceeds.disk_faults w.writes.cause w.writes.same text.1);
        },
      ))
    ])
