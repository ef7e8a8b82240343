use Rattle.std.proofs.Common.{refl, ◌∙◌, ap, false, None, sym, rules}
use Rattle.std.specs.Prelude.{is_some}
use Rattle.xfs_journal.specs.Journal.{base_of, boot_of}
use Rattle.xfs_journal.proofs.StartLaws.{boot_of-only}
use Rattle.xfs_guard.specs.declared.open.Open.TheVariants.{No}
use Rattle.xfs_guard.proofs.BootLaws.{base_of-boot, IsKept-boot, WasLeft-recorded}
use Rattle.xfs_guard.proofs.BegunLaws.{begun}
use Rattle.xfs_guard.proofs.ContinueLaws.{Continues-written}
use Rattle.xfs_guard.proofs.KeptLaws.{over}
use Rattle.xfs_guard.proofs.StoredLaws.{MayLeave-held}
use Rattle.xfs_guard.proofs.LeftLaws.{left-boot}
use Rattle.xfs_guard.proofs.PossibleLaws.{leaves-list}
use Rattle.xfs_guard.proofs.StandLaws.{grows-boot}
use Rattle.xfs_guard.proofs.guard.Guard.boot.Goals as goal

pub invariant_of-result : goal.invariant_of-result
invariant_of-result g c = (
  (let e = c.in-Ok-boot.ensures.ok in
      let v = over c.new-in-Ok-boot.result c.new-in-Ok-boot-2.result No (g.M.Mechanism.motions c.args.mech) (g.M.Mechanism.places c.args.mech) (g.M.Mechanism.faults c.args.mech) c.in-Ok-boot.ledger (is_some (g.D.Disk.held c.in-Ok-boot.ledger.disk)) in
      rw (e.records.2, e.opened.0, e.opened.1, e.opened.2, e.opened.3, e.unloaded.0, e.unloaded.1)
      (IsKept-boot v e.records.0 c.in-Ok.survey _ _ _ (c.in-Ok.ensures ∙ c.survey-places.ensures)
      (λ told. rw (e.same.1, c.new-in-Ok-boot.ensures) (c.requires.recorded e.records.0 (MayLeave-held g.D.Disk c.args.disk e.records.0 g.met.D.Disk.as_read (sym e.told ∙ told) e.records.1)))
      (c.requires.units ∙ sym e.same.1))),
  leaves-list g.D.Disk c.in-Ok-boot.ledger.disk c.in-Ok-boot.ledger.records c.in-Ok-boot.ledger.in_doubt c.in-Ok-boot.ensures.ok.kept,
)

pub returns-in-Ok-boot-clause-ok : goal.returns-in-Ok-boot-clause-ok
returns-in-Ok-boot-clause-ok g c = record {
  begins = search rules;
  fits = search rules;
  continues = λ records is.
      let v = over c.new-in-Ok-boot.result c.new-in-Ok-boot-2.result No (g.M.Mechanism.motions c.args.mech) (g.M.Mechanism.places c.args.mech) (g.M.Mechanism.faults c.args.mech) c.in-Ok-boot.ledger (is_some (g.D.Disk.held c.in-Ok-boot.ledger.disk)) in
      let e = c.in-Ok-boot.ensures.ok in
      rw (is, e.opened.0, e.opened.1, e.opened.3) (Continues-written (record v { records = records; shut = false; boot_missing = false; in_doubt = None }) (boot_of records (g.M.Mechanism.places c.args.mech)) c.in-Ok-boot.ledger.bound No refl refl refl (boot_of-only records (g.M.Mechanism.places c.args.mech)) No refl (grows-boot (record v { records = records; shut = false; boot_missing = false; in_doubt = None }) (g.M.Mechanism.places c.args.mech) c.in-Ok-boot.ledger.bound));
  carried = search rules;
  behind =
      let e = c.in-Ok-boot.ensures.ok in
      begun _ e.records.0 c.in-Ok.survey e.records.2 (e.based ∙ (ap base_of e.records.2 ∙ base_of-boot e.records.0 c.in-Ok.survey)) refl e.opened.1;
  leaves = record {
    any_moment = left-boot g.D.Disk c.args.disk c.in-Ok-boot.ledger.disk c.args.key c.args.units (g.M.Mechanism.motions c.args.mech) c.in-Ok.survey g.met.D.Disk.as_read c.requires.recorded c.in-Ok-boot.ensures.ok.any_moment;
    crashes = search rules;
    faults = search rules;
  };
}

pub returns-in-Err-clause-refuses : goal.returns-in-Err-clause-refuses
returns-in-Err-clause-refuses g c =
    let e = c.in-Err.ensures.err in record {
      not_journal = search rules;
      refused = search rules;
      full = search rules;
      disk = search rules;
      left = λ records may.
          WasLeft-recorded c.args.key c.args.units (g.M.Mechanism.motions c.args.mech) g.D.Disk c.args.disk c.in-Ok.survey c.requires.recorded records (e.left records may);
      either = rw (c.in-Ok.ensures, c.survey-places.ensures) at e.either;
      unlisted = search rules;
      unwritten = search rules;
      told = search rules;
      leaves = record {
        any_moment = left-boot g.D.Disk c.args.disk c.in-Err.field-0.disk c.args.key c.args.units (g.M.Mechanism.motions c.args.mech) c.in-Ok.survey g.met.D.Disk.as_read c.requires.recorded e.any_moment;
        crashes = search rules;
        faults = search rules;
      };
    }
