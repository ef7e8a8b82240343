use Rattle.std.proofs.Common.{arith, inl, inr, Err, ap, refl, rules, ◌∙◌}
use Rattle.xfs_journal.specs.Journal.{boot_of}
use Rattle.xfs_journal.proofs.StartLaws.{boot-ends, boot-issues_none, boot-marks, boot_of-places}
use Rattle.xfs_guard.proofs.LedgerLaws.{boot_of-doubts, front-possible, longer-possible, IsRead-mark, KeepsLedger-read}
use Rattle.xfs_guard.proofs.CrashedLaws.{begins-push, IsTorn-missing, IsTorn-in_doubt}
use Rattle.xfs_guard.proofs.PossibleLaws.{leaves-list, leaves-either}
use Rattle.xfs_guard.proofs.RereadLaws.{reread-append}
use Rattle.xfs_guard.proofs.RestoreLaws.{base_then-within}
use Rattle.xfs_guard.proofs.TellableLaws.{tells-doubted, tells-missing, tells-restored}
use Rattle.xfs_guard.proofs.LifeLaws.{begins-same}
use Rattle.xfs_guard.proofs.ledger.Ledger.restore.Goals as goal

pub invariant_of-self-in-Ok : goal.invariant_of-self-in-Ok
invariant_of-self-in-Ok g c =
    let w = c.in-Ok.ensures in
    let boot = boot_of c.remount.new.self.records c.args.places in
    let tells = boot_of-places c.remount.new.self.records c.args.places in
    rw (w.ok.records, w.ok.number, w.based, w.ok.records) (
      KeepsLedger-read _ _ _ _ _ _ _ _ _ _
          (IsRead-mark _ _ _ boot c.issues_of-issues.ensures.issues c.issues_of-issues.ensures.few (base_then-within c.args.rebases c.remount.new.self.base _ _ (let before = rw (← c.self.view_is) at c.newest-before.ensures in let longer = longer-possible _ _ _ c.in_default.ensures.ok.records in omega (arith, before.within, before.number, longer.0, c.remount.ensures.keeps.base))) (boot-issues_none boot _ tells) (boot-ends boot _ tells) (boot-marks boot _ tells)) w.ok.opened.in_doubt,
      rw c.remount.ensures.keeps.base (tells-restored c.self.inside.units c.args.rebases c.self.inside.journal.base c.self.inside.journal.records c.remount.new.self.records c.args.places _ _ c.in_default.ensures.ok.records c.self.invariant.1 w.ok.opened.in_doubt),
    )

pub invariant_of-self-in-Err-Full : goal.invariant_of-self-in-Err-Full
invariant_of-self-in-Err-Full g c =
    let e = c.in-Err-Full.ensures in
    let none = (e.mounted (ap Err c.in-Err-Full.field-0-is)).1 ∙ c.in_default.ensures.ok.opened.in_doubt in
    let led = rw (← c.self.view_is) at c.newest-before.ensures.led in (
      record { read = λ still booted. cc; lives = λ booted. cc; doubts = rw none (λ n is. cc) },
      rw (e.same, e.base, c.remount.ensures.keeps.base) (tells-missing c.self.inside.units c.args.rebases c.self.inside.journal.base c.self.inside.journal.records c.remount.new.self.records _ _ led c.in_default.ensures.ok.records c.self.invariant.1 none),
    )

pub invariant_of-self-in-Err-Disk : goal.invariant_of-self-in-Err-Disk
invariant_of-self-in-Err-Disk g c =
    let e = c.in-Err-Disk.ensures in
    let doubt = (e.disk (ap Err c.in-Err-Disk.field-0-is)).in_doubt in
    let led = rw (← c.self.view_is) at c.newest-before.ensures.led in (
      record {
        read = search rules;
        lives = λ booted. rw e.same (c.live_after-self-inside.ensures (rw ((rw (← c.self.view_is) at c.newest-before.ensures.number), front-possible _ _ _ c.in_default.ensures.ok.records) (c.self.invariant.0.lives booted)));
        doubts = rw doubt (boot_of-doubts _ _ _);
      },
      rw (e.same, e.base, c.remount.ensures.keeps.base) (tells-doubted c.self.inside.units c.args.rebases c.self.inside.journal.base c.self.inside.journal.records c.remount.new.self.records c.args.places _ _ led c.in_default.ensures.ok.records c.self.invariant.1 doubt),
    )

pub returns-in-Err-Full-clause-refuses : goal.returns-in-Err-Full-clause-refuses
returns-in-Err-Full-clause-refuses g c = record {
  memory = search rules;
  full = rw (← c.self.view_is) (λ full.
      let e = c.in-Err-Full.ensures in
      let m = e.mounted (ap Err c.in-Err-Full.field-0-is) in
      (c.remount.new.self.records, c.in_default.ensures.ok.records, rw (e.base, c.remount.ensures.keeps.limits, c.remount.ensures.keeps.base) at (e.full (ap Err c.in-Err-Full.field-0-is)), rw (e.same, e.base, e.limits, c.remount.ensures.keeps.base, c.remount.ensures.keeps.limits, m.0, m.1, c.in_default.ensures.ok.opened.in_doubt) refl));
  found = search rules;
  disk = search rules;
  not_journal = search rules;
  cause = search rules;
}

pub returns-in-Ok-clause-ok : goal.returns-in-Ok-clause-ok
returns-in-Ok-clause-ok g c = rw (← c.self.view_is)
    (let w = c.in-Ok.ensures in
    (c.remount.new.self.records, c.in_default.ensures.ok.records, rw (w.based, w.ok.records, w.ok.opened.shut, w.ok.opened.in_doubt, w.limits, c.remount.ensures.keeps.base, c.remount.ensures.keeps.limits, c.places-booted.ensures) refl))

pub returns-in-Ok-clause-left : goal.returns-in-Ok-clause-left
returns-in-Ok-clause-left g c = leaves-list g.D.Disk c.append_boot.new.journal.disk _ _ c.in-Ok.ensures.ok.opened.acknowledged

pub returns-in-Err-Full-clause-left : goal.returns-in-Err-Full-clause-left
returns-in-Err-Full-clause-left g c =
    let e = c.in-Err-Full.ensures in
    rw (e.unwritten (λ is. cc), e.same) (leaves-list g.D.Disk c.remount.new.self.disk _ _ c.in_default.ensures.ok.opened.acknowledged)

pub returns-in-Err-Disk-clause-left : goal.returns-in-Err-Disk-clause-left
returns-in-Err-Disk-clause-left g c =
    let e = c.in-Err-Disk.ensures in
    rw (e.same, (e.disk (ap Err c.in-Err-Disk.field-0-is)).in_doubt) (leaves-either g.D.Disk c.remount.new.self.disk c.append_boot.new.journal.disk _ _ c.append_boot.ensures.goes_on.told c.append_boot.ensures.crashes.images)

pub returns-in-Ok-clause-any_moment : goal.returns-in-Ok-clause-any_moment
returns-in-Ok-clause-any_moment g c =
    let records = c.remount.new.self.records in
    let w = c.in-Ok.ensures.ok in
    rw (← c.self.view_is) (reread-append g.D.Disk _ c.remount.new.self.disk _ records (boot_of records c.args.places) _ c.remount.ensures.keeps.disk.told c.remount.ensures.any_moment c.append_boot.ensures.crashes.any_moment
    (λ bytes either. record { list = records; possible = c.in_default.ensures.ok.records; either = either; without = inl (rw w.records (begins-push records records (boot_of records c.args.places) (begins-same records))); booted = inl (rw w.records (begins-same _)) }))

pub returns-in-Err-Full-clause-any_moment : goal.returns-in-Err-Full-clause-any_moment
returns-in-Err-Full-clause-any_moment g c =
    let records = c.remount.new.self.records in
    let e = c.in-Err-Full.ensures in
    let m = e.mounted (ap Err c.in-Err-Full.field-0-is) in
    rw (← c.self.view_is) (reread-append g.D.Disk _ c.remount.new.self.disk _ records (boot_of records c.args.places) _ c.remount.ensures.keeps.disk.told c.remount.ensures.any_moment c.append_boot.ensures.crashes.any_moment
    (λ bytes either. record { list = records; possible = c.in_default.ensures.ok.records; either = either; without = inl (rw e.same (begins-same records)); booted = inr (rw (e.same, m.0, m.1, c.in_default.ensures.ok.opened.in_doubt) (IsTorn-missing records (boot_of records c.args.places))) }))

pub returns-in-Err-Disk-clause-any_moment : goal.returns-in-Err-Disk-clause-any_moment
returns-in-Err-Disk-clause-any_moment g c =
    let records = c.remount.new.self.records in
    let e = c.in-Err-Disk.ensures in
    let m = e.disk (ap Err c.in-Err-Disk.field-0-is) in
    rw (← c.self.view_is) (reread-append g.D.Disk _ c.remount.new.self.disk _ records (boot_of records c.args.places) _ c.remount.ensures.keeps.disk.told c.remount.ensures.any_moment c.append_boot.ensures.crashes.any_moment
    (λ bytes either. record { list = records; possible = c.in_default.ensures.ok.records; either = either; without = inl (rw e.same (begins-same records)); booted = inr (rw (e.same, m.shut, m.in_doubt) (IsTorn-in_doubt records (boot_of records c.args.places))) }))
