use Rattle.xfs_journal.specs.Journal.{base_of, boot_of, with_boot}
use Rattle.std.proofs.Common.{◌≤◌, length, arith, refl, rules}
use Rattle.xfs_journal.proofs.StartLaws.{boot-ends, boot-issues_none, boot-marks, boot_of-places}
use Rattle.xfs_guard.proofs.BootLaws.{base_of-boot}
use Rattle.xfs_guard.proofs.LedgerLaws.{IsRead-mark, KeepsLedger-read}
use Rattle.xfs_guard.proofs.StoredLaws.{WasLeft-mount, WasLeft-append, stays-mount, stays-append, unlisted-booted}
use Rattle.xfs_guard.proofs.LeftLaws.{left-mounted, left-booted}
use Rattle.xfs_guard.proofs.TellableLaws.{tells-booted}
use Rattle.xfs_guard.proofs.ledger.Ledger.boot.Goals as goal

pub invariant_of-result : goal.invariant_of-result
invariant_of-result g c =
    let w = c.in-Ok-append_boot.ensures in
    let boot = boot_of c.in-Ok.journal.records c.args.places in
    let tells = boot_of-places c.in-Ok.journal.records c.args.places in
    let places = base_of-boot c.in-Ok.journal.records c.args.places in
    let based : base_of (with_boot c.in-Ok.journal.records c.args.places) ≤ length c.in-Ok.journal.records = omega (arith, places) in
    rw (w.based, w.ok.records, w.ok.number) (
      KeepsLedger-read _ _ _ _ _ _ _ _ _ _
          (IsRead-mark _ _ _ boot c.issues_of-issues.ensures.issues c.issues_of-issues.ensures.few based (boot-issues_none boot _ tells) (boot-ends boot _ tells) (boot-marks boot _ tells)) w.ok.opened.in_doubt,
      tells-booted _ _ c.in-Ok.journal.records c.args.places _ refl w.ok.opened.in_doubt,
    )

pub returns-in-Ok-append_boot-clause-ok : goal.returns-in-Ok-append_boot-clause-ok
returns-in-Ok-append_boot-clause-ok g c =
    let any_moment = left-booted g.D.Disk c.args.disk c.in-Ok.journal.disk c.args.places c.in-Ok.ensures.ok.any_moment
    c.append_boot.new.journal.disk c.in-Ok.journal.records c.in-Ok.ensures.ok.goes_on.told c.in-Ok.ensures.ok.mounted.records c.append_boot.ensures.crashes.any_moment in
    search rules

pub returns-in-Err-clause-err : goal.returns-in-Err-clause-err
returns-in-Err-clause-err g c =
    let left = WasLeft-mount g.D.Disk c.args.disk c.in-Err.refused.disk c.args.places
    g.met.D.Disk.as_read g.met.D.Disk.counts_now c.in-Err.ensures.err.goes_on.told c.in-Err.ensures.err.any_moment in
    let either = stays-mount g.D.Disk c.args.disk c.in-Err.refused.disk c.args.places
    g.met.D.Disk.as_read g.met.D.Disk.counts_now c.in-Err.ensures.err.any_moment in
    let any_moment = left-mounted g.D.Disk c.args.disk c.in-Err.refused.disk c.args.places c.in-Err.ensures.err.any_moment in
    search rules

pub returns-in-Err-append_boot-clause-err : goal.returns-in-Err-append_boot-clause-err
returns-in-Err-append_boot-clause-err g c = record {
  not_journal = search rules;
  refused = search rules;
  full = search rules;
  disk = search rules;
  left = WasLeft-append g.D.Disk c.args.disk c.in-Ok.journal.disk c.append_boot.new.journal.disk c.end.result c.args.places c.in-Ok.journal.records
      g.met.D.Disk.as_read c.in-Ok.ensures.ok.goes_on.told c.append_boot.ensures.goes_on.told c.end.ensures.disk c.in-Ok.ensures.ok.mounted.records c.append_boot.ensures.crashes.images;
  either = stays-append g.D.Disk c.args.disk c.in-Ok.journal.disk c.append_boot.new.journal.disk c.end.result c.args.places c.in-Ok.journal.records
      g.met.D.Disk.as_read c.in-Ok.ensures.ok.goes_on.told c.end.ensures.disk c.in-Ok.ensures.ok.mounted.records c.append_boot.ensures.crashes.images;
  unlisted = unlisted-booted (g.D.Disk.held c.args.disk) c.in-Ok.journal.records _ c.in-Ok.ensures.ok.mounted.records;
  unwritten = search rules;
  told = search rules;
  any_moment = rw c.end.ensures.disk
      (left-booted g.D.Disk c.args.disk c.in-Ok.journal.disk c.args.places c.in-Ok.ensures.ok.any_moment
      c.append_boot.new.journal.disk c.in-Ok.journal.records c.in-Ok.ensures.ok.goes_on.told c.in-Ok.ensures.ok.mounted.records c.append_boot.ensures.crashes.any_moment);
  faults = search rules;
}
