use Rattle.std.proofs.Common.{ap, Err, refl}
use Rattle.xfs_journal.specs.declared.record.Rec.TheVariants.{Order}
use Rattle.xfs_guard.proofs.LedgerLaws.{IsRead-order, KeepsLedger-read, KeepsLedger-refused}
use Rattle.xfs_guard.proofs.SizeLaws.{write-open}
use Rattle.xfs_guard.proofs.TellableLaws.{tells-written, tells-refused}
use Rattle.xfs_guard.proofs.ledger.Ledger.order.Goals as goal

pub invariant_of-self : goal.invariant_of-self
invariant_of-self g c =
    let w = c.in_err-append.ensures in
    let e = c.in_err-append.field-0.0 in
    rw (w.same, w.keeps.base) (
      KeepsLedger-refused e _ (Order c.args.kind c.args.counts) _ _ _ _ _ _ _ _ _ _ _ _ c.self.invariant.0 w.err (λ is. (let n = w.memory (ap Err is) in (n.shut, n.in_doubt, refl))) (λ is. (let f = w.disk (ap Err is) in (f.shut, f.in_doubt))) (λ is n e. cc),
      tells-refused e _ _ _ (Order c.args.kind c.args.counts) _ _ c.self.invariant.1 tt w.err (λ is. (w.memory (ap Err is)).in_doubt) (λ is. (w.disk (ap Err is)).in_doubt),
    )

pub invariant_of-self-2 : goal.invariant_of-self-2
invariant_of-self-2 g c =
    let was = write-open _ _ _ c.self.view_is c.requires.fits in
    let w = c.in_ok-append.ensures in
    rw (w.ok.records, w.keeps.base) (
      KeepsLedger-read _ _ _ _ _ _ _ _ _ _ (IsRead-order _ _ _ _ _ _ c.args.kind c.args.counts (c.self.invariant.0.read was.0 was.1)) w.ok.opened.in_doubt,
      tells-written _ _ _ (Order c.args.kind c.args.counts) _ _ c.self.invariant.1 tt w.ok.opened.in_doubt,
    )
