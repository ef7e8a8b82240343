use Rattle.std.proofs.Common.{ap, Err, refl}
use Rattle.xfs_journal.specs.declared.record.Rec.TheVariants.{Done}
use Rattle.xfs_guard.proofs.LedgerLaws.{IsRead-paid, KeepsLedger-read, KeepsLedger-refused, fits-sums, small-at}
use Rattle.xfs_guard.proofs.SizeLaws.{write-open}
use Rattle.xfs_guard.proofs.TellableLaws.{tells-paid, tells-unpaid}
use Rattle.xfs_guard.proofs.ledger.Ledger.done.Goals as goal

pub bound_after-self-inside-requires : goal.bound_after-self-inside-requires
bound_after-self-inside-requires g c =
    let was = write-open _ _ _ c.self.view_is c.requires.fits in
    rw c.take.ensures.value (fits-sums c.self.inside.units c.self.inside.journal.records c.self.inside.live c.self.inside.bound c.args.kind c.args.moved (c.self.invariant.0.read was.0 was.1).binds (small-at _ _ c.args.kind c.args.moved c.self.view_is c.requires.small))

pub invariant_of-self : goal.invariant_of-self
invariant_of-self g c =
    let w = c.in_err-append.ensures in
    let e = c.in_err-append.field-0.0 in
    let ordered = rw (← c.self.view_is) at c.requires.ordered in
    let small = small-at _ _ c.args.kind c.args.moved c.self.view_is c.requires.small in
    rw (w.same, w.keeps.base) (
      KeepsLedger-refused e _ (Done c.args.moved c.args.diverted) _ _ _ _ _ _ _ _ _ _ _ _ c.self.invariant.0 w.err (λ is. (let n = w.memory (ap Err is) in (n.shut, n.in_doubt, refl))) (λ is. (let f = w.disk (ap Err is) in (f.shut, f.in_doubt))) (λ is n e. cc),
      tells-unpaid e _ _ _ c.args.kind ordered.0 c.args.moved c.args.diverted _ _ c.self.invariant.1 ordered.1 small w.err (λ is. (w.memory (ap Err is)).in_doubt) (λ is. (w.disk (ap Err is)).in_doubt),
    )

pub invariant_of-self-2 : goal.invariant_of-self-2
invariant_of-self-2 g c =
    let was = write-open _ _ _ c.self.view_is c.requires.fits in
    let ordered = rw (← c.self.view_is) at c.requires.ordered in
    let small = small-at _ _ c.args.kind c.args.moved c.self.view_is c.requires.small in
    rw (c.in_ok-append.ensures.ok.records, c.in_ok-append.ensures.keeps.base) (
      KeepsLedger-read _ _ _ _ _ _ _ _ _ _ (IsRead-paid _ _ _ _ _ c.self.inside.bound _ c.args.kind c.args.moved c.args.diverted (c.self.invariant.0.read was.0 was.1) ordered (rw c.take.ensures.value at c.bound_after-self-inside.ensures)) c.in_ok-append.ensures.ok.opened.in_doubt,
      tells-paid _ _ _ c.args.kind ordered.0 c.args.moved c.args.diverted _ _ c.self.invariant.1 ordered.1 small c.in_ok-append.ensures.ok.opened.in_doubt,
    )
