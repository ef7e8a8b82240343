use Rattle.std.proofs.Common.{arith, ap, Err, refl}
use Rattle.xfs_guard.proofs.LedgerLaws.{IsRead-mark, KeepsLedger-read, KeepsLedger-refused}
use Rattle.xfs_guard.proofs.RecordLaws.{ends-number, ends-live, ends-mark}
use Rattle.xfs_guard.proofs.SizeLaws.{write-open}
use Rattle.xfs_guard.proofs.TellableLaws.{ends-doubts, ends-plain, tells-written, tells-refused}
use Rattle.xfs_guard.proofs.ledger.Ledger.end_nonce.Goals as goal

pub invariant_of-self : goal.invariant_of-self
invariant_of-self g c =
    let w = c.in_err-self-inside.ensures in
    let e = c.in_err-self-inside.field-0.0 in
    rw (w.same, w.keeps.base) (
      KeepsLedger-refused e _ c.args.rec _ _ _ _ _ _ _ _ _ _ _ _ c.self.invariant.0 w.err (λ is. (let n = w.memory (ap Err is) in (n.shut, n.in_doubt, refl))) (λ is. (let f = w.disk (ap Err is) in (f.shut, f.in_doubt))) (λ is. ends-doubts c.args.rec _ c.requires.ends),
      tells-refused e _ _ _ c.args.rec _ _ c.self.invariant.1 (ends-plain c.args.rec c.requires.ends) w.err (λ is. (w.memory (ap Err is)).in_doubt) (λ is. (w.disk (ap Err is)).in_doubt),
    )

pub invariant_of-self-2 : goal.invariant_of-self-2
invariant_of-self-2 g c =
    let was = write-open _ _ _ c.self.view_is c.requires.fits in
    let read = c.self.invariant.0.read was.0 was.1 in
    let w = c.in_ok-self-inside.ensures in
    rw (w.ok.records, w.ok.number, w.keeps.base) (
      KeepsLedger-read _ _ _ _ _ _ _ _ _ _ (IsRead-mark _ _ _ c.args.rec read.issued (let few = read.few in omega (arith, few)) read.within (ends-number c.args.rec c.requires.ends) (ends-live c.args.rec c.requires.ends) (ends-mark c.args.rec c.requires.ends)) w.ok.opened.in_doubt,
      tells-written _ _ _ c.args.rec _ _ c.self.invariant.1 (ends-plain c.args.rec c.requires.ends) w.ok.opened.in_doubt,
    )
