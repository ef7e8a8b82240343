use Rattle.std.proofs.Common.{refl, arith, ap, Err, rules}
use Rattle.xfs_journal.specs.declared.record.Rec.TheVariants.{Issue}
use Rattle.xfs_guard.proofs.LedgerLaws.{IsRead-issue, KeepsLedger-read}
use Rattle.xfs_guard.proofs.SizeLaws.{write-open}
use Rattle.xfs_guard.proofs.TellableLaws.{CarriesOne, tells-written, tells-refused}
use Rattle.xfs_guard.proofs.ledger.Ledger.issue.Goals as goal

pub invariant_of-self : goal.invariant_of-self
invariant_of-self g c = (
  search rules,
  (let w = c.in-Err.ensures in
      let was = write-open _ _ _ c.self.view_is c.requires.fits in
      let next = rw (← c.self.view_is) at c.requires.next in
      let one : CarriesOne (Issue c.args.nonce.number c.args.word) = (let e = (c.self.invariant.0.read was.0 was.1).issued in omega (arith, next, e)) in
      rw (w.same, w.keeps.base) (tells-refused c.in-Err.deny _ _ _ (Issue c.args.nonce.number c.args.word) _ _ c.self.invariant.1 one w.err (λ is. (w.memory (ap Err is)).in_doubt) (λ is. (w.disk (ap Err is)).in_doubt))),
)

pub invariant_of-self-2 : goal.invariant_of-self-2
invariant_of-self-2 g c =
    let was = write-open _ _ _ c.self.view_is c.requires.fits in
    let w = c.in-Ok.ensures in
    let next = rw (← c.self.view_is) at c.requires.next in
    rw (w.ok.records, w.ok.number, w.keeps.base) (
      KeepsLedger-read _ _ _ _ _ _ _ _ _ _ (IsRead-issue _ _ _ _ _ _ c.args.nonce.number c.args.word c.args.nonce (c.self.invariant.0.read was.0 was.1) next c.requires.text refl) w.ok.opened.in_doubt,
      tells-written _ _ _ (Issue c.args.nonce.number c.args.word) _ _ c.self.invariant.1 (let e = (c.self.invariant.0.read was.0 was.1).issued in omega (arith, next, e)) w.ok.opened.in_doubt,
    )
