use Rattle.std.proofs.Common.{ap, Err, ◌≡◌, refl, ℕ, zero, suc, [], ◌∷◌, slice_index}
use Rattle.xfs_journal.specs.declared.record.Rec.TheVariants.{Bind}
use Rattle.xfs_guard.proofs.LedgerLaws.{IsRead-bind, KeepsLedger-read, KeepsLedger-refused, fresh-at}
use Rattle.xfs_guard.proofs.SizeLaws.{write-open}
use Rattle.xfs_guard.proofs.TellableLaws.{tells-written, tells-refused}
use Rattle.xfs_guard.proofs.ledger.Ledger.bind.Goals as goal

pub invariant_of-self : goal.invariant_of-self
invariant_of-self g c =
    let w = c.in_err-number.ensures in
    let e = c.in_err-number.field-0.0 in
    rw (w.same, w.keeps.base) (
      KeepsLedger-refused e _ (Bind c.args.token) _ _ _ _ _ _ _ _ _ _ _ _ c.self.invariant.0 w.err (λ is. (let n = w.memory (ap Err is) in (n.shut, n.in_doubt, refl))) (λ is. (let f = w.disk (ap Err is) in (f.shut, f.in_doubt))) (λ is n e. cc),
      tells-refused e _ _ _ (Bind c.args.token) _ _ c.self.invariant.1 tt w.err (λ is. (w.memory (ap Err is)).in_doubt) (λ is. (w.disk (ap Err is)).in_doubt),
    )

pub invariant_of-self-2 : goal.invariant_of-self-2
invariant_of-self-2 g c =
    let was = write-open _ _ _ c.self.view_is c.requires.fits in
    let w = c.in_ok-number.ensures in
    rw (w.ok.records, w.keeps.base) (
      KeepsLedger-read _ _ _ _ _ _ _ _ _ _ (IsRead-bind _ _ _ _ _ _ c.args.token _ (c.self.invariant.0.read was.0 was.1) (rw (← c.self.view_is) at c.requires.live) (rw (← c.self.view_is) at c.requires.free) (fresh-at _ _ c.self.view_is c.requires.fresh) zeros w.ok.number) w.ok.opened.in_doubt,
      tells-written _ _ _ (Bind c.args.token) _ _ c.self.invariant.1 tt w.ok.opened.in_doubt,
    )
  where
    zeros : (j : ℕ) → slice_index (0 ∷ 0 ∷ 0 ∷ 0 ∷ 0 ∷ 0 ∷ 0 ∷ 0 ∷ 0 ∷ []) j ≡ 0
    zeros zero = refl
    zeros (suc zero) = refl
    zeros (suc (suc zero)) = refl
    zeros (suc (suc (suc zero))) = refl
    zeros (suc (suc (suc (suc zero)))) = refl
    zeros (suc (suc (suc (suc (suc zero))))) = refl
    zeros (suc (suc (suc (suc (suc (suc zero)))))) = refl
    zeros (suc (suc (suc (suc (suc (suc (suc zero))))))) = refl
    zeros (suc (suc (suc (suc (suc (suc (suc (suc zero)))))))) = refl
    zeros (suc (suc (suc (suc (suc (suc (suc (suc (suc j))))))))) = refl
