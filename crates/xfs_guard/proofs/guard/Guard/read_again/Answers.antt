use Rattle.std.proofs.Common.{◌≡◌, ◌≢◌, ◌∙◌, inl, inr, refl, sym, Ok, Err, None, true≢false, arith}
use Rattle.std.specs.Prelude.{is_some}
use Rattle.std.specs.declared.result.Result.{Result}
use Rattle.xfs_guard.specs.declared.fail.BootFault.{BootFault}
use Rattle.xfs_guard.specs.declared.fail.BootFault.TheVariants.{NotJournal, Disk, Full, Memory}
use Rattle.xfs_guard.proofs.KeepsLaws.{Keeps-still, Keeps-wrote}
use Rattle.xfs_guard.proofs.KeptLaws.{over}
use Rattle.xfs_guard.proofs.RestoreLaws.{restored, IsKept-restored, Continues-restored}
use Rattle.xfs_guard.proofs.RereadLaws.{behind-reread, recorded-reread}
use Rattle.xfs_guard.proofs.guard.Guard.read_again.Goals as goal

pub invariant_of-self-2 : goal.invariant_of-self-2
invariant_of-self-2 g c = (
  (let e = c.restore-read.ensures in
      let other : c.restore-read.result ≢ Err Memory = λ is. true≢false (rw is at (sym c.eq.ensures ∙ c.if-eq.false)) in
      IsKept-restored _ _ _ _ _ _ _ c.self.inside.ledger c.restore-read.new.self c.in-Ok.survey _ _ _ _ _ _
      (restored c.restore-read.result _ c.self.inside.ledger c.restore-read.new.self c.in-Ok.survey (g.D.Disk.held c.self.inside.ledger.disk ≡ None) other e.ok e.refuses.full e.refuses.disk e.refuses.not_journal) (c.in-Ok.ensures ∙ c.survey-places.ensures) e.goes_on.told c.self.invariant.0),
  c.restore-read.ensures.left,
)

pub returns-then-eq-clause-keeps : goal.returns-then-eq-clause-keeps
returns-then-eq-clause-keeps g c =
    let e = c.restore-read.ensures in
    Keeps-wrote g.D.Disk _ _
    (let e = rw (c.in-Ok.ensures, c.survey-places.ensures) at c.restore-read.ensures in
    rw (← c.self.view_is) (Continues-restored _ _ _ _ _ _ _ c.args.rebases c.self.inside.ledger c.restore-read.new.self _ _ e.goes_on.told
    (inl (e.refuses.memory (of c.restore-read.result refl), refl))))
    (rw (← c.self.view_is) e.goes_on.faults) (rw (← c.self.view_is) (omega arith))
    (rw (← c.self.view_is) (behind-reread g.D.Disk _ _ c.in-Ok.survey e.goes_on.told e.any_moment))
    (rw (← c.self.view_is) (recorded-reread g.D.Disk c.self.inside.ledger.disk c.restore-read.new.self.disk
    (over c.self.inside.key c.self.inside.words c.self.inside.open_order (g.M.Mechanism.motions c.self.inside.mech) (g.M.Mechanism.places c.self.inside.mech) (g.M.Mechanism.faults c.self.inside.mech) c.self.inside.ledger (is_some (g.D.Disk.held c.self.inside.ledger.disk)))
    c.in-Ok.survey _ c.self.invariant.1 c.self.invariant.0.recorded e.any_moment))
  where
    of : (r : Result (Unit {0}) BootFault) → c.restore-read.result ≡ r → c.restore-read.result ≡ Err Memory
    of (Ok x) is = absurd (true≢false (rw is at (sym c.if-eq.true ∙ c.eq.ensures)))
    of (Err Memory) is = is
    of (Err Disk) is = absurd (true≢false (rw is at (sym c.if-eq.true ∙ c.eq.ensures)))
    of (Err Full) is = absurd (true≢false (rw is at (sym c.if-eq.true ∙ c.eq.ensures)))
    of (Err (NotJournal at)) is = absurd (true≢false (rw is at (sym c.if-eq.true ∙ c.eq.ensures)))

pub returns-clause-keeps : goal.returns-clause-keeps
returns-clause-keeps g c =
    let e = c.restore-read.ensures in
    Keeps-wrote g.D.Disk _ _
    (let e = rw (c.in-Ok.ensures, c.survey-places.ensures) at c.restore-read.ensures in
    rw (← c.self.view_is) (Continues-restored _ _ _ _ _ _ _ _ c.self.inside.ledger c.restore-read.new.self _ _ e.goes_on.told
    (let other : c.restore-read.result ≢ Err Memory = λ is. true≢false (rw is at (sym c.eq.ensures ∙ c.if-eq.false)) in
    inr (restored c.restore-read.result _ c.self.inside.ledger c.restore-read.new.self (g.M.Mechanism.places c.self.inside.mech) (g.D.Disk.held c.self.inside.ledger.disk ≡ None) other e.ok e.refuses.full e.refuses.disk e.refuses.not_journal, refl))))
    (rw (← c.self.view_is) e.goes_on.faults) (rw (← c.self.view_is) (omega arith))
    (rw (← c.self.view_is) (behind-reread g.D.Disk _ _ c.in-Ok.survey e.goes_on.told e.any_moment))
    (rw (← c.self.view_is) (recorded-reread g.D.Disk c.self.inside.ledger.disk c.restore-read.new.self.disk
    (over c.self.inside.key c.self.inside.words c.self.inside.open_order (g.M.Mechanism.motions c.self.inside.mech) (g.M.Mechanism.places c.self.inside.mech) (g.M.Mechanism.faults c.self.inside.mech) c.self.inside.ledger (is_some (g.D.Disk.held c.self.inside.ledger.disk)))
    c.in-Ok.survey _ c.self.invariant.1 c.self.invariant.0.recorded e.any_moment))

pub returns-in_default-clause-keeps : goal.returns-in_default-clause-keeps
returns-in_default-clause-keeps g c = rw (← c.self.view_is) (Keeps-still g.D.Disk _ g.met.D.Disk.only_now c.self.invariant.1 c.self.invariant.0.recorded)
