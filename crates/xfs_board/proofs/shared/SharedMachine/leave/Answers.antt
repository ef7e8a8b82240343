use Rattle.std.proofs.Common.{◌≡◌, refl, subst, sym}
use Rattle.xfs_guard.specs.Keeps.{Proceeds}
use Rattle.xfs_machine.specs.MachineView.{guard_of}
use Rattle.xfs_board.specs.Chronicles.{Shared}
use Rattle.xfs_board.proofs.Chronicles.{same_base, takes_step}
use Rattle.xfs_board.proofs.shared.SharedMachine.leave.Goals as goal

pub invariant_of-self : goal.invariant_of-self
invariant_of-self g c =
    let start = guard_of c.self.inside.start.value in
    let before = subst (λ m. Proceeds g.D.Disk start (guard_of m)) (sym c.deref_mut.ensures.value) c.self.invariant.0 in
    (subst (λ v. Proceeds g.D.Disk start v) (sym c.leave.ensures.guard) before, same_base start c.self.inside.machine.value c.deref_mut.result.now c.leave.new.self _ _ (λ e. cc) c.leave.ensures.laws c.deref_mut.ensures.value c.self.invariant.1)

pub returns : goal.returns
returns g c =
    let found : Shared g.row.D.Denot = record { start = guard_of c.self.inside.start.value; machine = c.deref_mut.result.now } in
    let left : Shared g.row.D.Denot = record { start = found.start; machine = c.leave.new.self } in
    takes_step _ found left _ _ (subst (λ m. record { start = found.start; machine = m } ≡ c.args.self.now) (sym c.deref_mut.ensures.value) c.self.view_is) refl c.leave.ensures.step c.leave.ensures.laws
