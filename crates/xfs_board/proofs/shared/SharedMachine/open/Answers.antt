use Rattle.std.proofs.Common.{ap, subst, sym}
use Rattle.xfs_guard.specs.Keeps.{Proceeds}
use Rattle.xfs_machine.specs.MachineView.{MachineView, guard_of}
use Rattle.xfs_guard.proofs.KeepsLaws.{Proceeds-same}
use Rattle.xfs_board.specs.Chronicles.{HasBase}
use Rattle.xfs_board.proofs.shared.SharedMachine.open.Goals as goal

pub invariant_of-result : goal.invariant_of-result
invariant_of-result g c =
    let boxed = c.in-Ok.machine.value in
    let same = ap (λ (m : MachineView g.row.D.Denot). m.state.seen.guard.base) c.in-Ok.ensures.ok in (
      subst (λ m. Proceeds g.D.Disk (guard_of m) (guard_of boxed)) (sym c.of-start.ensures)
          (subst (λ m. Proceeds g.D.Disk (guard_of c.args.machine) (guard_of m)) (sym c.in-Ok.ensures.ok) (Proceeds-same g.D.Disk _ g.met.D.Disk.only_now)),
      subst (λ m. HasBase (guard_of m) boxed) (sym c.of-start.ensures) same,
    )
