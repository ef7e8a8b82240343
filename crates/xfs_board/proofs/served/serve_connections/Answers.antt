use Rattle.std.proofs.Common.{subst, sym}
use mathlib.Core.List.{IsPrefix}
use Rattle.xfs_guard.proofs.KeepsLaws.{Proceeds-same}
use Rattle.xfs_guard.specs.Keeps.{Proceeds}
use Rattle.xfs_machine.specs.MachineView.{guard_of}
use Rattle.xfs_board.proofs.Chronicles.{went_on}
use Rattle.xfs_board.proofs.Unserved.{none_taken}
use Rattle.xfs_board.proofs.served.serve_connections.Goals as goal

pub returns-in-Err-clause-doors : goal.returns-in-Err-clause-doors
returns-in-Err-clause-doors g c = none_taken _ _

pub returns-in-Err-clause-proceeds : goal.returns-in-Err-clause-proceeds
returns-in-Err-clause-proceeds g c =
    let disk = g.met.D.Disk g.world.𝓛 g.world.𝓜 g.world.𝓡 ((λ s x. x), (λ x. x), (λ x. x), λ x. x) in
    subst (λ m. Proceeds g.D.Disk (guard_of c.args.machine) (guard_of m)) (sym c.in-Err.ensures.memory) (Proceeds-same g.D.Disk _ disk.only_now)

pub returns-clause-proceeds : goal.returns-clause-proceeds
returns-clause-proceeds g c =
    let seen = c.serve_at-ending.result.1.seen in
    let served = subst (λ s. IsPrefix s.seen seen) c.in-Ok.ensures.seat c.serve_at-ending.ensures.seen in
    went_on g.D.Disk c.args.machine c.close.result seen served c.close.ensures
