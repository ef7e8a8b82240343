-- What the thread of a worker does: it tends the device of its job to its end, or hands the job back as it was.
use Rattle.std.specs.Prelude.{◌≡◌, ◌⊎◌, ℕ, List, Option}
use Rattle.xfs_mech.specs.declared.touch.Touch.{Touch}
use Rattle.xfs_server.specs.Tendeds.{TendedLog}
use Rattle.xfs_server.specs.Workers.{Tending}
use Rattle.xfs_server.specs.declared.worker.Over2.{Over2}
use Rattle.xfs_serving.specs.declared.worker.Job.{Job}

pub record Tends {B W : Type 0} (log : B → TendedLog) (coming : W → Option (List Touch)) (faults : W → ℕ) (old new : Job B W) : Type 0 where
  pub over : Over2
  pub tends : Tending over (coming old.watch) (coming new.watch) (faults old.watch) (faults new.watch) (log old.board) (log new.board)

abbrev pub TendsOrReturns : {B W : Type 0} → (B → TendedLog) → (W → Option (List Touch)) → (W → ℕ) → Job B W → Job B W → Type 0
TendsOrReturns log coming faults old new = Tends log coming faults old new ⊎ (new ≡ old)
