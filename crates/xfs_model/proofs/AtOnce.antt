-- A command that is done at once is a Cancel, or leaves the pending commands as they are.
use Rattle.std.proofs.Common.{◌≡◌, Option, None, Some, refl}
use Rattle.serde_json.specs.Data.{Data}
use Rattle.xfs_common.specs.Cancel.{request_ids}
use Rattle.xfs_common.specs.declared.command.Immediate.{Immediate}
use Rattle.xfs_common.specs.declared.command.Immediate.TheVariants.{Status, Capabilities, Cancel, GetServices, GetStorage, GetPresentStatus}
use Rattle.xfs_model.specs.Immediate.{AtOnce, canceling, done_by, told_of}
use Rattle.xfs_model.specs.State.{Connection, State, queue_at}

module _ (s : State) (k : Connection) (payload : Data) (P : AtOnce → Type 0) where
  -- what is so of both is so of each
  pub by_command : (command : Option Immediate) → (command ≡ Some Cancel → P (canceling (queue_at s k.service) k.client (request_ids payload)))
      → P (record { result = told_of s k.service command; queue = queue_at s k.service }) → P (done_by s k payload command)
  by_command None cancels stays = stays
  by_command (Some Status) cancels stays = stays
  by_command (Some Capabilities) cancels stays = stays
  by_command (Some Cancel) cancels stays = cancels refl
  by_command (Some GetServices) cancels stays = stays
  by_command (Some GetStorage) cancels stays = stays
  by_command (Some GetPresentStatus) cancels stays = stays
