-- Whole runs.
use Rattle.std.proofs.Common.{◌≡◌, ℕ, List, ◌++◌, Some}
use Rattle.xfs_base.specs.declared.moment.ClientId.{ClientId}
use Rattle.xfs_conversation.specs.Once.{IsOnce}
use Rattle.xfs_conversation.proofs.Once.{once_of}
use Rattle.xfs_dispenser.specs.Seen.{Seen}
use Rattle.xfs_model.specs.Connections.{connection_at}
use Rattle.xfs_model.specs.Conversations.{IsTalk, Talks}
use Rattle.xfs_model.specs.Kept.{IsMachine}
use Rattle.xfs_model.specs.Pendings.{pending_in}
use Rattle.xfs_model.specs.Runs.{Run, begun, next}
use Rattle.xfs_model.specs.State.{Connection, State, bare, queue_at}
use Rattle.xfs_model.proofs.Machines.{bare_machine, kept}
use Rattle.xfs_model.proofs.Steps.{keeps}

-- what a run keeps
pub record IsKept (s : State) (mine : ClientId) (texts frames : List (List ℕ)) : Type 0 where
  pub machine : IsMachine s
  pub talk : IsTalk s mine texts frames

pub runs : (seen : Seen) (life boot : ℕ) (mine : ClientId) {s : State} {texts frames : List (List ℕ)} → Run (bare seen life boot) mine s texts frames → IsKept s mine texts frames
runs seen life boot mine begun = record { machine = bare_machine seen life boot; talk = tt }
runs seen life boot mine (next {s = s} {texts = texts} {frames = frames} before event answer new is) =
    let h = runs seen life boot mine before in
    record { machine = kept s new event answer h.machine is; talk = keeps s new event answer h.machine is mine texts frames h.talk }

pub once : (s : State) (mine : ClientId) (texts frames : List (List ℕ)) (k : Connection) → connection_at s mine ≡ Some k → IsTalk s mine texts frames
    → IsOnce texts (frames ++ k.waiting) (pending_in k.client (queue_at s k.service))
once s mine texts frames k found talk =
    let talks : Talks s texts frames k = rw found at talk in
    once_of talks
