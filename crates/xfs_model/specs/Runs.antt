-- Runs of a machine, with the texts that one client posted since its join and the frames that it was handed.
use Rattle.std.specs.Prelude.{◌≡◌, ℕ, List, []}
use Rattle.xfs_base.specs.declared.moment.ClientId.{ClientId}
use Rattle.xfs_dispenser.specs.Seen.{Seen}
use Rattle.xfs_guard.specs.declared.open.Open.TheVariants.{No}
use Rattle.xfs_model.specs.Conversations.{texts_after, frames_after}
use Rattle.xfs_model.specs.Events.{Answer, Event}
use Rattle.xfs_model.specs.State.{State, bare}
use Rattle.xfs_model.specs.Step.{Step}
use Rattle.xfs_model.specs.Told.{HasMark}

-- from this state, in any number of steps
pub data Run (start : State) (mine : ClientId) : State → List (List ℕ) → List (List ℕ) → Type 0 where
  begun : Run start mine start [] []
  next : {s : State} {texts frames : List (List ℕ)} → Run start mine s texts frames → (event : Event) (answer : Answer) (new : State) → Step s event answer new
      → Run start mine new (texts_after s texts event answer mine) (frames_after s frames event answer mine)

-- a state that a run has reached from a boot, whatever the guard was then
pub record IsReached (mine : ClientId) (now : State) (texts frames : List (List ℕ)) : Type 0 where
  pub seen : Seen
  pub life : ℕ
  pub boot : ℕ
  pub run : Run (bare seen life boot) mine now texts frames

-- at the boot no order was open, and the journal's list had a mark
pub record IsFirm (seen : Seen) : Type 0 where
  pub none : seen.guard.open_order ≡ No
  pub mark : HasMark seen
