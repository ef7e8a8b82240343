-- What the laws of the machine speak of: each step, each handing over of frames, each state that is reached.
use Rattle.std.specs.Prelude.{ℕ, List}
use Rattle.xfs_base.specs.declared.moment.ClientId.{ClientId}
use Rattle.xfs_model.specs.Events.{Answer, Event, handed, outbox}
use Rattle.xfs_model.specs.Runs.{IsFirm, IsReached}
use Rattle.xfs_model.specs.State.{Pass, State}
use Rattle.xfs_model.specs.Step.{Step}

-- a law holds over each step whose state and event are such
abbrev pub EachStep : (State → Event → Type 0) → (State → Event → State → Type 0) → Type 0
EachStep Such Then = (old new : State) (event : Event) (answer : Answer) → Such old event → Step old event answer new → Then old event new

-- a law holds of the state before each handing over, and of the frames
abbrev pub EachHanding : (State → List (List ℕ) → Type 0) → Type 0
EachHanding Then = (old new : State) (pass : Pass) (frames : List (List ℕ)) → Step old (outbox pass) (handed frames) new → Then old frames

-- a law holds of each state that is reached from a boot with no order open, and of the frames that a client was handed
abbrev pub EachFirmRun : (State → List (List ℕ) → Type 0) → Type 0
EachFirmRun Then = (mine : ClientId) (now : State) (texts frames : List (List ℕ)) → (is : IsReached mine now texts frames) → IsFirm is.seen → Then now frames
