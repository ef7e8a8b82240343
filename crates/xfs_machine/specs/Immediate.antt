-- Which of the commands that are done at once are told of the machine alone.
use Rattle.std.specs.Prelude.{ℕ, List, Bool, true, false, Option, None, Some}
use Rattle.xfs_common.specs.declared.command.Immediate.{Immediate}
use Rattle.xfs_common.specs.declared.command.Immediate.TheVariants.{Status, Capabilities, Cancel, GetServices, GetStorage, GetPresentStatus}
use Rattle.xfs_envelope.specs.Commands as envelope
use Rattle.xfs_model.specs.Frames.{IsCompletion}
use Rattle.xfs_model.specs.State.{Connection, Outcome}
use Rattle.xfs_traffic.specs.Senders.{IsCompleted}
use Rattle.xfs_traffic.specs.declared.accepting.Sender.{Sender}

-- a Cancel does something, and what a GetPresentStatus tells is a token; a name that is not known is told too
abbrev pub is_told : Option Immediate → Bool
is_told None = true
is_told (Some Status) = true
is_told (Some Capabilities) = true
is_told (Some Cancel) = false
is_told (Some GetServices) = true
is_told (Some GetStorage) = true
is_told (Some GetPresentStatus) = false

-- a frame completes a command with this outcome
abbrev pub Completes : envelope.Command → Outcome → List ℕ → Type 0
Completes c outcome frame = IsCompletion c.id c.name outcome.code outcome.payload frame

-- whatever outcome the frame completes it with, the command of the sender is completed with that
abbrev pub CompletesBy : Sender → envelope.Command → List ℕ → List Connection → List Connection → Type 0
CompletesBy sender c frame old new = (outcome : Outcome) → Completes c outcome frame → IsCompleted sender c outcome old new
