-- What becomes of a text that a client says.
use Rattle.std.specs.Prelude.{◌≡◌, ℕ, ◌++◌, false, List, [], ◌∷◌, Option, Some, None, Result, Ok, Err, MatchBool}
use Rattle.xfs_envelope.specs.Commands.{command_in}
use Rattle.xfs_envelope.specs.Commands as envelope
use Rattle.xfs_envelope.specs.declared.code.Status.{Status}
use Rattle.xfs_envelope.specs.declared.code.Status.TheVariants.{InvalidMessage, InvalidRequestId, TooManyRequests}
use Rattle.xfs_envelope.specs.declared.command.Refuse.{Refuse}
use Rattle.xfs_conversation.specs.Pending.{is_wrong_id}
use Rattle.xfs_queue.specs.Queue.{is_crowded, offered}
use Rattle.xfs_model.specs.declared.known.Known.{Known}
use Rattle.xfs_model.specs.Commands.{Asks, known_of, line_of}
use Rattle.xfs_model.specs.Connections.{sent, with_queue_at}
use Rattle.xfs_model.specs.Frames.{IsAcknowledge, IsCompletion}
use Rattle.xfs_model.specs.Immediate.{ComesTo, done_at_once}
use Rattle.xfs_model.specs.Pendings.{pending_in}
use Rattle.xfs_model.specs.State.{Ask, Connection, Job, Outcome, State, queue_at}

-- the text is refused: its acknowledge says why
pub record Refuses (s : State) (k : Connection) (id : Option ℕ) (name : Option (List ℕ)) (why : Status) (new : State) : Type 0 where
  pub reply : List ℕ
  pub acknowledges : IsAcknowledge id name (Some why) reply
  pub is : new ≡ sent s k.service k.client (reply ∷ [])

-- the command is accepted and completed at once
pub record DoesAtOnce (s : State) (k : Connection) (c : envelope.Command) (new : State) : Type 0 where
  pub reply : List ℕ
  pub last : List ℕ
  pub result : Outcome
  pub comes : ComesTo s k c result
  pub acknowledges : IsAcknowledge (Some c.id) (Some c.name) None reply
  pub completes : IsCompletion c.id c.name result.code result.payload last
  pub is : new ≡ with_queue_at (sent s k.service k.client (reply ∷ last ∷ [])) k.service (done_at_once s k c).queue

-- a command as it is accepted
abbrev pub job_of : List ℕ → Ask → Job
job_of name ask = record { name = name; ask = ask; plan = None; ended_nonce = false; outcome = None }

-- the command is accepted, and is pending from now on
pub record Accepts (s : State) (k : Connection) (known : Known) (c : envelope.Command) (new : State) : Type 0 where
  pub reply : List ℕ
  pub ask : Ask
  pub acknowledges : IsAcknowledge (Some c.id) (Some c.name) None reply
  pub asks : Asks known c.payload ask
  pub is : new ≡ with_queue_at (sent s k.service k.client (reply ∷ [])) k.service
      (queue_at s k.service ++ offered k.client c.id (line_of known) c.timeout s.now (job_of c.name ask) ∷ [])

-- a command that would be pending is refused where too many are
abbrev pub TakesOn : State → Connection → envelope.Command → Option Known → State → Type 0
TakesOn s k c None new = DoesAtOnce s k c new
TakesOn s k c (Some known) new = MatchBool (is_crowded (queue_at s k.service) k.client)
    (Refuses s k (Some c.id) (Some c.name) TooManyRequests new)
    (Accepts s k known c new)

-- the four cases of a text
abbrev pub TakesText : State → Connection → Result envelope.Command Refuse → State → Type 0
TakesText s k (Err refuse) new = Refuses s k refuse.id None InvalidMessage new
TakesText s k (Ok c) new = MatchBool (is_wrong_id (pending_in k.client (queue_at s k.service)) c.id)
    (Refuses s k (Some c.id) (Some c.name) InvalidRequestId new)
    (TakesOn s k c (known_of k.service c.name) new)
