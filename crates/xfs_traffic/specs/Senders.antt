-- What is done to traffic, told of every machine that has it.
use Rattle.std.specs.Prelude.{◌≡◌, ℕ, List, [], ◌∷◌, map, Option, None, Some}
use Rattle.xfs_base.specs.declared.moment.Moment.{Moment}
use Rattle.xfs_envelope.specs.Commands as envelope
use Rattle.xfs_envelope.specs.declared.code.Status.{Status}
use Rattle.xfs_traffic.specs.declared.accepting.Sender.{Sender}
use Rattle.xfs_model.specs.Connections.{is_at, with_mail}
use Rattle.xfs_model.specs.Frames.{IsAcknowledge, IsCompletion}
use Rattle.xfs_model.specs.Posts.{Accepts}
use Rattle.xfs_model.specs.State.{Connection, Outcome, State}
use Rattle.xfs_model.specs.declared.known.Known.{Known}
use Rattle.xfs_traffic.specs.Parts.{with_traffic}
use Rattle.xfs_traffic.specs.declared.traffic.Traffic.{Traffic}

-- the connection of the sender has these frames behind those that wait
abbrev pub mailed : Sender → List (List ℕ) → List Connection → List Connection
mailed sender frames ks = map (λ k. with_mail (is_at sender.service sender.client k) frames k) ks

-- a machine at this moment, and a connection of the sender
pub record IsSeen (now : Moment) (sender : Sender) (s : State) (k : Connection) : Type 0 where
  pub now_is : s.now ≡ now
  pub client : k.client ≡ sender.client
  pub service : k.service ≡ sender.service

-- the command of the sender is pending, as the machine's definitions say, and is acknowledged
abbrev pub IsAccepted : Moment → Sender → Known → envelope.Command → Traffic → Traffic → Type 0
IsAccepted now sender command c old new = (s : State) (k : Connection) → IsSeen now sender s k → Accepts (with_traffic s old) k command c (with_traffic s new)

-- the connection of the sender is sent the acknowledge alone
pub record IsTurnedAway (sender : Sender) (id : Option ℕ) (name : Option (List ℕ)) (why : Status) (old new : List Connection) : Type 0 where
  pub reply : List ℕ
  pub acknowledges : IsAcknowledge id name (Some why) reply
  pub is : new ≡ mailed sender (reply ∷ []) old

-- the connection of the sender is sent the acknowledge and the completion with this result
pub record IsCompleted (sender : Sender) (c : envelope.Command) (result : Outcome) (old new : List Connection) : Type 0 where
  pub reply : List ℕ
  pub last : List ℕ
  pub acknowledges : IsAcknowledge (Some c.id) (Some c.name) None reply
  pub completes : IsCompletion c.id c.name result.code result.payload last
  pub is : new ≡ mailed sender (reply ∷ last ∷ []) old
