-- What an answer tells of commands: an acknowledge has the heading of its text, and accepts it where it has no status; a completion ends the command with its id.
use Rattle.std.specs.Prelude.{ℕ, List, ◌==◌, Bool, true, false, Option, None, Some, is_some, option_and_then, option_map, Result, Ok, Err}
use Rattle.std.specs.Option.{option_map_or}
use Rattle.xfs_envelope.specs.declared.code.Status.{Status}
use Rattle.xfs_envelope.specs.declared.code.Status.TheVariants.{InvalidMessage, InvalidRequestId}
use Rattle.xfs_envelope.specs.declared.command.Refuse.{Refuse}
use Rattle.xfs_envelope.specs.Commands.{Command}
use Rattle.xfs_envelope.specs.Replies.{Reply, acknowledge, completion}
use Rattle.xfs_conversation.specs.Pending.{Pending, has_id}

-- what an acknowledge repeats of its text: the id, the name, and whether the text is no command
pub record Heading : Type 0 where
  pub id : Option ℕ
  pub name : Option (List ℕ)
  pub is_invalid_message : Bool

abbrev pub heading_of : Result Command Refuse → Heading
heading_of (Err refuse) = record { id = refuse.id; name = None; is_invalid_message = true }
heading_of (Ok c) = record { id = Some c.id; name = Some c.name; is_invalid_message = false }

abbrev pub is_invalid_message : Option Status → Bool
is_invalid_message (Some InvalidMessage) = true
is_invalid_message other = false

abbrev pub is_invalid_id : Option Status → Bool
is_invalid_id (Some InvalidRequestId) = true
is_invalid_id other = false

-- the heading of an acknowledge; no other answer has one
abbrev pub heading_in : Option Reply → Option Heading
heading_in (Some (acknowledge id name status)) = Some record { id = id; name = name; is_invalid_message = is_invalid_message status }
heading_in other = None

-- the command that an acknowledge without a status accepts
abbrev pub accepted_in : Option Reply → Option Pending
accepted_in (Some (acknowledge id name None)) = option_and_then (λ n. option_map (λ text. record { id = n; name = text }) name) id
accepted_in other = None

-- whether an answer completes the command with this id
abbrev pub completes : ℕ → Option Reply → Bool
completes id (Some (completion its name code payload)) = id == its
completes id other = false

abbrev pub is_acknowledge : Option Reply → Bool
is_acknowledge reply = is_some (heading_in reply)

-- whether an answer accepts a command with this id
abbrev pub accepts : ℕ → Option Reply → Bool
accepts id reply = option_map_or (has_id id) (accepted_in reply) false
