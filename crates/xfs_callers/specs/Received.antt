-- What a service says at once to a text.
use Rattle.std.specs.Prelude.{◌≡◌, ℕ, List, Some, None}
use Rattle.xfs_envelope.specs.Commands.{Command}
use Rattle.xfs_envelope.specs.Replies.{acknowledge, reply_in}
use Rattle.xfs_envelope.specs.declared.code.Status.TheVariants.{InvalidMessage}
use Rattle.xfs_envelope.specs.declared.command.Refuse.{Refuse}

-- the answer acknowledges the command by its name and id
abbrev pub IsAcknowledgeOf : List ℕ → Command → Type 0
IsAcknowledgeOf answer command = reply_in answer ≡ Some (acknowledge (Some command.id) (Some command.name) None)

-- the answer says that the text is no command, with the id where it tells one
abbrev pub IsRefusalOf : List ℕ → Refuse → Type 0
IsRefusalOf answer refuse = reply_in answer ≡ Some (acknowledge refuse.id None (Some InvalidMessage))
