-- An immediate command is accepted by one frame and completed by the next, so that it is never pending between two posts.
use Rattle.std.specs.Prelude.{ℕ, ◌≡◌, ◌∷◌, ◌++◌, List, [], false, None, Some, Ok}
use Rattle.serde_json.specs.Data.{Data}
use Rattle.xfs_envelope.specs.declared.code.Code.{Code}
use Rattle.xfs_envelope.specs.Commands.{Command, command_in}
use Rattle.xfs_envelope.specs.Replies.{reply_in, acknowledge, completion}
use Rattle.xfs_conversation.specs.Conversation.{Conversation}
use Rattle.xfs_conversation.specs.Pending.{Pending, is_wrong_id}

-- the text asks for a command, the first frame accepts it while these are pending, and the second completes it
pub record IsImmediate (pending : List Pending) (text first second : List ℕ) : Type 0 where
  pub command : Command
  pub code : Code
  pub payload : Data
  pub asks : command_in text ≡ Ok command
  pub right : is_wrong_id pending command.id ≡ false
  pub accepts : reply_in first ≡ Some (acknowledge (Some command.id) (Some command.name) None)
  pub completes : reply_in second ≡ Some (completion command.id command.name code payload)

-- behind such a command the conversation has the same pending commands
abbrev pub IsKeptByImmediate : List (List ℕ) → List (List ℕ) → List Pending → Type 0
IsKeptByImmediate texts frames pending = (text first second : List ℕ) → IsImmediate pending text first second → Conversation (texts ++ text ∷ []) (frames ++ first ∷ second ∷ []) pending
