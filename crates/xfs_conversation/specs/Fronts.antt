-- What was heard up to some frame is a conversation too, and what is pending was posted.
use Rattle.std.specs.Prelude.{ℕ, ◌≡◌, ◌++◌, List, Contains, Ok}
use Rattle.xfs_envelope.specs.Commands.{Command, command_in}
use Rattle.xfs_conversation.specs.Conversation.{Conversation}
use Rattle.xfs_conversation.specs.Pending.{Pending, pending_of}

-- the frames are a conversation with the first of the texts
pub record IsFront (texts frames : List (List ℕ)) : Type 0 where
  pub acknowledged : List (List ℕ)
  pub later : List (List ℕ)
  pub pending : List Pending
  pub texts_are : texts ≡ acknowledged ++ later
  pub talk : Conversation acknowledged frames pending

-- what was heard up to some frame is a conversation with the first of the texts
abbrev pub HasFronts : List (List ℕ) → List (List ℕ) → List Pending → Type 0
HasFronts texts frames pending = (before later : List (List ℕ)) → frames ≡ before ++ later → IsFront texts before

-- one of the texts asks for this command, by this id and name
pub record WasPosted (texts : List (List ℕ)) (p : Pending) : Type 0 where
  pub text : List ℕ
  pub command : Command
  pub there : Contains texts text
  pub reads : command_in text ≡ Ok command
  pub is : p ≡ pending_of command
