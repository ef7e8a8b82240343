-- A conversation of one connection, from its join on: the texts that it posted, the frames that it heard, and the commands that are pending after them, in the order in which they were accepted. Texts and frames mean what a reader of the envelope finds in them, whoever made them.
use Rattle.std.specs.Prelude.{ℕ, List, [], ◌∷◌, ◌++◌, ◌≡◌, true, false, Contains, Option, None, Some, Result, Ok, Err}
use Rattle.serde_json.specs.Data.{Data}
use Rattle.xfs_envelope.specs.declared.code.Code.{Code}
use Rattle.xfs_envelope.specs.declared.code.Status.TheVariants.{InvalidMessage, InvalidRequestId, TooManyRequests}
use Rattle.xfs_envelope.specs.declared.command.Refuse.{Refuse}
use Rattle.xfs_envelope.specs.Commands.{Command, command_in}
use Rattle.xfs_envelope.specs.Replies.{Reply, reply_in, acknowledge, event, completion, unsolicited}
use Rattle.xfs_conversation.specs.Pending.{Pending, pending_of, is_wrong_id, without_id}

-- how a text is acknowledged while these commands are pending, and which are pending then
pub data Acknowledges (pending : List Pending) : Result Command Refuse → Option Reply → List Pending → Type 0 where
  -- a text that is no command: by the id that its refusal tells, without a name
  misread : (refuse : Refuse) → Acknowledges pending (Err refuse) (Some (acknowledge refuse.id None (Some InvalidMessage))) pending
  -- a command with a wrong id
  misnumbered : (c : Command) → is_wrong_id pending c.id ≡ true
      → Acknowledges pending (Ok c) (Some (acknowledge (Some c.id) (Some c.name) (Some InvalidRequestId))) pending
  -- a command with a right id, where too many are pending
  crowded : (c : Command) → is_wrong_id pending c.id ≡ false
      → Acknowledges pending (Ok c) (Some (acknowledge (Some c.id) (Some c.name) (Some TooManyRequests))) pending
  -- a command that is accepted: without a status
  accepted : (c : Command) → is_wrong_id pending c.id ≡ false
      → Acknowledges pending (Ok c) (Some (acknowledge (Some c.id) (Some c.name) None)) (pending ++ pending_of c ∷ [])

-- what any other frame says while these commands are pending, and which are pending then
pub data Says (pending : List Pending) : Option Reply → List Pending → Type 0 where
  -- a completion, by its id and name, ends a pending command
  completed : (p : Pending) (code : Code) (payload : Data) → Contains pending p → Says pending (Some (completion p.id p.name code payload)) (without_id p.id pending)
  -- an event has the id of a pending command
  told : (p : Pending) (name : List ℕ) (payload : Data) → Contains pending p → Says pending (Some (event p.id name payload)) pending
  -- what is unsolicited comes at any time
  announced : (name : List ℕ) (payload : Data) → Says pending (Some (unsolicited name payload)) pending

pub data Conversation : List (List ℕ) → List (List ℕ) → List Pending → Type 0 where
  -- at the join nothing was said
  joined : Conversation [] [] []
  -- a text is posted, and the next frame is its acknowledge
  posted : {texts frames : List (List ℕ)} {before after : List Pending} → Conversation texts frames before
      → (text frame : List ℕ) → Acknowledges before (command_in text) (reply_in frame) after
      → Conversation (texts ++ text ∷ []) (frames ++ frame ∷ []) after
  -- another frame is heard
  heard : {texts frames : List (List ℕ)} {before after : List Pending} → Conversation texts frames before
      → (frame : List ℕ) → Says before (reply_in frame) after
      → Conversation texts (frames ++ frame ∷ []) after

-- P holds of every conversation
abbrev pub EachConversation : (List (List ℕ) → List (List ℕ) → List Pending → Type 0) → Type 0
EachConversation P = (texts frames : List (List ℕ)) (pending : List Pending) → Conversation texts frames pending → P texts frames pending
