-- What one connection posted and heard, read from the first frame to the last. A derivation tells which command each completion is of; where several would do, one that leads to the end is enough.
use Rattle.std.specs.Prelude.{ℕ, List, [], ◌∷◌, ◌++◌, ◌≡◌, map, false, Contains, Option, None, Some, Result, Ok, Err}
use Rattle.serde_json.specs.Data.{Data}
use Rattle.xfs_envelope.specs.declared.code.Code.{Code}
use Rattle.xfs_envelope.specs.declared.code.Status.{Status}
use Rattle.xfs_envelope.specs.declared.code.Status.TheVariants.{InvalidMessage}
use Rattle.xfs_envelope.specs.declared.command.Refuse.{Refuse}
use Rattle.xfs_envelope.specs.Commands.{Command, command_in}
use Rattle.xfs_envelope.specs.Replies.{Reply, reply_in, acknowledge, event, completion, unsolicited}
use Rattle.xfs_conversation.specs.Answers.{is_invalid_message}
use Rattle.xfs_conversation.specs.Pending.{Pending, pending_of}

-- how the next text is acknowledged while these commands are pending, and which are pending then; an acknowledge's id and name are not looked at
pub data Acknowledges (pending : List Pending) : Result Command Refuse → Option Reply → List Pending → Type 0 where
  -- a text that is no command: as an invalid message
  misread : (refuse : Refuse) (id : Option ℕ) (name : Option (List ℕ)) → Acknowledges pending (Err refuse) (Some (acknowledge id name (Some InvalidMessage))) pending
  -- a command that is refused: by another status
  refused : (c : Command) (id : Option ℕ) (name : Option (List ℕ)) (status : Status) → is_invalid_message (Some status) ≡ false
      → Acknowledges pending (Ok c) (Some (acknowledge id name (Some status))) pending
  -- a command that is accepted: without a status
  accepted : (c : Command) (id : Option ℕ) (name : Option (List ℕ)) → Acknowledges pending (Ok c) (Some (acknowledge id name None)) (pending ++ pending_of c ∷ [])

-- after is pending without one command like this
pub record IsWithout (p : Pending) (pending after : List Pending) : Type 0 where
  pub before : List Pending
  pub later : List Pending
  pub was : pending ≡ before ++ p ∷ later
  pub is : after ≡ before ++ later

-- what any other frame says while these commands are pending, and which are pending then
pub data Says (pending : List Pending) : Option Reply → List Pending → Type 0 where
  -- a completion ends one of them that has its id and name
  completed : (p : Pending) (code : Code) (payload : Data) {after : List Pending} → IsWithout p pending after → Says pending (Some (completion p.id p.name code payload)) after
  -- an event has the id of one of them
  told : (p : Pending) (name : List ℕ) (payload : Data) → Contains pending p → Says pending (Some (event p.id name payload)) pending
  -- what is unsolicited comes at any time
  announced : (name : List ℕ) (payload : Data) → Says pending (Some (unsolicited name payload)) pending

-- the ids of these commands
abbrev pub pending_ids : List Pending → List ℕ
pending_ids pending = map (λ (p : Pending). p.id) pending

-- what is said from some frame on, where these commands are pending before it: the texts are acknowledged in their order, each frame says one of the above, and at the end the pending commands have these ids, in the order in which they were accepted
pub data Converses (ids : List ℕ) : List Pending → List (List ℕ) → List (List ℕ) → Type 0 where
  ended : {pending : List Pending} → pending_ids pending ≡ ids → Converses ids pending [] []
  posted : {before after : List Pending} {texts frames : List (List ℕ)} (text frame : List ℕ) → Acknowledges before (command_in text) (reply_in frame) after
      → Converses ids after texts frames → Converses ids before (text ∷ texts) (frame ∷ frames)
  heard : {before after : List Pending} {texts frames : List (List ℕ)} (frame : List ℕ) → Says before (reply_in frame) after
      → Converses ids after texts frames → Converses ids before texts (frame ∷ frames)
