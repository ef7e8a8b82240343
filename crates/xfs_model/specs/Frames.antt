-- The frames that a service sends: each is the text of its message, and a client reads that message in it.
use Rattle.std.specs.Prelude.{◌≡◌, ℕ, List, [], ◌∷◌, codes, ⊤, Option, None, Some}
use Rattle.serde_json.specs.Data.{Data, string}
use Rattle.serde_json.specs.Written.{compact_text}
use Rattle.xfs_common.specs.Payloads.{only, nothing}
use Rattle.xfs_envelope.specs.declared.code.Code.{Code}
use Rattle.xfs_envelope.specs.declared.code.Status.{Status}
use Rattle.xfs_envelope.specs.Messages.{headed, framed, acknowledge_header, event_header, completion_header, unsolicited_header}
use Rattle.xfs_envelope.specs.Replies.{reply_in, acknowledge, event, completion, unsolicited}
use Rattle.xfs_model.specs.State.{Ending, cleared, reset, expired}

pub record IsAcknowledge (id : Option ℕ) (name : Option (List ℕ)) (status : Option Status) (frame : List ℕ) : Type 0 where
  pub text : frame ≡ compact_text (headed (acknowledge_header name id status))
  pub reads_back : reply_in frame ≡ Some (acknowledge id name status)

pub record IsCompletion (id : ℕ) (name : List ℕ) (code : Code) (payload : Data) (frame : List ℕ) : Type 0 where
  pub text : frame ≡ compact_text (framed (completion_header name id code) payload)
  pub reads_back : reply_in frame ≡ Some (completion id name code payload)

pub record IsEvent (id : ℕ) (name : List ℕ) (payload : Data) (frame : List ℕ) : Type 0 where
  pub text : frame ≡ compact_text (framed (event_header name id) payload)
  pub reads_back : reply_in frame ≡ Some (event id name payload)

pub record IsUnsolicited (name : List ℕ) (payload : Data) (frame : List ℕ) : Type 0 where
  pub text : frame ≡ compact_text (framed (unsolicited_header name) payload)
  pub reads_back : reply_in frame ≡ Some (unsolicited name payload)

-- what a command's event tells
pub record Notice : Type 0 where
  pub name : List ℕ
  pub payload : Data

-- a frame for each notice, in order, by the id of the command
abbrev pub AreEvents : ℕ → List Notice → List (List ℕ) → Type 0
AreEvents id [] [] = ⊤
AreEvents id [] (frame ∷ frames) = ⊥
AreEvents id (notice ∷ notices) [] = ⊥
AreEvents id (notice ∷ notices) (frame ∷ frames) = IsEvent id notice.name notice.payload frame × AreEvents id notices frames

abbrev pub ending_text : Ending → List ℕ
ending_text cleared = codes "cleared"
ending_text reset = codes "reset"
ending_text expired = codes "expired"

-- the frame of an announcement that a live nonce ended, where it did
abbrev pub Announces : Option Ending → Option (List ℕ) → Type 0
Announces None None = ⊤
Announces None (Some frame) = ⊥
Announces (Some ending) None = ⊥
Announces (Some ending) (Some frame) = IsUnsolicited (codes "Common.NonceClearedEvent") (only (codes "reasonDescription") (string (ending_text ending))) frame

-- a card was taken from the exit
abbrev pub IsRemoval : List ℕ → Type 0
IsRemoval frame = IsUnsolicited (codes "CardReader.MediaRemovedEvent") nothing frame
