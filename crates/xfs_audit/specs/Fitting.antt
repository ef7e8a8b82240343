-- A conversation by its parts, over the lists of its texts and frames alone: for some choice of which accepted command each completion ends, all of them fit.
use Rattle.std.specs.Prelude.{ℕ, List, [], ◌∷◌, ◌≡◌, ◌+◌, ◌==◌, length, map, filter_map, take, slice_get, is_err, Bool, false, Option, None, Some, Result, Ok, Err, IfSome, IsSome, if◌then◌else◌}
use Rattle.std.specs.List.{cons_option, list_any}
use Rattle.xfs_envelope.specs.declared.code.Status.{Status}
use Rattle.xfs_envelope.specs.declared.command.Refuse.{Refuse}
use Rattle.xfs_envelope.specs.Commands.{Command, command_in}
use Rattle.xfs_envelope.specs.Replies.{Reply, reply_in, acknowledge, event, completion}
use Rattle.xfs_conversation.specs.Answers.{is_invalid_message}
use Rattle.xfs_conversation.specs.Parts.{EachFrame}
use Rattle.xfs_conversation.specs.Pending.{Pending, pending_of}

-- what an acknowledge says, which is nothing where it accepts; no other answer has it
abbrev pub status_in : Option Reply → Option (Option Status)
status_in (Some (acknowledge id name status)) = Some status
status_in other = None

-- the id and name of a completion
abbrev pub ended_in : Option Reply → Option Pending
ended_in (Some (completion id name code payload)) = Some record { id = id; name = name }
ended_in other = None

-- the id of an event
abbrev pub event_id_in : Option Reply → Option ℕ
event_id_in (Some (event id name payload)) = Some id
event_id_in other = None

abbrev pub statuses : List (List ℕ) → List (Option Status)
statuses frames = filter_map (λ frame. status_in (reply_in frame)) frames

abbrev pub completions : List (List ℕ) → List Pending
completions frames = filter_map (λ frame. ended_in (reply_in frame)) frames

abbrev pub asked : Result Command Refuse → Option Pending
asked (Ok c) = Some (pending_of c)
asked (Err refuse) = None

-- the commands of the texts whose acknowledges say nothing, in their order
abbrev pub accepted_by : List (Option Status) → List (List ℕ) → List Pending
accepted_by [] texts = []
accepted_by (status ∷ statuses) [] = []
accepted_by (None ∷ statuses) (text ∷ texts) = cons_option (asked (command_in text)) (accepted_by statuses texts)
accepted_by (Some status ∷ statuses) (text ∷ texts) = accepted_by statuses texts

abbrev pub is_among : List ℕ → ℕ → Bool
is_among numbers n = list_any (λ k. k == n) numbers

-- the commands that have none of these numbers, which count from n on
abbrev pub unended : ℕ → List ℕ → List Pending → List Pending
unended n ended [] = []
unended n ended (p ∷ ps) = if is_among ended n then unended (n + 1) ended ps else p ∷ unended (n + 1) ended ps

-- the accepted command with this number is this one, accepted by frames before, and by the choice none of them ends it
pub record IsOpen (choice : List ℕ) (texts before : List (List ℕ)) (k : ℕ) (p : Pending) : Type 0 where
  pub accepted : slice_get (accepted_by (statuses before) texts) k ≡ Some p
  pub not_ended : is_among (take (length (completions before)) choice) k ≡ false

-- a completion ends a command that is open before it, by its id and name: the one that was chosen
pub record EndsChosen (choice : List ℕ) (texts before : List (List ℕ)) (p : Pending) : Type 0 where
  pub number : ℕ
  pub chosen : slice_get choice (length (completions before)) ≡ Some number
  pub is_open : IsOpen choice texts before number p

-- an event has the id of a command that is open before it
pub record HasOpenId (choice : List ℕ) (texts before : List (List ℕ)) (id : ℕ) : Type 0 where
  pub number : ℕ
  pub command : Pending
  pub is_open : IsOpen choice texts before number command
  pub its : command.id ≡ id

pub record Fits (ids : List ℕ) (texts frames : List (List ℕ)) : Type 0 where
  -- for each completion, in their order, the number of the accepted command that it ends, which counts from 0
  pub choice : List ℕ
  pub each : length choice ≡ length (completions frames)
  -- the acknowledges are as many as the texts, and each says invalidMessage exactly where its text is no command
  pub acknowledges : map is_invalid_message (statuses frames) ≡ map (λ text. is_err (command_in text)) texts
  pub ends : EachFrame frames (λ before frame. IfSome (ended_in (reply_in frame)) (EndsChosen choice texts before))
  pub tells : EachFrame frames (λ before frame. IfSome (event_id_in (reply_in frame)) (HasOpenId choice texts before))
  -- the accepted commands that no completion ends have these ids, in their order
  pub left : map (λ (p : Pending). p.id) (unended 0 choice (accepted_by (statuses frames) texts)) ≡ ids
  -- each frame is an answer: what is no acknowledge, completion or event is unsolicited
  pub answers : EachFrame frames (λ before frame. IsSome (reply_in frame))
