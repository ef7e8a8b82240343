-- The parts of a conversation, over the lists of its texts, its frames and its pending commands alone.
use Rattle.std.specs.Prelude.{ℕ, List, [], ◌∷◌, ◌++◌, ◌≡◌, map, filter_map, true, false, Contains, Option, None, Some, IfSome, IsSome, ⊤, if◌then◌else◌}
use Rattle.std.specs.List.{list_any, cons_option}
use Rattle.xfs_envelope.specs.Commands.{command_in}
use Rattle.xfs_envelope.specs.Replies.{Reply, reply_in, acknowledge, event, completion}
use Rattle.xfs_conversation.specs.Answers.{heading_of, heading_in, is_invalid_message, is_invalid_id, accepted_in, completes}
use Rattle.xfs_conversation.specs.Pending.{Pending, is_pending, is_wrong_id}

-- each frame is such, given the frames that were heard before it
abbrev pub EachFrame : List (List ℕ) → (List (List ℕ) → List ℕ → Type 0) → Type 0
EachFrame frames P = (before later : List (List ℕ)) (frame : List ℕ) → frames ≡ before ++ frame ∷ later → P before frame

-- what is left of an accepted command: itself, where no later frame completes it
abbrev pub left_by : List (List ℕ) → Option Pending → Option Pending
left_by later None = None
left_by later (Some p) = if list_any (λ frame. completes p.id (reply_in frame)) later then None else Some p

-- the accepted commands that no later frame completes, in their order
abbrev pub pending_after : List (List ℕ) → List Pending
pending_after [] = []
pending_after (frame ∷ later) = cons_option (left_by later (accepted_in (reply_in frame))) (pending_after later)

-- an acknowledge of a command says invalidRequestID exactly where its id is wrong while these are pending
abbrev pub HasStatus : List Pending → Option Reply → Type 0
HasStatus pending (Some (acknowledge id name status)) = is_invalid_message status ≡ false → IfSome id (λ n. is_invalid_id status ≡ is_wrong_id pending n)
HasStatus pending other = ⊤

-- a completion is of one of these, by its id and name
abbrev pub EndsPending : List Pending → Option Reply → Type 0
EndsPending pending (Some (completion id name code payload)) = Contains pending record { id = id; name = name }
EndsPending pending other = ⊤

-- an event is of one of these, by its id
abbrev pub IsOfPending : List Pending → Option Reply → Type 0
IsOfPending pending (Some (event id name payload)) = is_pending pending id ≡ true
IsOfPending pending other = ⊤

pub record HasParts (texts frames : List (List ℕ)) (pending : List Pending) : Type 0 where
  -- the acknowledges are as many as the texts, and each has the id and name of its text; it says invalidMessage exactly where the text is no command
  pub acknowledges : filter_map (λ frame. heading_in (reply_in frame)) frames ≡ map (λ text. heading_of (command_in text)) texts
  -- the acknowledge of a command says invalidRequestID exactly where the id is 0, above 2147483647, or pending before it
  pub statuses : EachFrame frames (λ before frame. HasStatus (pending_after before) (reply_in frame))
  -- a completion has the id and name of a command that was accepted before it and not completed before it
  pub completions : EachFrame frames (λ before frame. EndsPending (pending_after before) (reply_in frame))
  -- an event has the id of such a command
  pub events : EachFrame frames (λ before frame. IsOfPending (pending_after before) (reply_in frame))
  -- the pending commands are those that were accepted and not completed, in their order
  pub left : pending ≡ pending_after frames
  -- each frame is an answer: what is no acknowledge, completion or event is unsolicited
  pub answers : EachFrame frames (λ before frame. IsSome (reply_in frame))

-- P holds of all that has the parts of a conversation
abbrev pub EachWithParts : (List (List ℕ) → List (List ℕ) → List Pending → Type 0) → Type 0
EachWithParts P = (texts frames : List (List ℕ)) (pending : List Pending) → HasParts texts frames pending → P texts frames pending
