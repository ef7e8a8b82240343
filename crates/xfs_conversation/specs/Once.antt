-- Each text has one acknowledge, and a command that it accepts has at most one completion. A completed id can be used again, so a completion is of the command that was accepted last with its id.
use Rattle.std.specs.Prelude.{ℕ, ◌≡◌, ◌≤◌, ◌+◌, ◌++◌, ◌∷◌, List, length, count_by, Bool, false, AllPairs, Option, Some}
use Rattle.std.specs.List.{before_first}
use Rattle.xfs_envelope.specs.Replies.{Reply, reply_in}
use Rattle.xfs_conversation.specs.Pending.{Pending, has_id}
use Rattle.xfs_conversation.specs.Answers.{is_acknowledge, accepts, accepted_in, completes}

-- the frames whose answers pass a test
abbrev pub frames_that : (Option Reply → Bool) → List (List ℕ) → ℕ
frames_that test frames = count_by (λ frame. test (reply_in frame)) frames

-- the frames up to the one that accepts another command with this id
abbrev pub until_accepted : ℕ → List (List ℕ) → List (List ℕ)
until_accepted id frames = before_first (λ frame. accepts id (reply_in frame)) frames

pub record IsOnce (texts frames : List (List ℕ)) (pending : List Pending) : Type 0 where
  -- there are as many acknowledges as texts
  pub acknowledges : frames_that is_acknowledge frames ≡ length texts
  -- behind the acknowledge of an accepted command, up to the next that is accepted with its id, at most one frame completes it
  pub completions : (before later : List (List ℕ)) (frame : List ℕ) (p : Pending) → frames ≡ before ++ frame ∷ later → accepted_in (reply_in frame) ≡ Some p
      → frames_that (completes p.id) (until_accepted p.id later) ≤ 1
  -- by each id as many commands were accepted as were completed and are pending
  pub balance : (id : ℕ) → frames_that (accepts id) frames ≡ frames_that (completes id) frames + count_by (has_id id) pending
  -- no two pending commands have one id
  pub ids : AllPairs (λ p q. has_id q.id p ≡ false) pending
