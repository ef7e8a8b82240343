-- One step of the machine: from old, an event may have this answer and lead to new.
use Rattle.std.specs.Prelude.{◌≡◌, ◌≢◌, ◌⊎◌, ◌<◌, ◌≤◌, ◌+◌, ◌++◌, ℕ, nat_le, List, [], ◌∷◌, length, map, Bool, true, false, MatchOption, if◌then◌else◌}
use Rattle.xfs_base.specs.declared.moment.Moment.{Moment}
use Rattle.xfs_base.specs.declared.moment.Service.{Service}
use Rattle.xfs_dispenser.specs.Seen.{Seen, Becomes}
use Rattle.xfs_envelope.specs.Commands.{command_in}
use Rattle.xfs_model.specs.Cases.{Does, told_by}
use Rattle.xfs_model.specs.Connections.{connection_of, left, without_mail}
use Rattle.xfs_model.specs.Events.{Event, join, post, touch, work, outbox, leave, restart, end_, finish, Answer, joined, full, done, handed, restarted, unrestarted, ended, unsettled, memory}
use Rattle.xfs_model.specs.Guards.{Closes, IsUnbooted, Reboots}
use Rattle.xfs_model.specs.Posts.{TakesText}
use Rattle.xfs_model.specs.State.{Pass, State, bare}
use Rattle.xfs_model.specs.Touches.{Touches}
use Rattle.xfs_model.specs.Work.{case_of}

-- the greater of the machine's moment and the one given
abbrev pub at_moment : State → Moment → State
at_moment s now = record s { now = if nat_le s.now.0 now.0 then now else s.now }

-- a connection more: its client has the next number
pub record Joins (old : State) (service : Service) (pass : Pass) (new : State) : Type 0 where
  pub room : length old.connections < 64
  pub number : old.given < 4294967295
  pub client : pass.client.0 ≡ old.given + 1
  pub service_is : pass.service ≡ service
  pub boot : pass.boot ≡ old.boot
  pub is : new ≡ record old { given = old.given + 1; connections = old.connections ++ record { client = pass.client; service = service; waiting = [] } ∷ [] }

-- 64 connections are open, or all numbers were given
abbrev pub IsFull : State → Type 0
IsFull s = (64 ≤ length s.connections) ⊎ (4294967295 ≤ s.given)

-- a pass that isn't open changes nothing
abbrev pub Posts : State → Pass → List ℕ → Moment → State → Type 0
Posts old pass text now new = MatchOption (connection_of old pass) (new ≡ old) (λ k. TakesText (at_moment old now) k (command_in text) new)

abbrev pub HandsOver : State → Pass → List (List ℕ) → State → Type 0
HandsOver old pass frames new = MatchOption (connection_of old pass)
    ((frames ≡ []) × (new ≡ old))
    (λ k. (frames ≡ k.waiting) × (new ≡ record old { connections = map (without_mail k.client) old.connections }))

abbrev pub DropsClient : State → Pass → State → Type 0
DropsClient old pass new = MatchOption (connection_of old pass) (new ≡ old) (λ k. new ≡ left old k)

-- what is left of a machine that is gone
abbrev pub gone : State → Seen → State
gone old seen = bare seen old.life 0

pub record Restarts (old new : State) : Type 0 where
  pub next : Seen
  pub reboots : Reboots old.seen next
  pub is : new ≡ bare next old.life (length next.guard.records)

pub record IsRefusedRestart (old new : State) : Type 0 where
  pub next : Seen
  pub refused : IsUnbooted old.seen next
  pub is : new ≡ gone old next

pub record Finishes (old : State) (settled : Bool) (new : State) : Type 0 where
  pub next : Seen
  pub closes : Closes old.seen.guard.open_order old.seen settled next
  pub is : new ≡ gone old next

-- all is as it was, but that the journal may have been read
pub record IsUnmoved (old new : State) : Type 0 where
  pub next : Seen
  pub becomes : Becomes old.seen old.seen.guard next
  pub is : new ≡ record old { seen = next }

-- what want of memory leaves: all as it was; a step of work and a restart may have read the journal. The other calls never want it
abbrev pub Wants : Event → State → State → Type 0
Wants (outbox pass) old new = ⊥
Wants (leave pass) old new = ⊥
Wants end_ old new = ⊥
Wants finish old new = ⊥
Wants (work service now) old new = IsUnmoved old new
Wants restart old new = IsUnmoved old new
Wants other old new = new ≡ old

-- what an event does, by its answer
abbrev pub Happens : State → Event → Answer → State → Type 0
Happens old (join service) (joined pass) new = Joins old service pass new
Happens old (join service) full new = IsFull old × (new ≡ old)
Happens old (post pass text now) done new = Posts old pass text now new
Happens old (touch it) answer new = Touches old it answer new
Happens old (work service now) answer new = let s = at_moment old now in (answer ≡ told_by (case_of s service)) × Does (case_of s service) s service new
Happens old (outbox pass) (handed frames) new = HandsOver old pass frames new
Happens old (leave pass) done new = DropsClient old pass new
Happens old restart restarted new = Restarts old new
Happens old restart unrestarted new = IsRefusedRestart old new
Happens old end_ ended new = new ≡ gone old old.seen
Happens old finish ended new = Finishes old true new
Happens old finish unsettled new = Finishes old false new
Happens old event answer new = ⊥

-- one event of a machine that is there; or memory ran out
pub data Step (old : State) (event : Event) (answer : Answer) (new : State) : Type 0 where
  happens : old.boot ≢ 0 → Happens old event answer new → Step old event answer new
  wanting : answer ≡ memory → Wants event old new → Step old event answer new
