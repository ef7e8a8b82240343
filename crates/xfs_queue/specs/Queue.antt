-- A queue is the plain list of the pending commands of a service, in order of arrival.
use Rattle.std.specs.Prelude.{◌≡◌, ℕ, ◌≤◌, ◌&&◌, ◌||◌, not, nat_le, Bool, false, IsTrue, List, length, map, filter, find, count_by, filter_map, AllPairs, All, Contains, MatchOption, [], None, Some, if◌then◌else◌}
use Rattle.std.specs.declared.option.Option.{Option}
use Rattle.std.specs.List.{list_any}
use Rattle.xfs_base.specs.declared.moment.ClientId.{ClientId}
use Rattle.xfs_base.specs.declared.moment.Moment.{Moment}
use Rattle.xfs_queue.specs.declared.command.Line.{Line}
use Rattle.xfs_queue.specs.declared.command.Stage.{Stage}
use Rattle.xfs_queue.specs.declared.command.Stage.TheVariants.{Waiting}
use Rattle.xfs_queue.specs.declared.command.Ticket.{Ticket}
use Rattle.xfs_queue.specs.declared.command.Ids.{Ids}
use Rattle.xfs_queue.specs.declared.command.OfferFault.{OfferFault}
use Rattle.xfs_queue.specs.declared.command.OfferFault.TheVariants.{Busy, TooMany}
use Rattle.xfs_queue.specs.declared.command.Command.{Command}
use Rattle.xfs_queue.specs.Commands.{ticket_of, is_at, is_of, is_waiting, is_running, is_ready, names, has_deadline, deadline}

module _ {J : Type 0} where
  -- the ids of one client differ while pending, at most one command runs, and the limits hold
  pub record IsQueue (q : List (Command J)) : Type 0 where
    pub ids : AllPairs (λ a b. is_at (ticket_of a) b ≡ false) q
    pub running : AllPairs (λ a b. (is_running a.stage && is_running b.stage) ≡ false) q
    pub service : length q ≤ 256
    pub client : (c : ClientId) → count_by (is_of c) q ≤ 32

  -- a command as it is accepted
  abbrev pub offered : ClientId → ℕ → Line → ℕ → Moment → J → Command J
  offered client id line timeout now job = record { client = client; id = id; line = line; accepted = now; timeout = timeout; marked = false; stage = Waiting; job = job }

  -- the command that the ticket names
  abbrev pub command_at : List (Command J) → Ticket → Option (Command J)
  command_at q t = find (is_at t) q

  abbrev pub IsPending : List (Command J) → Ticket → Type 0
  IsPending q t = IsTrue (list_any (is_at t) q)

  abbrev pub IsWaiting : List (Command J) → Ticket → Type 0
  IsWaiting q t = IsTrue (list_any (λ a. is_at t a && is_waiting a.stage) q)

  -- the client has 32 commands pending, or the service 256
  abbrev pub is_crowded : List (Command J) → ClientId → Bool
  is_crowded q client = nat_le 32 (count_by (is_of client) q) || nat_le 256 (length q)

  -- why a command with this client and id isn't taken
  abbrev pub offer_fault : List (Command J) → ClientId → ℕ → Option OfferFault
  offer_fault q client id =
      if list_any (is_at record { client = client; id = id }) q then Some Busy
      else if is_crowded q client then Some TooMany
      else None

  -- the list with the ticket's command at another stage
  abbrev pub with_stage : List (Command J) → Ticket → Stage → List (Command J)
  with_stage q t stage = map (λ a. if is_at t a then record a { stage = stage } else a) q

  -- the list with another job at the ticket's command
  abbrev pub with_job : List (Command J) → Ticket → J → List (Command J)
  with_job q t job = map (λ a. if is_at t a then record a { job = job } else a) q

  -- the list without the ticket's command
  abbrev pub without : List (Command J) → Ticket → List (Command J)
  without q t = filter (λ a. not (is_at t a)) q

  -- whether this is a command of the client that the ids name
  abbrev pub is_named : ClientId → Ids → Command J → Bool
  is_named client ids a = is_of client a && names ids a.id

  -- the command, marked too where this holds
  abbrev pub mark : Bool → Command J → Command J
  mark holds a = record a { marked = a.marked || holds }

  -- the list with the client's named commands marked, but for those that have their result
  abbrev pub canceled : List (Command J) → ClientId → Ids → List (Command J)
  canceled q client ids = map (λ a. mark (is_named client ids a && not (is_ready a.stage)) a) q

  -- the list with the client's commands marked
  abbrev pub marked_of : List (Command J) → ClientId → List (Command J)
  marked_of q client = map (λ a. mark (is_of client a) a) q

  -- the list without the client's commands, but for its running one, which is marked
  abbrev pub without_client : List (Command J) → ClientId → List (Command J)
  without_client q client = marked_of (filter (λ a. not (is_of client a) || is_running a.stage) q) client

  -- the deadlines of the waiting commands of the device line that have one
  abbrev pub deadlines : List (Command J) → List ℕ
  deadlines q = filter_map (λ a. if has_deadline a then Some (deadline a) else None) q

  -- the least of these deadlines; none, where there are none
  abbrev pub IsEarliest : List (Command J) → Option Moment → Type 0
  IsEarliest q least = MatchOption least (deadlines q ≡ []) (λ m. Contains (deadlines q) m.0 × All (λ d. m.0 ≤ d) (deadlines q))
