-- What may happen to a machine, and what it answers.
use Rattle.std.specs.Prelude.{ℕ, List}
use Rattle.xfs_base.specs.declared.counts.Counts.{Counts}
use Rattle.xfs_base.specs.declared.moment.Moment.{Moment}
use Rattle.xfs_base.specs.declared.moment.Service.{Service}
use Rattle.xfs_mech.specs.declared.touch.Touch.{Touch}
use Rattle.xfs_model.specs.State.{Pass}

pub data Event : Type 0 where
  -- a client connects to a service
  join : Service → Event
  -- a client says a text, at a moment
  post : Pass → List ℕ → Moment → Event
  -- the world touches a device
  touch : Touch → Event
  -- a service does one step of its work, at a moment
  work : Service → Moment → Event
  -- a client is handed the frames that wait for it
  outbox : Pass → Event
  -- a client goes
  leave : Pass → Event
  -- the machine boots again, on the same mechanism and disk
  restart : Event
  -- the machine ends: an open order is never carried out
  end_ : Event
  -- the machine ends, once an open order is carried out and settled
  finish : Event

pub data Answer : Type 0 where
  joined : Pass → Answer
  -- 64 connections are open, or no client number is left
  full : Answer
  -- a text was posted, or a client has gone
  done : Answer
  -- the notes that the customer took; the mechanism failed; the shutter is closed; or the touch was another
  taken : Counts → Answer
  fault : Answer
  closed : Answer
  touched : Answer
  -- one case of the work was done, or none applied
  did : Answer
  idle : Answer
  handed : List (List ℕ) → Answer
  restarted : Answer
  -- the restart was refused, and the machine is gone
  unrestarted : Answer
  ended : Answer
  -- the disk failed at the settling of the last order
  unsettled : Answer
  -- memory ran out, and nothing changed
  memory : Answer
