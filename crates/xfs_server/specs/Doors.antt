-- What doors tell, and what each call does to it.
use Rattle.std.specs.Prelude.{ℕ, Option, Some, Ok, Err}
use Rattle.std.specs.declared.result.Result.{Result}
use Rattle.xfs_base.specs.Causes.{next_count}
use Rattle.xfs_base.specs.declared.moment.Service.{Service}
use Rattle.xfs_server.specs.declared.doors.Door.{Door}
use Rattle.xfs_server.specs.declared.doors.DialFault.{DialFault}

-- how many connections were handed over and how often was dialled, at last which service, how often nobody came, and how often they failed
pub record DoorLog : Type 0 where
  pub came : ℕ
  pub dials : ℕ
  pub last_dialled : Option Service
  pub quiets : ℕ
  pub faults : ℕ

-- what they tell after a call of next that answered this
abbrev pub after_next : {L : Type 0} → DoorLog → Door L → DoorLog
after_next d (Door.Came service link) = record d { came = next_count d.came }
after_next d Door.Quiet = record d { quiets = next_count d.quiets }
after_next d Door.Failed = record d { faults = next_count d.faults }
after_next d Door.Memory = d

-- what they tell after a call of dial of this service that answered this: each counts, whatever it answers
abbrev pub after_dial : {L : Type 0} → DoorLog → Service → Result L DialFault → DoorLog
after_dial d service (Ok link) = record d { dials = next_count d.dials; last_dialled = Some service }
after_dial d service (Err DialFault.Failed) = record d { dials = next_count d.dials; last_dialled = Some service; faults = next_count d.faults }
after_dial d service (Err DialFault.Memory) = record d { dials = next_count d.dials; last_dialled = Some service }
