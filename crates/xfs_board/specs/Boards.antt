-- What the machine's boards tell: the counts of the caller's tally, and nothing of content.
use Rattle.std.specs.Prelude.{◌≡◌, Bool, List, false, None}
use Rattle.xfs_base.specs.declared.moment.Service.{Service}
use Rattle.xfs_model.specs.State.{Pass}
use Rattle.xfs_server.specs.Boards.{BoardLog}
use Rattle.xfs_server.specs.Tendeds.{TendedLog}
use Rattle.xfs_board.specs.Callers.{CallerView, fresh}
use Rattle.xfs_board.specs.declared.shared.Entry.{Entry}

-- the board of the connection with this pass, and the clock whose moments its turns have
pub record ClientView (M D C : Type 0) : Type 0 where
  pub caller : CallerView M D
  pub pass : Pass
  pub clock : C

-- the object of the worker of a service, the clock whose moments its turns have, and whether it has told that it is closing
pub record DeviceView (M D C : Type 0) : Type 0 where
  pub caller : CallerView M D
  pub service : Service
  pub clock : C
  pub closing : Bool

-- a board stays that of its connection, with its clock
pub record StaysOfClient {M D C : Type 0} (old new : ClientView M D C) : Type 0 where
  pub pass : new.pass ≡ old.pass
  pub clock : new.clock ≡ old.clock

-- the object of a worker stays that of its service, with its clock
pub record StaysOfDevice {M D C : Type 0} (old new : DeviceView M D C) : Type 0 where
  pub service : new.service ≡ old.service
  pub clock : new.clock ≡ old.clock

-- the object of the worker of a service at its begin: it has made no calls, and hasn't told that it is closing
abbrev pub fresh_device : {M D C : Type 0} → List (Entry M D) → Service → C → DeviceView M D C
fresh_device seen service clock = record { caller = fresh seen; service = service; clock = clock; closing = false }

abbrev pub client_log : {M D C : Type 0} → ClientView M D C → BoardLog
client_log b = record { texts = None; handed = None; latest = None; posts = b.caller.tally.posts; turns = b.caller.tally.works; fetches = b.caller.tally.outboxes }

abbrev pub device_log : {M D C : Type 0} → DeviceView M D C → TendedLog
device_log b = record { touched = None; faults = None; wanted = None; unwanted = None; stays = None; closing = b.closing; touches = b.caller.tally.touches; turns = b.caller.tally.works }
