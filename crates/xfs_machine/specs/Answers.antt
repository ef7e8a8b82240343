-- What a call's result is among the answers of the machine's definitions.
use Rattle.std.specs.Prelude.{Result, Ok, Err}
use Rattle.xfs_base.specs.declared.faults.Memory.{Memory}
use Rattle.xfs_guard.specs.declared.deny.Deny.{Deny}
use Rattle.xfs_machine.specs.declared.pass.JoinFault.{JoinFault}
use Rattle.xfs_machine.specs.declared.pass.JoinFault.TheVariants as fault
use Rattle.xfs_machine.specs.declared.answer.Touched.{Touched}
use Rattle.xfs_machine.specs.declared.answer.Touched.TheVariants as touch
use Rattle.xfs_machine.specs.declared.answer.Work.{Work}
use Rattle.xfs_machine.specs.declared.answer.Work.TheVariants as work
use Rattle.xfs_model.specs.Events as event
use Rattle.xfs_model.specs.Events.{Answer}
use Rattle.xfs_model.specs.State.{Pass}

abbrev pub joined_as : Result Pass JoinFault → Answer
joined_as (Ok pass) = event.joined pass
joined_as (Err fault.Full) = event.full
joined_as (Err fault.Memory) = event.memory

abbrev pub posted : Result Unit Memory → Answer
posted (Ok done) = event.done
posted (Err memory) = event.memory

abbrev pub touched_as : Result Touched Memory → Answer
touched_as (Ok (touch.Taken counts)) = event.taken counts
touched_as (Ok touch.Fault) = event.fault
touched_as (Ok touch.Closed) = event.closed
touched_as (Ok touch.Other) = event.touched
touched_as (Err memory) = event.memory

abbrev pub worked : Result Work Memory → Answer
worked (Ok work.Did) = event.did
worked (Ok work.Idle) = event.idle
worked (Err memory) = event.memory

abbrev pub finished : Result Unit Deny → Answer
finished (Ok settled) = event.ended
finished (Err deny) = event.unsettled
