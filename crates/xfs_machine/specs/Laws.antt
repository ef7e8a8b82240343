-- What is true of every event that a call of the machine makes.
use Rattle.xfs_model.specs.Advances.{Advances}
use Rattle.xfs_model.specs.Causes.{HasCauses, MarksHaveCauses}
use Rattle.xfs_model.specs.Conversations.{Keeps}
use Rattle.xfs_model.specs.Events.{Answer, Event}
use Rattle.xfs_model.specs.Faults.{FaultsHaveCauses, RefusalsHaveCauses}
use Rattle.xfs_model.specs.State.{State}
use Rattle.xfs_model.specs.Successes.{SuccessesHaveCauses}
use Rattle.xfs_model.specs.Told.{IsTold}

-- Each open connection's conversation goes on, and what was told of the journal stands in it. No record, count of faults or setting is taken back. A command is marked, and has the results canceled, timeOut, hardwareError, deviceNotReady and success, only for a reason.
pub record IsLawful (old : State) (event : Event) (answer : Answer) (new : State) : Type 0 where
  pub conversation : Keeps old event answer new
  pub told : IsTold new
  pub advances : Advances event old.seen new.seen
  pub marks : MarksHaveCauses old event new
  pub causes : HasCauses new
  pub faults : FaultsHaveCauses old event new
  pub refusals : RefusalsHaveCauses old new
  pub successes : SuccessesHaveCauses old new
