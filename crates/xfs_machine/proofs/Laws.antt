-- What the laws of the machine's definitions say of a call.
use Rattle.xfs_machine.specs.Laws.{IsLawful}
use Rattle.xfs_machine.specs.MachineView.{IsWhole}
use Rattle.xfs_model.specs.Events.{Answer, Event}
use Rattle.xfs_model.specs.State.{State}
use Rattle.xfs_model.specs.Step.{Step}
use Rattle.xfs_model.proofs.Advancing.{advances}
use Rattle.xfs_model.proofs.Caused.{causes_kept}
use Rattle.xfs_model.proofs.Faulting.{faults_have_causes}
use Rattle.xfs_model.proofs.Marks.{marks}
use Rattle.xfs_model.proofs.Refusing.{refusals_have_causes}
use Rattle.xfs_model.proofs.Steps.{keeps}
use Rattle.xfs_model.proofs.Succeeding.{successes_have_causes}
use Rattle.xfs_model.proofs.Telling.{told_kept}

pub lawful : (old new : State) (event : Event) (answer : Answer) → IsWhole old → Step old event answer new → IsLawful old event answer new
lawful old new event answer whole step = record {
  conversation = keeps old new event answer whole.sound.machine step;
  told = told_kept old new event answer whole.sound.machine whole.sound.asks whole.mark step whole.told;
  advances = advances old new event answer step;
  marks = marks old new event answer step;
  causes = causes_kept old new event answer whole.sound.machine step whole.sound.causes;
  faults = faults_have_causes old new event answer whole.sound step;
  refusals = refusals_have_causes old new event answer whole.sound step;
  successes = successes_have_causes old new event answer whole.sound step;
}
