-- What a worker's touch of a device, and a fault of its watch, do at the machine.
use Rattle.std.specs.Prelude.{◌≡◌, List, Result, Ok, Err}
use Rattle.xfs_base.specs.Causes.{next_count}
use Rattle.xfs_base.specs.declared.faults.Memory.{Memory}
use Rattle.xfs_base.specs.declared.moment.Service.{Service}
use Rattle.xfs_base.specs.declared.moment.Service.TheVariants.{Publisher, Card, Keys, Cash}
use Rattle.xfs_machine.specs.Answers.{touched_as}
use Rattle.xfs_machine.specs.declared.answer.Touched.{Touched}
use Rattle.xfs_mech.specs.declared.touch.Touch.{Touch}
use Rattle.xfs_mech.specs.declared.touch.Touch.TheVariants.{CardFault, KeyFault}
use Rattle.xfs_model.specs.Events as event
use Rattle.xfs_board.specs.Callers.{CallerView}
use Rattle.xfs_board.specs.Turns.{IsTurn}
use Rattle.xfs_board.specs.declared.shared.Entry.{Entry}

-- one turn in which the machine takes this touch, and answers want of memory exactly where the call does
abbrev pub IsTouched : {M D : Type 0} → List (Entry M D) → List (Entry M D) → Touch → Result Unit Memory → Type 0
IsTouched seen after touch (Ok done) = (answer : Touched) × IsTurn seen after (event.touch touch) (touched_as (Ok answer))
IsTouched seen after touch (Err memory) = IsTurn seen after (event.touch touch) event.memory

-- one turn in which the machine takes this touch, which the tally counts
pub record CountsTouch {M D : Type 0} (old new : CallerView M D) (touch : Touch) (result : Result Unit Memory) : Type 0 where
  pub turn : IsTouched old.seen new.seen touch result
  pub tally : new.tally ≡ record old.tally { touches = next_count old.tally.touches }

-- a fault of the card slot or of the key pad is a touch that is counted, and one of another service's watch nothing
abbrev pub TakesFault : {M D : Type 0} → Service → CallerView M D → CallerView M D → Result Unit Memory → Type 0
TakesFault Card old new result = CountsTouch old new CardFault result
TakesFault Keys old new result = CountsTouch old new KeyFault result
TakesFault Publisher old new result = (new ≡ old) × (result ≡ Ok tt)
TakesFault Cash old new result = (new ≡ old) × (result ≡ Ok tt)
