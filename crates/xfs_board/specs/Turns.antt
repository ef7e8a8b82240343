-- One turn of the lock: the caller finds the machine with all that its seat had seen, makes one call of it, and has then seen the machine's whole chronicle.
use Rattle.std.specs.Prelude.{◌≡◌, ℕ, List, Bool}
use mathlib.Core.List.{IsPrefix}
use Rattle.xfs_base.specs.declared.moment.Moment.{Moment}
use Rattle.xfs_base.specs.declared.moment.Service.{Service}
use Rattle.xfs_machine.specs.Laws.{IsLawful}
use Rattle.xfs_machine.specs.Wanted.{wants}
use Rattle.xfs_model.specs.Events.{Event, Answer}
use Rattle.xfs_model.specs.Step.{Step}
use Rattle.xfs_model.specs.Told.{AllTell}
use Rattle.xfs_board.specs.Chronicles.{Shared, chronicle}
use Rattle.xfs_board.specs.declared.shared.Entry.{Entry}

-- what lies behind the lock takes one lawful step, and its chronicle goes on
pub record TakesStep (M : Type 0) {D : Type 0} (old : Shared D) (event : Event) (answer : Answer) (new : Shared D) : Type 0 where
  pub step : Step old.machine.state event answer new.machine.state
  pub laws : IsLawful old.machine.state event answer new.machine.state
  pub grown : IsPrefix (chronicle {M = M} old) (chronicle new)

-- one turn in which the machine takes one lawful step: what the seat had seen begins the chronicle of the machine that was found and what it has seen after, the whole chronicle of the machine that was left
pub record IsTurn {M D : Type 0} (seen after : List (Entry M D)) (event : Event) (answer : Answer) : Type 0 where
  pub found : Shared D
  pub left : Shared D
  pub begins : IsPrefix seen (chronicle found)
  pub step : Step found.machine.state event answer left.machine.state
  pub laws : IsLawful found.machine.state event answer left.machine.state
  pub after_is : after ≡ chronicle left
  pub grown : IsPrefix seen after

-- one turn in which the machine takes one lawful step at a moment that a clock tells
pub record IsTurnBy {M D : Type 0} (tells : Moment → Type 0) (seen after : List (Entry M D)) (event_at : Moment → Event) (answer : Answer) : Type 0 where
  pub now : Moment
  pub told : tells now
  pub turn : IsTurn seen after (event_at now) answer

-- one turn in which the machine takes one lawful step and hands over these frames: what they tell of the journal stands in the chronicle that the seat has seen
pub record HandsTold {M D : Type 0} (seen after : List (Entry M D)) (event : Event) (answer : Answer) (frames : List (List ℕ)) : Type 0 where
  pub turn : IsTurn seen after event answer
  pub told : AllTell turn.left.machine.state frames

-- one turn in which the machine is asked whether it waits for the world at a service, and stays as it was
pub record IsLook {M D : Type 0} (seen after : List (Entry M D)) (service : Service) (wanted : Bool) : Type 0 where
  pub found : Shared D
  pub begins : IsPrefix seen (chronicle found)
  pub answer : wanted ≡ wants found.machine.state service
  pub after_is : after ≡ chronicle found
