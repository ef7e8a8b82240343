-- Events of a machine one after another, and the first of them.
use Rattle.std.specs.Prelude.{◌≡◌, ℕ, zero, suc, List, [], ◌∷◌, ◌++◌, map}
use Rattle.xfs_base.specs.declared.moment.Moment.{Moment}
use Rattle.xfs_model.specs.Events.{Event, Answer, work}
use Rattle.xfs_model.specs.State.{State}
use Rattle.xfs_model.specs.Step.{Step}
use Rattle.xfs_load.specs.Rests.{round}

-- one event happens, and then what Rest says
pub record StepsThen (Rest : State → Type 0) (s : State) (event : Event) (answer : Answer) : Type 0 where
  pub between : State
  pub step : Step s event answer between
  pub rest : Rest between

-- events happen one after another, each with its answer
abbrev pub Steps : State → List (Event × Answer) → State → Type 0
Steps s [] new = new ≡ s
Steps s (e ∷ es) new = StepsThen (λ between. Steps between es new) s e.0 e.1

-- the first of these events happened, each with its answer; what is left of them didn't
pub record HappensInPart (events : List Event) (s end : State) : Type 0 where
  pub happened : List (Event × Answer)
  pub left : List Event
  pub are : events ≡ map (λ e. e.0) happened ++ left
  pub steps : Steps s happened end

-- a step of work at each service of a round, so many times
abbrev pub rounds : ℕ → Moment → List Event
rounds zero now = []
rounds (suc n) now = map (λ at. work at now) round ++ rounds n now

-- the first events of so many rounds happened
abbrev pub RestsInPart : Moment → State → State → Type 0
RestsInPart now s end = (n : ℕ) × HappensInPart (rounds n now) s end
