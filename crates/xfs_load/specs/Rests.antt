-- A rest: rounds of work at every service, until all of them are idle.
use Rattle.std.specs.Prelude.{◌+◌, ◌-◌, ℕ, suc, List, [], ◌∷◌}
use Rattle.xfs_base.specs.declared.moment.Moment.{Moment}
use Rattle.xfs_base.specs.declared.moment.Service.{Service}
use Rattle.xfs_base.specs.declared.moment.Service.TheVariants as service
use Rattle.xfs_model.specs.Events.{work, did, idle}
use Rattle.xfs_model.specs.State.{State}
use Rattle.xfs_model.specs.Step.{Step}

-- services are turned one after another, up to so many that did something, and so many did
pub data Turns (now : Moment) : List Service → ℕ → State → ℕ → State → Type 0 where
  over : {most : ℕ} {s : State} → Turns now [] most s 0 s
  enough : {services : List Service} {s : State} → Turns now services 0 s 0 s
  idled : {at : Service} {services : List Service} {most n : ℕ} {s between new : State} → Step s (work at now) idle between → Turns now services (suc most) between n new → Turns now (at ∷ services) (suc most) s n new
  worked : {at : Service} {services : List Service} {most n : ℕ} {s between new : State} → Step s (work at now) did between → Turns now services most between n new → Turns now (at ∷ services) (suc most) s (suc n) new

abbrev pub round : List Service
round = service.Cash ∷ service.Card ∷ service.Keys ∷ []

-- rounds, until one in which every service is idle, or at once when so many steps did something
pub data Rests (now : Moment) : ℕ → State → ℕ → State → Type 0 where
  ends : {most : ℕ} {s new : State} → Turns now round most s 0 new → Rests now most s 0 new
  goes : {most n m : ℕ} {s between new : State} → Turns now round most s (suc n) between → Rests now (most - suc n) between m new → Rests now most s (suc n + m) new
