-- A machine that has just booted has room for a client.
use Rattle.std.proofs.Common.{◌≡◌, inl, inr, arith, length}
use Rattle.xfs_base.specs.declared.moment.Service.{Service}
use Rattle.xfs_model.specs.Events.{Answer, join, full}
use Rattle.xfs_model.specs.State.{State, bare}
use Rattle.xfs_model.specs.Step.{Step, happens, wanting}

pub never-full : (s new : State) (service : Service) (answer : Answer) → s ≡ bare s.seen s.life (length s.seen.guard.records) → answer ≡ full → Step s (join service) answer new → ⊥
never-full s new service answer bare_is is step = go (rw (bare_is, is) at step)
  where
    go : Step (bare s.seen s.life (length s.seen.guard.records)) (join service) full new → ⊥
    go (happens there full_is) = elim full_is.0 [ inl many ↦ omega (arith, many) | inr given ↦ omega (arith, given) ]
    go (wanting none wants) = cc
