-- What want of memory leaves.
use Rattle.std.proofs.Common.{◌≡◌, refl, arith}
use Rattle.xfs_model.specs.Events.{Event, join, post, touch, work, outbox, leave, restart, end_, finish}
use Rattle.xfs_model.specs.State.{State}
use Rattle.xfs_model.specs.Step.{IsUnmoved, Wants}

same_unmoved : (old new : State) → new ≡ old → IsUnmoved old new
same_unmoved old new same = record { next = old.seen; becomes = record { guard_is = refl; later = omega arith }; is = same }

-- whatever the event, at most the count of the disk's faults is another
pub unmoved : (old new : State) (event : Event) → Wants event old new → IsUnmoved old new
unmoved old new (join service) wants = same_unmoved old new wants
unmoved old new (post pass text now) wants = same_unmoved old new wants
unmoved old new (touch it) wants = same_unmoved old new wants
unmoved old new (work service now) wants = wants
unmoved old new restart wants = wants
unmoved old new (outbox pass) wants = absurd wants
unmoved old new (leave pass) wants = absurd wants
unmoved old new end_ wants = absurd wants
unmoved old new finish wants = absurd wants
