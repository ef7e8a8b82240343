-- Where the machine waits for the world: the customer has a card to insert or to take, keys to press, or notes to take behind an open shutter.
use Rattle.std.specs.Prelude.{◌==◌, ◌&&◌, ◌||◌, not, Bool, false, is_some, sum}
use Rattle.xfs_base.specs.declared.moment.Service.{Service}
use Rattle.xfs_base.specs.declared.moment.Service.TheVariants.{Publisher, Card, Keys, Cash}
use Rattle.xfs_card.specs.Slot.{is_at_exit, is_awaited}
use Rattle.xfs_model.specs.Guards.{is_shutter_closed}
use Rattle.xfs_model.specs.State.{State}

abbrev pub wants : State → Service → Bool
wants s Publisher = false
wants s Card = is_awaited s.slot || is_at_exit s.slot
wants s Keys = is_some s.keypad
wants s Cash = not (sum s.seen.guard.places.outlet.0 == 0) && not (is_shutter_closed s.seen)
