use Rattle.xfs_machine.proofs.Fits.{storage_fits}
use Rattle.xfs_machine.proofs.immediate.tell_storage.Goals as goal

pub new-requires : goal.new-requires
new-requires g c = rw (c.in_ok-payload.ensures) (storage_fits c.units.result.now c.places-places.result)
