-- What a report of the customer's taking or of the operator's loading changes: the mechanism's list and the places, and neither the journal nor the order that is open.
use Rattle.std.specs.Prelude.{◌≡◌, Bool}
use Rattle.xfs_base.specs.declared.counts.Counts.{Counts}
use Rattle.xfs_mech.specs.declared.motion.Motion.{Motion}
use Rattle.xfs_mech.specs.Mechanism.{Reports, MayReport}
use Rattle.xfs_guard.specs.Balance.{loaded_after}
use Rattle.xfs_guard.specs.View.{View}

-- the mechanism reported this entry, or failed and moved nothing; a loading counts since the boot record where it didn't fail
pub record HasReported (old new : View) (entry : Motion) (moved diverted : Counts) (failed : Bool) : Type 0 where
  pub reported : Reports entry failed old.motions new.motions old.places new.places
  pub told : MayReport moved diverted failed
  pub same : new ≡ record old { motions = new.motions; places = new.places; faults = new.faults; loaded = loaded_after entry failed old.loaded }
