-- The places that motions lead to.
use Rattle.std.proofs.Common.{List, ◌++◌}
use Rattle.xfs_base.specs.declared.counts.Places.{Places}
use Rattle.xfs_base.specs.declared.money.NoteKind.{NoteKind}
use Rattle.xfs_mech.specs.declared.motion.Motion.{Motion}
use Rattle.xfs_mech.proofs.MotionLaws.{PlacesOf-append}
use Rattle.xfs_simulated.specs.Leaving.{Leads}

-- motions behind motions
pub leads-more : (units : List NoteKind) (P Q R : Places) (E F : List Motion) → Leads units P E Q → Leads units Q F R → Leads units P (E ++ F) R
leads-more units P Q R E F a b = record { moved = PlacesOf-append P Q R E F a.moved b.moved; fit = b.fit }
