-- Motions between places keep a unit's notes, but for what was loaded.
use Rattle.std.proofs.Common.{List, arith}
use Rattle.xfs_base.specs.declared.counts.Places.{Places}
use Rattle.xfs_mech.specs.declared.motion.Motion.{Motion}
use Rattle.xfs_mech.specs.Motions.{PlacesOf}
use Rattle.xfs_mech.specs.Sums.{Adds}

pub Adds-PlacesOf : (P Q : Places) (E : List Motion) → PlacesOf P E Q → Adds P E Q
Adds-PlacesOf P Q E m u = omega (arith, m.units u, m.transport u, m.outlet u, m.taken_out u, m.back u, m.bin u)
