-- An order's number, kind and counts, and the entry that comes of it.
use Rattle.std.specs.Prelude.{ℕ}
use Rattle.xfs_base.specs.declared.counts.Counts.{Counts}
use Rattle.xfs_base.specs.declared.counts.Kind.{Kind}
use Rattle.xfs_mech.specs.declared.motion.Motion.{Motion}
use Rattle.xfs_mech.specs.declared.motion.Motion.TheVariants.{Moved}
use Rattle.xfs_mech.specs.declared.order.Order.{Order}
use Rattle.xfs_mech.specs.declared.motion.Outcome.{Outcome}

abbrev pub number_of : Order → ℕ
number_of o = o.number

abbrev pub kind_of : Order → Kind
kind_of o = o.kind

abbrev pub counts_of : Order → Counts
counts_of o = o.counts

-- the entry of an order that came out so
abbrev pub moved_by : Order → Outcome → Motion
moved_by order outcome = Moved (number_of order) (kind_of order) outcome.moved outcome.diverted
