use Rattle.std.proofs.Common.{◌≡◌, false, drop, take}
use Rattle.std.specs.declared.result.Result.{Result}
use Rattle.xfs_mech.specs.declared.motion.Outcome.{Outcome}
use Rattle.xfs_guard.specs.declared.deny.Deny.{Deny}
use Rattle.xfs_guard.specs.declared.open.Open.TheVariants.{No}
use Rattle.xfs_guard.specs.Keeps.{Proceeds}
use Rattle.xfs_dispenser.specs.Carried.{Stacks, nothing_stacked}
use Rattle.xfs_dispenser.specs.Seen.{Seen, seen}
use Rattle.xfs_dispenser.specs.Units.{units_with}
use Rattle.xfs_dispenser.proofs.CarryLaws.{IsFrontOf, StacksFrom}
use Rattle.xfs_dispenser.proofs.carrying.stack_all.Given as goal

abbrev pub invariant-loop-place : goal.invariant-loop-place
invariant-loop-place g l = record {
  proceeds : Proceeds g.D.Disk l.fn.guard l.guard;
  none : l.guard.state.open_order ≡ No;
  fine : l.all.failed ≡ false;
  front : IsFrontOf l.fn.issue (take l.place l.fn.counts.0) l.all (seen g.D.Disk l.fn.guard) (seen g.D.Disk l.guard);
  onward : (result : Result Outcome Deny) (last : Seen) → StacksFrom l.fn.issue (drop l.place l.fn.counts.0) l.place l.all (seen g.D.Disk l.guard) result last
      → Stacks l.fn.issue (units_with l.fn.counts.0) nothing_stacked (seen g.D.Disk l.fn.guard) result last;
}
