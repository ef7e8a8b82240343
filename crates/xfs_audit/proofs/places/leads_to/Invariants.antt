use Rattle.std.proofs.Common.{take, ◌*◌, ◌^◌}
use Rattle.xfs_audit.specs.Flow.{IsFlow, IsSmall}
use Rattle.xfs_audit.proofs.places.leads_to.Given as goal

-- the motions before this one were read
abbrev pub invariant-loop-entry : goal.invariant-loop-entry
invariant-loop-entry l = record {
  read : IsFlow (take l.entry-index l.motions) l.flow;
  small : IsSmall (l.entry-index * 2 ^ 32) l.flow;
}
