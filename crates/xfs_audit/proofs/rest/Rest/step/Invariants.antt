use Rattle.std.proofs.Common.{◌≡◌, ◌↔◌, ◌⊎◌, List, vec_len}
use Rattle.xfs_conversation.specs.Pending.{Pending}
use Rattle.xfs_audit.specs.Ways.{IsSplit, LeadsToSplit}
use Rattle.xfs_audit.proofs.rest.Rest.step.Given as goal

-- the ways before the step, and those that it leads into the others from, are those that it leads into all from
abbrev pub invariant-loop-way : goal.invariant-loop-way
invariant-loop-way l = record {
  left : l.self.left ≡ l.fn.self.left;
  ways : (pending : List Pending) → (IsSplit l.ids l.before.items pending ⊎ LeadsToSplit l.ids l.step l.self.ways.items pending) ↔ LeadsToSplit l.ids l.step l.fn.self.ways.items pending;
}

abbrev pub decreases-loop-way : goal.decreases-loop-way
decreases-loop-way l = vec_len l.self.ways
