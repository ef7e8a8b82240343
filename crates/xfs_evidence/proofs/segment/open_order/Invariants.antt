use Rattle.std.proofs.Common.{◌≡◌, ◌+◌, ℕ, drop}
use Rattle.xfs_evidence.specs.Evidence.{first_open}
use Rattle.xfs_evidence.proofs.segment.open_order.Given as goal

-- the order is looked for from here on
abbrev pub invariant-loop-i : goal.invariant-loop-i
invariant-loop-i l = (number : ℕ) → first_open number l.segment ≡ first_open (number + l.i) (drop l.i l.segment)
