use Rattle.std.proofs.Common.{◌≡◌, ◌≤◌, length}
use Rattle.xfs_mix.specs.Mix.{IsPassed, with_more}
use Rattle.xfs_mix.proofs.mix.add_notes.Given as goal

abbrev pub invariant-loop-a : goal.invariant-loop-a
invariant-loop-a l = (l.a ≤ length l.table) × (length l.table ≡ length l.initial.table) × IsPassed l.kinds l.fn.currency l.limits (with_more l.limits l.u l.n) l.a l.table

abbrev pub decreases-loop-a : goal.decreases-loop-a
decreases-loop-a l = l.a
