use Rattle.std.proofs.Common.{◌≡◌, ◌≤◌, ◌+◌, ◌-◌, length, drop}
use Rattle.std.specs.List.{prefix_len}
use Rattle.xfs_token.specs.Classes.{class_has}
use Rattle.xfs_token.proofs.grammar.run_len.Given as goal

-- all before here are of the class
abbrev pub invariant-loop-n : goal.invariant-loop-n
invariant-loop-n l = record {
  within : l.n ≤ length l.bytes;
  rest : l.n + prefix_len (class_has l.class) (drop l.n l.bytes) ≡ prefix_len (class_has l.class) l.bytes;
}

abbrev pub decreases-loop-n : goal.decreases-loop-n
decreases-loop-n l = length l.bytes - l.n
