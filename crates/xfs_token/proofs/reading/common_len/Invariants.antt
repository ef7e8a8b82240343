use Rattle.std.proofs.Common.{◌≡◌, ◌≤◌, ◌+◌, ◌-◌, length, drop, nat_eq}
use Rattle.std.specs.List.{common_prefix_len}
use Rattle.xfs_token.proofs.reading.common_len.Given as goal

-- all before here is the same
abbrev pub invariant-loop-n : goal.invariant-loop-n
invariant-loop-n l = record {
  in_text : l.n ≤ length l.text;
  in_word : l.n ≤ length l.word;
  rest : l.n + common_prefix_len nat_eq (drop l.n l.text) (drop l.n l.word) ≡ common_prefix_len nat_eq l.text l.word;
}

abbrev pub decreases-loop-n : goal.decreases-loop-n
decreases-loop-n l = length l.text - l.n
