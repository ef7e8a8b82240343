use Rattle.std.proofs.Common.{◌≡◌, ℕ, ◌-◌, ◌<◌, ◌≤◌, slice_index, length}
use Rattle.xfs_base.specs.Counts.{at}
use Rattle.xfs_guard.proofs.replayed.left_of.Given as goal

abbrev pub invariant-loop-i : goal.invariant-loop-i
invariant-loop-i l = record {
  long : length l.left ≡ 8;
  done : (u : ℕ) → u < l.i → slice_index l.left u ≡ at l.counts u - at l.gone u;
  rest : (u : ℕ) → l.i ≤ u → slice_index l.left u ≡ at l.counts u;
}
