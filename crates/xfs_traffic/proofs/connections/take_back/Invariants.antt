use Rattle.std.proofs.Common.{◌≡◌, ◌++◌, map, take, drop, length}
use Rattle.xfs_traffic.specs.TakenBack.{taken_back}
use Rattle.xfs_traffic.proofs.connections.take_back.Given as goal

abbrev pub invariant-loop-i : goal.invariant-loop-i
invariant-loop-i l = record {
  size : length l.connections.items ≡ length l.initial.connections.items;
  written : l.connections.items ≡ map (taken_back l.service) (take l.i l.initial.connections.items) ++ drop l.i l.initial.connections.items;
}
