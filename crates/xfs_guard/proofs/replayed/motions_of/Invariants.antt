use Rattle.std.proofs.Common.{◌≡◌, ◌+◌, take}
use Rattle.xfs_guard.specs.Replayed.{replay}
use Rattle.xfs_guard.proofs.ReplayLaws.{behind}
use Rattle.xfs_guard.proofs.replayed.motions_of.Given as goal

-- the records before this one were read, from the base on
abbrev pub invariant-loop-entry : goal.invariant-loop-entry
invariant-loop-entry l = record {
  read : l.replay ≡ behind l.base (replay (take l.entry-index l.records));
  count : l.replay.count ≡ l.base + l.entry-index;
}
