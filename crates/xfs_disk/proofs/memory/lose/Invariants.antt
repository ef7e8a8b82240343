use Rattle.std.proofs.Common.{◌≡◌, length, reverse, IsTrue}
use Rattle.xfs_disk.specs.Steps.{is_sound, synced}
use Rattle.xfs_disk.proofs.memory.lose.Given as goal

abbrev pub invariant-loop-step : goal.invariant-loop-step
invariant-loop-step l = record {
  sound : IsTrue (is_sound l.bytes.items (reverse l.steps.items));
  same : synced l.bytes.items (reverse l.steps.items) ≡ synced l.initial.bytes.items (reverse l.initial.steps.items);
}

abbrev pub decreases-loop-step : goal.decreases-loop-step
decreases-loop-step l = length l.steps.items
