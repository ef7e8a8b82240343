use Rattle.std.proofs.Common.{◌≡◌, ℕ, ◌+◌, ◌<◌, ◌≤◌, length, slice_index, option_and_then, unwrap_or}
use Rattle.serde_json.specs.Find.{get}
use Rattle.serde_json.specs.View.{view}
use Rattle.xfs_units.specs.Payloads.{unit_name, added_of}
use Rattle.xfs_units.proofs.added.counts_of.Given as goal

abbrev pub invariant-loop-i : goal.invariant-loop-i
invariant-loop-i l = record {
  long : length l.counts ≡ 8;
  done : (u : ℕ) → u < l.i → slice_index l.counts u ≡ unwrap_or (option_and_then added_of (get (unit_name (u + 1)) (view l.storage))) 0;
  left : (u : ℕ) → l.i ≤ u → slice_index l.counts u ≡ 0;
}
