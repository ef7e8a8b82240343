use Rattle.std.proofs.Common.{◌≡◌, ℕ, ◌<◌, false, length, slice_index_or}
use Rattle.serde_json.specs.View.{view}
use Rattle.xfs_mech.specs.declared.key.KeyName.TheVariants.{Zero}
use Rattle.xfs_keyboard.specs.Asks.{terminates}
use Rattle.xfs_keyboard.specs.Keys.{key_list}
use Rattle.xfs_keyboard.proofs.ask.ends_in.Given as goal

abbrev pub invariant-loop-i : goal.invariant-loop-i
invariant-loop-i l = record {
  long : length l.ends ≡ 14;
  done : (u : ℕ) → u < l.i → slice_index_or l.ends u false ≡ terminates (slice_index_or key_list u Zero) (view l.keys);
}
