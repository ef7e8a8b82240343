use Rattle.std.proofs.Common.{◌≡◌, ◌+◌, ◌≤◌, length, take}
use Rattle.serde_json.specs.View.{items_view}
use Rattle.xfs_keyboard.specs.Entries.{pin_keys}
use Rattle.xfs_keyboard.proofs.payload.pin_keys.Given as goal

abbrev pub invariant-loop-digit : goal.invariant-loop-digit
invariant-loop-digit l = record {
  there : items_view l.keys.items ≡ pin_keys (take l.digit-index l.digits);
  long : l.keys.len ≡ l.digit-index;
  room : length l.digits + 1 ≤ l.keys.cap;
}
