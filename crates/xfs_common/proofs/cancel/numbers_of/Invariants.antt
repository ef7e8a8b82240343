use Rattle.std.proofs.Common.{◌≡◌, ◌≤◌, length, drop}
use Rattle.serde_json.specs.View.{items_view}
use Rattle.xfs_common.specs.Cancel.{ids_of}
use Rattle.xfs_common.proofs.IdLaws.{behind}
use Rattle.xfs_common.proofs.cancel.numbers_of.Given as goal

abbrev pub invariant-loop-item : goal.invariant-loop-item
invariant-loop-item l = record {
  left : ids_of (items_view l.items) ≡ behind l.ids.items (ids_of (items_view (drop l.item-index l.items)));
  long : l.ids.len ≡ l.item-index;
  room : length l.items ≤ l.ids.cap;
}
