use Rattle.serde_json.specs.View.{members_view}
use Rattle.xfs_keyboard.specs.Asks.{AllKeys}
use Rattle.xfs_keyboard.proofs.ask.all_keys.Given as goal

abbrev pub invariant-loop-name : goal.invariant-loop-name
invariant-loop-name l = record {
  enough : AllKeys (members_view l.name-iterator) → AllKeys (members_view l.keys.entries);
  needed : AllKeys (members_view l.keys.entries) → AllKeys (members_view l.name-iterator);
}
