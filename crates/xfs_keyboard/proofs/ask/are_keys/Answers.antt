use Rattle.xfs_keyboard.proofs.KeyListLaws.{AreKeys-filled, AllKeys-from}
use Rattle.xfs_keyboard.proofs.ask.are_keys.Goals as goal

pub returns-then-not-is_empty : goal.returns-then-not-is_empty
returns-then-not-is_empty c = (
  λ all. AreKeys-filled c.args.keys.now.entries c.is_empty.result c.if-not-is_empty.true c.is_empty.ensures.1 (c.all_keys.ensures.0 all),
  λ keys. c.all_keys.ensures.1 (AllKeys-from c.args.keys.now.entries keys),
)
