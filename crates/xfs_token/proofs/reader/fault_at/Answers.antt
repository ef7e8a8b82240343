use Rattle.std.proofs.Common.{inr}
use Rattle.xfs_token.specs.Reading.{Loose}
use Rattle.xfs_token.proofs.Stuck.{both_ways}
use Rattle.xfs_token.proofs.Whole.{left_within, stuck_at}
use Rattle.xfs_token.proofs.reader.fault_at.Goals as goal

pub overflow_sub-at : goal.overflow_sub-at
overflow_sub-at c = left_within Loose c.args.bytes.now c.args.left c.requires.stuck

pub returns-then-lacks_value : goal.returns-then-lacks_value
returns-then-lacks_value c = (c.requires.short, stuck_at c.args.bytes.now c.args.left c.requires.stuck, c.lacks_value.ensures.0 c.if-lacks_value.true)

pub returns : goal.returns
returns c = (c.requires.short, inr (stuck_at c.args.bytes.now c.args.left c.requires.stuck, λ l. both_ways c.lacks_value.result (c.lacks_value.ensures.1 l) c.if-lacks_value.false))
