use Rattle.std.proofs.Common.{◌≡◌, ◌++◌, length}
use Rattle.xfs_cli.specs.Replay.Events.{with_token}
use Rattle.xfs_cli.proofs.commands.replay.verbs.with_token.Given as goal

abbrev pub invariant-loop-place : goal.invariant-loop-place
invariant-loop-place l = l.text.items ++ with_token l.token l.rest ≡ with_token l.token l.message

abbrev pub decreases-loop-place : goal.decreases-loop-place
decreases-loop-place l = length l.rest
