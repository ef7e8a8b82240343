use Rattle.std.proofs.Common.{◌+◌}
use Rattle.xfs_server.specs.Workers.{Between}
use Rattle.xfs_server.proofs.RoundLaws.{rounds_start, rounds_join, tending_halts}
use Rattle.xfs_server.proofs.worker.tend.Goals as goal

pub loop-init : goal.loop-init
loop-init g c = (0, rounds_start _ _ _)

pub loop-preserved-in-Ok-Work : goal.loop-preserved-in-Ok-Work
loop-preserved-in-Ok-Work g c = (c.loop.invariant.0 + 1, rounds_join c.loop.invariant.0 1 Between _ _ _ _ _ _ _ _ _ c.loop.invariant.1 c.in-Ok-Work.ensures.ok)

pub loop-preserved-in-Ok-NoNews : goal.loop-preserved-in-Ok-NoNews
loop-preserved-in-Ok-NoNews g c = (c.loop.invariant.0 + 1, rounds_join c.loop.invariant.0 1 Between _ _ _ _ _ _ _ _ _ c.loop.invariant.1 c.in-Ok-NoNews.ensures.ok)

pub loop-preserved : goal.loop-preserved
loop-preserved g c = (c.loop.invariant.0 + 1, rounds_join c.loop.invariant.0 1 Between _ _ _ _ _ _ _ _ _ c.loop.invariant.1 c.in-Ok-Nothing.ensures.ok)

pub returns-in-Err : goal.returns-in-Err
returns-in-Err g c = tending_halts c.loop.invariant.0 _ _ _ _ _ _ _ _ _ _ c.loop.invariant.1 c.in-Err.ensures.err
