use Rattle.std.proofs.Common.{arith}
use Rattle.xfs_load.proofs.BaseLaws.{in-front}
use Rattle.xfs_load.proofs.playing.older.Goals as goal

pub returns-clause-kept : goal.returns-clause-kept
returns-clause-kept g c =
    let front = in-front c.args.machine.now.state.seen.guard.records c.args.machine.now.state.seen.guard.base c.base-base.ensures.led in
    omega (arith, front, c.newest.ensures, c.saturating_sub.ensures)
