use Rattle.std.proofs.Common.{sym}
use Rattle.xfs_queue.specs.Commands.{is_at}
use Rattle.xfs_queue.proofs.Places.{not_placed}
use Rattle.xfs_queue.proofs.queue.place.Goals as goal

pub unreachable-requires : goal.unreachable-requires
unreachable-requires g c = not_placed (is_at c.args.ticket) c.args.commands.now (sym c.in-None.ensures) c.requires
